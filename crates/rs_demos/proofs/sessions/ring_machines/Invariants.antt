use Rattle.std.proofs.Common.{◌≡◌, ◌<◌, ◌++◌, ◌-◌, map}
use Rattle.rs_demos.specs.Sessions.{ring_machine, numbers_from, machine_with_line, written_machines}
use Rattle.rs_model.specs.declared.demos.Demo.TheVariants as demo
use Rattle.rs_demos.proofs.sessions.ring_machines.Given as goal

abbrev pub invariant-loop-role : goal.invariant-loop-role
invariant-loop-role l = (0 < l.role) × (l.machines.items ++ map (machine_with_line demo.Ring) (map (ring_machine l.roles) (numbers_from l.role (l.roles - l.role)))
    ≡ written_machines demo.Ring l.roles)
