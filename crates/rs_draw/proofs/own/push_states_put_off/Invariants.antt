use Rattle.std.proofs.Common.{◌≡◌, ◌++◌, drop}
use Rattle.rs_pictures.specs.Machines.{states_put_off}
use Rattle.rs_draw.specs.PutsOff.{puts_off_at}
use Rattle.rs_draw.proofs.own.push_states_put_off.Given as goal

abbrev pub invariant-loop-number : goal.invariant-loop-number
invariant-loop-number l =
    l.text ++ states_put_off (puts_off_at l.sub l.above l.derivation) l.number (drop l.number l.states) ≡ l.initial.text ++ states_put_off (puts_off_at l.sub l.above l.derivation) 0 l.states
