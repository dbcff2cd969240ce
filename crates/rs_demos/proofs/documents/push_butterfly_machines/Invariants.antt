use Rattle.std.proofs.Common.{◌≡◌, ◌++◌, ◌-◌}
use Rattle.std.specs.List.{flat_map}
use Rattle.rs_demos.specs.Sessions.{numbers_from}
use Rattle.rs_demos.specs.Writing.{butterfly_line}
use Rattle.rs_demos.proofs.documents.push_butterfly_machines.Given as goal

abbrev pub invariant-loop-role : goal.invariant-loop-role
invariant-loop-role l = l.text ++ flat_map (butterfly_line l.roles) (numbers_from l.role (l.roles - l.role)) ≡ l.fn.text ++ flat_map (butterfly_line l.roles) (numbers_from 1 (l.roles - 1))
