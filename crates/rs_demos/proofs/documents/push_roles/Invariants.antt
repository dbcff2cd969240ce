use Rattle.std.proofs.Common.{◌≡◌, ◌++◌, ◌-◌}
use Rattle.std.specs.List.{flat_map}
use Rattle.rs_demos.specs.Sessions.{numbers_from}
use Rattle.rs_demos.specs.Writing.{other_name}
use Rattle.rs_demos.proofs.documents.push_roles.Given as goal

abbrev pub invariant-loop-role : goal.invariant-loop-role
invariant-loop-role l = l.text ++ flat_map other_name (numbers_from l.role (l.roles - l.role)) ≡ l.initial.text ++ flat_map other_name (numbers_from 1 (l.roles - 1))
