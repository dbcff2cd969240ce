use Rattle.std.proofs.Common.{◌≡◌, ◌++◌, ◌-◌, map}
use Rattle.rs_demos.specs.Sessions.{numbers_from, demo_role_name}
use Rattle.rs_demos.proofs.sessions.role_names.Given as goal

abbrev pub invariant-loop-role : goal.invariant-loop-role
invariant-loop-role l = l.names.items ++ map demo_role_name (numbers_from l.role (l.roles - l.role)) ≡ map demo_role_name (numbers_from 0 l.roles)
