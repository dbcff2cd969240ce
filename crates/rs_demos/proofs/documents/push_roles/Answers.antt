use Rattle.std.proofs.Common.{◌<◌, ℕ, List, refl, arith}
use Rattle.rs_demos.proofs.Ranges.{one_more}
use Rattle.std.specs.List.{flat_map}
use Rattle.rs_demos.specs.Writing.{other_name}
use Rattle.rs_demos.proofs.documents.push_roles.Goals as goal

pub loop-role-preserved : goal.loop-role-preserved
loop-role-preserved c =
    let lt : c.loop-role.role < c.args.roles = omega arith in
    one_more (λ (xs : List ℕ). flat_map other_name xs) (other_name) (λ i xs. refl)
    c.loop-role.role c.args.roles c.loop-role.text c.push_other.new.text lt c.in_ok-push_other.ensures c.loop-role.invariant
