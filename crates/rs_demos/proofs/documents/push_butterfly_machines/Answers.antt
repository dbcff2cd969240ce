use Rattle.std.proofs.Common.{◌<◌, ℕ, List, refl, arith}
use Rattle.rs_demos.proofs.Ranges.{one_more}
use Rattle.std.specs.List.{flat_map}
use Rattle.rs_demos.specs.Writing.{butterfly_line}
use Rattle.rs_demos.proofs.documents.push_butterfly_machines.Goals as goal

pub loop-role-preserved : goal.loop-role-preserved
loop-role-preserved c =
    let lt : c.loop-role.role < c.args.roles = omega arith in
    one_more (λ (xs : List ℕ). flat_map (butterfly_line c.args.roles) xs) (butterfly_line c.args.roles) (λ i xs. refl)
    c.loop-role.role c.args.roles c.loop-role.text c.push_butterfly_machine.new.text lt c.in_ok-push_butterfly_machine.ensures c.loop-role.invariant
