use Rattle.std.proofs.Common.{◌<◌, ℕ, List, refl, arith}
use Rattle.std.specs.List.{flat_map}
use Rattle.rs_demos.proofs.Ranges.{one_more}
use Rattle.rs_demos.specs.Sessions.{both_ways}
use Rattle.rs_demos.proofs.exchanges.push_butterfly_round.Goals as goal

pub loop-role-preserved : goal.loop-role-preserved
loop-role-preserved c =
    let lt : c.loop-role.role < c.args.roles = omega arith in
    one_more (λ (xs : List ℕ). flat_map (λ (i : ℕ). both_ways c.args.step i) xs) (λ (i : ℕ). both_ways c.args.step i) (λ i xs. refl)
    c.loop-role.role c.args.roles c.loop-role.exchanges.items c.push_both_ways.new.exchanges.items lt c.in_ok-push_both_ways.ensures c.loop-role.invariant
