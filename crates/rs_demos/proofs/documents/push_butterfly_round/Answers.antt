use Rattle.std.proofs.Common.{◌<◌, ℕ, List, arith}
use Rattle.rs_demos.proofs.Ranges.{one_more}
use Rattle.std.specs.List.{flat_map}
use Rattle.std.proofs.lemmas.Grind.{flat_map-append}
use Rattle.rs_demos.specs.Sessions.{both_ways}
use Rattle.rs_demos.specs.Writing.{exchange_text, exchanges_text}
use Rattle.rs_demos.proofs.documents.push_butterfly_round.Goals as goal

pub loop-role-preserved : goal.loop-role-preserved
loop-role-preserved c =
    let lt : c.loop-role.role < c.args.roles = omega arith in
    one_more (λ (xs : List ℕ). exchanges_text (flat_map (λ (i : ℕ). both_ways c.args.step i) xs)) (λ (i : ℕ). exchanges_text (both_ways c.args.step i))
    (λ i xs. flat_map-append exchange_text (both_ways c.args.step i) (flat_map (λ (i : ℕ). both_ways c.args.step i) xs))
    c.loop-role.role c.args.roles c.loop-role.text c.push_both_ways.new.text lt c.in_ok-push_both_ways.ensures c.loop-role.invariant
