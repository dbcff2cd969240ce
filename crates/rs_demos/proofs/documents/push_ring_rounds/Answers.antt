use Rattle.std.proofs.Common.{◌<◌, ℕ, List, arith}
use Rattle.rs_demos.proofs.Ranges.{one_more}
use Rattle.std.specs.List.{flat_map}
use Rattle.std.proofs.lemmas.Grind.{flat_map-append}
use Rattle.rs_demos.specs.Sessions.{ring_round}
use Rattle.rs_demos.specs.Writing.{exchange_text, exchanges_text}
use Rattle.rs_demos.proofs.documents.push_ring_rounds.Goals as goal

pub loop-round-preserved : goal.loop-round-preserved
loop-round-preserved c =
    let lt : c.loop-round.round < c.args.roles = omega arith in
    one_more (λ (xs : List ℕ). exchanges_text (flat_map (λ (round : ℕ). ring_round c.args.roles) xs)) (λ (round : ℕ). exchanges_text (ring_round c.args.roles))
    (λ i xs. flat_map-append exchange_text (ring_round c.args.roles) (flat_map (λ (round : ℕ). ring_round c.args.roles) xs))
    c.loop-round.round c.args.roles c.loop-round.text c.push_ring_round.new.text lt c.in_ok-push_ring_round.ensures c.loop-round.invariant
