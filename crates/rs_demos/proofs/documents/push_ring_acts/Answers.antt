use Rattle.std.proofs.Common.{◌<◌, ℕ, List, map, refl, arith}
use Rattle.rs_demos.proofs.Ranges.{one_more}
use Rattle.rs_demos.specs.Sessions.{next_in_ring, previous_in_ring}
use Rattle.rs_demos.specs.Writing.{exchange_acts_text, pairs_text}
use Rattle.rs_demos.proofs.documents.push_ring_acts.Goals as goal

pub loop-round-preserved : goal.loop-round-preserved
loop-round-preserved c =
    let lt : c.loop-round.round < c.args.roles = omega arith in
    one_more (λ (xs : List ℕ). pairs_text (map (λ (round : ℕ). (next_in_ring c.args.roles c.args.role, previous_in_ring c.args.roles c.args.role)) xs))
    (λ (round : ℕ). exchange_acts_text (next_in_ring c.args.roles c.args.role, previous_in_ring c.args.roles c.args.role)) (λ i xs. refl)
    c.loop-round.round c.args.roles c.loop-round.text c.push_acts.new.text lt c.in_ok-push_acts.ensures c.loop-round.invariant
