use Rattle.std.proofs.Common.{◌<◌, ℕ, List, [], ◌∷◌, map, refl, arith}
use Rattle.rs_demos.proofs.Few.{few_first, few_pairs}
use Rattle.rs_demos.proofs.Ranges.{one_more}
use Rattle.rs_demos.specs.Sessions.{next_in_ring, previous_in_ring, ring_pairs}
use Rattle.rs_demos.proofs.exchanges.ring_pairs.Goals as goal

pub loop-round-preserved : goal.loop-round-preserved
loop-round-preserved c =
    let lt : c.loop-round.round < c.args.roles = omega arith in
    one_more (λ (xs : List ℕ). map (λ (round : ℕ). (next_in_ring c.args.roles c.args.role, previous_in_ring c.args.roles c.args.role)) xs)
    (λ (round : ℕ). (next_in_ring c.args.roles c.args.role, previous_in_ring c.args.roles c.args.role) ∷ []) (λ i xs. refl)
    c.loop-round.round c.args.roles c.loop-round.pairs.items c.push.new.self.items lt c.in_ok-push.ensures.items c.loop-round.invariant

pub returns-clause-bounded : goal.returns-clause-bounded
returns-clause-bounded c = few_first c.loop-round.pairs.items _ (ring_pairs c.args.roles c.args.role) c.loop-round.invariant (few_pairs c.args.roles c.args.role c.requires.1)
