use Rattle.std.proofs.Common.{◌<◌, ℕ, List, refl, arith}
use Rattle.std.specs.List.{flat_map}
use Rattle.rs_demos.proofs.Few.{few_first, few_in_ring}
use Rattle.rs_demos.proofs.Ranges.{one_more}
use Rattle.rs_demos.specs.Sessions.{ring_exchanges, ring_round}
use Rattle.rs_demos.proofs.exchanges.ring_exchanges.Goals as goal

pub loop-round-preserved : goal.loop-round-preserved
loop-round-preserved c =
    let lt : c.loop-round.round < c.args.roles = omega arith in
    one_more (λ (xs : List ℕ). flat_map (λ (round : ℕ). ring_round c.args.roles) xs) (λ (round : ℕ). ring_round c.args.roles) (λ i xs. refl)
    c.loop-round.round c.args.roles c.loop-round.exchanges.items c.push_ring_round.new.exchanges.items lt c.in_ok-push_ring_round.ensures c.loop-round.invariant

pub returns-clause-bounded : goal.returns-clause-bounded
returns-clause-bounded c = few_first c.loop-round.exchanges.items _ (ring_exchanges c.args.roles) c.loop-round.invariant (few_in_ring c.args.roles c.requires.0 c.requires.1)
