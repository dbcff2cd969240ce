use Rattle.std.proofs.Common.{ℕ, List, subst}
use Rattle.std.specs.List.Sorted.{IsStrictlyIncreasing}
use Rattle.std.proofs.lemmas.List.Kept.{AllPairs-from_increasing}
use Rattle.rs_project.proofs.fronts.in_order.Goals as goal

pub returns-then-is_rising-clause-rising : goal.returns-then-is_rising-clause-rising
returns-then-is_rising-clause-rising c =
    let P : List ℕ → Type 0 = λ z. IsStrictlyIncreasing z in
    AllPairs-from_increasing _ (subst P c.as_slice.ensures (c.is_rising.ensures c.if-is_rising.true))
