use Rattle.std.proofs.Common.{◌∙◌, ℕ, List, length, ap, subst}
use Rattle.std.specs.List.Sorted.{IsPermutation}
use Rattle.std.proofs.lemmas.List.Kept.{AllPairs-from_increasing, Contains-dedup_nat, Contains-from_dedup}
use Rattle.std.proofs.lemmas.List.Sorted.{Contains-permutation, IsPermutation-sym}
use Rattle.std.proofs.lemmas.Map.Keys.{IsStrictlyIncreasing-dedup}
use Rattle.rs_project.proofs.Written.{refill_whole}
use Rattle.rs_project.proofs.fronts.put_in_order.Goals as goal

pub returns-clause-rising : goal.returns-clause-rising
returns-clause-rising c =
    let is = c.dedup.ensures.items in
    let whole = refill_whole c.args.numbers.items c.sort_unstable.new.self (c.sort_unstable.ensures.len ∙ ap (λ (z : List ℕ). length z) c.as_mut_slice.ensures.value) in
    rw is (rw whole (AllPairs-from_increasing _ (IsStrictlyIncreasing-dedup _ c.sort_unstable.ensures.sorted)))

pub returns-clause-same : goal.returns-clause-same
returns-clause-same c =
    let is = c.dedup.ensures.items in
    let whole = refill_whole c.args.numbers.items c.sort_unstable.new.self (c.sort_unstable.ensures.len ∙ ap (λ (z : List ℕ). length z) c.as_mut_slice.ensures.value) in
    let P : List ℕ → Type 0 = λ z. IsPermutation z c.sort_unstable.new.self in
    let moved = subst P c.as_mut_slice.ensures.value c.sort_unstable.ensures.permutation in
    λ n. (
      (λ h. Contains-permutation _ _ n (IsPermutation-sym _ _ moved) (Contains-from_dedup _ _ n (rw whole at (rw is at h)))),
      (λ h. rw is (rw whole (Contains-dedup_nat _ n (Contains-permutation _ _ n moved h)))),
    )
