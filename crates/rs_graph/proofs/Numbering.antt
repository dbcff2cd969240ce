-- One node more is worked on: what it leads to is named.
use Rattle.std.proofs.Common.{◌≡◌, inl, inr, ℕ, ◌<◌, ◌+◌, ◌-◌, ◌++◌, ◌∷◌, [], List, Option, length, take, Some, slice_get, slice_index_or, sym, ap, ◌∙◌, arith, length-append}
use Rattle.std.specs.List.{sum_by}
use Rattle.rs_graph.specs.Naming.{AreNamed, Growing}
use Rattle.rs_graph.specs.Places.{IsPlaced, next_of}
use Rattle.rs_graph.specs.Removal.{AreLeft, at, moves_at}
use Rattle.rs_graph.proofs.Growth.{growing_on, reads_at}
use Rattle.rs_graph.proofs.Placing.{placed_few}
use Rattle.rs_graph.proofs.Removed.{cost_on, index_at}

-- the nodes that are found so far, with their places, and what the first of them lead to; they stay, and each step was counted
abbrev pub Going : List (List (List ℕ)) → List ℕ → List ℕ → List (List ℕ) → List (Option ℕ) → ℕ → ℕ → Type 0
Going outs current items nexts places first steps = Growing (next_of outs current) 0 items nexts × IsPlaced items places × (length places ≡ length outs)
    × ((i n : ℕ) → slice_get items i ≡ Some n → at current n < moves_at outs n)
    × (steps ≡ first + sum_by (λ (n : ℕ). length (next_of outs current n) + 1) (take (length nexts) items))

pub goes_on : (outs : List (List (List ℕ))) (current : List ℕ) → AreLeft outs current
    → (items : List ℕ) (nexts : List (List ℕ)) (places : List (Option ℕ)) (x : ℕ) (items' next : List ℕ) (nexts' : List (List ℕ)) (places' : List (Option ℕ)) (first steps steps' : ℕ)
    → Going outs current items nexts places first steps → length nexts < length items → x ≡ slice_index_or items (length nexts) x → AreNamed items (next_of outs current x) items' next
    → IsPlaced items' places' → length places' ≡ length places
    → nexts' ≡ nexts ++ (next ∷ []) → steps' ≡ steps + length (next_of outs current x) + 1 → Going outs current items' nexts' places' first steps'
goes_on outs current left items nexts places x items' next nexts' places' first steps steps' i lt is named placed size en es =
    let f : ℕ → ℕ = λ n. length (next_of outs current n) + 1 in
    let h : slice_get items (length nexts) ≡ Some x = reads_at items (length nexts) x x lt (sym is) in
    let m : length nexts' ≡ length nexts + 1 = ap (λ (z : List (List ℕ)). length z) en ∙ length-append nexts (next ∷ []) in
    let cost = cost_on f items items' (length nexts) named.grown.kept lt in
    let cost-n = ap f (index_at items (length nexts) x lt is) in
    let old = i.4 in (
      rw en (growing_on (next_of outs current) 0 items nexts x items' next i.0 h named),
      placed,
      size ∙ i.2,
      (λ k n q. elim (named.grown.only k n q) [ inl a ↦ i.3 k n a | inr a ↦ left.closed x n (i.3 (length nexts) x h) a ]),
      rw m (omega arith),
    )

-- fewer are left
pub less_left : (outs : List (List (List ℕ))) (items : List ℕ) (places : List (Option ℕ)) (nexts nexts' : List (List ℕ)) (next : List ℕ) → IsPlaced items places → length places ≡ length outs
    → length nexts < length items → nexts' ≡ nexts ++ (next ∷ [])
    → length outs - length nexts' < length outs - length nexts
less_left outs items places nexts nexts' next p s lt en =
    let f = placed_few items places p in
    let m : length nexts' ≡ length nexts + 1 = ap (λ (z : List (List ℕ)). length z) en ∙ length-append nexts (next ∷ []) in
    omega arith
