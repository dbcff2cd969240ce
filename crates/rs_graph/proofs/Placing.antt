-- Numbers by first discovery.
use Rattle.std.proofs.Common.{◌≡◌, ◌≢◌, ◌⊎◌, inl, inr, ℕ, ◌<◌, ◌≤◌, List, [], ◌∷◌, ◌++◌, length, set, refl, sym, ap, ◌∙◌, subst, arith, ◌+◌, suc, zero, Option, Some, None, slice_get, replicate}
use Rattle.std.proofs.lemmas.Bool.Decides.{eqb_tells}
use Rattle.std.proofs.lemmas.Bool.{cases_lt}
use Rattle.std.proofs.lemmas.Option.{none-some, same_Some}
use Rattle.std.proofs.lemmas.List.{get_or_past}
use Rattle.rs_graph.specs.Lists.{Among}
use Rattle.rs_graph.specs.Order.{Once}
use Rattle.rs_graph.specs.Places.{IsPlaced}
use Rattle.rs_graph.specs.Removal.{moves_at}
use Rattle.rs_graph.proofs.Growth.{at_in, in_at, at_short, no_more, push_is, push_at, push_new}

set_get_same : (xs : List (Option ℕ)) (i : ℕ) (v : Option ℕ) → i < length xs → slice_get (set xs i v) i ≡ Some v
set_get_same [] i v h = let bad : ⊥ = omega arith in absurd bad
set_get_same (x ∷ xs) zero v h = refl
set_get_same (x ∷ xs) (suc i) v h = set_get_same xs i v (omega arith)

set_get_other : (xs : List (Option ℕ)) (i j : ℕ) (v : Option ℕ) → j ≢ i → slice_get (set xs i v) j ≡ slice_get xs j
set_get_other [] i j v ne = refl
set_get_other (x ∷ xs) zero zero v ne = absurd (ne refl)
set_get_other (x ∷ xs) zero (suc j) v ne = refl
set_get_other (x ∷ xs) (suc i) zero v ne = refl
set_get_other (x ∷ xs) (suc i) (suc j) v ne = set_get_other xs i j v (λ e. ne (ap suc e))

pub placed_not : (items : List ℕ) (places : List (Option ℕ)) (y : ℕ) → IsPlaced items places → slice_get places y ≡ Some None → Among items y → ⊥
placed_not items places y p e h =
    let s = at_in items y h in
    let k = p.to s.0 y s.1 in
    none-some s.0 (same_Some None (Some s.0) (sym e ∙ k))

pub placed_on : (items items' : List ℕ) (places : List (Option ℕ)) (y n : ℕ) → y < length places → items' ≡ items ++ (y ∷ []) → n ≡ length items → IsPlaced items places
    → slice_get places y ≡ Some None → IsPlaced items' (set places y (Some n))
placed_on items items' places y n iny ei en p e = rw (ei, en) record {
  to = λ m x h. elim (push_is items y m x h) [
    | inl k ↦ set_get_other places y x (Some (length items)) (λ q. placed_not items places y p e (subst (λ (z : ℕ). Among items z) q (in_at items m x k))) ∙ p.to m x k
    | inr k ↦ (let P : ℕ → ℕ → Type 0 = λ z w. slice_get (set places y (Some (length items))) z ≡ Some (Some w) in
        let base : P y (length items) = set_get_same places y (Some (length items)) iny in
        subst (λ (w : ℕ). P x w) (sym k.0) (subst (λ (z : ℕ). P z (length items)) k.1 base))
  ];
  from = λ x m h. elim (eqb_tells x y) [
    | inl q ↦ (let h' : slice_get (set places y (Some (length items))) y ≡ Some (Some m) = subst (λ (z : ℕ). slice_get (set places y (Some (length items))) z ≡ Some (Some m)) q.1 h in
        let k : length items ≡ m = same_Some (length items) m (same_Some (Some (length items)) (Some m) (sym (set_get_same places y (Some (length items)) iny) ∙ h')) in
        subst (λ (w : ℕ). slice_get (items ++ (y ∷ [])) w ≡ Some x) k (push_new items y ∙ ap Some (sym q.1)))
    | inr q ↦ push_at items y m x (p.from x m (sym (set_get_other places y x (Some (length items)) q.1) ∙ h))
  ];
}

pub placed_none : (places : List (Option ℕ)) (count : ℕ) → places ≡ replicate count None → IsPlaced [] places
placed_none places count e = record {
  to = λ n x h. absurd cc;
  from = λ x n h. absurd (no count x n (subst (λ (z : List (Option ℕ)). slice_get z x ≡ Some (Some n)) e h));
}
  where
    no : (count x n : ℕ) → slice_get (replicate {A = Option ℕ} count None) x ≡ Some (Some n) → ⊥
    no zero x n h = none-some (Some n) h
    no (suc count) zero n h = none-some n (same_Some None (Some n) h)
    no (suc count) (suc x) n h = no count x n h

abbrev below : ℕ → ℕ → List ℕ
below n zero = []
below n (suc k) = n ∷ below (n + 1) k

below_length : (n k : ℕ) → length (below n k) ≡ k
below_length n zero = refl
below_length n (suc k) = let r = below_length (n + 1) k in omega arith

below_has : (n k x : ℕ) → n ≤ x → x < n + k → Among (below n k) x
below_has n zero x a b = let bad : ⊥ = omega arith in absurd bad
below_has n (suc k) x a b = elim (eqb_tells n x) [ inl e ↦ inl e.1 | inr e ↦ inr (below_has (n + 1) k x (let q = e.1 in omega arith) (omega arith)) ]

get_short : (xs : List (Option ℕ)) (i : ℕ) (v : Option ℕ) → slice_get xs i ≡ Some v → i < length xs
get_short xs i v e = at_short xs i v e

-- no more items than nodes
pub placed_few : (items : List ℕ) (places : List (Option ℕ)) → IsPlaced items places → length items ≤ length places
placed_few items places p =
    let once : Once items = λ i j x a b. same_Some i j (same_Some (Some i) (Some j) (sym (p.to i x a) ∙ p.to j x b)) in
    let m = no_more items (below 0 (length places)) once
    (λ x h. let s = at_in items x h in below_has 0 (length places) x (omega arith) (let w = get_short places x (Some s.0) (p.to s.0 x s.1) in omega arith)) in
    let l = below_length 0 (length places) in omega arith

pub placed_fewer : (items : List ℕ) (places : List (Option ℕ)) (y : ℕ) → y < length places → IsPlaced items places → slice_get places y ≡ Some None → length items < length places
placed_fewer items places y iny p e =
    let q = placed_on items (items ++ (y ∷ [])) places y (length items) iny refl refl p e in
    let f = placed_few (items ++ (y ∷ [])) (set places y (Some (length items))) q in
    let a = at_short (items ++ (y ∷ [])) (length items) y (push_new items y) in
    let l : length (set places y (Some (length items))) ≡ length places = set_length places y (Some (length items)) in
    omega arith
  where
    set_length : (xs : List (Option ℕ)) (i : ℕ) (v : Option ℕ) → length (set xs i v) ≡ length xs
    set_length [] i v = refl
    set_length (x ∷ xs) zero v = refl
    set_length (x ∷ xs) (suc i) v = let r = set_length xs i v in omega arith

pub first_item : (old new : List ℕ) (n : ℕ) → old ≡ [] → (new ≡ old) ⊎ ((Among old 0 → ⊥) × (new ≡ old ++ (0 ∷ []))) → slice_get new n ≡ Some 0 → new ≡ 0 ∷ []
first_item old new n e (inl q) h = (let h' : slice_get ([] ++ []) n ≡ Some 0 = subst (λ (z : List ℕ). slice_get z n ≡ Some 0) (q ∙ e) h in absurd (none-some 0 h'))
first_item old new n e (inr q) h = q.1 ∙ ap (λ (z : List ℕ). z ++ (0 ∷ [])) e

pub only_first : (i n : ℕ) → slice_get (0 ∷ []) i ≡ Some n → n ≡ 0
only_first zero n h = sym (same_Some 0 n h)
only_first (suc i) n h = absurd (none-some n h)

pub moves_within : (outs : List (List (List ℕ))) (x n : ℕ) → x < moves_at outs n → n < length outs
moves_within outs x n h =
    elim (cases_lt n (length outs)) [ inl a ↦ a | inr a ↦ (let z : moves_at outs n ≡ 0 = ap (λ (y : List (List ℕ)). length y) (get_or_past outs n [] a) in let bad : ⊥ = omega arith in absurd bad) ]
