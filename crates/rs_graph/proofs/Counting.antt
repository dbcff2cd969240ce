-- The steps of the removal and of the numbering together.
use Rattle.std.proofs.Common.{◌≡◌, ◌⊎◌, inl, inr, ℕ, ◌<◌, ◌≤◌, ◌+◌, ◌*◌, List, [], ◌∷◌, ◌++◌, length, get_or, refl, ap, arith, suc, zero, Some, slice_get, length-append, map, Bool, true, false}
use Rattle.std.specs.List.{sum_by}
use Rattle.std.proofs.lemmas.List.{get_or_past}
use Rattle.std.proofs.lemmas.List.Sums.{sum_by-cons}
use Rattle.rs_graph.specs.Discovery.{IsDiscovery}
use Rattle.rs_graph.specs.Graphs.{moves_of}
use Rattle.rs_graph.specs.Lists.{Among}
use Rattle.rs_graph.specs.Order.{Once}
use Rattle.rs_graph.specs.Places.{next_of}
use Rattle.rs_graph.specs.Removal.{IsInto, IsRemoval, at, cost_of, edges_in, moves_at}
use Rattle.rs_graph.specs.declared.graph.Move.{Move}
use Rattle.rs_graph.proofs.Growth.{at_in, in_at, no_more}
use Rattle.rs_graph.proofs.Placing.{moves_within}
use Rattle.rs_graph.proofs.Removed.{sum_less, upto, upto_has, upto_length}

sum_places : {X : Type 0} (f : X → ℕ) (d : X) (all rows : List X) (outs : List (List (List ℕ))) (n : ℕ) → length rows ≡ length outs → ((k : ℕ) → get_or all (n + k) d ≡ get_or rows k d)
    → sum_by (λ (m : ℕ). f (get_or all m d)) (upto n outs) ≡ sum_by f rows
sum_places f d all [] [] n e h = refl
sum_places f d all [] (o ∷ outs) n e h = let bad : ⊥ = omega arith in absurd bad
sum_places f d all (r ∷ rows) [] n e h = let bad : ⊥ = omega arith in absurd bad
sum_places f d all (r ∷ rows) (o ∷ outs) n e h =
    let k = sum_places f d all rows outs (n + 1) (omega arith) (λ j. let y : (n + 1) + j ≡ n + suc j = omega arith in rw y (h (suc j))) in
    let a = sum_by-cons (λ (m : ℕ). f (get_or all m d)) n (upto (n + 1) outs) in
    let b = sum_by-cons f r rows in
    let z : get_or all n d ≡ r = (let y : n + 0 ≡ n = omega arith in rw y at (h 0)) in
    let l : f (get_or all n d) ≡ f r = ap f z in
    omega arith

sum_most : (f g : ℕ → ℕ) (xs : List ℕ) → ((n : ℕ) → f n ≤ g n) → sum_by f xs ≤ sum_by g xs
sum_most f g [] h = omega arith
sum_most f g (x ∷ xs) h = let a = sum_by-cons f x xs in let b = sum_by-cons g x xs in let c = h x in let d = sum_most f g xs h in omega arith

sum_more : (f g : ℕ → ℕ) (xs : List ℕ) → ((n : ℕ) → g n ≡ f n + 1) → sum_by g xs ≡ sum_by f xs + length xs
sum_more f g [] h = omega arith
sum_more f g (x ∷ xs) h = let a = sum_by-cons f x xs in let b = sum_by-cons g x xs in let c = h x in let d = sum_more f g xs h in omega arith

-- one of the rows is no longer than all together
pub row_most : (rows : List (List ℕ)) (n : ℕ) → length (get_or rows n []) ≤ sum_by (λ (row : List ℕ). length row) rows
row_most [] n = let l : length (get_or {A = List ℕ} [] n []) ≡ 0 = ap (λ (z : List ℕ). length z) (get_or_past [] n [] (omega arith)) in omega arith
row_most (r ∷ rows) zero = let a = sum_by-cons (λ (row : List ℕ). length row) r rows in omega arith
row_most (r ∷ rows) (suc n) = let a = sum_by-cons (λ (row : List ℕ). length row) r rows in let b = row_most rows n in omega arith

among_upto : (outs : List (List (List ℕ))) (n : ℕ) → n < length outs → Among (upto 0 outs) n
among_upto outs n h = upto_has 0 outs n (omega arith) (omega arith)

-- all edges that end at nodes of a list
ends_most : (outs : List (List (List ℕ))) (intos : List (List Move)) (xs : List ℕ) → IsInto outs intos → Once xs → ((n : ℕ) → Among xs n → n < length outs)
    → sum_by (λ (n : ℕ). length (get_or intos n [])) xs ≤ edges_in outs
ends_most outs intos xs into once within =
    let a = sum_less (λ (n : ℕ). length (get_or intos n [])) xs (upto 0 outs) once (λ n m. among_upto outs n (within n m)) in
    let b = sum_places (λ (row : List Move). length row) [] intos intos outs 0 into.size (λ k. let y : 0 + k ≡ k = omega arith in rw y refl) in
    let c = into.count in omega arith

-- all edges of the moves at which nodes of a list stand
nexts_most : (outs : List (List (List ℕ))) (current xs : List ℕ) → Once xs → ((n : ℕ) → Among xs n → n < length outs) → sum_by (λ (n : ℕ). length (next_of outs current n)) xs ≤ edges_in outs
nexts_most outs current xs once within =
    let a = sum_most (λ (n : ℕ). length (next_of outs current n)) (λ (n : ℕ). sum_by (λ (results : List ℕ). length results) (get_or outs n [])) xs (λ n. row_most (get_or outs n []) (at current n)) in
    let b = sum_less (λ (n : ℕ). sum_by (λ (results : List ℕ). length results) (get_or outs n [])) xs (upto 0 outs) once (λ n m. among_upto outs n (within n m)) in
    let c = sum_places (λ (moves : List (List ℕ)). sum_by (λ (results : List ℕ). length results) moves) [] outs outs outs 0 refl (λ k. let y : 0 + k ≡ k = omega arith in rw y refl) in
    omega arith

-- two lists of different numbers, which have none in common
both_few : (xs ys : List ℕ) (outs : List (List (List ℕ))) → Once xs → Once ys → ((n : ℕ) → Among xs n → Among ys n → ⊥) → ((n : ℕ) → Among xs n → n < length outs)
    → ((n : ℕ) → Among ys n → n < length outs)
    → length xs + length ys ≤ length outs
both_few xs ys outs ox oy apart wx wy =
    let l = length-append xs ys in
    let u = upto_length 0 outs in
    let m = no_more (xs ++ ys) (upto 0 outs) (both_once xs ys ox oy apart) (λ n h. elim (split xs ys n h) [ inl a ↦ among_upto outs n (wx n a) | inr b ↦ among_upto outs n (wy n b) ]) in
    omega arith
  where
    split : (as' bs : List ℕ) (n : ℕ) → Among (as' ++ bs) n → Among as' n ⊎ Among bs n
    split [] bs n h = inr h
    split (a ∷ as') bs n (inl e) = inl (inl e)
    split (a ∷ as') bs n (inr h) = elim (split as' bs n h) [ inl k ↦ inl (inr k) | inr k ↦ inr k ]

    at_append : (as' bs : List ℕ) (i n : ℕ) → slice_get (as' ++ bs) i ≡ Some n → (slice_get as' i ≡ Some n) ⊎ ((j : ℕ) × (i ≡ length as' + j) × (slice_get bs j ≡ Some n))
    at_append [] bs i n e = inr (i, omega arith, e)
    at_append (a ∷ as') bs zero n e = inl e
    at_append (a ∷ as') bs (suc i) n e = elim (at_append as' bs i n e) [ inl k ↦ inl k | inr k ↦ inr (k.0, (let q = k.1 in omega arith), k.2) ]

    both_once : (as' bs : List ℕ) → Once as' → Once bs → ((n : ℕ) → Among as' n → Among bs n → ⊥) → Once (as' ++ bs)
    both_once as' bs oa ob none i j x ei ej = elim (at_append as' bs i x ei) [
      | inl a ↦ elim (at_append as' bs j x ej) [ inl b ↦ oa i j x a b | inr b ↦ absurd (none x (in_at as' i x a) (in_at bs b.0 x b.2)) ]
      | inr a ↦ elim (at_append as' bs j x ej) [ inl b ↦ absurd (none x (in_at as' j x b) (in_at bs a.0 x a.2)) | inr b ↦ (let q = ob a.0 b.0 x a.2 b.2 in let r = a.1 in let s = b.1 in omega arith) ]
    ]

pub removal_fits : (outs : List (List (List ℕ))) (intos : List (List Move)) (current order : List ℕ) → IsInto outs intos → IsRemoval outs current order
    → sum_by (λ (n : ℕ). cost_of intos n) order ≤ 2 * edges_in outs + length outs
removal_fits outs intos current order into rem =
    let w : (n : ℕ) → Among order n → n < length outs = λ n m. (let p = at_in order n m in (rem.gone p.0 n p.1).0) in
    let a = ends_most outs intos order into rem.once w in
    let b = sum_more (λ (n : ℕ). length (get_or intos n [])) (λ (n : ℕ). cost_of intos n) order (λ n. omega arith) in
    let c = both_few order [] outs rem.once (λ i j x e f. absurd cc) (λ n m k. k) w (λ n k. absurd k) in
    omega arith

pub steps_fit : (outs : List (List (List ℕ))) (intos : List (List Move)) (current order items : List ℕ) (nexts : List (List ℕ)) → IsInto outs intos → IsRemoval outs current order
    → IsDiscovery (next_of outs current) 0 items nexts
    → ((i n : ℕ) → slice_get items i ≡ Some n → at current n < moves_at outs n)
    → sum_by (λ (n : ℕ). cost_of intos n) order + sum_by (λ (n : ℕ). length (next_of outs current n) + 1) items ≤ 2 * edges_in outs + length outs
steps_fit outs intos current order items nexts into rem d stay =
    let w : (n : ℕ) → Among order n → n < length outs = λ n m. (let p = at_in order n m in (rem.gone p.0 n p.1).0) in
    let v : (n : ℕ) → Among items n → n < length outs = λ n m. (let p = at_in items n m in moves_within outs (at current n) n (stay p.0 n p.1)) in
    let a = ends_most outs intos order into rem.once w in
    let b = sum_more (λ (n : ℕ). length (get_or intos n [])) (λ (n : ℕ). cost_of intos n) order (λ n. omega arith) in
    let c = nexts_most outs current items d.once v in
    let e = sum_more (λ (n : ℕ). length (next_of outs current n)) (λ (n : ℕ). length (next_of outs current n) + 1) items (λ n. refl) in
    let f = both_few order items outs rem.once d.once
    (λ n x y. let p = at_in order n x in let q = at_in items n y in let g = (rem.gone p.0 n p.1).1 in let s = stay q.0 n q.1 in let bad : ⊥ = omega arith in bad) w v in
    omega arith

-- sums item by item
pub sum_same : {X Y : Type 0} (f : X → ℕ) (g : Y → ℕ) (xs : List X) (ys : List Y) → length xs ≡ length ys → ((i : ℕ) (x : X) (y : Y) → slice_get xs i ≡ Some x → slice_get ys i ≡ Some y → f x ≡ g y)
    → sum_by f xs ≡ sum_by g ys
sum_same f g [] [] e h = refl
sum_same f g [] (y ∷ ys) e h = let bad : ⊥ = omega arith in absurd bad
sum_same f g (x ∷ xs) [] e h = let bad : ⊥ = omega arith in absurd bad
sum_same f g (x ∷ xs) (y ∷ ys) e h =
    let a = sum_by-cons f x xs in let b = sum_by-cons g y ys in let c = h zero x y refl refl in
    let d = sum_same f g xs ys (omega arith) (λ i p q u v. h (suc i) p q u v) in omega arith

singles_sum : (row : List ℕ) → sum_by (λ (results : List ℕ). length results) (map (λ (x : ℕ). x ∷ []) row) ≡ length row
singles_sum [] = refl
singles_sum (x ∷ row) = let a = sum_by-cons (λ (results : List ℕ). length results) (x ∷ []) (map (λ (y : ℕ). y ∷ []) row) in let b = singles_sum row in omega arith

pub moves_sum : (any : Bool) (row : List ℕ) → sum_by (λ (results : List ℕ). length results) (moves_of any row) ≡ length row
moves_sum true row = singles_sum row
moves_sum false row = let a = sum_by-cons (λ (results : List ℕ). length results) row [] in omega arith
