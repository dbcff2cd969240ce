-- Ranks along edges that all lead to greater numbers.
use Rattle.std.proofs.Common.{◌≡◌, ◌≢◌, inl, inr, ℕ, ◌<◌, ◌≤◌, ◌+◌, Bool, true, false, List, [], ◌∷◌, length, get_or, set, map, refl, sym, ap, ◌∙◌, subst, arith, zero, suc, Some, slice_get, not, eqb}
use Rattle.std.proofs.Common.{◌&&◌, ◌||◌}
use Rattle.std.specs.List.{list_any}
use Rattle.std.proofs.lemmas.Bool.{cases_lt, eqb-true, false≢true}
use Rattle.std.proofs.lemmas.List.{get_or-set_same, get_or-set_other, length-set, get_or_past}
use Rattle.std.proofs.lemmas.Option.{none-some, same_Some}
use Rattle.rs_graph.proofs.Buckets.{got}
use Rattle.rs_graph.proofs.Growth.{at_within}
use Rattle.rs_graph.proofs.Ranking.{fit_ranks}
use Rattle.rs_graph.specs.Lists.{Among}
use Rattle.rs_graph.specs.Ranks.{Edge}
use Rattle.rs_graph.specs.RanksSoFar.{RankFits}
use Rattle.rs_graph.specs.Walks.{IsRank}
use Rattle.rs_search.proofs.Places.{place_is, places_length}
use Rattle.rs_model.specs.declared.limits.TheConstants.{MOST_CANDIDATES}
use Rattle.rs_model.specs.Data.{Machine_data}
use Rattle.rs_derive.specs.Data.{DNode_data}
use Rattle.rs_derive.specs.Derivations.{IsProper}
use Rattle.rs_derive.specs.Moves.{Spot}
use Rattle.rs_graph.specs.Discovery.{IsDiscovery}
use Rattle.rs_search.proofs.Choices.{bool_cases}
use Rattle.rs_search.proofs.Forced.{IsForced, forced_found}
use Rattle.rs_search.specs.Candidates.{start_spot}
use Rattle.rs_search.specs.Canonical.{IsCanonical}
use Rattle.rs_search.specs.Forward.{AreForward, kept_row_of, kept_row}
use Rattle.rs_search.specs.Nodes.{AreKept, AreNodes, places_of}
use Rattle.rs_search.specs.Turns.{Turn_data, has_choice, is_choosing, is_keeping, nexts_within, turn_within}

pub forward_none : (keeps : List Bool) (rows : List (List ℕ)) (ranks : List ℕ) → length ranks ≡ length rows → AreForward keeps rows ranks (length rows)
forward_none keeps rows ranks e = record {
  size = e;
  fits = λ n a b. (let bad : ⊥ = omega arith in absurd bad);
  on = λ n j a b m. (let bad : ⊥ = omega arith in absurd bad);
  low = λ n a b. (let bad : ⊥ = omega arith in absurd bad);
}

pub forward_on : (keeps : List Bool) (rows : List (List ℕ)) (ranks : List ℕ) (before n rank : ℕ) → before ≡ suc n → before ≤ length rows → AreForward keeps rows ranks before
    → RankFits (kept_row_of keeps rows n) ranks rank → ((j : ℕ) → Among (kept_row_of keeps rows n) j → n < j) → rank + n < length ranks → AreForward keeps rows (set ranks n rank) n
forward_on keeps rows ranks before n rank eb within f fit on low =
    let size = f.size in
    let inn : n < length ranks = omega arith in
    let here : get_or (set ranks n rank) n 0 ≡ rank = get_or-set_same ranks n rank 0 inn in
    let other : (x : ℕ) → x ≢ n → get_or (set ranks n rank) x 0 ≡ get_or ranks x 0 = λ x ne. get_or-set_other ranks n x rank 0 ne in
    let apart : (x : ℕ) → n < x → x ≢ n = λ x lt e. (let bad : ⊥ = omega arith in bad) in
    let kept : (row : List ℕ) (r : ℕ) → ((j : ℕ) → Among row j → n < j) → RankFits row ranks r → RankFits row (set ranks n rank) r = λ row r far q. record {
      falls = λ j m. (let e = other j (apart j (far j m)) in let a = q.falls j m in omega arith);
      tight = (elim q.tight [ inl z ↦ inl z | inr p ↦ (let e = other p.0 (apart p.0 (far p.0 p.1)) in inr (p.0, p.1, (let a = p.2 in omega arith))) ]);
    } in
    record {
      size = length-set ranks n rank ∙ f.size;
      fits = λ m a b. elim (cases_lt n m) [
        | inl lt ↦ subst (λ (z : ℕ). RankFits (kept_row_of keeps rows m) (set ranks n rank) z) (sym (other m (apart m lt)))
            (kept (kept_row_of keeps rows m) (get_or ranks m 0) (λ j k. (let w = f.on m j (omega arith) b k in omega arith)) (f.fits m (omega arith) b))
        | inr ge ↦ (let e : n ≡ m = omega arith in
            subst (λ (z : ℕ). RankFits (kept_row_of keeps rows z) (set ranks n rank) (get_or (set ranks n rank) z 0)) e
            (subst (λ (z : ℕ). RankFits (kept_row_of keeps rows n) (set ranks n rank) z) (sym here) (kept (kept_row_of keeps rows n) rank on fit)))
      ];
      on = λ m j a b k. elim (cases_lt n m) [
        | inl lt ↦ f.on m j (omega arith) b k
        | inr ge ↦ (let e : m ≡ n = omega arith in subst (λ (z : ℕ). z < j) (sym e) (on j (subst (λ (z : ℕ). Among (kept_row_of keeps rows z) j) e k)))
      ];
      low = λ m a b. elim (cases_lt n m) [
        | inl lt ↦ (let e = other m (apart m lt) in let l = f.low m (omega arith) b in omega arith)
        | inr ge ↦ (let e : n ≡ m = omega arith in subst (λ (z : ℕ). get_or (set ranks n rank) z 0 + z < length rows) e (omega arith))
      ];
    }

-- the edges that are kept

abbrev pub kept_rows : List Bool → List (List ℕ) → List (List ℕ)
kept_rows keeps [] = []
kept_rows [] (row ∷ rows) = [] ∷ kept_rows [] rows
kept_rows (b ∷ keeps) (row ∷ rows) = kept_row b row ∷ kept_rows keeps rows

kept_length : (keeps : List Bool) (rows : List (List ℕ)) → length (kept_rows keeps rows) ≡ length rows
kept_length keeps [] = refl
kept_length [] (row ∷ rows) = ap suc (kept_length [] rows)
kept_length (b ∷ keeps) (row ∷ rows) = ap suc (kept_length keeps rows)

kept_get : (keeps : List Bool) (rows : List (List ℕ)) (n : ℕ) (row : List ℕ) → slice_get rows n ≡ Some row → slice_get (kept_rows keeps rows) n ≡ Some (kept_row (get_or keeps n false) row)
kept_get keeps [] n row e = absurd (none-some row e)
kept_get [] (r ∷ rows) zero row e = refl
kept_get [] (r ∷ rows) (suc n) row e = kept_get [] rows n row e ∙ ap (λ (b : Bool). Some (kept_row b row)) (none n)
  where
    none : (n : ℕ) → get_or {A = Bool} [] n false ≡ false
    none zero = refl
    none (suc n) = refl
kept_get (b ∷ keeps) (r ∷ rows) zero row e = ap (λ (z : List ℕ). Some (kept_row b z)) (same_Some r row e)
kept_get (b ∷ keeps) (r ∷ rows) (suc n) row e = kept_get keeps rows n row e

kept_edge : (keeps : List Bool) (rows : List (List ℕ)) (n : ℕ) → n < length rows → get_or (kept_rows keeps rows) n [] ≡ kept_row_of keeps rows n
kept_edge keeps rows n h =
    let r = at_within rows n h in
    got (kept_rows keeps rows) n (kept_row (get_or keeps n false) r.0) [] (kept_get keeps rows n r.0 r.1)
    ∙ ap (λ (z : List ℕ). kept_row (get_or keeps n false) z) (sym (got rows n r.0 [] r.1))

pub rows_kept : {X : Type 0} (found : List X) (keeps : List Bool) (rows : List (List ℕ)) → length rows ≡ length found
    → AreKept keeps (places_of 0 found) rows (length (places_of 0 found)) (kept_rows keeps rows)
rows_kept found keeps rows l = record {
  size = kept_length keeps rows ∙ l ∙ sym (places_length 0 found);
  each = λ i n row lt a b. (let p = place_is found i n a in
      kept_get keeps rows i row b ∙ ap (λ (z : ℕ). Some (kept_row (get_or keeps z false) row)) p.0);
}

pub forward_fit : (keeps : List Bool) (rows : List (List ℕ)) (ranks : List ℕ) → AreForward keeps rows ranks 0 → (i : ℕ) → IsRank (Edge (kept_rows keeps rows)) i (get_or ranks i 0)
forward_fit keeps rows ranks f = fit_ranks (Edge (kept_rows keeps rows)) (λ n. get_or ranks n 0) record {
  falls = λ i j e. (let h = inside i j e in
      (f.fits i (omega arith) h).falls j (subst (λ (z : List ℕ). Among z j) (kept_edge keeps rows i h) e));
  tight = λ i. elim (cases_lt i (length rows)) [
    | inl h ↦ elim (f.fits i (omega arith) h).tight [
      | inl z ↦ inl z
      | inr p ↦ inr (p.0, subst (λ (z : List ℕ). Among z p.0) (sym (kept_edge keeps rows i h)) p.1, p.2)
    ]
    | inr h ↦ inl (get_or_past ranks i 0 (let s = f.size in omega arith))
  ];
}
  where
    inside : (i j : ℕ) → Edge (kept_rows keeps rows) i j → i < length rows
    inside i j e = elim (cases_lt i (length rows)) [
      | inl a ↦ a
      | inr a ↦ (let z = get_or_past (kept_rows keeps rows) i [] (let l = kept_length keeps rows in omega arith) in let bad : Among [] j = subst (λ (w : List ℕ). Among w j) z e in absurd bad)
    ]

-- the answer where no spot chooses, and all edges that keep their head lead to greater numbers

not_any : (f : Spot → Bool) (xs : List Spot) → list_any f xs ≡ false → (n : ℕ) (x : Spot) → slice_get xs n ≡ Some x → f x ≡ false
not_any f [] e n x h = absurd (none-some x h)
not_any f (y ∷ xs) e zero x h = elim (bool_cases (f y)) [
  | inl t ↦ absurd (false≢true (sym e ∙ subst (λ (b : Bool). (b || list_any f xs) ≡ true) (sym t) refl))
  | inr t ↦ subst (λ (z : Spot). f z ≡ false) (same_Some y x h) t
]
not_any f (y ∷ xs) e (suc n) x h = elim (bool_cases (f y)) [
  | inl t ↦ absurd (false≢true (sym e ∙ subst (λ (b : Bool). (b || list_any f xs) ≡ true) (sym t) refl))
  | inr t ↦ not_any f xs (subst (λ (b : Bool). (b || list_any f xs) ≡ false) t e) n x h
]

one_spot : (t : Turn_data) → has_choice t ≡ false → t.any ≡ true → length t.spots ≡ 1
one_spot t e any = elim (bool_cases (eqb (length t.spots) 1)) [
  | inl y ↦ eqb-true (length t.spots) 1 y
  | inr n ↦ (let a : (true && not (eqb (length t.spots) 1)) ≡ false = subst (λ (b : Bool). (b && not (eqb (length t.spots) 1)) ≡ false) any e in
      absurd (false≢true (sym (subst (λ (b : Bool). not b ≡ false) n a))))
]

pub forward_found : (sub above : Machine_data) (bound : ℕ) (found : List Spot) (rows : List (List ℕ)) (keeps : List Bool) (ranks : List ℕ) (nodes : List DNode_data) (choosing : Bool) → IsProper above
    → IsDiscovery (nexts_within sub above bound) (start_spot sub above) found rows → length found ≤ MOST_CANDIDATES → keeps ≡ map (is_keeping sub above bound) found
    → choosing ≡ list_any (is_choosing sub above bound) found
    → choosing ≡ false → AreForward keeps rows ranks 0 → AreNodes found (places_of 0 found) rows ranks (length found) nodes
    → IsCanonical sub above bound (record { role = sub.role; bound = bound; nodes = nodes })
forward_found sub above bound found rows keeps ranks nodes choosing w d few ek ec none f made =
    let forced : IsForced sub above bound found rows = record {
      proper = w;
      discovery = d;
      bounded = few;
      forced = λ n x e any. one_spot (turn_within sub above bound x) (not_any (is_choosing sub above bound) found (sym ec ∙ none) n x e) any;
    } in
    let are : AreKept (map (is_keeping sub above bound) found) (places_of 0 found) rows (length (places_of 0 found)) (kept_rows keeps rows) =
    subst (λ (z : List Bool). AreKept z (places_of 0 found) rows (length (places_of 0 found)) (kept_rows keeps rows)) ek (rows_kept found keeps rows d.all) in
    forced_found sub above bound found rows ranks nodes (kept_rows keeps rows) forced
    (subst (λ (z : ℕ). AreNodes found (places_of 0 found) rows ranks z nodes) (sym (places_length 0 found)) made) are (forward_fit keeps rows ranks f)
