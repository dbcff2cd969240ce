-- Candidates have numbers among those within a greater bound, which tell what a greater bound helps.
use Rattle.std.proofs.Common.{◌≡◌, ◌⊎◌, inl, inr, ℕ, ◌<◌, ◌≤◌, ◌+◌, zero, suc, Bool, true, false, not, ◌&&◌, List, [], ◌∷◌, length, get_or, set, slice_get, slice_index_or, Option, Some, refl, sym, ap, ap₂, subst, ◌∙◌, arith, drop, replicate, map, if◌then◌else◌}
use Rattle.std.specs.List.{All}
use Rattle.std.proofs.lemmas.Bool.{and_from, and_parts, cases_lt, false≢true, not_from_false, not_from_true}
use Rattle.std.proofs.lemmas.Grind.{get_or_default_zero}
use Rattle.std.proofs.lemmas.List.{get_or_past, get_or-set_other, get_or-set_same, length-map, length-set}
use Rattle.std.proofs.Math.ListN.{drop_of_length-le}
use Rattle.std.proofs.lemmas.Option.{none-some, same_Some}
use Rattle.rs_model.specs.Data.{Machine_data}
use Rattle.rs_derive.specs.Due.{due}
use Rattle.rs_derive.specs.Moves.{Spot}
use Rattle.rs_graph.proofs.Buckets.{got}
use Rattle.rs_graph.proofs.Growth.{at_short, at_within, drop_here}
use Rattle.rs_graph.specs.Discovery.{IsDiscovery}
use Rattle.rs_graph.specs.Lists.{Among, ArePlacesOf}
use Rattle.rs_graph.specs.Removal.{at}
use Rattle.rs_search.proofs.Accepted.{new_worked}
use Rattle.rs_search.proofs.Choices.{bool_cases, more_no, more_yes}
use Rattle.rs_search.proofs.Discovering.{same_number}
use Rattle.rs_search.proofs.Verdicts.{rows_within}
use Rattle.rs_search.specs.Candidates.{MeetsACut, start_spot}
use Rattle.rs_search.specs.Found.{AreFoundCandidates}
use Rattle.rs_search.specs.Turns.{Turn_data, is_any, nexts_within, no_turn, owes_more, turn_of}
use Rattle.rs_search.specs.declared.found.Candidates.{Candidates}
use Rattle.rs_explain.specs.Distances.{flag_at}
use Rattle.rs_explain.specs.Helping.{AreNumbersAmong, IsHelpedCut, IsNumberOf, is_on_alone, is_on_twice, noted}
use Rattle.rs_explain.specs.OnWay.{AreFlagged, AreFlags}
use Rattle.rs_explain.specs.Walks.{Dies, IsHelped}
use Rattle.rs_search.specs.Survives.{Survives}

-- each spot has its number: so it is of the first spot, and of those to which the first so many lead
pub record AreNumberedSoFar (spots those : List Spot) (rows : List (List ℕ)) (count : ℕ) (numbers : List ℕ) : Type 0 where
  pub size : length numbers ≡ length spots
  pub first : IsNumberOf spots those numbers 0
  pub behind : (j n : ℕ) → j < count → Among (get_or rows j []) n → IsNumberOf spots those numbers n

-- what a spot leads to

-- a bound that is no less takes no more away
more_up : (bound greater : ℕ) → bound ≤ greater → (spots : List Spot) → owes_more bound spots ≡ false → owes_more greater spots ≡ false
more_up bound greater le spots e = elim (bool_cases (owes_more greater spots)) [
  | inr n ↦ n
  | inl y ↦ (let k = more_yes greater spots y in let s = more_no bound spots e k.0 k.1 in let l = k.2 in let bad : ⊥ = omega arith in absurd bad)
]

alike : (b c : Bool) (u : Turn_data) → (b ≡ false → c ≡ false) → ((if b then no_turn true else u).spots ≡ []) ⊎ ((if b then no_turn true else u).spots ≡ (if c then no_turn true else u).spots)
alike true c u h = inl refl
alike false c u h = inr (subst (λ (z : Bool). u.spots ≡ (if z then no_turn true else u).spots) (sym (h refl)) refl)

-- it leads to nothing within the bound, or to the same as within the greater one
nexts_alike : (sub above : Machine_data) (bound greater : ℕ) → bound ≤ greater → (p : Spot)
    → (nexts_within sub above bound p ≡ []) ⊎ (nexts_within sub above bound p ≡ nexts_within sub above greater p)
nexts_alike sub above bound greater le p =
    let u : Turn_data = turn_of (due sub above p) in alike (owes_more bound u.spots) (owes_more greater u.spots) u (more_up bound greater le u.spots)

none_named : (found : List Spot) (ns : List ℕ) → ArePlacesOf found ns [] → ns ≡ []
none_named found [] h = refl
none_named found (n ∷ ns) h = absurd h

as_many : (found : List Spot) (ns : List ℕ) (xs : List Spot) → ArePlacesOf found ns xs → length ns ≡ length xs
as_many found [] [] h = refl
as_many found [] (x ∷ xs) h = absurd h
as_many found (n ∷ ns) [] h = absurd h
as_many found (n ∷ ns) (x ∷ xs) h = ap suc (as_many found ns xs h.1)

-- numbers that are noted

noted_size : (row beside numbers : List ℕ) → length (noted row beside numbers) ≡ length numbers
noted_size [] beside numbers = refl
noted_size (n ∷ row) [] numbers = refl
noted_size (n ∷ row) (m ∷ beside) numbers = noted_size row beside (set numbers n m) ∙ length-set numbers n m

pub noted_on : (row beside numbers : List ℕ) (i n m : ℕ) → slice_get row i ≡ Some n → slice_get beside i ≡ Some m
    → noted (drop (i + 1) row) (drop (i + 1) beside) (set numbers n m) ≡ noted (drop i row) (drop i beside) numbers
noted_on row beside numbers i n m e f =
    sym (ap₂ (λ (y : List ℕ) (z : List ℕ). noted y z numbers) (drop_here row i n e) (drop_here beside i m f))

pub noted_done : (row beside numbers : List ℕ) (i : ℕ) → length row ≤ i → noted (drop i row) (drop i beside) numbers ≡ numbers
noted_done row beside numbers i le = ap (λ (z : List ℕ). noted z (drop i beside) numbers) (drop_of_length-le row le)

-- two spots that are one have one number
set_right : (spots those : List Spot) (numbers : List ℕ) (n m : ℕ) (y : Spot) → length numbers ≡ length spots → slice_get spots n ≡ Some y → slice_get those m ≡ Some y
    → IsNumberOf spots those (set numbers n m) n
set_right spots those numbers n m y size f g x e =
    let lt : n < length numbers = (let k = at_short spots n y f in omega arith) in
    subst (λ (z : ℕ). slice_get those z ≡ Some x) (sym (get_or-set_same numbers n m 0 lt)) (g ∙ ap Some (same_Some y x (sym f ∙ e)))

set_keeps : (spots those : List Spot) (numbers : List ℕ) (n m k : ℕ) (y : Spot) → length numbers ≡ length spots → slice_get spots n ≡ Some y → slice_get those m ≡ Some y
    → IsNumberOf spots those numbers k → IsNumberOf spots those (set numbers n m) k
set_keeps spots those numbers n m k y size f g h = elim (same_number n k) [
  | inl q ↦ subst (λ (z : ℕ). IsNumberOf spots those (set numbers n m) z) q (set_right spots those numbers n m y size f g)
  | inr ne ↦ (λ x e. subst (λ (z : ℕ). slice_get those z ≡ Some x) (sym (get_or-set_other numbers n k m 0 (λ q. ne (sym q)))) (h x e))
]

-- what a row gets is right, and what was right stays so
pub record AreNoted (spots those : List Spot) (row numbers new : List ℕ) : Type 0 where
  pub kept : (k : ℕ) → IsNumberOf spots those numbers k → IsNumberOf spots those new k
  pub right : (k : ℕ) → Among row k → IsNumberOf spots those new k

noted_right : (spots those : List Spot) (row beside numbers : List ℕ) (ys : List Spot) → length numbers ≡ length spots → ArePlacesOf spots row ys → ArePlacesOf those beside ys
    → AreNoted spots those row numbers (noted row beside numbers)
noted_right spots those [] beside numbers ys size a b = record { kept = λ k h. h; right = λ k h. absurd h }
noted_right spots those (n ∷ row) beside numbers [] size a b = absurd a
noted_right spots those (n ∷ row) [] numbers (y ∷ ys) size a b = absurd b
noted_right spots those (n ∷ row) (m ∷ beside) numbers (y ∷ ys) size a b =
    let on = noted_right spots those row beside (set numbers n m) ys (length-set numbers n m ∙ size) a.1 b.1 in
    record {
      kept = λ k h. on.kept k (set_keeps spots those numbers n m k y size a.0 b.0 h);
      right = λ k h. elim h [
        | inl q ↦ on.kept k (subst (λ (z : ℕ). IsNumberOf spots those (set numbers n m) z) q (set_right spots those numbers n m y size a.0 b.0))
        | inr i ↦ on.right k i
      ];
    }

-- row by row

-- a row, and the row of the same spot within the greater bound
pub record BesideEachOther (sub above : Machine_data) (bound greater : ℕ) (found those : Candidates) (n : ℕ) (numbers row beside : List ℕ) : Type 0 where
  pub spot : Spot
  pub here : slice_get found.table.spots n ≡ Some spot
  pub there : slice_get those.table.spots (at numbers n) ≡ Some spot
  pub row_is : slice_get found.table.rows n ≡ Some row
  pub beside_is : slice_get those.table.rows (at numbers n) ≡ Some beside

begun : (spots those : List Spot) (rows : List (List ℕ)) (numbers : List ℕ) (x : Spot) → length numbers ≡ length spots → at numbers 0 ≡ 0 → slice_get spots 0 ≡ Some x → slice_get those 0 ≡ Some x
    → AreNumberedSoFar spots those rows 0 numbers
begun spots those rows numbers x size zero_is f g = record {
  size = size;
  first = λ y e. subst (λ (z : ℕ). slice_get those z ≡ Some y) (sym zero_is) (g ∙ ap Some (same_Some x y (sym f ∙ e)));
  behind = λ j n lt m. (let bad : ⊥ = omega arith in absurd bad);
}

pub so_far_begins : (sub above : Machine_data) (bound greater : ℕ) (found those : Candidates) (numbers : List ℕ) → AreFoundCandidates sub above bound found → AreFoundCandidates sub above greater those
    → length numbers ≡ length found.table.spots → at numbers 0 ≡ 0 → AreNumberedSoFar found.table.spots those.table.spots found.table.rows 0 numbers
so_far_begins sub above bound greater found those numbers f g size zero_is =
    begun found.table.spots those.table.spots found.table.rows numbers (start_spot sub above) size zero_is f.discovery.first g.discovery.first

pub as_many_flags : (sub above : Machine_data) (bound : ℕ) (found : Candidates) → AreFoundCandidates sub above bound found → length found.anys.items ≡ length found.table.spots
as_many_flags sub above bound found f = ap (λ (z : List Bool). length z) f.noted.anys ∙ length-map found.table.spots (is_any sub above bound)

pub zero_first : (numbers : List ℕ) (count : ℕ) → numbers ≡ replicate count 0 → at numbers 0 ≡ 0
zero_first numbers zero e = rw e refl
zero_first numbers (suc count) e = rw e refl

-- each of the first so many has its number, and the next one, too
pub number_is : (sub above : Machine_data) (bound : ℕ) (found : Candidates) (those : List Spot) (numbers : List ℕ) (count n : ℕ) → AreFoundCandidates sub above bound found
    → AreNumberedSoFar found.table.spots those found.table.rows count numbers → n ≤ count → n < length found.table.spots → IsNumberOf found.table.spots those numbers n
number_is sub above bound found those numbers count zero f h le lt = h.first
number_is sub above bound found those numbers count (suc k) f h le lt =
    let w = new_worked 0 1 (length found.table.spots) found.table.rows f.discovery.order (suc k) (omega arith) lt in
    let l = w.4 in
    h.behind w.0 (suc k) (omega arith) (subst (λ (z : List ℕ). Among z (suc k)) (sym (got found.table.rows w.0 w.1 [] w.2)) w.3)

pub numbers_all : (sub above : Machine_data) (bound : ℕ) (found : Candidates) (those : List Spot) (numbers : List ℕ) (count : ℕ) → AreFoundCandidates sub above bound found
    → AreNumberedSoFar found.table.spots those found.table.rows count numbers → length found.table.spots ≤ count → AreNumbersAmong found.table.spots those numbers
numbers_all sub above bound found those numbers count f h le = record {
  size = h.size;
  each = λ n x e. (let lt = at_short found.table.spots n x e in number_is sub above bound found those numbers count n f h (omega arith) lt x e);
}

-- where the next one stands within the greater bound
pub stands_there : (sub above : Machine_data) (bound greater : ℕ) (found those : Candidates) (numbers : List ℕ) (n : ℕ) → AreFoundCandidates sub above bound found → AreFoundCandidates sub above greater those
    → AreNumberedSoFar found.table.spots those.table.spots found.table.rows n numbers → n < length found.table.spots → at numbers n < length those.table.rows
stands_there sub above bound greater found those numbers n f g h lt =
    let x = at_within found.table.spots n lt in
    let k = at_short those.table.spots (at numbers n) x.0 (number_is sub above bound found those.table.spots numbers n n f h (omega arith) lt x.0 x.1) in
    let s = g.discovery.all in omega arith

pub beside : (sub above : Machine_data) (bound greater : ℕ) (found those : Candidates) (numbers : List ℕ) (n : ℕ) (row other : List ℕ) → AreFoundCandidates sub above bound found
    → AreNumberedSoFar found.table.spots those.table.spots found.table.rows n numbers → n < length found.table.spots
    → slice_get found.table.rows n ≡ Some row → slice_get those.table.rows (at numbers n) ≡ Some other → BesideEachOther sub above bound greater found those n numbers row other
beside sub above bound greater found those numbers n row other f h lt er eo =
    let x = at_within found.table.spots n lt in
    record { spot = x.0; here = x.1; there = number_is sub above bound found those.table.spots numbers n n f h (omega arith) lt x.0 x.1; row_is = er; beside_is = eo }

-- the row is no longer than the one beside it
pub row_fits : (sub above : Machine_data) (bound greater : ℕ) (found those : Candidates) (numbers : List ℕ) (n : ℕ) (row other : List ℕ) → bound ≤ greater → AreFoundCandidates sub above bound found
    → AreFoundCandidates sub above greater those → BesideEachOther sub above bound greater found those n numbers row other → length row ≤ length other
row_fits sub above bound greater found those numbers n row other le f g b =
    let here = f.discovery.names n b.spot row b.here b.row_is in
    let there = g.discovery.names (at numbers n) b.spot other b.there b.beside_is in
    elim (nexts_alike sub above bound greater le b.spot) [
      | inl e ↦ (let k = none_named found.table.spots row (subst (λ (z : List Spot). ArePlacesOf found.table.spots row z) e here) in let l : length row ≡ 0 = ap (λ (z : List ℕ). length z) k in omega arith)
      | inr e ↦ (let k = as_many found.table.spots row (nexts_within sub above greater b.spot) (subst (λ (z : List Spot). ArePlacesOf found.table.spots row z) e here) in
          let l = as_many those.table.spots other (nexts_within sub above greater b.spot) there in omega arith)
    ]

row_noted : (sub above : Machine_data) (bound greater : ℕ) (found those : Candidates) (numbers : List ℕ) (n : ℕ) (row other : List ℕ) → bound ≤ greater → AreFoundCandidates sub above bound found
    → AreFoundCandidates sub above greater those → length numbers ≡ length found.table.spots → BesideEachOther sub above bound greater found those n numbers row other
    → AreNoted found.table.spots those.table.spots row numbers (noted row other numbers)
row_noted sub above bound greater found those numbers n row other le f g size b =
    let here = f.discovery.names n b.spot row b.here b.row_is in
    let there = g.discovery.names (at numbers n) b.spot other b.there b.beside_is in
    elim (nexts_alike sub above bound greater le b.spot) [
      | inl e ↦ (let k = none_named found.table.spots row (subst (λ (z : List Spot). ArePlacesOf found.table.spots row z) e here) in
          subst (λ (z : List ℕ). AreNoted found.table.spots those.table.spots z numbers (noted z other numbers)) (sym k) (record { kept = λ i h. h; right = λ i h. absurd h }))
      | inr e ↦ noted_right found.table.spots those.table.spots row other numbers (nexts_within sub above greater b.spot) size
          (subst (λ (z : List Spot). ArePlacesOf found.table.spots row z) e here) there
    ]

pub so_far_on : (sub above : Machine_data) (bound greater : ℕ) (found those : Candidates) (numbers new : List ℕ) (n : ℕ) (row other : List ℕ) → bound ≤ greater → AreFoundCandidates sub above bound found
    → AreFoundCandidates sub above greater those → BesideEachOther sub above bound greater found those n numbers row other → new ≡ noted row other numbers
    → AreNumberedSoFar found.table.spots those.table.spots found.table.rows n numbers → AreNumberedSoFar found.table.spots those.table.spots found.table.rows (n + 1) new
so_far_on sub above bound greater found those numbers new n row other le f g b e h =
    let k = row_noted sub above bound greater found those numbers n row other le f g h.size b in
    rw e record {
      size = noted_size row other numbers ∙ h.size;
      first = k.kept 0 h.first;
      behind = λ j i lt m. elim (cases_lt j n) [
        | inl a ↦ k.kept i (h.behind j i a m)
        | inr a ↦ (let same : n ≡ j = omega arith in
            k.right i (subst (λ (z : List ℕ). Among z i) (got found.table.rows j row [] (subst (λ (z : ℕ). slice_get found.table.rows z ≡ Some row) same b.row_is)) m))
      ];
    }

-- what an index reads is the number there
pub index_is : (xs : List ℕ) (i r : ℕ) → i < length xs → r ≡ slice_index_or xs i r → r ≡ at xs i
index_is xs i r lt e = e ∙ get_or_default_zero xs i r lt

-- the numbers of a row lie within
among_at : (row : List ℕ) (k d : ℕ) → k < length row → Among row (get_or row k d)
among_at [] k d lt = (let bad : ⊥ = omega (arith, lt) in absurd bad)
among_at (n ∷ row) zero d lt = inl refl
among_at (n ∷ row) (suc k) d lt = inr (among_at row k d (omega (arith, lt)))

all_within : (row : List ℕ) (count : ℕ) → ((r : ℕ) → Among row r → r < count) → All (λ (n : ℕ). n < count) row
all_within row count h = λ k d lt. h (get_or row k d) (among_at row k d lt)

pub row_within : (sub above : Machine_data) (bound : ℕ) (found : Candidates) (n count : ℕ) (row : List ℕ) → AreFoundCandidates sub above bound found → slice_get found.table.rows n ≡ Some row
    → count ≡ length found.table.spots → All (λ (r : ℕ). r < count) row
row_within sub above bound found n count row f e size = all_within row count (λ r m.
    let k = rows_within (nexts_within sub above bound) (start_spot sub above) found.table.spots found.table.rows f.discovery n r
    (subst (λ (z : List ℕ). Among z r) (sym (got found.table.rows n row [] e)) m) in
    let s = f.discovery.all in omega arith)

-- what they flag

pub number_below : (spots those : List Spot) (numbers : List ℕ) (n : ℕ) → AreNumbersAmong spots those numbers → n < length numbers → at numbers n < length those
number_below spots those numbers n h lt =
    let x = at_within spots n (let s = h.size in omega arith) in at_short those (at numbers n) x.0 (h.each n x.0 x.1)

-- a bound that is greater helps where the spot dies within the one, and survives within the other
pub helped_flagged : (sub above : Machine_data) (bound greater : ℕ) (spots those : List Spot) (gone left flags : List Bool) (numbers : List ℕ) → AreNumbersAmong spots those numbers
    → AreFlagged (Dies sub above bound) spots gone → AreFlagged (Dies sub above greater) those left
    → ((n : ℕ) (x : Spot) → slice_get those n ≡ Some x → flag_at left n ≡ false → Survives sub above greater x)
    → AreFlags (λ (n : ℕ). is_on_alone gone left numbers n) (length numbers) flags → AreFlagged (IsHelped sub above bound greater) spots flags
helped_flagged sub above bound greater spots those gone left flags numbers h fg fl alive fs = record {
  size = fs.size ∙ h.size;
  yes = λ n x f e. (
      let k = and_parts (flag_at gone n) (not (flag_at left (at numbers n))) (sym (fs.each n (below n x f)) ∙ e) in
      record { dies = fg.yes n x f k.0; survives = alive (at numbers n) x (h.each n x f) (off (flag_at left (at numbers n)) k.1) });
  all = λ n x f k.
      fs.each n (below n x f) ∙ and_from (flag_at gone n) (not (flag_at left (at numbers n))) (fg.all n x f k.dies)
      (elim (bool_cases (flag_at left (at numbers n))) [
        | inl y ↦ absurd (fl.yes (at numbers n) x (h.each n x f) y k.survives)
        | inr o ↦ not_from_false (flag_at left (at numbers n)) o
      ]);
}
  where
    below : (n : ℕ) (x : Spot) → slice_get spots n ≡ Some x → n < length numbers
    below n x f = let k = at_short spots n x f in let s = h.size in omega arith

    off : (b : Bool) → not b ≡ true → b ≡ false
    off true e = absurd (false≢true e)
    off false e = refl

pub cut_helped : (sub above : Machine_data) (bound greater : ℕ) (spots : List Spot) (helped cuts flags : List Bool) → AreFlagged (IsHelped sub above bound greater) spots helped
    → AreFlagged (MeetsACut sub above bound) spots cuts → AreFlags (λ (n : ℕ). is_on_twice helped cuts n) (length helped) flags → AreFlagged (IsHelpedCut sub above bound greater) spots flags
cut_helped sub above bound greater spots helped cuts flags fh fc fs = record {
  size = fs.size ∙ fh.size;
  yes = λ n x f e. (let k = and_parts (flag_at helped n) (flag_at cuts n) (sym (fs.each n (below n x f)) ∙ e) in (fh.yes n x f k.0, fc.yes n x f k.1));
  all = λ n x f k. fs.each n (below n x f) ∙ and_from (flag_at helped n) (flag_at cuts n) (fh.all n x f k.0) (fc.all n x f k.1);
}
  where
    below : (n : ℕ) (x : Spot) → slice_get spots n ≡ Some x → n < length helped
    below n x f = let k = at_short spots n x f in let s = fh.size in omega arith
