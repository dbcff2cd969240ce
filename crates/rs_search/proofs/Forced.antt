-- Where no candidate has a choice, what is discovered is the canonical derivation as it stands.
use Rattle.std.proofs.Common.{◌≡◌, inl, inr, ℕ, ◌<◌, ◌≤◌, Bool, true, false, List, [], ◌∷◌, length, get_or, map, refl, sym, ap, ◌∙◌, subst, arith, Some, slice_get, replicate}
use Rattle.std.proofs.lemmas.List.{length-replicate}
use Rattle.std.proofs.lemmas.Option.{none-some, same_Some}
use Rattle.rs_model.proofs.Lists.{zero_at}
use Rattle.rs_model.specs.declared.limits.TheConstants.{MOST_CANDIDATES}
use Rattle.rs_model.specs.Data.{Machine_data}
use Rattle.rs_derive.specs.Data.{DNode_data}
use Rattle.rs_derive.specs.Derivations.{IsProper}
use Rattle.rs_derive.specs.Moves.{Spot}
use Rattle.rs_graph.proofs.Growth.{all_found, at_in, at_short, at_within}
use Rattle.rs_graph.proofs.Kept.{names_at}
use Rattle.rs_graph.specs.Discovery.{IsDiscovery, Reached, Begin, Step}
use Rattle.rs_graph.specs.Order.{Worked}
use Rattle.rs_graph.specs.Graphs.{moves_of}
use Rattle.rs_graph.specs.Lists.{Among, ArePlacesOf}
use Rattle.rs_graph.specs.Places.{next_of}
use Rattle.rs_graph.specs.Ranks.{Edge}
use Rattle.rs_graph.specs.Removal.{IsRemoval, at, moves_at}
use Rattle.rs_graph.specs.Walks.{IsRank}
use Rattle.rs_search.proofs.Assembled.{is_found}
use Rattle.rs_search.proofs.Deciding.{graph_outs, graph_pictures, graph_within, outs_at, row_at}
use Rattle.rs_search.proofs.Places.{place_at, place_is, places_length}
use Rattle.rs_search.proofs.Verdicts.{names_length, rows_within}
use Rattle.rs_graph.proofs.Buckets.{got}
use Rattle.rs_search.specs.Candidates.{start_spot}
use Rattle.rs_search.specs.Canonical.{IsCanonical}
use Rattle.rs_search.specs.Nodes.{AreKept, AreNodes, places_of}
use Rattle.rs_search.specs.Turns.{is_any, is_keeping, nexts_within}

-- no spot may choose among several
pub record IsForced (sub above : Machine_data) (bound : ℕ) (found : List Spot) (rows : List (List ℕ)) : Type 0 where
  pub proper : IsProper above
  pub discovery : IsDiscovery (nexts_within sub above bound) (start_spot sub above) found rows
  pub bounded : length found ≤ MOST_CANDIDATES
  pub forced : (n : ℕ) (x : Spot) → slice_get found n ≡ Some x → is_any sub above bound x ≡ true → length (nexts_within sub above bound x) ≡ 1

first_move : (any : Bool) (row : List ℕ) → (any ≡ true → length row ≡ 1) → (0 < length (moves_of any row)) × (get_or (moves_of any row) 0 [] ≡ row)
first_move false row h = ((let one : length (moves_of false row) ≡ 1 = refl in omega arith), refl)
first_move true [] h = let l = h refl in let bad : ⊥ = omega arith in absurd bad
first_move true (n ∷ []) h = ((let one : length (moves_of true (n ∷ [])) ≡ 1 = refl in omega arith), refl)
first_move true (n ∷ m ∷ row) h = let l = h refl in let bad : ⊥ = omega arith in absurd bad

-- each node stands at its first move
abbrev pub firsts_of : List Spot → List ℕ
firsts_of found = replicate (length found) 0

first_at : (found : List Spot) (n : ℕ) → at (firsts_of found) n ≡ 0
first_at found n = zero_at (length found) n

-- the first move of a node, which leads to all of its row
pub record FirstMove (sub above : Machine_data) (bound : ℕ) (found : List Spot) (rows : List (List ℕ)) (n : ℕ) : Type 0 where
  pub point : Spot
  pub at_place : slice_get found n ≡ Some point
  pub row : List ℕ
  pub is_row : slice_get rows n ≡ Some row
  pub some : at (firsts_of found) n < moves_at (graph_outs sub above bound found rows) n
  pub next : next_of (graph_outs sub above bound found rows) (firsts_of found) n ≡ row

moves_first : (sub above : Machine_data) (bound : ℕ) (found : List Spot) (rows : List (List ℕ)) → IsForced sub above bound found rows → (n : ℕ) → n < length found
    → FirstMove sub above bound found rows n
moves_first sub above bound found rows f n h =
    let x = at_within found n h in
    let row = row_at sub above bound found rows f.discovery n x.0 x.1 in
    let l = names_length found row.0 (nexts_within sub above bound x.0) (f.discovery.names n x.0 row.0 x.1 row.1) in
    let m = first_move (is_any sub above bound x.0) row.0 (λ e. l ∙ f.forced n x.0 x.1 e) in
    let o : get_or (graph_outs sub above bound found rows) n [] ≡ moves_of (is_any sub above bound x.0) row.0 = outs_at (is_any sub above bound) found rows n x.0 row.0 x.1 row.1 in
    let z = first_at found n in
    let c : moves_at (graph_outs sub above bound found rows) n ≡ length (moves_of (is_any sub above bound x.0) row.0) = ap (λ (w : List (List ℕ)). length w) o in
    let s = m.0 in record {
      point = x.0;
      at_place = x.1;
      row = row.0;
      is_row = row.1;
      some = omega arith;
      next = ap (λ (w : ℕ). get_or (get_or (graph_outs sub above bound found rows) n []) w []) z ∙ ap (λ (w : List (List ℕ)). get_or w 0 []) o ∙ m.1;
    }

forced_size : (sub above : Machine_data) (bound : ℕ) (found : List Spot) (rows : List (List ℕ)) → IsForced sub above bound found rows → length (graph_outs sub above bound found rows) ≡ length found
forced_size sub above bound found rows f = (graph_pictures sub above bound found rows f.discovery).size

-- no node is removed
forced_left : (sub above : Machine_data) (bound : ℕ) (found : List Spot) (rows : List (List ℕ)) → IsForced sub above bound found rows
    → IsRemoval (graph_outs sub above bound found rows) (firsts_of found) []
forced_left sub above bound found rows f = record {
  size = length-replicate (length found) 0 ∙ sym (forced_size sub above bound found rows f);
  within = λ n. (let z = first_at found n in omega arith);
  stays = λ n r lt leads. (moves_first sub above bound found rows f r
      (let w = graph_within sub above bound found rows f.discovery n (at (firsts_of found) n) r leads in let s = forced_size sub above bound found rows f in omega arith)).some;
  passed = λ n place lt. (let z = first_at found n in let bad : ⊥ = omega arith in absurd bad);
  gone = λ i n e. absurd (none-some n e);
  ordered = λ i n place e lt. absurd (none-some n e);
  listed = λ n lt e. (let m = (moves_first sub above bound found rows f n (let s = forced_size sub above bound found rows f in omega arith)).some in let bad : ⊥ = omega arith in absurd bad);
  once = λ i j x a b. absurd (none-some x a);
}

names_itself : (found : List Spot) (row : List ℕ) → ((r : ℕ) → Among row r → r < length found) → ArePlacesOf (places_of 0 found) row row
names_itself found [] h = tt
names_itself found (n ∷ row) h = (place_at found n (h n (inl refl)), names_itself found row (λ r m. h r (inr m)))

reached_by_number : (sub above : Machine_data) (bound : ℕ) (found : List Spot) (rows : List (List ℕ)) → IsForced sub above bound found rows
    → (x : Spot) → Reached (nexts_within sub above bound) (start_spot sub above) x → (n : ℕ) → slice_get found n ≡ Some x
    → Reached (next_of (graph_outs sub above bound found rows) (firsts_of found)) 0 n
reached_by_number sub above bound found rows f _ Begin n e =
    let q = f.discovery.once 0 n (start_spot sub above) f.discovery.first e in subst (λ (z : ℕ). Reached (next_of (graph_outs sub above bound found rows) (firsts_of found)) 0 z) q Begin
reached_by_number sub above bound found rows f _ (Step a y r m) n e =
    let k = at_in found a (all_found (nexts_within sub above bound) (start_spot sub above) found rows f.discovery a r) in
    let w = moves_first sub above bound found rows f k.0 (at_short found k.0 a k.1) in
    let p : w.point ≡ a = same_Some w.point a (sym w.at_place ∙ k.1) in
    let j = names_at found w.row (nexts_within sub above bound a) (f.discovery.names k.0 a w.row k.1 w.is_row) y m in
    let q : j.0 ≡ n = f.discovery.once j.0 n y j.1 e in
    Step k.0 n (reached_by_number sub above bound found rows f a r k.0 k.1)
    (subst (λ (z : List ℕ). Among z n) (sym w.next) (subst (λ (z : ℕ). Among w.row z) q j.2))

forced_numbers : (sub above : Machine_data) (bound : ℕ) (found : List Spot) (rows : List (List ℕ)) → IsForced sub above bound found rows
    → IsDiscovery (next_of (graph_outs sub above bound found rows) (firsts_of found)) 0 (places_of 0 found) rows
forced_numbers sub above bound found rows f = record {
  first = place_at found 0 (at_short found 0 (start_spot sub above) f.discovery.first);
  once = λ i j x a b. (place_is found i x a).0 ∙ sym (place_is found j x b).0;
  all = f.discovery.all ∙ sym (places_length 0 found);
  names = λ k x row a b. (let i = place_is found k x a in
      let w = moves_first sub above bound found rows f k i.1 in
      let r : w.row ≡ row = same_Some w.row row (sym w.is_row ∙ b) in
      let nx : next_of (graph_outs sub above bound found rows) (firsts_of found) x ≡ row = ap (λ (z : ℕ). next_of (graph_outs sub above bound found rows) (firsts_of found) z) (sym i.0) ∙ w.next ∙ r in
      subst (λ (z : List ℕ). ArePlacesOf (places_of 0 found) row z) (sym nx)
      (names_itself found row (λ j m. (let g = rows_within (nexts_within sub above bound) (start_spot sub above) found rows f.discovery k j
      (subst (λ (z : List ℕ). Among z j) (sym (got rows k row [] b)) m) in let l = f.discovery.all in omega arith))));
  reached = λ n x e. (let i = place_is found n x e in let p = at_within found n i.1 in
      subst (λ (z : ℕ). Reached (next_of (graph_outs sub above bound found rows) (firsts_of found)) 0 z) i.0
      (reached_by_number sub above bound found rows f p.0 (f.discovery.reached n p.0 p.1) n p.1));
  order = subst (λ (z : ℕ). Worked 0 1 rows z) (sym (places_length 0 found)) f.discovery.order;
}

-- the answer where no spot has a choice
pub forced_found : (sub above : Machine_data) (bound : ℕ) (found : List Spot) (rows : List (List ℕ)) (ranks : List ℕ) (nodes : List DNode_data) (kept : List (List ℕ))
    → IsForced sub above bound found rows
    → AreNodes found (places_of 0 found) rows ranks (length (places_of 0 found)) nodes → AreKept (map (is_keeping sub above bound) found) (places_of 0 found) rows (length (places_of 0 found)) kept
    → ((i : ℕ) → IsRank (Edge kept) i (get_or ranks i 0)) → IsCanonical sub above bound (record { role = sub.role; bound = bound; nodes = nodes })
forced_found sub above bound found rows ranks nodes kept f made are fit = is_found sub above bound (record {
  found = found;
  rows = rows;
  graph = record { outs = graph_outs sub above bound found rows; intos = [] };
  current = firsts_of found;
  order = [];
  items = places_of 0 found;
  nexts = rows;
  ranks = ranks;
  nodes = nodes;
  proper = f.proper;
  discovery = f.discovery;
  bounded = f.bounded;
  pictures = graph_pictures sub above bound found rows f.discovery;
  left = forced_left sub above bound found rows f;
  numbers = forced_numbers sub above bound found rows f;
  stay = λ i n e. (let p = place_is found i n e in
      subst (λ (z : ℕ). at (firsts_of found) z < moves_at (graph_outs sub above bound found rows) z) p.0 (moves_first sub above bound found rows f i p.1).some);
  made = made;
}) kept are fit
