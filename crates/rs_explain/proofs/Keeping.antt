-- The nodes of the canonical derivation as the code has them, and the edges that keep the oldest act that is owed.
use Rattle.std.proofs.Common.{◌≡◌, inl, inr, ℕ, ◌<◌, ◌≤◌, ◌+◌, zero, suc, Bool, true, false, List, [], ◌∷◌, ◌++◌, length, length-append, map, get_or, slice_get, Some, refl, sym, ap, subst, ◌∙◌, arith, if◌then◌else◌}
use Rattle.std.proofs.lemmas.Bool.{cases_lt, false≢true}
use Rattle.std.proofs.lemmas.List.{get_or_past, length-map}
use Rattle.std.proofs.lemmas.Option.{none-some, same_Some}
use Rattle.rs_model.specs.Data.{Machine_data}
use Rattle.rs_model.specs.declared.limits.TheConstants.{MOST_CANDIDATES}
use Rattle.rs_derive.proofs.Mapped.{map_at, map_of}
use Rattle.rs_derive.specs.Data.{DNode_data}
use Rattle.rs_derive.specs.Derivations.{IsProper, spot_of}
use Rattle.rs_derive.specs.Moves.{Spot, spot}
use Rattle.rs_graph.proofs.Buckets.{got}
use Rattle.rs_graph.proofs.Growth.{at_short, at_within, in_at, push_at, push_new}
use Rattle.rs_graph.proofs.Kept.{Pictures, earlier_dies}
use Rattle.rs_graph.specs.Built.{IsBuilt}
use Rattle.rs_graph.specs.Discovery.{IsDiscovery}
use Rattle.rs_graph.specs.Graphs.{Graph_data, moves_of}
use Rattle.rs_graph.specs.Lists.{Among, ArePlacesOf}
use Rattle.rs_graph.specs.Places.{next_of}
use Rattle.rs_graph.specs.Removal.{AreLeft, IsRemoval, at}
use Rattle.rs_graph.specs.Removal as removal
use Rattle.rs_search.proofs.Assembled.{Worked_out, all_within, canonical, kept_few, kept_within, next_few, nexts_few, same_kept, unranked, unranked_are}
use Rattle.rs_search.proofs.Choices.{moves_at}
use Rattle.rs_search.proofs.Chosen.{chosen}
use Rattle.rs_search.proofs.Determined.{one_choice}
use Rattle.rs_search.proofs.Verdicts.{dies, moves_few, pictures, to_stands}
use Rattle.rs_search.specs.Candidates.{start_spot}
use Rattle.rs_search.specs.Found.{AreFoundCandidates}
use Rattle.rs_search.specs.Nodes.{AreKept}
use Rattle.rs_search.specs.Survives.{IsChosen, Survives}
use Rattle.rs_search.specs.Turns.{is_any, is_keeping, nexts_within, turn_within}
use Rattle.rs_search.specs.declared.found.Candidates.{Candidates}
use Rattle.rs_explain.proofs.Existing.{place_named}
use Rattle.rs_explain.proofs.Nearest.{spot_named}
use Rattle.rs_explain.proofs.Forgetful.{keeps_oldest, oldest_kept}
use Rattle.rs_explain.specs.Forgetting.{IsKeepingStep}
use Rattle.rs_explain.specs.KeptNodes.{AreKeptNodes, ArePlaces, spots_at}

-- what the code has in hand
pub record InHand (sub above : Machine_data) (bound : ℕ) (found : List Spot) (items places : List ℕ) (kept : List (List ℕ)) : Type 0 where
  pub rows : List (List ℕ)
  pub graph : Graph_data
  pub current : List ℕ
  pub order : List ℕ
  pub nexts : List (List ℕ)
  pub proper : IsProper above
  pub discovery : IsDiscovery (nexts_within sub above bound) (start_spot sub above) found rows
  pub bounded : length found ≤ MOST_CANDIDATES
  pub built : IsBuilt (map (is_any sub above bound) found) rows (length rows) graph
  pub pictures : Pictures (moves_at sub above bound) found graph.outs
  pub left : IsRemoval graph.outs current order
  pub numbers : IsDiscovery (next_of graph.outs current) 0 items nexts
  pub no_more : length items ≤ length graph.outs
  pub stay : (i n : ℕ) → slice_get items i ≡ Some n → at current n < removal.moves_at graph.outs n
  pub kept_are : AreKept (map (is_keeping sub above bound) found) items nexts (length items) kept
  pub places_are : ArePlaces current items (length items) places
  pub short : (n : ℕ) → length (get_or rows n []) ≤ 65536

worked_out : (sub above : Machine_data) (bound : ℕ) (found : List Spot) (items places : List ℕ) (kept : List (List ℕ)) → InHand sub above bound found items places kept → Worked_out sub above bound
worked_out sub above bound found items places kept h = record {
  found = found;
  rows = h.rows;
  graph = h.graph;
  current = h.current;
  order = h.order;
  items = items;
  nexts = h.nexts;
  ranks = [];
  nodes = unranked found items h.nexts;
  proper = h.proper;
  discovery = h.discovery;
  bounded = h.bounded;
  pictures = h.pictures;
  left = h.left;
  numbers = h.numbers;
  stay = h.stay;
  made = unranked_are found items h.nexts h.numbers.all;
}

unranked_spots : (found : List Spot) (items : List ℕ) (nexts : List (List ℕ)) → length nexts ≡ length items → map (λ (n : DNode_data). spot_of n) (unranked found items nexts) ≡ spots_at found items
unranked_spots found [] nexts e = refl
unranked_spots found (n ∷ items) [] e = let bad : ⊥ = omega arith in absurd bad
unranked_spots found (n ∷ items) (row ∷ nexts) e = ap (λ (z : List Spot). get_or found n (spot 0 [] 0) ∷ z) (unranked_spots found items nexts (omega arith))

-- the spot of an item

pub spot_at : (found : List Spot) (items : List ℕ) (i n : ℕ) (x : Spot) → slice_get items i ≡ Some n → slice_get found n ≡ Some x → slice_get (spots_at found items) i ≡ Some x
spot_at found items i n x a b = map_at (λ (m : ℕ). get_or found m (spot 0 [] 0)) items i n a ∙ ap Some (got found n x (spot 0 [] 0) b)

items_in : (sub above : Machine_data) (bound : ℕ) (found : List Spot) (items places : List ℕ) (kept : List (List ℕ)) → InHand sub above bound found items places kept → (i n : ℕ) → slice_get items i ≡ Some n
    → n < length found
items_in sub above bound found items places kept h i n e = elim (cases_lt n (length h.graph.outs)) [
  | inl a ↦ (let s = h.pictures.size in omega arith)
  | inr a ↦ (let k = h.stay i n e in let z : removal.moves_at h.graph.outs n ≡ 0 = ap (λ (w : List (List ℕ)). length w) (get_or_past h.graph.outs n [] a) in let bad : ⊥ = omega arith in absurd bad)
]

-- a node: its candidate, its chosen move, and the rows
record Node (sub above : Machine_data) (bound : ℕ) (found : List Spot) (items places : List ℕ) (kept : List (List ℕ)) (h : InHand sub above bound found items places kept) (i : ℕ) (x : Spot) : Type 0 where
  pub number : ℕ
  pub item : slice_get items i ≡ Some number
  pub spot_is : slice_get found number ≡ Some x
  pub results : List Spot
  pub stands : slice_get (moves_at sub above bound x) (at h.current number) ≡ Some results
  pub chosen : IsChosen sub above bound x results
  pub names : ArePlacesOf found (next_of h.graph.outs h.current number) results
  pub row : List ℕ
  pub row_names : ArePlacesOf items row (next_of h.graph.outs h.current number)
  pub kept_is : get_or kept i [] ≡ (if is_keeping sub above bound x then row else [])
  pub place_is : at places i ≡ at h.current number

names_same : (found : List Spot) (ns : List ℕ) (rs ss : List Spot) → ArePlacesOf found ns rs → ArePlacesOf found ns ss → rs ≡ ss
names_same found [] [] [] a b = refl
names_same found [] [] (s ∷ ss) a b = absurd b
names_same found [] (r ∷ rs) ss a b = absurd a
names_same found (n ∷ ns) [] ss a b = absurd a
names_same found (n ∷ ns) (r ∷ rs) [] a b = absurd b
names_same found (n ∷ ns) (r ∷ rs) (s ∷ ss) a b = ap (λ (z : Spot). z ∷ rs) (same_Some r s (sym a.0 ∙ b.0)) ∙ ap (λ (z : List Spot). s ∷ z) (names_same found ns rs ss a.1 b.1)

node : (sub above : Machine_data) (bound : ℕ) (found : List Spot) (items places : List ℕ) (kept : List (List ℕ)) (h : InHand sub above bound found items places kept) (i : ℕ) (x : Spot)
    → slice_get (spots_at found items) i ≡ Some x → Node sub above bound found items places kept h i x
node sub above bound found items places kept h i x e =
    let n = map_of (λ (m : ℕ). get_or found m (spot 0 [] 0)) items i x e in
    let p = at_within found n.0 (items_in sub above bound found items places kept h i n.0 n.1) in
    let same : p.0 ≡ x = sym (got found n.0 p.0 (spot 0 [] 0) p.1) ∙ n.2 in
    let f : slice_get found n.0 ≡ Some x = p.1 ∙ ap Some same in
    let lt = at_short items i n.0 n.1 in
    let row = at_within h.nexts i (let a = h.numbers.all in omega arith) in
    let c = chosen sub above bound found h.rows h.graph h.current h.order h.discovery h.pictures h.left (λ peer arms t q. (h.proper.1.puts t peer arms q).once) n.0 x f (h.stay i n.0 n.1) in
    let m = at_within (moves_at sub above bound x) (at h.current n.0) (let k = h.pictures.count n.0 x f in let s = h.stay i n.0 n.1 in omega arith) in
    let rs : c.0 ≡ m.0 = names_same found (next_of h.graph.outs h.current n.0) c.0 m.0 c.2 (h.pictures.names n.0 (at h.current n.0) x m.0 f m.1) in
    record {
      number = n.0;
      item = n.1;
      spot_is = f;
      results = c.0;
      stands = m.1 ∙ ap Some (sym rs);
      chosen = c.1;
      names = c.2;
      row = row.0;
      row_names = h.numbers.names i n.0 row.0 n.1 row.1;
      kept_is = got kept i (if get_or (map (is_keeping sub above bound) found) n.0 false then row.0 else []) [] (h.kept_are.each i n.0 row.0 lt n.1 row.1)
          ∙ ap (λ (b : Bool). if b then row.0 else []) (got (map (is_keeping sub above bound) found) n.0 (is_keeping sub above bound x) false (map_at (is_keeping sub above bound) found n.0 x f));
      place_is = h.places_are.each i n.0 lt n.1;
    }

-- results of a move, and all to which the spot leads

move_at : (any : Bool) (spots : List Spot) (c k : ℕ) (rs : List Spot) (y : Spot) → slice_get (moves_of any spots) c ≡ Some rs → slice_get rs k ≡ Some y → slice_get spots (c + k) ≡ Some y
move_at true [] c k rs y e g = absurd (none-some rs e)
move_at true (s ∷ spots) zero zero rs y e g = subst (λ (z : List Spot). slice_get z 0 ≡ Some y) (sym (same_Some (s ∷ []) rs e)) g
move_at true (s ∷ spots) zero (suc k) rs y e g = absurd (none-some y (subst (λ (z : List Spot). slice_get z (suc k) ≡ Some y) (sym (same_Some (s ∷ []) rs e)) g))
move_at true (s ∷ spots) (suc c) k rs y e g = let a : suc c + k ≡ suc (c + k) = omega arith in rw a (move_at true spots c k rs y e g)
move_at false spots zero k rs y e g = let a : zero + k ≡ k = omega arith in rw a (subst (λ (z : List Spot). slice_get z k ≡ Some y) (sym (same_Some spots rs e)) g)
move_at false spots (suc c) k rs y e g = absurd (none-some rs e)

at_move : (any : Bool) (spots : List Spot) (c place : ℕ) (rs : List Spot) (y : Spot) → slice_get (moves_of any spots) c ≡ Some rs → slice_get spots place ≡ Some y → Among rs y
    → (any ≡ true → place < c → ⊥) → (k : ℕ) × (c + k ≤ place) × (slice_get rs k ≡ Some y)
at_move true spots c place rs y e g m early =
    let s = map_of (λ (x : Spot). x ∷ []) spots c rs e in
    (0, elim (cases_lt place c) [ inl lt ↦ absurd (early refl lt) | inr le ↦ omega arith ], single s.0 rs s.2 m)
  where
    single : (s : Spot) (rs : List Spot) → (s ∷ []) ≡ rs → Among rs y → slice_get rs 0 ≡ Some y
    single s rs q m = subst (λ (z : List Spot). slice_get z 0 ≡ Some y) q (elim (subst (λ (z : List Spot). Among z y) (sym q) m) [ inl h ↦ ap Some h | inr h ↦ absurd h ])
at_move false spots zero place rs y e g m early = (place, omega arith, subst (λ (z : List Spot). slice_get z place ≡ Some y) (same_Some spots rs e) g)
at_move false spots (suc c) place rs y e g m early = absurd (none-some rs e)

single_at : (any : Bool) (spots : List Spot) (place : ℕ) (y : Spot) → any ≡ true → slice_get spots place ≡ Some y → slice_get (moves_of any spots) place ≡ Some (y ∷ [])
single_at true spots place y e g = map_at (λ (x : Spot). x ∷ []) spots place y g
single_at false spots place y e g = absurd (false≢true e)

-- a row that is kept
kept_row : (b : Bool) (row : List ℕ) (k j : ℕ) → slice_get (if b then row else []) k ≡ Some j → (b ≡ true) × (slice_get row k ≡ Some j)
kept_row true row k j e = (refl, e)
kept_row false row k j e = absurd (none-some j e)

row_kept : (b : Bool) (row : List ℕ) (k j : ℕ) → b ≡ true → slice_get row k ≡ Some j → slice_get (if b then row else []) k ≡ Some j
row_kept true row k j e g = g
row_kept false row k j e g = absurd (false≢true e)

goes : (sub above : Machine_data) (bound : ℕ) (found : List Spot) (items places : List ℕ) (kept : List (List ℕ)) → InHand sub above bound found items places kept → (i k j : ℕ) (x y : Spot)
    → slice_get (spots_at found items) i ≡ Some x → slice_get (get_or kept i []) k ≡ Some j → slice_get (spots_at found items) j ≡ Some y → IsKeepingStep sub above bound x (at places i + k) y
goes sub above bound found items places kept h i k j x y ex ek ey =
    let n = node sub above bound found items places kept h i x ex in
    let r = kept_row (is_keeping sub above bound x) n.row k j (subst (λ (z : List ℕ). slice_get z k ≡ Some j) n.kept_is ek) in
    let m = place_named items n.row (next_of h.graph.outs h.current n.number) k j n.row_names r.1 in
    let q = place_named found (next_of h.graph.outs h.current n.number) n.results k m.0 n.names m.1 in
    let same : q.0 ≡ y = same_Some q.0 y (sym (spot_at found items j m.0 q.0 m.2 q.2) ∙ ey) in
    let at_k : slice_get n.results k ≡ Some y = q.1 ∙ ap Some same in
    record {
      leads = subst (λ (z : ℕ). slice_get (nexts_within sub above bound x) (z + k) ≡ Some y) (sym n.place_is)
          (move_at (turn_within sub above bound x).any (turn_within sub above bound x).spots (at h.current n.number) k n.results y n.stands at_k);
      keeps = keeps_oldest sub above bound x n.results y n.chosen (in_at n.results k y at_k) r.0;
    }

named : (sub above : Machine_data) (bound : ℕ) (found : List Spot) (items places : List ℕ) (kept : List (List ℕ)) → InHand sub above bound found items places kept → (i place : ℕ) (x y : Spot)
    → slice_get (spots_at found items) i ≡ Some x → IsKeepingStep sub above bound x place y
    → (k j : ℕ) × (at places i + k ≤ place) × (slice_get (get_or kept i []) k ≡ Some j) × (slice_get (spots_at found items) j ≡ Some y)
named sub above bound found items places kept h i place x y ex g =
    let n = node sub above bound found items places kept h i x ex in
    let m : Among n.results y = subst (λ (z : List Spot). Among z y) (one_choice sub above bound x g.keeps.results n.results g.keeps.chosen n.chosen) g.keeps.among in
    let k = at_move (turn_within sub above bound x).any (turn_within sub above bound x).spots (at h.current n.number) place n.results y n.stands g.leads m
    (λ any lt. (
    let e = single_at (turn_within sub above bound x).any (turn_within sub above bound x).spots place y any g.leads in
    let dead = earlier_dies (moves_at sub above bound) found h.graph.outs h.current h.order h.pictures h.left n.number place x (y ∷ []) n.spot_is e lt in
    let sv = n.chosen.survive y m in
    dead.2 sv.set (to_stands sub above bound sv.set sv.stand) (subst (λ (z : Spot). Among sv.set z) (only y dead.0 dead.1) sv.among))) in
    let q = spot_named found (next_of h.graph.outs h.current n.number) n.results k.0 y n.names k.2 in
    let j = spot_named items n.row (next_of h.graph.outs h.current n.number) k.0 q.0 n.row_names q.1 in (
      k.0,
      j.0,
      (let a = k.1 in let b = n.place_is in omega arith),
      subst (λ (z : List ℕ). slice_get z k.0 ≡ Some j.0) (sym n.kept_is) (row_kept (is_keeping sub above bound x) n.row k.0 j.0 (oldest_kept sub above bound x y g.keeps) j.1),
      spot_at found items j.0 q.0 y j.2 q.2,
    )
  where
    only : (a b : Spot) → Among (a ∷ []) b → a ≡ b
    only a b (inl e) = e
    only a b (inr e) = absurd e

pub kept_nodes : (sub above : Machine_data) (bound : ℕ) (found : List Spot) (items places : List ℕ) (kept : List (List ℕ)) → InHand sub above bound found items places kept
    → AreKeptNodes sub above bound found items places kept
unfolding worked_out
kept_nodes sub above bound found items places kept h = record {
  derivation = record { role = sub.role; bound = bound; nodes = unranked found items h.nexts };
  canonical = canonical sub above bound (worked_out sub above bound found items places kept h);
  same = unranked_spots found items h.nexts h.numbers.all;
  numbers = record {
    items_within = items_in sub above bound found items places kept h;
    places_size = h.places_are.size;
    rows_size = h.kept_are.size;
    few = (let a = h.no_more in let b = h.pictures.size in let c = h.bounded in omega arith);
    within = λ i j m. (let k = kept_within (next_of h.graph.outs h.current) (map (is_keeping sub above bound) found) items h.nexts kept h.numbers h.kept_are i j m in
        let s = h.kept_are.size in omega arith);
    short = λ i. kept_few (map (is_keeping sub above bound) found) items h.nexts kept 65537 h.kept_are h.numbers.all
        (λ n. nexts_few (map (is_any sub above bound) found) h.rows h.graph h.current items h.nexts 65536 h.built h.short h.numbers n) i;
    low = low;
  };
  goes = goes sub above bound found items places kept h;
  named = named sub above bound found items places kept h;
}
  where
    low : (i : ℕ) → at places i ≤ 65537
    low i = elim (cases_lt i (length items)) [
      | inl lt ↦ (let n = at_within items i lt in
          let p = h.places_are.each i n.0 lt n.1 in
          let w = h.left.within n.0 in
          let f = moves_few (map (is_any sub above bound) found) h.rows h.graph 65538 h.built (omega arith) (λ m. let k = h.short m in omega arith) n.0 in omega arith)
      | inr le ↦ (let z : at places i ≡ 0 = get_or_past places i 0 (let s = h.places_are.size in omega arith) in omega arith)
    ]

-- places, one by one

pub places_none : (current items places : List ℕ) → places ≡ [] → ArePlaces current items 0 places
places_none current items places e = rw e record { size = refl; each = λ i n lt. (let bad : ⊥ = omega arith in absurd bad) }

pub places_on : (current items : List ℕ) (count n : ℕ) (places places' : List ℕ) → ArePlaces current items count places → slice_get items count ≡ Some n → places' ≡ places ++ at current n ∷ []
    → ArePlaces current items (count + 1) places'
places_on current items count n places places' h en e = rw e record {
  size = (let l = length-append places (at current n ∷ []) in let s = h.size in omega arith);
  each = λ i m lt g. elim (cases_lt i count) [
    | inl a ↦ (let k = at_within places i (let s = h.size in omega arith) in
        got (places ++ at current n ∷ []) i k.0 0 (push_at places (at current n) i k.0 k.1) ∙ sym (got places i k.0 0 k.1) ∙ h.each i m a g)
    | inr a ↦ (let same : count ≡ i = omega arith in
        let same_n : n ≡ m = same_Some n m (sym en ∙ ap (λ (z : ℕ). slice_get items z) same ∙ g) in
        got (places ++ at current n ∷ []) i (at current n) 0 (subst (λ (z : ℕ). slice_get (places ++ at current n ∷ []) z ≡ Some (at current n)) (h.size ∙ same) (push_new places (at current n)))
        ∙ ap (λ (z : ℕ). at current z) same_n)
  ];
}

-- what the code has in hand, step by step

pub record Started (sub above : Machine_data) (bound : ℕ) (found : Candidates) (g : Graph_data) (current order : List ℕ) : Type 0 where
  pub found_is : AreFoundCandidates sub above bound found
  pub built : IsBuilt found.anys.items found.table.rows (length found.table.rows) g
  pub left : IsRemoval g.outs current order

pub started : (sub above : Machine_data) (bound : ℕ) (found : Candidates) (anys : List Bool) (rows : List (List ℕ)) (g : Graph_data) (current current' order : List ℕ)
    → AreFoundCandidates sub above bound found → anys ≡ found.anys.items → rows ≡ found.table.rows → current ≡ current' → IsBuilt anys rows (length rows) g → IsRemoval g.outs current' order
    → Started sub above bound found g current order
started sub above bound found anys rows g current current' order f ea er ec b rem = record {
  found_is = f;
  built = subst (λ (z : List (List ℕ)). IsBuilt found.anys.items z (length z) g) er (subst (λ (z : List Bool). IsBuilt z rows (length rows) g) ea b);
  left = subst (λ (z : List ℕ). IsRemoval g.outs z order) (sym ec) rem;
}

pub start_left : (sub above : Machine_data) (bound : ℕ) (found : Candidates) (g : Graph_data) (current order : List ℕ) → Started sub above bound found g current order
    → Survives sub above bound (start_spot sub above) → AreLeft g.outs current
start_left sub above bound found g current order s sv =
    let pic = pictures sub above bound found.table.spots found.table.rows found.anys.items g s.found_is.discovery s.found_is.noted.anys s.built in
    record {
      size = s.left.size;
      start = elim (cases_lt (at current 0) (removal.moves_at g.outs 0)) [
        | inl lt ↦ lt
        | inr le ↦ absurd (dies sub above bound found.table.spots g current order pic s.left 0 (start_spot sub above) s.found_is.discovery.first le sv)
      ];
      closed = s.left.stays;
    }

pub nexts_short : (sub above : Machine_data) (bound : ℕ) (found : Candidates) (g : Graph_data) (current order : List ℕ) → Started sub above bound found g current order
    → (n : ℕ) → length (next_of g.outs current n) < 4294967296
nexts_short sub above bound found g current order s n =
    let k = next_few found.anys.items found.table.rows g current 65536 s.built s.found_is.noted.short n in omega arith

pub numbers_within : (sub above : Machine_data) (bound : ℕ) (found : Candidates) (g : Graph_data) (current order items items' : List ℕ) → Started sub above bound found g current order
    → ((i n : ℕ) → slice_get items i ≡ Some n → at current n < removal.moves_at g.outs n) → items' ≡ items → (n : ℕ) → Among items' n → n < length found.table.spots
numbers_within sub above bound found g current order items items' s stay e =
    all_within sub above bound found.table.spots g current items items'
    (pictures sub above bound found.table.spots found.table.rows found.anys.items g s.found_is.discovery s.found_is.noted.anys s.built) stay e

pub places_short : (sub above : Machine_data) (bound : ℕ) (found : Candidates) (g : Graph_data) (current order items items' : List ℕ) → Started sub above bound found g current order
    → ((i n : ℕ) → slice_get items i ≡ Some n → at current n < removal.moves_at g.outs n) → items' ≡ items → (n : ℕ) → Among items' n → n < length current
places_short sub above bound found g current order items items' s stay e n m =
    let w = numbers_within sub above bound found g current order items items' s stay e n m in
    let a = s.left.size in let b = s.built.size in let d = s.found_is.discovery.all in omega arith

pub keeps_short : (sub above : Machine_data) (bound : ℕ) (found : Candidates) (keeps : List Bool) (g : Graph_data) (current order items items' : List ℕ) → Started sub above bound found g current order
    → ((i n : ℕ) → slice_get items i ≡ Some n → at current n < removal.moves_at g.outs n) → items' ≡ items → keeps ≡ found.keeps.items → (n : ℕ) → Among items' n → n < length keeps
keeps_short sub above bound found keeps g current order items items' s stay e ek n m =
    let w = numbers_within sub above bound found g current order items items' s stay e n m in
    let l : length keeps ≡ length found.table.spots
    = ap (λ (z : List Bool). length z) (ek ∙ s.found_is.noted.keeps) ∙ length-map found.table.spots (is_keeping sub above bound) in omega arith

pub kept_are : (sub above : Machine_data) (bound : ℕ) (found : Candidates) (keeps : List Bool) (g : Graph_data) (current order items items' places : List ℕ) (nexts nexts' kept : List (List ℕ))
    → Started sub above bound found g current order → IsProper above → length found.table.spots ≤ MOST_CANDIDATES → IsDiscovery (next_of g.outs current) 0 items nexts → length items ≤ length g.outs
    → ((i n : ℕ) → slice_get items i ≡ Some n → at current n < removal.moves_at g.outs n) → items' ≡ items → nexts' ≡ nexts → keeps ≡ found.keeps.items
    → ArePlaces current items' (length items') places → AreKept keeps items' nexts' (length items') kept → AreKeptNodes sub above bound found.table.spots items places kept
kept_are sub above bound found keeps g current order items items' places nexts nexts' kept s wa few d most stay ei en ek p k =
    kept_nodes sub above bound found.table.spots items places kept record {
      rows = found.table.rows;
      graph = g;
      current = current;
      order = order;
      nexts = nexts;
      proper = wa;
      discovery = s.found_is.discovery;
      bounded = few;
      built = subst (λ (z : List Bool). IsBuilt z found.table.rows (length found.table.rows) g) s.found_is.noted.anys s.built;
      pictures = pictures sub above bound found.table.spots found.table.rows found.anys.items g s.found_is.discovery s.found_is.noted.anys s.built;
      left = s.left;
      numbers = d;
      no_more = most;
      stay = stay;
      kept_are = same_kept (map (is_keeping sub above bound) found.table.spots) keeps items items' nexts nexts' kept (ek ∙ s.found_is.noted.keeps) ei en k;
      places_are = subst (λ (z : List ℕ). ArePlaces current z (length z) places) ei p;
      short = s.found_is.noted.short;
    }
