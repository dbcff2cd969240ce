-- The canonical derivation from the candidates, what is left of them, and the numbers of what the chosen moves reach.
use Rattle.std.proofs.Common.{◌≡◌, inl, inr, ℕ, ◌<◌, ◌≤◌, ◌+◌, Bool, true, false, List, [], ◌∷◌, length, get_or, map, refl, sym, ap, ◌∙◌, subst, arith, zero, suc, Some, Option, slice_get}
use Rattle.std.proofs.Common.{if◌then◌else◌}
use Rattle.std.proofs.lemmas.Bool.{cases_lt, false≢true}
use Rattle.std.proofs.lemmas.List.{length-map, get_or_past}
use Rattle.std.proofs.lemmas.Option.{none-some, same_Some}
use Rattle.rs_model.specs.declared.limits.TheConstants.{MOST_CANDIDATES}
use Rattle.rs_model.specs.Data.{Machine_data}
use Rattle.rs_derive.proofs.Mapped.{map_at, map_of}
use Rattle.rs_derive.proofs.Rows.{complete}
use Rattle.rs_derive.specs.Data.{DNode_data}
use Rattle.rs_derive.specs.Derivations.{IsProper, KeepsItsHead, spot_of}
use Rattle.rs_derive.specs.Due.{Due}
use Rattle.rs_derive.specs.Moves.{HasMove, Spot, spot}
use Rattle.rs_graph.proofs.Buckets.{got}
use Rattle.rs_graph.proofs.Growth.{at_in, at_short, at_within, not_both}
use Rattle.rs_graph.proofs.Kept.{Pictures}
use Rattle.rs_graph.specs.Discovery.{IsDiscovery}
use Rattle.rs_graph.specs.Order.{Worked}
use Rattle.rs_graph.specs.Built.{IsBuilt}
use Rattle.rs_graph.specs.Graphs.{Graph_data, moves_of}
use Rattle.rs_graph.specs.Lists.{Among, ArePlacesOf, concat}
use Rattle.rs_graph.specs.Places.{next_of}
use Rattle.rs_graph.specs.Ranks.{Edge}
use Rattle.rs_graph.specs.Removal.{IsRemoval, at}
use Rattle.rs_graph.specs.Removal as removal
use Rattle.rs_graph.specs.Walks.{Walk, Here, Further, IsLeastOnCycle, IsRank}
use Rattle.rs_search.proofs.Choices.{bool_cases, from_move, moves_at}
use Rattle.rs_search.proofs.Chosen.{chosen}
use Rattle.rs_search.proofs.Verdicts.{less_than, names_length, rows_within}
use Rattle.rs_search.specs.Candidates.{AreMoreThan, MoveWithin, start_spot}
use Rattle.rs_search.specs.Canonical.{FollowsTheChoice, HasCanonicalNodes, IsForgets, IsCanonical, KeepsHead}
use Rattle.rs_search.specs.Nodes.{AreKept, AreNodes, node_at_spot}
use Rattle.rs_search.specs.Survives.{IsChosen}
use Rattle.rs_search.specs.Turns.{turn_with_cut, is_keeping, nexts_within, no_turn, owes_more, turn_of}

-- whether edges keep the oldest act that is owed

pub keeping_is : (sub above : Machine_data) (bound : ℕ) (p : Spot) (rs rs' : List Spot) (makes : Option ℕ) → MoveWithin sub above bound p rs → HasMove sub above p makes rs'
    → KeepsItsHead p.pending makes
    → is_keeping sub above bound p ≡ true
keeping_is sub above bound p rs rs' makes within move keeps =
    let t = complete sub above p makes rs' move in
    let m : Among (moves_of (turn_with_cut bound (turn_of (Some t.d))).any (turn_with_cut bound (turn_of (Some t.d))).spots) rs =
    subst (λ (o : Option Due). Among (moves_of (turn_with_cut bound (turn_of o)).any (turn_with_cut bound (turn_of o)).spots) rs) t.due_is (from_move sub above bound p rs within) in
    subst (λ (o : Option Due). (turn_with_cut bound (turn_of o)).keeps ≡ true) (sym t.due_is) (elim (bool_cases (owes_more bound (concat t.d.nexts))) [
      | inl y ↦ absurd (subst (λ (b : Bool). Among (moves_of (if b then no_turn true else turn_of (Some t.d)).any (if b then no_turn true else turn_of (Some t.d)).spots) rs) y m)
      | inr n ↦ subst (λ (b : Bool). (if b then no_turn true else turn_of (Some t.d)).keeps ≡ true) (sym n) (t.agrees.to keeps)
    ])

pub is_kept : (sub above : Machine_data) (bound : ℕ) (p : Spot) (rs : List Spot) (makes : Option ℕ) → HasMove sub above p makes rs → is_keeping sub above bound p ≡ true → KeepsItsHead p.pending makes
is_kept sub above bound p rs makes move e =
    let t = complete sub above p makes rs move in
    let k : (turn_with_cut bound (turn_of (Some t.d))).keeps ≡ true = subst (λ (o : Option Due). (turn_with_cut bound (turn_of o)).keeps ≡ true) t.due_is e in
    t.agrees.from (elim (bool_cases (owes_more bound (concat t.d.nexts))) [
      | inl y ↦ absurd (false≢true (subst (λ (b : Bool). (if b then no_turn true else turn_of (Some t.d)).keeps ≡ true) y k))
      | inr n ↦ subst (λ (b : Bool). (if b then no_turn true else turn_of (Some t.d)).keeps ≡ true) n k
    ])

-- what the search has in hand before it answers

pub record Worked_out (sub above : Machine_data) (bound : ℕ) : Type 0 where
  pub found : List Spot
  pub rows : List (List ℕ)
  pub graph : Graph_data
  pub current : List ℕ
  pub order : List ℕ
  pub items : List ℕ
  pub nexts : List (List ℕ)
  pub ranks : List ℕ
  pub nodes : List DNode_data
  pub proper : IsProper above
  pub discovery : IsDiscovery (nexts_within sub above bound) (start_spot sub above) found rows
  pub bounded : length found ≤ MOST_CANDIDATES
  pub pictures : Pictures (moves_at sub above bound) found graph.outs
  pub left : IsRemoval graph.outs current order
  pub numbers : IsDiscovery (next_of graph.outs current) 0 items nexts
  pub stay : (i n : ℕ) → slice_get items i ≡ Some n → at current n < removal.moves_at graph.outs n
  pub made : AreNodes found items nexts ranks (length items) nodes

-- a node's number among the candidates, its spot and its nexts
pub record Item (found : List Spot) (items : List ℕ) (nexts : List (List ℕ)) (i : ℕ) : Type 0 where
  pub number : ℕ
  pub stands : slice_get items i ≡ Some number
  pub point : Spot
  pub at_number : slice_get found number ≡ Some point
  pub row : List ℕ
  pub is_row : slice_get nexts i ≡ Some row

stays_in : (outs : List (List (List ℕ))) (current : List ℕ) (n : ℕ) → at current n < removal.moves_at outs n → n < length outs
stays_in outs current n h = elim (cases_lt n (length outs)) [
  | inl a ↦ a
  | inr a ↦ (let z : removal.moves_at outs n ≡ 0 = ap (λ (w : List (List ℕ)). length w) (get_or_past outs n [] a) in let bad : ⊥ = omega arith in absurd bad)
]

pub items_within : (sub above : Machine_data) (bound : ℕ) (found : List Spot) (g : Graph_data) (current items : List ℕ) → Pictures (moves_at sub above bound) found g.outs
    → ((i n : ℕ) → slice_get items i ≡ Some n → at current n < removal.moves_at g.outs n) → (i n : ℕ) → slice_get items i ≡ Some n → n < length found
items_within sub above bound found g current items pic stay i n e = let s = stays_in g.outs current n (stay i n e) in let z = pic.size in omega arith

item : (sub above : Machine_data) (bound : ℕ) (w : Worked_out sub above bound) (i : ℕ) → i < length w.items → Item w.found w.items w.nexts i
item sub above bound w i h =
    let a = at_within w.items i h in
    let p = at_within w.found a.0 (items_within sub above bound w.found w.graph w.current w.items w.pictures w.stay i a.0 a.1) in
    let r = at_within w.nexts i (let e = w.numbers.all in omega arith) in
    record { number = a.0; stands = a.1; point = p.0; at_number = p.1; row = r.0; is_row = r.1 }

same_lists : {X : Type 0} (xs ys : List X) → length xs ≡ length ys → ((i : ℕ) (x : X) → slice_get xs i ≡ Some x → slice_get ys i ≡ Some x) → xs ≡ ys
same_lists [] [] l h = refl
same_lists [] (y ∷ ys) l h = (let bad : ⊥ = omega arith in absurd bad)
same_lists (x ∷ xs) [] l h = (let bad : ⊥ = omega arith in absurd bad)
same_lists (x ∷ xs) (y ∷ ys) l h =
    let e : y ≡ x = same_Some y x (h zero x refl) in
    ap (λ z. z ∷ xs) (sym e) ∙ ap (λ z. y ∷ z) (same_lists xs ys (omega arith) (λ i z g. h (suc i) z g))

-- the node of an item
node_at : (sub above : Machine_data) (bound : ℕ) (w : Worked_out sub above bound) (i : ℕ) (n : Item w.found w.items w.nexts i)
    → slice_get w.nodes i ≡ Some (node_at_spot n.point (get_or w.ranks i 0) n.row)
node_at sub above bound w i n = w.made.each i n.number n.point n.row (at_short w.items i n.number n.stands) n.stands n.at_number n.is_row

-- a node and its item
node_is : (sub above : Machine_data) (bound : ℕ) (w : Worked_out sub above bound) (i : ℕ) (m : DNode_data) → slice_get w.nodes i ≡ Some m
    → (n : Item w.found w.items w.nexts i) × (node_at_spot n.point (get_or w.ranks i 0) n.row ≡ m)
node_is sub above bound w i m e =
    let n = item sub above bound w i (let s = at_short w.nodes i m e in let z = w.made.size in omega arith) in
    (n, same_Some (node_at_spot n.point (get_or w.ranks i 0) n.row) m (sym (node_at sub above bound w i n) ∙ e))

-- names through two lists
names_through : (items : List ℕ) (found spots : List Spot) → ((k n : ℕ) (r : Spot) → slice_get items k ≡ Some n → slice_get found n ≡ Some r → slice_get spots k ≡ Some r)
    → (row ns : List ℕ) (rs : List Spot) → ArePlacesOf items row ns → ArePlacesOf found ns rs → ArePlacesOf spots row rs
names_through items found spots on [] [] [] a b = tt
names_through items found spots on [] [] (r ∷ rs) a b = absurd b
names_through items found spots on [] (n ∷ ns) rs a b = absurd a
names_through items found spots on (k ∷ row) [] rs a b = absurd a
names_through items found spots on (k ∷ row) (n ∷ ns) [] a b = absurd b
names_through items found spots on (k ∷ row) (n ∷ ns) (r ∷ rs) a b = (on k n r a.0 b.0, names_through items found spots on row ns rs a.1 b.1)

abbrev pub spots_of : List DNode_data → List Spot
spots_of nodes = map (λ (m : DNode_data). spot_of m) nodes

-- the spot of an item, and of no other
spot_at : (sub above : Machine_data) (bound : ℕ) (w : Worked_out sub above bound) (k n : ℕ) (r : Spot) → slice_get w.items k ≡ Some n → slice_get w.found n ≡ Some r
    → slice_get (spots_of w.nodes) k ≡ Some r
spot_at sub above bound w k n r ek en =
    let x = item sub above bound w k (at_short w.items k n ek) in
    let e : x.number ≡ n = same_Some x.number n (sym x.stands ∙ ek) in
    let p : x.point ≡ r = same_Some x.point r (sym x.at_number ∙ ap (λ (z : ℕ). slice_get w.found z) e ∙ en) in
    map_at (λ (m : DNode_data). spot_of m) w.nodes k (node_at_spot x.point (get_or w.ranks k 0) x.row) (node_at sub above bound w k x) ∙ ap Some p

spot_is : (sub above : Machine_data) (bound : ℕ) (w : Worked_out sub above bound) (i : ℕ) (x : Spot) → slice_get (spots_of w.nodes) i ≡ Some x
    → (n : ℕ) × (slice_get w.items i ≡ Some n) × (slice_get w.found n ≡ Some x)
spot_is sub above bound w i x e =
    let m = map_of (λ (m : DNode_data). spot_of m) w.nodes i x e in
    let n = node_is sub above bound w i m.0 m.1 in
    (n.0.number, n.0.stands, n.0.at_number ∙ ap Some (ap (λ (z : DNode_data). spot_of z) n.1 ∙ m.2))

-- the chosen move of an item
choice : (sub above : Machine_data) (bound : ℕ) (w : Worked_out sub above bound) (i : ℕ) (n : Item w.found w.items w.nexts i)
    → (rs : List Spot) × IsChosen sub above bound n.point rs × ArePlacesOf w.found (next_of w.graph.outs w.current n.number) rs
choice sub above bound w i n =
    chosen sub above bound w.found w.rows w.graph w.current w.order w.discovery w.pictures w.left
    (λ peer arms t e. (w.proper.1.puts t peer arms e).once) n.number n.point n.at_number (w.stay i n.number n.stands)

nexts_are : (sub above : Machine_data) (bound : ℕ) (w : Worked_out sub above bound) → map (λ (m : DNode_data). m.next) w.nodes ≡ w.nexts
nexts_are sub above bound w =
    same_lists (map (λ (m : DNode_data). m.next) w.nodes) w.nexts (length-map w.nodes (λ (m : DNode_data). m.next) ∙ w.made.size ∙ sym w.numbers.all)
    (λ i row e. let m = map_of (λ (m : DNode_data). m.next) w.nodes i row e in let n = node_is sub above bound w i m.0 m.1 in n.0.is_row ∙ ap Some (ap (λ (z : DNode_data). z.next) n.1 ∙ m.2))

pub canonical : (sub above : Machine_data) (bound : ℕ) (w : Worked_out sub above bound) → HasCanonicalNodes sub above bound (record { role = sub.role; bound = bound; nodes = w.nodes })
canonical sub above bound w = record {
  role = refl;
  bound' = refl;
  first = spot_at sub above bound w 0 0 (start_spot sub above) w.numbers.first w.discovery.first;
  once = λ i j x ei ej. (
      let k = spot_is sub above bound w i x ei in let l = spot_is sub above bound w j x ej in
      let e : k.0 ≡ l.0 = w.discovery.once k.0 l.0 x k.2 l.2 in
      w.numbers.once i j k.0 k.1 (l.1 ∙ ap Some (sym e)));
  each = λ i m e. (
      let n = node_is sub above bound w i m e in
      let c = choice sub above bound w i n.0 in
      subst (λ (z : DNode_data). FollowsTheChoice sub above bound w.nodes z) n.1 record {
        results = c.0;
        chosen = c.1;
        names = names_through w.items w.found (spots_of w.nodes) (spot_at sub above bound w) n.0.row (next_of w.graph.outs w.current n.0.number) c.0
            (w.numbers.names i n.0.number n.0.row n.0.stands n.0.is_row) c.2;
      });
  order = subst (λ (z : List (List ℕ)). Worked 0 1 z (length w.nodes)) (sym (nexts_are sub above bound w)) (subst (λ (z : ℕ). Worked 0 1 w.nexts z) (sym w.made.size) w.numbers.order);
}

-- edges that keep their head

kept_edge : (keeps : Bool) (row : List ℕ) (j : ℕ) → Among (if keeps then row else []) j → (keeps ≡ true) × Among row j
kept_edge true row j h = (refl, h)
kept_edge false row j h = absurd h

edge_kept : (keeps : Bool) (row : List ℕ) (j : ℕ) → keeps ≡ true → Among row j → Among (if keeps then row else []) j
edge_kept true row j e h = h
edge_kept false row j e h = absurd (false≢true e)

pub edge_to : (sub above : Machine_data) (bound : ℕ) (w : Worked_out sub above bound) (kept : List (List ℕ)) → AreKept (map (is_keeping sub above bound) w.found) w.items w.nexts (length w.items) kept
    → (i j : ℕ) → Edge kept i j → KeepsHead sub above w.nodes i j
edge_to sub above bound w kept a i j e =
    let n = item sub above bound w i (let b = edge_within_shown kept i j e in let s = a.size in omega arith) in
    let r = a.each i n.number n.row (at_short w.items i n.number n.stands) n.stands n.is_row in
    let e' : Among (if get_or (map (is_keeping sub above bound) w.found) n.number false then n.row else []) j = subst (λ (z : List ℕ). Among z j) (got kept i _ [] r) e in
    let k = kept_edge _ n.row j e' in
    let is : is_keeping sub above bound n.point ≡ true
    = sym (got (map (is_keeping sub above bound) w.found) n.number (is_keeping sub above bound n.point) false (map_at (is_keeping sub above bound) w.found n.number n.point n.at_number)) ∙ k.0 in
    let c = choice sub above bound w i n in
    record {
      node = node_at_spot n.point (get_or w.ranks i 0) n.row;
      stands = node_at sub above bound w i n;
      makes = c.1.move.makes;
      results = c.0;
      move = c.1.move.move;
      keeps = is_kept sub above bound n.point c.0 c.1.move.makes c.1.move.move is;
      leads = k.1;
    }
  where
    edge_within_shown : (kept : List (List ℕ)) (i j : ℕ) → Edge kept i j → i < length kept
    edge_within_shown kept i j e = elim (cases_lt i (length kept))
        [ inl a ↦ a | inr a ↦ (let z = get_or_past kept i [] a in let bad : Among [] j = subst (λ (w : List ℕ). Among w j) z e in absurd bad) ]

pub edge_from : (sub above : Machine_data) (bound : ℕ) (w : Worked_out sub above bound) (kept : List (List ℕ))
    → AreKept (map (is_keeping sub above bound) w.found) w.items w.nexts (length w.items) kept
    → (i j : ℕ) → KeepsHead sub above w.nodes i j → Edge kept i j
edge_from sub above bound w kept a i j h =
    let n = node_is sub above bound w i h.node h.stands in
    let c = choice sub above bound w i n.0 in
    let r = a.each i n.0.number n.0.row (at_short w.items i n.0.number n.0.stands) n.0.stands n.0.is_row in
    let ep : spot_of h.node ≡ n.0.point = sym (ap (λ (z : DNode_data). spot_of z) n.1) in
    let move : HasMove sub above n.0.point h.makes h.results = subst (λ (z : Spot). HasMove sub above z h.makes h.results) ep h.move in
    let keeps : KeepsItsHead n.0.point.pending h.makes = subst (λ (z : Spot). KeepsItsHead z.pending h.makes) ep h.keeps in
    let is : is_keeping sub above bound n.0.point ≡ true = keeping_is sub above bound n.0.point c.0 h.results h.makes c.1.move move keeps in
    let is' : get_or (map (is_keeping sub above bound) w.found) n.0.number false ≡ true =
    got (map (is_keeping sub above bound) w.found) n.0.number (is_keeping sub above bound n.0.point) false (map_at (is_keeping sub above bound) w.found n.0.number n.0.point n.0.at_number) ∙ is in
    subst (λ (z : List ℕ). Among z j) (sym (got kept i _ [] r)) (edge_kept _ n.0.row j is' (subst (λ (z : DNode_data). Among z.next j) (sym n.1) h.leads))

pub walk_on : (E F : ℕ → ℕ → Type 0) → ((i j : ℕ) → E i j → F i j) → (i n k : ℕ) → Walk E i n k → Walk F i n k
walk_on E F on i _ _ (Here _) = Here i
walk_on E F on i _ k (Further _ j _ n e w) = Further i j k n (on i j e) (walk_on E F on j n k w)

rank_on : (E F : ℕ → ℕ → Type 0) → ((i j : ℕ) → E i j → F i j) → ((i j : ℕ) → F i j → E i j) → (i rank : ℕ) → IsRank E i rank → IsRank F i rank
rank_on E F to from i rank r = record { end = r.end; walk = walk_on E F to i rank r.end r.walk; most = λ n k w. r.most n k (walk_on F E from i n k w) }

pub least_on : (E F : ℕ → ℕ → Type 0) → ((i j : ℕ) → E i j → F i j) → ((i j : ℕ) → F i j → E i j) → (i : ℕ) → IsLeastOnCycle E i → IsLeastOnCycle F i
least_on E F to from i c = record { cycle = (c.cycle.0, walk_on E F to i (suc c.cycle.0) i c.cycle.1); least = λ k d. c.least k (d.0, walk_on F E from k (suc d.0) k d.1) }

few_are : (sub above : Machine_data) (bound : ℕ) (w : Worked_out sub above bound) → AreMoreThan sub above bound MOST_CANDIDATES → ⊥
few_are sub above bound w m = not_both (nexts_within sub above bound) (start_spot sub above) w.found w.rows MOST_CANDIDATES w.discovery w.bounded (less_than sub above bound MOST_CANDIDATES m)

pub is_found : (sub above : Machine_data) (bound : ℕ) (w : Worked_out sub above bound) (kept : List (List ℕ)) → AreKept (map (is_keeping sub above bound) w.found) w.items w.nexts (length w.items) kept
    → ((i : ℕ) → IsRank (Edge kept) i (get_or w.ranks i 0)) → IsCanonical sub above bound (record { role = sub.role; bound = bound; nodes = w.nodes })
is_found sub above bound w kept a r = record {
  bounded = few_are sub above bound w;
  canonical = canonical sub above bound w;
  ranks = λ i m e. (let n = node_is sub above bound w i m e in
      subst (λ (z : ℕ). IsRank (KeepsHead sub above w.nodes) i z) (ap (λ (z : DNode_data). z.rank) n.1)
      (rank_on (Edge kept) (KeepsHead sub above w.nodes) (edge_to sub above bound w kept a) (edge_from sub above bound w kept a) i (get_or w.ranks i 0) (r i)));
}

pub forgets : (sub above : Machine_data) (bound : ℕ) (w : Worked_out sub above bound) (kept : List (List ℕ)) (node : ℕ)
    → AreKept (map (is_keeping sub above bound) w.found) w.items w.nexts (length w.items) kept
    → IsLeastOnCycle (Edge kept) node → IsForgets sub above bound node
forgets sub above bound w kept node a c = record {
  bounded = few_are sub above bound w;
  derivation = record { role = sub.role; bound = bound; nodes = w.nodes };
  canonical = canonical sub above bound w;
  cycle = least_on (Edge kept) (KeepsHead sub above w.nodes) (edge_to sub above bound w kept a) (edge_from sub above bound w kept a) node c;
}

-- nodes whose ranks are all 0, where there are no ranks
abbrev pub unranked : List Spot → List ℕ → List (List ℕ) → List DNode_data
unranked found [] nexts = []
unranked found (n ∷ items) [] = []
unranked found (n ∷ items) (row ∷ nexts) = node_at_spot (get_or found n (spot 0 [] 0)) 0 row ∷ unranked found items nexts

unranked_length : (found : List Spot) (items : List ℕ) (nexts : List (List ℕ)) → length nexts ≡ length items → length (unranked found items nexts) ≡ length items
unranked_length found [] nexts e = refl
unranked_length found (n ∷ items) [] e = let bad : ⊥ = omega arith in absurd bad
unranked_length found (n ∷ items) (row ∷ nexts) e = ap suc (unranked_length found items nexts (omega arith))

unranked_at : (found : List Spot) (items : List ℕ) (nexts : List (List ℕ)) (i n : ℕ) (p : Spot) (row : List ℕ) → slice_get items i ≡ Some n → slice_get found n ≡ Some p → slice_get nexts i ≡ Some row
    → slice_get (unranked found items nexts) i ≡ Some (node_at_spot p 0 row)
unranked_at found [] nexts i n p row a b c = absurd (none-some n a)
unranked_at found (m ∷ items) [] i n p row a b c = absurd (none-some row c)
unranked_at found (m ∷ items) (r ∷ nexts) zero n p row a b c =
    let e : m ≡ n = same_Some m n a in let f : r ≡ row = same_Some r row c in
    let g : get_or found m (spot 0 [] 0) ≡ p = ap (λ (z : ℕ). get_or found z (spot 0 [] 0)) e ∙ got found n p (spot 0 [] 0) b in
    ap (λ (z : Spot). Some (node_at_spot z 0 r)) g ∙ ap (λ (z : List ℕ). Some (node_at_spot p 0 z)) f
unranked_at found (m ∷ items) (r ∷ nexts) (suc i) n p row a b c = unranked_at found items nexts i n p row a b c

pub none_ranks : (i : ℕ) → get_or {A = ℕ} [] i 0 ≡ 0
none_ranks zero = refl
none_ranks (suc i) = refl

pub unranked_are : (found : List Spot) (items : List ℕ) (nexts : List (List ℕ)) → length nexts ≡ length items → AreNodes found items nexts [] (length items) (unranked found items nexts)
unranked_are found items nexts e = record {
  size = unranked_length found items nexts e;
  each = λ i n p row lt a b c. subst (λ (z : ℕ). slice_get (unranked found items nexts) i ≡ Some (node_at_spot p z row)) (sym (none_ranks i)) (unranked_at found items nexts i n p row a b c);
}

-- rows of kept edges

edge_in : (rows : List (List ℕ)) (n r : ℕ) → Edge rows n r → n < length rows
edge_in rows n r e = elim (cases_lt n (length rows)) [ inl a ↦ a | inr a ↦ (let z = get_or_past rows n [] a in let bad : Among [] r = subst (λ (w : List ℕ). Among w r) z e in absurd bad) ]

kept_length : (keeps : Bool) (row : List ℕ) → length (if keeps then row else []) ≤ length row
kept_length true row = omega arith
kept_length false row = omega arith

-- the row of a place, and what is kept of it
row_kept : (keeps : List Bool) (items : List ℕ) (nexts kept : List (List ℕ)) → AreKept keeps items nexts (length items) kept → length nexts ≡ length items → (n : ℕ) → n < length kept
    → (b : Bool) × (row : List ℕ) × (slice_get nexts n ≡ Some row) × (get_or kept n [] ≡ (if b then row else []))
row_kept keeps items nexts kept a e n h =
    let i = at_within items n (let s = a.size in omega arith) in
    let r = at_within nexts n (let s = a.size in omega arith) in
    (get_or keeps i.0 false, r.0, r.1, got kept n (if get_or keeps i.0 false then r.0 else []) [] (a.each n i.0 r.0 (let s = a.size in omega arith) i.1 r.1))

pub kept_within : (next : ℕ → List ℕ) (keeps : List Bool) (items : List ℕ) (nexts kept : List (List ℕ)) → IsDiscovery next 0 items nexts → AreKept keeps items nexts (length items) kept → (n r : ℕ)
    → Edge kept n r → r < length kept
kept_within next keeps items nexts kept d a n r e =
    let k = row_kept keeps items nexts kept a d.all n (edge_in kept n r e) in
    let m = kept_edge k.0 k.1 r (subst (λ (z : List ℕ). Among z r) k.3 e) in
    let w = rows_within next 0 items nexts d n r (subst (λ (z : List ℕ). Among z r) (sym (got nexts n k.1 [] k.2)) m.1) in
    let s = a.size in let l = d.all in omega arith

pub kept_few : (keeps : List Bool) (items : List ℕ) (nexts kept : List (List ℕ)) (most : ℕ) → AreKept keeps items nexts (length items) kept → length nexts ≡ length items
    → ((n : ℕ) → length (get_or nexts n []) ≤ most)
    → (n : ℕ) → length (get_or kept n []) ≤ most
kept_few keeps items nexts kept most a e h n = elim (cases_lt n (length kept)) [
  | inl lt ↦ (let k = row_kept keeps items nexts kept a e n lt in
      let l : length (get_or kept n []) ≡ length (if k.0 then k.1 else []) = ap (λ (z : List ℕ). length z) k.3 in
      let m = kept_length k.0 k.1 in
      let q : length (get_or nexts n []) ≡ length k.1 = ap (λ (z : List ℕ). length z) (got nexts n k.1 [] k.2) in
      let f = h n in omega arith)
  | inr ge ↦ (let l : length (get_or kept n []) ≡ 0 = ap (λ (z : List ℕ). length z) (get_or_past kept n [] ge) in omega arith)
]

-- the results of one move are no more than the spot leads to, or one

single_length : (row : List ℕ) (place : ℕ) → length (get_or (map (λ (x : ℕ). x ∷ []) row) place []) ≤ 1
single_length [] place = let l : length (get_or {A = List ℕ} [] place []) ≡ 0 = ap (λ (z : List ℕ). length z) (get_or_past [] place [] (omega arith)) in omega arith
single_length (x ∷ row) zero = omega arith
single_length (x ∷ row) (suc place) = single_length row place

whole_length : (row : List ℕ) (place : ℕ) → length (get_or (row ∷ []) place []) ≤ length row
whole_length row zero = omega arith
whole_length row (suc place) = let l : length (get_or {A = List ℕ} [] place []) ≡ 0 = ap (λ (z : List ℕ). length z) (get_or_past [] place [] (omega arith)) in omega arith

move_length : (any : Bool) (row : List ℕ) (place : ℕ) → length (get_or (moves_of any row) place []) ≤ length row + 1
move_length true row place = let k = single_length row place in omega arith
move_length false row place = let k = whole_length row place in omega arith

pub next_few : (anys : List Bool) (rows : List (List ℕ)) (g : Graph_data) (current : List ℕ) (most : ℕ) → IsBuilt anys rows (length rows) g → ((n : ℕ) → length (get_or rows n []) ≤ most) → (n : ℕ)
    → length (next_of g.outs current n) ≤ most + 1
next_few anys rows g current most b h n = elim (cases_lt n (length rows)) [
  | inl a ↦ (let e : length (next_of g.outs current n) ≡ length (get_or (moves_of (get_or anys n false) (get_or rows n [])) (at current n) []) = ap
      (λ (z : List (List ℕ)). length (get_or z (at current n) [])) (b.done n a) in
      let k = move_length (get_or anys n false) (get_or rows n []) (at current n) in let f = h n in omega arith)
  | inr a ↦ (let e : length (next_of g.outs current n) ≡ 0 = ap (λ (z : List (List ℕ)). length (get_or z (at current n) [])) (b.free n a)
      ∙ ap (λ (z : List ℕ). length z) (get_or_past [] (at current n) [] (omega arith)) in omega arith)
]

pub nexts_few : (anys : List Bool) (rows : List (List ℕ)) (g : Graph_data) (current items : List ℕ) (nexts : List (List ℕ)) (most : ℕ) → IsBuilt anys rows (length rows) g
    → ((n : ℕ) → length (get_or rows n []) ≤ most)
    → IsDiscovery (next_of g.outs current) 0 items nexts → (i : ℕ) → length (get_or nexts i []) ≤ most + 1
nexts_few anys rows g current items nexts most b h d i = elim (cases_lt i (length nexts)) [
  | inl a ↦ (let r = at_within nexts i a in let n = at_within items i (let l = d.all in omega arith) in
      let k = names_length items r.0 (next_of g.outs current n.0) (d.names i n.0 r.0 n.1 r.1) in
      let f = next_few anys rows g current most b h n.0 in
      let q : length (get_or nexts i []) ≡ length r.0 = ap (λ (z : List ℕ). length z) (got nexts i r.0 [] r.1) in omega arith)
  | inr a ↦ (let l : length (get_or nexts i []) ≡ 0 = ap (λ (z : List ℕ). length z) (get_or_past nexts i [] a) in omega arith)
]

-- the same lists by other names

pub same_kept : (keeps keeps' : List Bool) (items items' : List ℕ) (nexts nexts' kept : List (List ℕ)) → keeps' ≡ keeps → items' ≡ items → nexts' ≡ nexts
    → AreKept keeps' items' nexts' (length items') kept → AreKept keeps items nexts (length items) kept
same_kept keeps keeps' items items' nexts nexts' kept ek ei en a =
    subst (λ (z : List Bool). AreKept z items nexts (length items) kept) ek
    (subst (λ (z : List ℕ). AreKept keeps' z nexts (length z) kept) ei (subst (λ (z : List (List ℕ)). AreKept keeps' items' z (length items') kept) en a))

pub same_nodes : (points points' : List Spot) (items items' : List ℕ) (nexts nexts' : List (List ℕ)) (ranks ranks' : List ℕ) (nodes : List DNode_data) → points' ≡ points → items' ≡ items
    → nexts' ≡ nexts → ranks' ≡ ranks
    → AreNodes points' items' nexts' ranks' (length items') nodes → AreNodes points items nexts ranks (length items) nodes
same_nodes points points' items items' nexts nexts' ranks ranks' nodes ep ei en er a =
    subst (λ (z : List Spot). AreNodes z items nexts ranks (length items) nodes) ep (subst (λ (z : List ℕ). AreNodes points' z nexts ranks (length z) nodes) ei
    (subst (λ (z : List (List ℕ)). AreNodes points' items' z ranks (length items') nodes) en (subst (λ (z : List ℕ). AreNodes points' items' nexts' z (length items') nodes) er a)))

pub all_within : (sub above : Machine_data) (bound : ℕ) (found : List Spot) (g : Graph_data) (current items items' : List ℕ) → Pictures (moves_at sub above bound) found g.outs
    → ((i n : ℕ) → slice_get items i ≡ Some n → at current n < removal.moves_at g.outs n) → items' ≡ items → (n : ℕ) → Among items' n → n < length found
all_within sub above bound found g current items items' pic stay e n m =
    let s = at_in items n (subst (λ (z : List ℕ). Among z n) e m) in items_within sub above bound found g current items pic stay s.0 n s.1
