-- What the numbered graph of the candidates says of the spots.
use Rattle.std.proofs.Common.{◌≡◌, inl, inr, ℕ, ◌<◌, ◌≤◌, Bool, true, false, List, [], ◌∷◌, ◌++◌, length, get_or, refl, sym, ap, ◌∙◌, subst, arith, ◌+◌, suc, zero, Some, slice_get, map, ◌||◌}
use Rattle.std.specs.List.{list_any}
use Rattle.std.proofs.lemmas.Bool.{cases_lt}
use Rattle.std.proofs.lemmas.List.{get_or_past}
use Rattle.rs_model.specs.declared.limits.TheConstants.{MOST_CANDIDATES}
use Rattle.rs_derive.proofs.Mapped.{map_at}
use Rattle.rs_graph.proofs.Buckets.{got}
use Rattle.rs_model.specs.Data.{Machine_data}
use Rattle.rs_derive.specs.Moves.{Spot}
use Rattle.rs_graph.specs.Built.{IsBuilt}
use Rattle.rs_search.specs.Candidates.{AreMoreThan, IsCandidate, Start, Onward, start_spot}
use Rattle.rs_search.specs.Canonical.{IsNotFound, SomeCut}
use Rattle.rs_graph.specs.Discovery.{IsDiscovery, Reached, Begin, Step}
use Rattle.rs_graph.specs.Naming.{MoreThan}
use Rattle.rs_graph.specs.Graphs.{Graph_data, moves_of}
use Rattle.rs_search.specs.Turns.{is_any, is_cut}
use Rattle.rs_graph.specs.Lists.{Among, ArePlacesOf}
use Rattle.rs_graph.specs.Removal.{IsRemoval, at}
use Rattle.rs_graph.specs.Removal as removal
use Rattle.rs_search.specs.Survives.{StandTogether, Survives}
use Rattle.rs_search.specs.Turns.{nexts_within, turn_within}
use Rattle.rs_graph.proofs.Building.{pictured}
use Rattle.rs_search.proofs.Choices.{moves_at, to_move, from_move, to_cut, from_cut, or_yes}
use Rattle.rs_graph.proofs.Growth.{all_found, at_in, at_short, at_within, in_at, not_both}
use Rattle.rs_graph.proofs.Kept.{Pictures, Stands, kept_of, kept_stands, kept_has, kept_are_found, gone_dies}

-- what moves lead to stands among the spots of the turn, and the other way round
among_moves : (any : Bool) (spots : List Spot) (rs : List Spot) → Among (moves_of any spots) rs → (r : Spot) → Among rs r → Among spots r
among_moves true [] rs h r m = absurd h
among_moves true (s ∷ spots) rs (inl e) r m = (let m' : Among (s ∷ []) r = subst (λ (z : List Spot). Among z r) (sym e) m in elim m' [ inl q ↦ inl q | inr k ↦ absurd k ])
among_moves true (s ∷ spots) rs (inr h) r m = inr (among_moves true spots rs h r m)
among_moves false spots rs (inl e) r m = subst (λ (z : List Spot). Among z r) (sym e) m
among_moves false spots rs (inr h) r m = absurd h

moves_among : (any : Bool) (spots : List Spot) (r : Spot) → Among spots r → (rs : List Spot) × Among (moves_of any spots) rs × Among rs r
moves_among true [] r m = absurd m
moves_among true (s ∷ spots) r (inl e) = (s ∷ [], inl refl, inl e)
moves_among true (s ∷ spots) r (inr m) = let k = moves_among true spots r m in (k.0, inr k.1, k.2)
moves_among false spots r m = (spots, inl refl, m)

pub to_candidate : (sub above : Machine_data) (bound : ℕ) (p : Spot) → Reached (nexts_within sub above bound) (start_spot sub above) p → IsCandidate sub above bound p
to_candidate sub above bound _ Begin = Start
to_candidate sub above bound _ (Step x y r m) =
    let k = moves_among (turn_within sub above bound x).any (turn_within sub above bound x).spots y m in
    Onward x k.0 y (to_candidate sub above bound x r) (to_move sub above bound x k.0 k.1) k.2

pub from_candidate : (sub above : Machine_data) (bound : ℕ) (p : Spot) → IsCandidate sub above bound p → Reached (nexts_within sub above bound) (start_spot sub above) p
from_candidate sub above bound _ Start = Begin
from_candidate sub above bound _ (Onward p rs r c m k) =
    Step p r (from_candidate sub above bound p c) (among_moves (turn_within sub above bound p).any (turn_within sub above bound p).spots rs (from_move sub above bound p rs m) r k)

pub candidate_short : (sub above : Machine_data) (bound : ℕ) (p : Spot) → IsCandidate sub above bound p → length p.pending ≤ bound
candidate_short sub above bound _ Start = omega arith
candidate_short sub above bound _ (Onward p rs r c m k) = m.short r k

pub more_than : (sub above : Machine_data) (bound limit : ℕ) → MoreThan limit (nexts_within sub above bound) (start_spot sub above) → AreMoreThan sub above bound limit
more_than sub above bound limit m = record { spots = m.some; each = λ p h. (let s = at_in m.some p h in to_candidate sub above bound p (m.reached s.0 p s.1)); once = m.once; many = m.many }

pub less_than : (sub above : Machine_data) (bound limit : ℕ) → AreMoreThan sub above bound limit → MoreThan limit (nexts_within sub above bound) (start_spot sub above)
less_than sub above bound limit m = record { some = m.spots; once = m.once; reached = λ i p e. from_candidate sub above bound p (m.each p (in_at m.spots i p e)); many = m.many }

-- sets of both kinds
pub to_stands : (sub above : Machine_data) (bound : ℕ) (set : List Spot) → StandTogether sub above bound set → Stands (moves_at sub above bound) set
to_stands sub above bound set st x h = let s = st.each x h in (s.results, from_move sub above bound x s.results s.move, s.all)

pub from_stands : (sub above : Machine_data) (bound : ℕ) (set : List Spot) → ((p : Spot) → Among set p → IsCandidate sub above bound p) → Stands (moves_at sub above bound) set
    → StandTogether sub above bound set
from_stands sub above bound set c st = record { candidates = c; each = λ p h. (let s = st p h in record { results = s.0; move = to_move sub above bound p s.0 s.1; all = s.2 }) }

-- the graph that was built is that of the candidates
pub pictures : (sub above : Machine_data) (bound : ℕ) (found : List Spot) (rows : List (List ℕ)) (anys : List Bool) (g : Graph_data)
    → IsDiscovery (nexts_within sub above bound) (start_spot sub above) found rows
    → anys ≡ map (is_any sub above bound) found → IsBuilt anys rows (length rows) g → Pictures (moves_at sub above bound) found g.outs
pictures sub above bound found rows anys g d e b =
    pictured (is_any sub above bound) (nexts_within sub above bound) found anys rows g d.all d.names
    (λ k x q. ap (λ (z : List Bool). get_or z k false) e ∙ got (map (is_any sub above bound) found) k (is_any sub above bound x) false (map_at (is_any sub above bound) found k x q)) b

-- a node that stays is that of a spot that survives
pub survives : (sub above : Machine_data) (bound : ℕ) (found : List Spot) (rows : List (List ℕ)) (g : Graph_data) (current order : List ℕ)
    → IsDiscovery (nexts_within sub above bound) (start_spot sub above) found rows
    → Pictures (moves_at sub above bound) found g.outs → IsRemoval g.outs current order → (n : ℕ) (x : Spot) → slice_get found n ≡ Some x → at current n < removal.moves_at g.outs n
    → Survives sub above bound x
survives sub above bound found rows g current order d pic rem n x e lt = record {
  set = kept_of g.outs current found;
  stand = from_stands sub above bound (kept_of g.outs current found)
      (λ p h. let s = at_in found p (kept_are_found found g.outs current p h) in to_candidate sub above bound p (d.reached s.0 p s.1))
      (kept_stands (moves_at sub above bound) found g.outs current order pic rem);
  among = kept_has found g.outs current n x e lt;
}

-- and any other's doesn't
pub dies : (sub above : Machine_data) (bound : ℕ) (found : List Spot) (g : Graph_data) (current order : List ℕ)
    → Pictures (moves_at sub above bound) found g.outs → IsRemoval g.outs current order → (n : ℕ) (x : Spot) → slice_get found n ≡ Some x → removal.moves_at g.outs n ≤ at current n
    → Survives sub above bound x → ⊥
dies sub above bound found g current order pic rem n x e le s = gone_dies (moves_at sub above bound) found g.outs current order pic rem n x e le s.set (to_stands sub above bound s.set s.stand) s.among

any_has : (f : Spot → Bool) (xs : List Spot) → list_any f xs ≡ true → (x : Spot) × Among xs x × (f x ≡ true)
any_has f [] e = absurd cc
any_has f (x ∷ xs) e = elim (or_yes (f x) (list_any f xs) e) [ inl a ↦ (x, inl refl, a) | inr a ↦ (let k = any_has f xs a in (k.0, inr k.1, k.2)) ]

or_right : (b : Bool) → (b || true) ≡ true
or_right true = refl
or_right false = refl

has_any : (f : Spot → Bool) (xs : List Spot) (x : Spot) → Among xs x → f x ≡ true → list_any f xs ≡ true
has_any f [] x m e = absurd m
has_any f (y ∷ xs) x (inl q) e = (let k : f y ≡ true = subst (λ (z : Spot). f z ≡ true) (sym q) e in rw k refl)
has_any f (y ∷ xs) x (inr m) e = rw (has_any f xs x m e) (or_right (f y))

pub cut_to : (sub above : Machine_data) (bound : ℕ) (found : List Spot) (rows : List (List ℕ)) → IsDiscovery (nexts_within sub above bound) (start_spot sub above) found rows
    → list_any (is_cut sub above bound) found ≡ true → SomeCut sub above bound
cut_to sub above bound found rows d e =
    let k = any_has (is_cut sub above bound) found e in
    let s = at_in found k.0 k.1 in
    let c = to_candidate sub above bound k.0 (d.reached s.0 k.0 s.1) in
    record { spot = k.0; candidate = c; cut = to_cut sub above bound k.0 (candidate_short sub above bound k.0 c) k.2 }

pub cut_from : (sub above : Machine_data) (bound : ℕ) (found : List Spot) (rows : List (List ℕ)) → IsDiscovery (nexts_within sub above bound) (start_spot sub above) found rows
    → SomeCut sub above bound → list_any (is_cut sub above bound) found ≡ true
cut_from sub above bound found rows d c =
    has_any (is_cut sub above bound) found c.spot (all_found (nexts_within sub above bound) (start_spot sub above) found rows d c.spot (from_candidate sub above bound c.spot c.candidate))
    (from_cut sub above bound c.spot c.cut)

-- where node 0 is removed the start doesn't survive
pub not_found : (sub above : Machine_data) (bound : ℕ) (found : List Spot) (rows : List (List ℕ)) (anys : List Bool) (g : Graph_data) (current order : List ℕ) (cut : Bool)
    → IsDiscovery (nexts_within sub above bound) (start_spot sub above) found rows
    → length found ≤ MOST_CANDIDATES → anys ≡ map (is_any sub above bound) found → cut ≡ list_any (is_cut sub above bound) found → IsBuilt anys rows (length rows) g → IsRemoval g.outs current order
    → at current 0 ≡ removal.moves_at g.outs 0
    → IsNotFound sub above bound cut
not_found sub above bound found rows anys g current order cut d few ea ec b rem all =
    let pic = pictures sub above bound found rows anys g d ea b in
    record {
      bounded = λ m. not_both (nexts_within sub above bound) (start_spot sub above) found rows MOST_CANDIDATES d few (less_than sub above bound MOST_CANDIDATES m);
      dies = λ s. dies sub above bound found g current order pic rem 0 (start_spot sub above) d.first (omega arith) s;
      cuts = ((λ e. cut_to sub above bound found rows d (sym ec ∙ e)), (λ c. ec ∙ cut_from sub above bound found rows d c));
    }

pub names_length : {X : Type 0} (found : List X) (ns : List ℕ) (xs : List X) → ArePlacesOf found ns xs → length ns ≡ length xs
names_length found [] [] h = refl
names_length found [] (x ∷ xs) h = absurd h
names_length found (n ∷ ns) [] h = absurd h
names_length found (n ∷ ns) (x ∷ xs) h = let k = names_length found ns xs h.1 in omega arith

names_within : {X : Type 0} (found : List X) (ns : List ℕ) (xs : List X) → ArePlacesOf found ns xs → (r : ℕ) → Among ns r → r < length found
names_within found [] [] h r m = absurd m
names_within found [] (x ∷ xs) h r m = absurd h
names_within found (n ∷ ns) [] h r m = absurd h
names_within found (n ∷ ns) (x ∷ xs) h r (inl e) = (let k = at_short found n x h.0 in omega arith)
names_within found (n ∷ ns) (x ∷ xs) h r (inr m) = names_within found ns xs h.1 r m

row_of : (rows : List (List ℕ)) (n : ℕ) → n < length rows → (row : List ℕ) × (slice_get rows n ≡ Some row) × (get_or rows n [] ≡ row)
row_of rows n h = let p = at_within rows n h in (p.0, p.1, got rows n p.0 [] p.1)

pub rows_within : {X : Type 0} (next : X → List X) (start : X) (found : List X) (rows : List (List ℕ)) → IsDiscovery next start found rows → (n r : ℕ) → Among (get_or rows n []) r → r < length rows
rows_within next start found rows d n r m = elim (cases_lt n (length rows)) [
  | inl a ↦ (let q = row_of rows n a in let x = at_within found n (let b = d.all in omega arith) in
      let k = names_within found q.0 (next x.0) (d.names n x.0 q.0 x.1 q.1) r (subst (λ (z : List ℕ). Among z r) q.2 m) in let b = d.all in omega arith)
  | inr a ↦ (let z = get_or_past rows n [] a in let bad : Among [] r = subst (λ (w : List ℕ). Among w r) z m in absurd bad)
]

pub few_rows : (rows : List (List ℕ)) → ((n : ℕ) → length (get_or rows n []) ≤ MOST_CANDIDATES) → (n : ℕ) → length (get_or rows n []) + 1 < 4294967296
few_rows rows h n = let k = h n in omega arith

moves_length : (any : Bool) (row : List ℕ) → length (moves_of any row) ≤ length row + 1
moves_length true [] = omega arith
moves_length true (n ∷ row) = let k = moves_length true row in omega arith
moves_length false row = omega arith

pub moves_few : (anys : List Bool) (rows : List (List ℕ)) (g : Graph_data) (limit : ℕ) → IsBuilt anys rows (length rows) g → 1 < limit → ((n : ℕ) → length (get_or rows n []) + 1 < limit) → (n : ℕ)
    → removal.moves_at g.outs n < limit
moves_few anys rows g limit b one few n = elim (cases_lt n (length rows)) [
  | inl a ↦ (let e : removal.moves_at g.outs n ≡ length (moves_of (get_or anys n false) (get_or rows n [])) = ap (λ (z : List (List ℕ)). length z) (b.done n a) in let k = moves_length
      (get_or anys n false) (get_or rows n []) in let f = few n in omega arith)
  | inr a ↦ (let e : removal.moves_at g.outs n ≡ 0 = ap (λ (z : List (List ℕ)). length z) (b.free n a) in omega arith)
]

-- a row that is no longer than the others may be
pub rows_short : (rows : List (List ℕ)) (row : List ℕ) (most : ℕ) → length row ≤ most → ((n : ℕ) → length (get_or rows n []) ≤ most) → (n : ℕ) → length (get_or (rows ++ (row ∷ [])) n []) ≤ most
rows_short [] row most h all zero = h
rows_short [] row most h all (suc n) = omega arith
rows_short (r ∷ rows) row most h all zero = all zero
rows_short (r ∷ rows) row most h all (suc n) = rows_short rows row most h (λ k. all (suc k)) n
