-- Two well-formed machines have a canonical derivation, or there is a reason why they have none: the search, carried out on the
-- definitions.
use Rattle.std.proofs.Common.{◌≡◌, ◌≢◌, ◌⊎◌, ◌↔◌, inl, inr, ℕ, ◌<◌, ◌≤◌, Bool, true, false, List, [], ◌∷◌, ◌++◌, length, get_or, map, refl, sym, ap, ◌∙◌, subst, arith, ◌+◌, suc, zero, Some}
use Rattle.std.proofs.Common.{slice_get, if◌then◌else◌}
use Rattle.std.specs.List.{list_any}
use Rattle.std.proofs.lemmas.Bool.{cases_lt}
use Rattle.std.proofs.lemmas.List.{get_or_past}
use Rattle.std.proofs.lemmas.Option.{none-some, same_Some}
use Rattle.rs_model.specs.Data.{Machine_data}
use Rattle.rs_model.specs.declared.limits.TheConstants.{MOST_CANDIDATES}
use Rattle.rs_derive.specs.Targets.{same_spot}
use Rattle.rs_derive.specs.Data.{DNode_data, Derivation_data}
use Rattle.rs_derive.specs.Derivations.{IsProper}
use Rattle.rs_derive.specs.Moves.{Spot}
use Rattle.rs_graph.proofs.Buckets.{got}
use Rattle.rs_graph.proofs.Growth.{at_short, at_within, growing_begin, not_both}
use Rattle.rs_graph.proofs.Kept.{Pictures}
use Rattle.rs_graph.specs.Discovery.{IsDiscovery, Reached, Begin, Step}
use Rattle.rs_graph.specs.Graphs.{moves_of}
use Rattle.rs_graph.specs.Lists.{Among, ArePlacesOf}
use Rattle.rs_graph.specs.Places.{next_of}
use Rattle.rs_graph.specs.Removal.{Leads, at}
use Rattle.rs_graph.specs.Removal as removal
use Rattle.rs_search.proofs.Assembled.{Worked_out, forgets, is_found, kept_within}
use Rattle.rs_search.proofs.Choices.{moves_at}
use Rattle.rs_search.proofs.Determined.{is_forgetful, no_answer_is_forgetful, starts_survive}
use Rattle.rs_search.proofs.Discovering.{IsWhole, Tells, discovered}
use Rattle.rs_search.proofs.Noding.{kept_none, kept_on, nodes_none, nodes_on}
use Rattle.rs_search.proofs.Removing.{IsLeft, left}
use Rattle.rs_search.proofs.Rounds.{all_discovered, ranks_or_cycle}
use Rattle.rs_search.proofs.Same.{not_spot, spot_is}
use Rattle.rs_search.proofs.Verdicts.{cut_from, cut_to, dies, less_than, more_than, names_length, rows_within}
use Rattle.rs_search.specs.Candidates.{AreMoreThan, start_spot}
use Rattle.rs_search.specs.Canonical.{IsCanonical, IsForgetful, IsNotFound, SearchRefuses}
use Rattle.rs_search.specs.Nodes.{AreKept, AreNodes, node_at_spot}
use Rattle.rs_search.specs.Survives.{Survives}
use Rattle.rs_search.specs.Turns.{is_any, is_cut, is_keeping, nexts_within}
use Rattle.rs_search.specs.declared.faults.SearchFault.{SearchFault}
use Rattle.rs_search.specs.declared.faults.SearchFault.TheVariants.{NotFound, Forgets, TooLarge, NoMemory}

same_spots : Tells Spot
same_spots p q = told (same_spot p q) refl
  where
    told : (b : Bool) → same_spot p q ≡ b → (p ≡ q) ⊎ (p ≡ q → ⊥)
    told true e = inl (spot_is p q e)
    told false e = inr (not_spot p q e)

-- the graph of what was found
abbrev pub outs_of : (Spot → Bool) → List Spot → List (List ℕ) → List (List (List ℕ))
outs_of any [] rows = []
outs_of any (x ∷ found) [] = []
outs_of any (x ∷ found) (row ∷ rows) = moves_of (any x) row ∷ outs_of any found rows

pub outs_length : (any : Spot → Bool) (found : List Spot) (rows : List (List ℕ)) → length rows ≡ length found → length (outs_of any found rows) ≡ length found
outs_length any [] rows e = refl
outs_length any (x ∷ found) [] e = let bad : ⊥ = omega arith in absurd bad
outs_length any (x ∷ found) (row ∷ rows) e = ap suc (outs_length any found rows (omega arith))

pub outs_at : (any : Spot → Bool) (found : List Spot) (rows : List (List ℕ)) (n : ℕ) (x : Spot) (row : List ℕ) → slice_get found n ≡ Some x → slice_get rows n ≡ Some row
    → get_or (outs_of any found rows) n [] ≡ moves_of (any x) row
outs_at any [] rows n x row a b = absurd (none-some x a)
outs_at any (y ∷ found) [] n x row a b = absurd (none-some row b)
outs_at any (y ∷ found) (r ∷ rows) zero x row a b = ap (λ (z : Spot). moves_of (any z) r) (same_Some y x a) ∙ ap (λ (z : List ℕ). moves_of (any x) z) (same_Some r row b)
outs_at any (y ∷ found) (r ∷ rows) (suc n) x row a b = outs_at any found rows n x row a b

moves_count : (any : Bool) (row : List ℕ) (xs : List Spot) → length row ≡ length xs → length (moves_of any row) ≡ length (moves_of any xs)
moves_count true [] [] e = refl
moves_count true [] (x ∷ xs) e = let bad : ⊥ = omega arith in absurd bad
moves_count true (n ∷ row) [] e = let bad : ⊥ = omega arith in absurd bad
moves_count true (n ∷ row) (x ∷ xs) e = ap suc (moves_count true row xs (omega arith))
moves_count false row xs e = refl

moves_name : (found : List Spot) (any : Bool) (row : List ℕ) (xs : List Spot) (place : ℕ) (rs : List Spot) → ArePlacesOf found row xs → slice_get (moves_of any xs) place ≡ Some rs
    → ArePlacesOf found (get_or (moves_of any row) place []) rs
moves_name found true [] [] place rs h e = absurd (none-some rs e)
moves_name found true [] (x ∷ xs) place rs h e = absurd h
moves_name found true (n ∷ row) [] place rs h e = absurd h
moves_name found true (n ∷ row) (x ∷ xs) zero rs h e = subst (λ (z : List Spot). ArePlacesOf found (n ∷ []) z) (same_Some (x ∷ []) rs e) (h.0, tt)
moves_name found true (n ∷ row) (x ∷ xs) (suc place) rs h e = moves_name found true row xs place rs h.1 e
moves_name found false row xs zero rs h e = subst (λ (z : List Spot). ArePlacesOf found row z) (same_Some xs rs e) h
moves_name found false row xs (suc place) rs h e = absurd (none-some rs e)

moves_in : (any : Bool) (row : List ℕ) (place r : ℕ) → Among (get_or (moves_of any row) place []) r → Among row r
moves_in true [] place r h = (let e : get_or {A = List ℕ} [] place [] ≡ [] = get_or_past [] place [] (omega arith) in let bad : Among [] r = subst (λ (z : List ℕ). Among z r) e h in absurd bad)
moves_in true (n ∷ row) zero r (inl e) = inl e
moves_in true (n ∷ row) zero r (inr h) = absurd h
moves_in true (n ∷ row) (suc place) r h = inr (moves_in true row place r h)
moves_in false row zero r h = h
moves_in false row (suc place) r h = (let e : get_or {A = List ℕ} [] place [] ≡ [] = get_or_past [] place [] (omega arith) in let bad : Among [] r = subst (λ (z : List ℕ). Among z r)
    e h in absurd bad)

-- the graph of the candidates
abbrev pub graph_outs : Machine_data → Machine_data → ℕ → List Spot → List (List ℕ) → List (List (List ℕ))
graph_outs sub above bound found rows = outs_of (is_any sub above bound) found rows

pub row_at : (sub above : Machine_data) (bound : ℕ) (found : List Spot) (rows : List (List ℕ)) → IsDiscovery (nexts_within sub above bound) (start_spot sub above) found rows
    → (n : ℕ) (x : Spot) → slice_get found n ≡ Some x → (row : List ℕ) × (slice_get rows n ≡ Some row)
row_at sub above bound found rows d n x e = at_within rows n (let a = at_short found n x e in let b = d.all in omega arith)

pub graph_pictures : (sub above : Machine_data) (bound : ℕ) (found : List Spot) (rows : List (List ℕ)) → IsDiscovery (nexts_within sub above bound) (start_spot sub above) found rows
    → Pictures (moves_at sub above bound) found (graph_outs sub above bound found rows)
graph_pictures sub above bound found rows d = record {
  size = outs_length any found rows d.all;
  count = λ n x e. (let r = row_at sub above bound found rows d n x e in let nm = d.names n x r.0 e r.1 in
      ap (λ (z : List (List ℕ)). length z) (outs_at any found rows n x r.0 e r.1)
      ∙ moves_count (any x) r.0 (nexts_within sub above bound x) (names_length found r.0 (nexts_within sub above bound x) nm));
  names = λ n place x rs e m. (let r = row_at sub above bound found rows d n x e in let nm = d.names n x r.0 e r.1 in
      subst (λ (z : List (List ℕ)). ArePlacesOf found (get_or z place []) rs) (sym (outs_at any found rows n x r.0 e r.1))
      (moves_name found (any x) r.0 (nexts_within sub above bound x) place rs nm m));
}
  where
    any : Spot → Bool
    any p = is_any sub above bound p

pub graph_within : (sub above : Machine_data) (bound : ℕ) (found : List Spot) (rows : List (List ℕ)) → IsDiscovery (nexts_within sub above bound) (start_spot sub above) found rows
    → (n p r : ℕ) → Leads (graph_outs sub above bound found rows) n p r → r < length (graph_outs sub above bound found rows)
graph_within sub above bound found rows d n p r h = elim (cases_lt n (length found)) [
  | inr a ↦ (let s = pictures.size in let e = get_or_past outs n [] (omega arith) in
      let q : get_or {A = List ℕ} [] p [] ≡ [] = get_or_past [] p [] (omega arith) in
      let bad : Among [] r = subst (λ (z : List ℕ). Among z r) (ap (λ (z : List (List ℕ)). get_or z p []) e ∙ q) h in absurd bad)
  | inl a ↦ (let x = at_within found n a in let row = row_at sub above bound found rows d n x.0 x.1 in
      let m = moves_in (any x.0) row.0 p r (subst (λ (z : List (List ℕ)). Among (get_or z p []) r) (outs_at any found rows n x.0 row.0 x.1 row.1) h) in
      let k = rows_within (nexts_within sub above bound) (start_spot sub above) found rows d n r (subst (λ (z : List ℕ). Among z r) (sym (got rows n row.0 [] row.1)) m) in
      let s = pictures.size in let l = d.all in omega arith)
]
  where
    any : Spot → Bool
    any p = is_any sub above bound p

    outs : List (List (List ℕ))
    outs = graph_outs sub above bound found rows

    pictures : Pictures (moves_at sub above bound) found outs
    pictures = graph_pictures sub above bound found rows d

-- the candidates, their graph, and what is left of it
record Explored (sub above : Machine_data) (bound : ℕ) : Type 0 where
  pub whole : IsWhole (nexts_within sub above bound) (start_spot sub above) MOST_CANDIDATES
  pub outs : List (List (List ℕ))
  pub pictures : Pictures (moves_at sub above bound) whole.found outs
  pub left : IsLeft outs

explored : (sub above : Machine_data) (bound : ℕ) → IsWhole (nexts_within sub above bound) (start_spot sub above) MOST_CANDIDATES → Explored sub above bound
explored sub above bound w = record {
  whole = w;
  outs = graph_outs sub above bound w.found w.rows;
  pictures = graph_pictures sub above bound w.found w.rows w.discovery;
  left = left (graph_outs sub above bound w.found w.rows) (graph_within sub above bound w.found w.rows w.discovery);
}

not_found : (sub above : Machine_data) (bound : ℕ) (x : Explored sub above bound) → removal.moves_at x.outs 0 ≤ at x.left.current 0 → (cut : Bool) × IsNotFound sub above bound cut
not_found sub above bound x le =
    let found = x.whole.found in let rows = x.whole.rows in let d = x.whole.discovery in (
      list_any (is_cut sub above bound) found,
      record {
        bounded = λ m. not_both (nexts_within sub above bound) (start_spot sub above) found rows MOST_CANDIDATES d x.whole.bounded (less_than sub above bound MOST_CANDIDATES m);
        dies = dies sub above bound found (record { outs = x.outs; intos = [] }) x.left.current x.left.order x.pictures x.left.removal 0 (start_spot sub above) d.first le;
        cuts = (cut_to sub above bound found rows d, cut_from sub above bound found rows d);
      },
    )

-- the edges that keep their head, and the nodes of the derivation
kept_all : (keeps : List Bool) (items : List ℕ) (nexts : List (List ℕ)) → length nexts ≡ length items → (n i : ℕ) → i + n ≡ length items → (kept : List (List ℕ)) → AreKept keeps items nexts i kept
    → (all : List (List ℕ)) × AreKept keeps items nexts (length items) all
kept_all keeps items nexts e zero i s kept a = (kept, (let k : i ≡ length items = omega arith in subst (λ (z : ℕ). AreKept keeps items nexts z kept) k a))
kept_all keeps items nexts e (suc n) i s kept a =
    let m = at_within items i (omega arith) in
    let row = at_within nexts i (omega arith) in
    let this : List ℕ = if get_or keeps m.0 false then row.0 else [] in
    kept_all keeps items nexts e n (i + 1) (omega arith) (kept ++ (this ∷ []))
    (kept_on keeps items nexts i m.0 (get_or keeps m.0 false) row.0 this kept (kept ++ (this ∷ [])) a m.1 row.1 refl refl refl)

nodes_all : (found : List Spot) (items : List ℕ) (nexts : List (List ℕ)) (ranks : List ℕ) → length nexts ≡ length items → ((i n : ℕ) → slice_get items i ≡ Some n → n < length found) → (n i : ℕ)
    → i + n ≡ length items → (nodes : List DNode_data)
    → AreNodes found items nexts ranks i nodes → (all : List DNode_data) × AreNodes found items nexts ranks (length items) all
nodes_all found items nexts ranks e inside zero i s nodes a = (nodes, (let k : i ≡ length items = omega arith in subst (λ (z : ℕ). AreNodes found items nexts ranks z nodes) k a))
nodes_all found items nexts ranks e inside (suc n) i s nodes a =
    let m = at_within items i (omega arith) in
    let p = at_within found m.0 (inside i m.0 m.1) in
    let row = at_within nexts i (omega arith) in
    let node = node_at_spot p.0 (get_or ranks i 0) row.0 in
    nodes_all found items nexts ranks e inside n (i + 1) (omega arith) (nodes ++ (node ∷ []))
    (nodes_on found items nexts ranks i m.0 (get_or ranks i 0) p.0 row.0 nodes (nodes ++ (node ∷ [])) node a m.1 p.1 row.1 refl refl refl)

abbrev pub Decision : Machine_data → Machine_data → ℕ → Type 0
Decision sub above bound = ((d : Derivation_data) × IsCanonical sub above bound d) ⊎ ((fault : SearchFault) × (fault ≢ NoMemory) × SearchRefuses sub above bound fault)

stays_on : (sub above : Machine_data) (bound : ℕ) → IsProper above → (x : Explored sub above bound) → at x.left.current 0 < removal.moves_at x.outs 0 → Decision sub above bound
stays_on sub above bound proper x start =
    elim (ranks_or_cycle kept.0 (kept_within next keeps w.found w.rows kept.0 w.discovery kept.1)) [
      | inl r ↦ (let o = worked r.0 in inl (record { role = sub.role; bound = bound; nodes = o.nodes }, is_found sub above bound o kept.0 kept.1 r.1))
      | inr c ↦ inr (Forgets c.0, (λ e. cc (e)), forgets sub above bound (worked []) kept.0 c.0 kept.1 c.1)
    ]
  where
    next : ℕ → List ℕ
    next n = next_of x.outs x.left.current n

    stays : (n : ℕ) → Reached (next_of x.outs x.left.current) 0 n → at x.left.current n < removal.moves_at x.outs n
    stays _ Begin = start
    stays _ (Step a b r m) = x.left.removal.stays a b (stays a r) m

    inside : (n : ℕ) → Reached (next_of x.outs x.left.current) 0 n → n < length x.outs
    inside n r = elim (cases_lt n (length x.outs)) [
      | inl a ↦ a
      | inr a ↦ (let z : removal.moves_at x.outs n ≡ 0 = ap (λ (y : List (List ℕ)). length y) (get_or_past x.outs n [] a) in let s = stays n r in let bad : ⊥ = omega arith in absurd bad)
    ]

    w : IsWhole (next_of x.outs x.left.current) 0 (length x.outs)
    w = all_discovered (next_of x.outs x.left.current) 0 (length x.outs) (let a = inside 0 Begin in omega arith) inside

    keeps : List Bool
    keeps = map (is_keeping sub above bound) x.whole.found

    stay : (i n : ℕ) → slice_get w.found i ≡ Some n → at x.left.current n < removal.moves_at x.outs n
    stay i n e = stays n (w.discovery.reached i n e)

    kept : (all : List (List ℕ)) × AreKept keeps w.found w.rows (length w.found) all
    kept = kept_all keeps w.found w.rows w.discovery.all (length w.found) 0 (omega arith) [] (kept_none keeps w.found w.rows)

    nodes : (ranks : List ℕ) → (all : List DNode_data) × AreNodes x.whole.found w.found w.rows ranks (length w.found) all
    nodes ranks = nodes_all x.whole.found w.found w.rows ranks w.discovery.all (λ i n e. let a = inside n (w.discovery.reached i n e) in let s = x.pictures.size in omega arith) (length w.found) 0
        (omega arith) [] (nodes_none x.whole.found w.found w.rows ranks)

    worked : (ranks : List ℕ) → Worked_out sub above bound
    worked ranks = record {
      found = x.whole.found;
      rows = x.whole.rows;
      graph = record { outs = x.outs; intos = [] };
      current = x.left.current;
      order = x.left.order;
      items = w.found;
      nexts = w.rows;
      ranks = ranks;
      nodes = (nodes ranks).0;
      proper = proper;
      discovery = x.whole.discovery;
      bounded = x.whole.bounded;
      pictures = x.pictures;
      left = x.left.removal;
      numbers = w.discovery;
      stay = stay;
      made = (nodes ranks).1;
    }

pub decided : (sub above : Machine_data) (bound : ℕ) → IsProper sub → IsProper above → Decision sub above bound
decided sub above bound ws wa = elim (discovered same_spots (nexts_within sub above bound) (start_spot sub above) MOST_CANDIDATES (suc MOST_CANDIDATES) (start_spot sub above ∷ []) [] (omega arith)
    (omega arith) (growing_begin (nexts_within sub above bound) (start_spot sub above))) [
      | inr m ↦ inr (TooLarge, (λ e. cc (e)), more_than sub above bound MOST_CANDIDATES m)
      | inl w ↦ (let x = explored sub above bound w in
          elim (cases_lt (at x.left.current 0) (removal.moves_at x.outs 0)) [
            | inl s ↦ stays_on sub above bound wa x s
            | inr g ↦ (let r = not_found sub above bound x g in inr (NotFound r.0, (λ e. cc (e)), r.1))
          ])
    ]

-- there aren't too many candidates, the start survives, and nothing is forgotten
abbrev pub StaysWhole : Machine_data → Machine_data → ℕ → Type 0
StaysWhole sub above bound = (AreMoreThan sub above bound MOST_CANDIDATES → ⊥) × Survives sub above bound (start_spot sub above) × (IsForgetful sub above bound → ⊥)

stays_whole : (sub above : Machine_data) (bound : ℕ) (d : Derivation_data) → IsCanonical sub above bound d → StaysWhole sub above bound
stays_whole sub above bound d f = (f.bounded, starts_survive sub above bound d f.canonical, no_answer_is_forgetful sub above bound d f)

-- where these three hold nothing is refused
not_refused : (sub above : Machine_data) (bound : ℕ) → StaysWhole sub above bound → (fault : SearchFault) → fault ≢ NoMemory → SearchRefuses sub above bound fault → ⊥
not_refused sub above bound h (NotFound cut) ne r = r.dies h.1
not_refused sub above bound h (Forgets node) ne r = h.2 (is_forgetful sub above bound node r)
not_refused sub above bound h TooLarge ne r = h.0 r
not_refused sub above bound h NoMemory ne r = ne refl

pub derived_where_whole : (sub above : Machine_data) (bound : ℕ) → IsProper sub → IsProper above → ((d : Derivation_data) × IsCanonical sub above bound d) ↔ StaysWhole sub above bound
derived_where_whole sub above bound ws wa = ((λ f. stays_whole sub above bound f.0 f.1), (λ h. elim (decided sub above bound ws wa) [ inl f ↦ f | inr r ↦ absurd (not_refused sub above bound h r.0 r.1 r.2) ]))
