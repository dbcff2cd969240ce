-- The canonical derivation is one at most, and so is the reason why there is none.
use Rattle.std.proofs.Common.{◌≡◌, ◌≢◌, ◌⊎◌, inl, inr, ℕ, ◌<◌, ◌≤◌, ◌+◌, Bool, true, false, List, [], ◌∷◌, length, map, refl, sym, ap, ◌∙◌, subst, arith, zero, suc, Some, Option}
use Rattle.std.proofs.Common.{slice_get}
use Rattle.std.proofs.lemmas.Bool.{cases_lt}
use Rattle.std.proofs.lemmas.List.{length-map}
use Rattle.std.proofs.lemmas.Option.{same_Some}
use Rattle.rs_model.specs.declared.limits.TheConstants.{MOST_CANDIDATES}
use Rattle.rs_model.specs.Data.{Machine_data}
use Rattle.rs_model.specs.declared.graph.Arm.{Arm}
use Rattle.rs_model.specs.declared.graph.Role.{Role}
use Rattle.rs_model.specs.declared.machines.State.{State}
use Rattle.rs_model.specs.declared.machines.State.TheVariants.{Puts}
use Rattle.rs_derive.proofs.Mapped.{map_at, map_of}
use Rattle.rs_derive.proofs.Rows.{Guessed, complete, due_applies, guessed, ruled}
use Rattle.rs_derive.proofs.Ruled.{Row, Stopping, PayingSend, SendingBoth, Guessing, SendingAhead, PayingReceive, ReceivingAhead}
use Rattle.rs_derive.specs.Data.{DNode_data, Derivation_data}
use Rattle.rs_derive.specs.Derivations.{KeepsItsHead, spot_of}
use Rattle.rs_derive.specs.Due.{Chosen, Due, due_by, nexts_by}
use Rattle.rs_derive.specs.Moves.{HasMove, Spot, owing_send}
use Rattle.rs_derive.specs.Rules.{arms_at, arms_of}
use Rattle.rs_derive.specs.declared.rules.Rule.{Rule}
use Rattle.rs_derive.specs.declared.rules.Rule.TheVariants.{Pays}
use Rattle.rs_graph.proofs.Growth.{at_in, at_within, in_at}
use Rattle.rs_graph.specs.Order.{Once, Numbered, NoMore, Known, New, Worked, AllDone, Next}
use Rattle.rs_graph.specs.Lists.{Among, ArePlacesOf}
use Rattle.rs_graph.specs.Walks.{Walk, Here, Further, IsLeastOnCycle, IsRank}
use Rattle.rs_graph.proofs.Kept.{names_at}
use Rattle.rs_search.proofs.Accepted.{nodes_are_candidates}
use Rattle.rs_search.proofs.Assembled.{least_on, walk_on}
use Rattle.rs_search.proofs.Choices.{both_single, follow_single, single_same}
use Rattle.rs_search.specs.Candidates.{IsCandidate, start_spot}
use Rattle.rs_search.specs.Canonical.{HasCanonicalNodes, IsForgetful, IsForgets, IsCanonical, KeepsHead, SearchRefuses}
use Rattle.rs_search.specs.Survives.{IsChosen, IsSupported, Survives}
use Rattle.rs_search.specs.declared.faults.SearchFault.{SearchFault}
use Rattle.rs_search.specs.declared.faults.SearchFault.TheVariants.{NotFound, Forgets, TooLarge, NoMemory}

-- two moves of a spot have the same results, or both are guesses

pub record AreGuesses (above : Machine_data) (p : Spot) (rs rs' : List Spot) : Type 0 where
  pub peer : Role
  pub theirs : List Arm
  pub stands : slice_get above.states p.above ≡ Some (Puts peer theirs)
  pub one : Guessed p peer theirs rs
  pub other : Guessed p peer theirs rs'

two_by : (above : Machine_data) (p : Spot) (s : State) (t : Option State) (rule : Rule) (rs rs' : List Spot) → Row p.pending s t rule → slice_get above.states p.above ≡ t
    → Chosen (nexts_by p (arms_at s) (arms_of t) rule) rs → Chosen (nexts_by p (arms_at s) (arms_of t) rule) rs' → (rs ≡ rs') ⊎ AreGuesses above p rs rs'
two_by above p _ _ _ rs rs' (Stopping e) g c c' = inl (single_same [] rs rs' tt c c')
two_by above p _ _ _ rs rs' (PayingSend q a place so t found at sv) g c c' = inl (single_same (nexts_by p [] [] (Pays place a)) rs rs' tt c c')
two_by above p _ _ _ rs rs' (SendingBoth q arms theirs none all) g c c' = inl (single_same _ rs rs' (both_single theirs p.pending arms all) c c')
two_by above p _ _ _ rs rs' (Guessing q r arms theirs none ne) g c c' =
    inr record { peer = r; theirs = theirs; stands = g; one = guessed p r theirs rs c; other = guessed p r theirs rs' c' }
two_by above p _ _ _ rs rs' (SendingAhead q r arms theirs none) g c c' = inl (single_same _ rs rs' (follow_single p r theirs) c c')
two_by above p _ _ _ rs rs' (PayingReceive q arms place l so a t found at arm sv) g c c' = inl (single_same (nexts_by p [] [] (Pays place a)) rs rs' tt c c')
two_by above p _ _ _ rs rs' (ReceivingAhead q r arms theirs none) g c c' = inl (single_same _ rs rs' (follow_single p r theirs) c c')

pub two_moves : (sub above : Machine_data) (p : Spot) (makes makes' : Option ℕ) (rs rs' : List Spot) → HasMove sub above p makes rs → HasMove sub above p makes' rs'
    → (rs ≡ rs') ⊎ AreGuesses above p rs rs'
two_moves sub above p makes makes' rs rs' m m' =
    let t = slice_get above.states p.above in
    let r = ruled sub above p makes rs m in
    let u = complete sub above p makes' rs' m' in
    let d : Due = due_by p (arms_at r.state) (arms_of t) r.rule in
    let same : u.d ≡ d = same_Some u.d d (sym u.due_is ∙ due_applies p (slice_get sub.states p.state) t r.state r.rule r.stands r.row) in
    two_by above p r.state t r.rule rs rs' r.row refl r.picks (subst (λ (z : Due). Chosen z.nexts rs') same u.picks)

-- the chosen move is one

earlier_not : (sub above : Machine_data) (bound : ℕ) (p : Spot) (peer : Role) (theirs : List Arm) (rs rs' : List Spot) → slice_get above.states p.above ≡ Some (Puts peer theirs)
    → (a : Guessed p peer theirs rs) (b : Guessed p peer theirs rs') → IsChosen sub above bound p rs → IsChosen sub above bound p rs' → a.place < b.place → ⊥
earlier_not sub above bound p peer theirs rs rs' g a b c c' lt =
    c'.least peer theirs b.place a.place b.arm a.arm g b.stands b.results lt a.stands
    (c.survive (owing_send p peer a.arm) (subst (λ (z : List Spot). Among z (owing_send p peer a.arm)) (sym a.results) (inl refl)))

pub one_choice : (sub above : Machine_data) (bound : ℕ) (p : Spot) (rs rs' : List Spot) → IsChosen sub above bound p rs → IsChosen sub above bound p rs' → rs ≡ rs'
one_choice sub above bound p rs rs' c c' =
    elim (two_moves sub above p c.move.makes c'.move.makes rs rs' c.move.move c'.move.move) [
      | inl e ↦ e
      | inr g ↦ (let a = g.one in let b = g.other in
          elim (cases_lt a.place b.place) [
            | inl lt ↦ absurd (earlier_not sub above bound p g.peer g.theirs rs rs' g.stands a b c c' lt)
            | inr ge ↦ elim (cases_lt b.place a.place) [
              | inl lt ↦ absurd (earlier_not sub above bound p g.peer g.theirs rs' rs g.stands b a c' c lt)
              | inr le ↦ (let e : a.place ≡ b.place = omega arith in
                  let m : a.arm ≡ b.arm = same_Some a.arm b.arm (sym a.stands ∙ ap (λ (z : ℕ). slice_get g.theirs z) e ∙ b.stands) in
                  a.results ∙ ap (λ (z : Arm). owing_send p g.peer z ∷ []) m ∙ sym b.results)
            ]
          ])
    ]

-- two discoveries by the same choices

abbrev Agree : List Spot → List Spot → ℕ → Type 0
Agree xs ys known = (i : ℕ) → i < known → slice_get xs i ≡ slice_get ys i

record SameRow (xs ys : List Spot) (row row' : List ℕ) (mid mid' : ℕ) : Type 0 where
  pub rows : row ≡ row'
  pub mids : mid ≡ mid'
  pub agree : Agree xs ys mid

more_agree : (xs ys : List Spot) (known : ℕ) (r : Spot) → Agree xs ys known → slice_get xs known ≡ Some r → slice_get ys known ≡ Some r → Agree xs ys (suc known)
more_agree xs ys known r ag ex ey i lt =
    elim (cases_lt i known) [ inl a ↦ ag i a | inr b ↦ (let e : i ≡ known = omega arith in ap (λ (z : ℕ). slice_get xs z) e ∙ ex ∙ sym ey ∙ ap (λ (z : ℕ). slice_get ys z) (sym e)) ]

row_same : (xs ys : List Spot) → Once xs → Once ys → (known mid mid' : ℕ) (row row' : List ℕ) (rs : List Spot) → Agree xs ys known → ArePlacesOf xs row rs → ArePlacesOf ys row' rs
    → Numbered known row mid
    → Numbered known row' mid' → SameRow xs ys row row' mid mid'
row_same xs ys ox oy known _ _ _ _ [] ag nx ny (NoMore _) (NoMore _) = record { rows = refl; mids = refl; agree = ag }
row_same xs ys ox oy known _ _ _ _ (r ∷ rs) ag nx ny (NoMore _) (NoMore _) = absurd nx
row_same xs ys ox oy known _ _ _ _ [] ag nx ny (NoMore _) (Known _ n _ ns h w) = absurd ny
row_same xs ys ox oy known _ _ _ _ (r ∷ rs) ag nx ny (NoMore _) (Known _ n _ ns h w) = absurd nx
row_same xs ys ox oy known _ _ _ _ [] ag nx ny (NoMore _) (New _ _ ns w) = absurd ny
row_same xs ys ox oy known _ _ _ _ (r ∷ rs) ag nx ny (NoMore _) (New _ _ ns w) = absurd nx
row_same xs ys ox oy known _ _ _ _ [] ag nx ny (Known _ n _ ns h w) q = absurd nx
row_same xs ys ox oy known _ _ _ _ (r ∷ rs) ag nx ny (Known _ n _ ns h w) (NoMore _) = absurd ny
row_same xs ys ox oy known mid mid' _ _ (r ∷ rs) ag nx ny (Known _ n _ ns h w) (Known _ m _ ms k v) =
    let e : n ≡ m = ox n m r nx.0 (ag m k ∙ ny.0) in
    let s = row_same xs ys ox oy known mid mid' ns ms rs ag nx.1 ny.1 w v in
    record { rows = ap (λ (z : ℕ). z ∷ ns) e ∙ ap (λ (z : List ℕ). m ∷ z) s.rows; mids = s.mids; agree = s.agree }
row_same xs ys ox oy known mid mid' _ _ (r ∷ rs) ag nx ny (Known _ n _ ns h w) (New _ _ ms v) =
    let e : n ≡ known = oy n known r (sym (ag n h) ∙ nx.0) ny.0 in let bad : ⊥ = omega arith in absurd bad
row_same xs ys ox oy known _ _ _ _ [] ag nx ny (New _ _ ns w) q = absurd nx
row_same xs ys ox oy known _ _ _ _ (r ∷ rs) ag nx ny (New _ _ ns w) (NoMore _) = absurd ny
row_same xs ys ox oy known mid mid' _ _ (r ∷ rs) ag nx ny (New _ _ ns w) (Known _ m _ ms k v) =
    let e : known ≡ m = ox known m r nx.0 (ag m k ∙ ny.0) in let bad : ⊥ = omega arith in absurd bad
row_same xs ys ox oy known mid mid' _ _ (r ∷ rs) ag nx ny (New _ _ ns w) (New _ _ ms v) =
    let s = row_same xs ys ox oy (suc known) mid mid' ns ms rs (more_agree xs ys known r ag nx.0 ny.0) nx.1 ny.1 w v in
    record { rows = ap (λ (z : List ℕ). known ∷ z) s.rows; mids = s.mids; agree = s.agree }

-- the rows from that place on name the chosen results
abbrev Follow : Machine_data → Machine_data → ℕ → List Spot → List (List ℕ) → ℕ → Type 0
Follow sub above bound xs rows k = (i : ℕ) (row : List ℕ) (p : Spot) → slice_get rows i ≡ Some row → slice_get xs (k + i) ≡ Some p → (rs : List Spot) × IsChosen sub above bound p rs
    × ArePlacesOf xs row rs

known_up : (known after : ℕ) (row : List ℕ) → Numbered known row after → known ≤ after
known_up known _ _ (NoMore _) = omega arith
known_up known after _ (Known _ n _ ns h w) = known_up known after ns w
known_up known after _ (New _ _ ns w) = let k = known_up (suc known) after ns w in omega arith

worked_up : (k known after : ℕ) (rows : List (List ℕ)) → Worked k known rows after → known ≤ after
worked_up k known _ _ (AllDone _ _) = omega arith
worked_up k known after _ (Next _ _ mid _ row rows h n w) = let a = known_up known mid row n in let b = worked_up (suc k) mid after rows w in omega arith

record SameRows (xs ys : List Spot) (rows rows' : List (List ℕ)) (after after' : ℕ) : Type 0 where
  pub rows_same : rows ≡ rows'
  pub ends : after ≡ after'
  pub agree : Agree xs ys after

worked_same : (sub above : Machine_data) (bound : ℕ) (xs ys : List Spot) → Once xs → Once ys → (k known after after' : ℕ) (rows rows' : List (List ℕ)) → Agree xs ys known
    → Follow sub above bound xs rows k → Follow sub above bound ys rows' k → after ≡ length xs → after' ≡ length ys → k + length rows ≡ after → k + length rows' ≡ after' → Worked k known rows after
    → Worked k known rows' after' → SameRows xs ys rows rows' after after'
worked_same sub above bound xs ys ox oy k known _ _ _ _ ag fx fy ex ey lx ly (AllDone _ _) (AllDone _ _) = record { rows_same = refl; ends = refl; agree = ag }
worked_same sub above bound xs ys ox oy k known _ after' _ _ ag fx fy ex ey lx ly (AllDone _ _) (Next _ _ mid _ row rows h n w) = let bad : ⊥ = omega arith in absurd bad
worked_same sub above bound xs ys ox oy k known after _ _ _ ag fx fy ex ey lx ly (Next _ _ mid _ row rows h n w) (AllDone _ _) = let bad : ⊥ = omega arith in absurd bad
worked_same sub above bound xs ys ox oy k known after after' _ _ ag fx fy ex ey lx ly (Next _ _ mid _ row rows h n w) (Next _ _ mid' _ row' rows' h' n' w') =
    let p = at_within xs k (let a = known_up known mid row n in let b = worked_up (suc k) mid after rows w in omega arith) in
    let z : k + 0 ≡ k = omega arith in
    let px : slice_get xs (k + 0) ≡ Some p.0 = ap (λ (i : ℕ). slice_get xs i) z ∙ p.1 in
    let py : slice_get ys (k + 0) ≡ Some p.0 = ap (λ (i : ℕ). slice_get ys i) z ∙ sym (ag k h) ∙ p.1 in
    let cx = fx 0 row p.0 refl px in
    let cy = fy 0 row' p.0 refl py in
    let e : cy.0 ≡ cx.0 = one_choice sub above bound p.0 cy.0 cx.0 cy.1 cx.1 in
    let s = row_same xs ys ox oy known mid mid' row row' cx.0 ag cx.2 (subst (λ (rs : List Spot). ArePlacesOf ys row' rs) e cy.2) n n' in
    let w2 : Worked (suc k) mid rows' after' = subst (λ (m : ℕ). Worked (suc k) m rows' after') (sym s.mids) w' in
    let on : (i : ℕ) → k + suc i ≡ suc k + i = λ i. omega arith in
    let t = worked_same sub above bound xs ys ox oy (suc k) mid after after' rows rows' s.agree
    (λ i r q a b. fx (suc i) r q a (ap (λ (j : ℕ). slice_get xs j) (on i) ∙ b)) (λ i r q a b. fy (suc i) r q a (ap (λ (j : ℕ). slice_get ys j) (on i) ∙ b)) ex ey (omega arith) (omega arith) w w2 in
    record { rows_same = ap (λ (r : List ℕ). r ∷ rows) s.rows ∙ ap (λ (rs : List (List ℕ)). row' ∷ rs) t.rows_same; ends = t.ends; agree = t.agree }

-- two canonical derivations, but for their ranks

abbrev spots : Derivation_data → List Spot
spots d = map (λ (m : DNode_data). spot_of m) d.nodes

abbrev nexts : Derivation_data → List (List ℕ)
nexts d = map (λ (m : DNode_data). m.next) d.nodes

follows : (sub above : Machine_data) (bound : ℕ) (d : Derivation_data) → HasCanonicalNodes sub above bound d → Follow sub above bound (spots d) (nexts d) 0
follows sub above bound d c i row p er ep =
    let m = map_of (λ (m : DNode_data). m.next) d.nodes i row er in
    let f = c.each i m.0 m.1 in
    let z : 0 + i ≡ i = omega arith in
    let q : spot_of m.0 ≡ p = same_Some (spot_of m.0) p (sym (map_at (λ (m : DNode_data). spot_of m) d.nodes i m.0 m.1) ∙ ap (λ (j : ℕ). slice_get (spots d) j) (sym z) ∙ ep) in
    (f.results, subst (λ (s : Spot). IsChosen sub above bound s f.results) q f.chosen, subst (λ (r : List ℕ). ArePlacesOf (spots d) r f.results) m.2 f.names)

same_list : {X : Type 0} (xs ys : List X) → length xs ≡ length ys → ((i : ℕ) → i < length xs → slice_get xs i ≡ slice_get ys i) → xs ≡ ys
same_list [] [] l h = refl
same_list [] (y ∷ ys) l h = (let bad : ⊥ = omega arith in absurd bad)
same_list (x ∷ xs) [] l h = (let bad : ⊥ = omega arith in absurd bad)
same_list (x ∷ xs) (y ∷ ys) l h =
    let e : x ≡ y = same_Some x y (h zero (omega arith)) in
    ap (λ z. z ∷ xs) e ∙ ap (λ z. y ∷ z) (same_list xs ys (omega arith) (λ i lt. h (suc i) (omega arith)))

pub record Same (d e : Derivation_data) : Type 0 where
  pub spots' : spots d ≡ spots e
  pub nexts' : nexts d ≡ nexts e
  pub role : d.role ≡ e.role
  pub bound : d.bound ≡ e.bound

pub one_canonical : (sub above : Machine_data) (bound : ℕ) (d e : Derivation_data) → HasCanonicalNodes sub above bound d → HasCanonicalNodes sub above bound e → Same d e
one_canonical sub above bound d e c c' =
    let ld = length-map d.nodes (λ (m : DNode_data). spot_of m) in
    let le = length-map e.nodes (λ (m : DNode_data). spot_of m) in
    let nd = length-map d.nodes (λ (m : DNode_data). m.next) in
    let ne = length-map e.nodes (λ (m : DNode_data). m.next) in
    let s = worked_same sub above bound (spots d) (spots e) c.once c'.once 0 1 (length d.nodes) (length e.nodes) (nexts d) (nexts e)
    (λ i lt. let z : i ≡ 0 = omega arith in ap (λ (j : ℕ). slice_get (spots d) j) z ∙ c.first ∙ sym c'.first ∙ ap (λ (j : ℕ). slice_get (spots e) j) (sym z))
    (follows sub above bound d c) (follows sub above bound e c') (sym ld) (sym le) (omega arith) (omega arith) c.order c'.order in
    record {
      spots' = same_list (spots d) (spots e) (let q = s.ends in omega arith) (λ i lt. s.agree i (omega arith));
      nexts' = s.rows_same;
      role = c.role ∙ sym c'.role;
      bound = c.bound' ∙ sym c'.bound';
    }

-- edges that keep their head don't depend on ranks
pub keeps_on : (sub above : Machine_data) (d e : Derivation_data) → Same d e → (i j : ℕ) → KeepsHead sub above d.nodes i j → KeepsHead sub above e.nodes i j
keeps_on sub above d e s i j h =
    let m = map_of (λ (m : DNode_data). spot_of m) e.nodes i (spot_of h.node)
    (subst (λ (z : List Spot). slice_get z i ≡ Some (spot_of h.node)) s.spots' (map_at (λ (m : DNode_data). spot_of m) d.nodes i h.node h.stands)) in
    let n = map_of (λ (m : DNode_data). m.next) e.nodes i h.node.next
    (subst (λ (z : List (List ℕ)). slice_get z i ≡ Some h.node.next) s.nexts' (map_at (λ (m : DNode_data). m.next) d.nodes i h.node h.stands)) in
    let same : n.0 ≡ m.0 = same_Some n.0 m.0 (sym n.1 ∙ m.1) in
    let next : h.node.next ≡ m.0.next = sym n.2 ∙ ap (λ (z : DNode_data). z.next) same in
    record {
      node = m.0;
      stands = m.1;
      makes = h.makes;
      results = h.results;
      move = subst (λ (z : Spot). HasMove sub above z h.makes h.results) (sym m.2) h.move;
      keeps = subst (λ (z : Spot). KeepsItsHead z.pending h.makes) (sym m.2) h.keeps;
      leads = subst (λ (z : List ℕ). Among z j) next h.leads;
    }

same_back : (d e : Derivation_data) → Same d e → Same e d
same_back d e s = record { spots' = sym s.spots'; nexts' = sym s.nexts'; role = sym s.role; bound = sym s.bound }

node_of : Spot → ℕ → List ℕ → DNode_data
node_of p rank row = record { state = p.state; pending = p.pending; above = p.above; rank = rank; next = row }

node_same : (n m : DNode_data) → spot_of n ≡ spot_of m → n.rank ≡ m.rank → n.next ≡ m.next → n ≡ m
unfolding node_of
node_same n m es er en = ap (λ (z : Spot). node_of z n.rank n.next) es ∙ ap (λ (z : ℕ). node_of (spot_of m) z n.next) er ∙ ap (λ (z : List ℕ). node_of (spot_of m) m.rank z) en

rank_most : (sub above : Machine_data) (d e : Derivation_data) → Same d e → (i a b : ℕ) → IsRank (KeepsHead sub above d.nodes) i a → IsRank (KeepsHead sub above e.nodes) i b → a ≤ b
rank_most sub above d e s i a b r q = q.most a r.end (walk_on (KeepsHead sub above d.nodes) (KeepsHead sub above e.nodes) (keeps_on sub above d e s) i a r.end r.walk)

pub one_answer : (sub above : Machine_data) (bound : ℕ) (d e : Derivation_data) → IsCanonical sub above bound d → IsCanonical sub above bound e → d ≡ e
one_answer sub above bound d e f g =
    let s = one_canonical sub above bound d e f.canonical g.canonical in
    let l : length d.nodes ≡ length e.nodes
    = sym (length-map d.nodes (λ (m : DNode_data). spot_of m)) ∙ ap (λ (z : List Spot). length z) s.spots' ∙ length-map e.nodes (λ (m : DNode_data). spot_of m) in
    let nodes : d.nodes ≡ e.nodes = same_list d.nodes e.nodes l (λ i lt.
    let n = at_within d.nodes i lt in
    let m = at_within e.nodes i (omega arith) in
    let es : spot_of n.0 ≡ spot_of m.0
    = same_Some (spot_of n.0) (spot_of m.0)
    (sym (map_at (λ (x : DNode_data). spot_of x) d.nodes i n.0 n.1) ∙ ap (λ (z : List Spot). slice_get z i) s.spots' ∙ map_at (λ (x : DNode_data). spot_of x) e.nodes i m.0 m.1) in
    let en : n.0.next ≡ m.0.next
    = same_Some n.0.next m.0.next
    (sym (map_at (λ (x : DNode_data). x.next) d.nodes i n.0 n.1) ∙ ap (λ (z : List (List ℕ)). slice_get z i) s.nexts' ∙ map_at (λ (x : DNode_data). x.next) e.nodes i m.0 m.1) in
    let a = rank_most sub above d e s i n.0.rank m.0.rank (f.ranks i n.0 n.1) (g.ranks i m.0 m.1) in
    let b = rank_most sub above e d (same_back d e s) i m.0.rank n.0.rank (g.ranks i m.0 m.1) (f.ranks i n.0 n.1) in
    let er : n.0.rank ≡ m.0.rank = omega arith in
    n.1 ∙ ap Some (node_same n.0 m.0 es er en) ∙ sym m.1) in
    make s.role s.bound nodes
  where
    make : d.role ≡ e.role → d.bound ≡ e.bound → d.nodes ≡ e.nodes → d ≡ e
    make a b c = rw (a, b, c) refl

-- the start of a canonical derivation survives
pub starts_survive : (sub above : Machine_data) (bound : ℕ) (d : Derivation_data) → HasCanonicalNodes sub above bound d → Survives sub above bound (start_spot sub above)
starts_survive sub above bound d c = record {
  set = spots d;
  stand = record {
    candidates = λ p m. (let i = at_in (spots d) p m in let n = map_of (λ (x : DNode_data). spot_of x) d.nodes i.0 p i.1 in
        subst (λ (z : Spot). IsCandidate sub above bound z) n.2 (nodes_are_candidates sub above bound d c i.0 n.0 n.1));
    each = λ p m. (let i = at_in (spots d) p m in let n = map_of (λ (x : DNode_data). spot_of x) d.nodes i.0 p i.1 in let f = c.each i.0 n.0 n.1 in
        subst (λ (z : Spot). IsSupported sub above bound (spots d) z) n.2 record {
          results = f.results;
          move = f.chosen.move;
          all = λ r k. (let a = names_at (spots d) n.0.next f.results f.names r k in in_at (spots d) a.0 r a.1);
        });
  };
  among = in_at (spots d) 0 (start_spot sub above) c.first;
}

-- ranks leave no cycle
walk_join : (E : ℕ → ℕ → Type 0) (i j k n m : ℕ) → Walk E i n j → Walk E j m k → Walk E i (n + m) k
walk_join E i _ k _ m (Here _) v = subst (λ (z : ℕ). Walk E i z k) (let q : m ≡ 0 + m = omega arith in q) v
walk_join E i j k _ m (Further _ x _ n e w) v = subst (λ (z : ℕ). Walk E i z k) (let q : suc (n + m) ≡ suc n + m = omega arith in q) (Further i x k (n + m) e (walk_join E x j k n m w v))

round : (E : ℕ → ℕ → Type 0) (i n : ℕ) → Walk E i (suc n) i → (k : ℕ) → (l : ℕ) × (k ≤ l) × Walk E i l i
round E i n w zero = (zero, omega arith, Here i)
round E i n w (suc k) = let r = round E i n w k in (suc n + r.0, (let a = r.1 in omega arith), walk_join E i i i (suc n) r.0 w r.2)

no_round : (E : ℕ → ℕ → Type 0) (i rank n : ℕ) → IsRank E i rank → Walk E i (suc n) i → ⊥
no_round E i rank n r w = let x = round E i n w (suc rank) in let a = r.most x.0 i x.2 in let b = x.1 in let bad : ⊥ = omega arith in bad

first_edge : (E : ℕ → ℕ → Type 0) (i n k : ℕ) → Walk E i (suc n) k → (j : ℕ) × E i j
first_edge E i n k (Further _ j _ _ e w) = (j, e)

pub no_answer_is_forgetful : (sub above : Machine_data) (bound : ℕ) (d : Derivation_data) → IsCanonical sub above bound d → IsForgetful sub above bound → ⊥
no_answer_is_forgetful sub above bound d f g =
    let s = one_canonical sub above bound g.derivation d g.canonical f.canonical in
    let w = walk_on (KeepsHead sub above g.derivation.nodes) (KeepsHead sub above d.nodes) (keeps_on sub above g.derivation d s) g.node (suc g.cycle.0) g.node g.cycle.1 in
    let h = (first_edge (KeepsHead sub above d.nodes) g.node g.cycle.0 g.node w).1 in
    no_round (KeepsHead sub above d.nodes) g.node h.node.rank g.cycle.0 (f.ranks g.node h.node h.stands) w

pub is_forgetful : (sub above : Machine_data) (bound node : ℕ) → IsForgets sub above bound node → IsForgetful sub above bound
is_forgetful sub above bound node g = record { derivation = g.derivation; canonical = g.canonical; node = node; cycle = g.cycle.cycle }

one_least : (E : ℕ → ℕ → Type 0) (i j : ℕ) → IsLeastOnCycle E i → IsLeastOnCycle E j → i ≡ j
one_least E i j a b = let x = a.least j b.cycle in let y = b.least i a.cycle in omega arith

one_node : (sub above : Machine_data) (bound i j : ℕ) → IsForgets sub above bound i → IsForgets sub above bound j → i ≡ j
one_node sub above bound i j a b =
    let s = one_canonical sub above bound a.derivation b.derivation a.canonical b.canonical in
    one_least (KeepsHead sub above b.derivation.nodes) i j
    (least_on (KeepsHead sub above a.derivation.nodes) (KeepsHead sub above b.derivation.nodes) (keeps_on sub above a.derivation b.derivation s)
    (keeps_on sub above b.derivation a.derivation (same_back a.derivation b.derivation s)) i a.cycle) b.cycle

same_cuts : (a b : Bool) → (a ≡ true → b ≡ true) → (b ≡ true → a ≡ true) → a ≡ b
same_cuts true true f g = refl
same_cuts true false f g = sym (f refl)
same_cuts false true f g = g refl
same_cuts false false f g = refl

pub one_refusal : (sub above : Machine_data) (bound : ℕ) (f g : SearchFault) → f ≢ NoMemory → g ≢ NoMemory → SearchRefuses sub above bound f → SearchRefuses sub above bound g → f ≡ g
one_refusal sub above bound NoMemory g nf ng a b = absurd (nf refl)
one_refusal sub above bound (NotFound cut) NoMemory nf ng a b = absurd (ng refl)
one_refusal sub above bound (Forgets node) NoMemory nf ng a b = absurd (ng refl)
one_refusal sub above bound TooLarge NoMemory nf ng a b = absurd (ng refl)
one_refusal sub above bound (NotFound cut) (NotFound cut') nf ng a b = ap NotFound (same_cuts cut cut' (λ e. b.cuts.1 (a.cuts.0 e)) (λ e. a.cuts.1 (b.cuts.0 e)))
one_refusal sub above bound (NotFound cut) (Forgets node) nf ng a b = absurd (a.dies (starts_survive sub above bound b.derivation b.canonical))
one_refusal sub above bound (NotFound cut) TooLarge nf ng a b = absurd (a.bounded b)
one_refusal sub above bound (Forgets node) (NotFound cut) nf ng a b = absurd (b.dies (starts_survive sub above bound a.derivation a.canonical))
one_refusal sub above bound (Forgets node) (Forgets node') nf ng a b = ap Forgets (one_node sub above bound node node' a b)
one_refusal sub above bound (Forgets node) TooLarge nf ng a b = absurd (a.bounded b)
one_refusal sub above bound TooLarge (NotFound cut) nf ng a b = absurd (b.bounded a)
one_refusal sub above bound TooLarge (Forgets node) nf ng a b = absurd (b.bounded a)
one_refusal sub above bound TooLarge TooLarge nf ng a b = refl

pub not_both_ways : (sub above : Machine_data) (bound : ℕ) (d : Derivation_data) (f : SearchFault) → IsCanonical sub above bound d → SearchRefuses sub above bound f → f ≡ NoMemory
not_both_ways sub above bound d (NotFound cut) i r = absurd (r.dies (starts_survive sub above bound d i.canonical))
not_both_ways sub above bound d (Forgets node) i r = absurd (no_answer_is_forgetful sub above bound d i (is_forgetful sub above bound node r))
not_both_ways sub above bound d TooLarge i r = absurd (i.bounded r)
not_both_ways sub above bound d NoMemory i r = refl

pub few_nodes : (sub above : Machine_data) (bound : ℕ) (d : Derivation_data) → IsCanonical sub above bound d → length d.nodes ≤ MOST_CANDIDATES
few_nodes sub above bound d f = elim (cases_lt MOST_CANDIDATES (length d.nodes)) [
  | inl lt ↦ absurd (f.bounded record {
    spots = spots d;
    each = λ p m. (let i = at_in (spots d) p m in let n = map_of (λ (x : DNode_data). spot_of x) d.nodes i.0 p i.1 in
        subst (λ (z : Spot). IsCandidate sub above bound z) n.2 (nodes_are_candidates sub above bound d f.canonical i.0 n.0 n.1));
    once = f.canonical.once;
    many = (let l = length-map d.nodes (λ (m : DNode_data). spot_of m) in omega arith);
  })
  | inr le ↦ le
]
