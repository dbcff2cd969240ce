-- The derivation of a machine from itself, whose states are numbered in order, has a node at each spot of its own, and no other.
use Rattle.std.proofs.Common.{◌≡◌, ◌⊎◌, inl, inr, ℕ, ◌<◌, ◌≤◌, ◌+◌, Bool, true, false, List, [], ◌∷◌, length, map, refl, sym, ap, ◌∙◌, subst, arith, zero, suc, Some, None, Option, slice_get, if◌then◌else◌}
use Rattle.std.proofs.lemmas.Bool.{cases_lt, eq-eqb}
use Rattle.std.proofs.lemmas.Bool.Decides.{eqb_tells}
use Rattle.std.proofs.lemmas.List.{length-map}
use Rattle.std.proofs.lemmas.Option.{none-some, same_Some}
use Rattle.rs_model.specs.Data.{Machine_data}
use Rattle.rs_model.specs.declared.limits.TheConstants.{MOST_CANDIDATES}
use Rattle.rs_model.specs.declared.graph.Arm.{Arm}
use Rattle.rs_model.specs.declared.graph.Label.{Label}
use Rattle.rs_model.specs.declared.graph.Role.{Role}
use Rattle.rs_model.specs.declared.machines.Act.TheVariants as act
use Rattle.rs_model.specs.declared.machines.State.{State}
use Rattle.rs_model.specs.declared.machines.State.TheVariants.{Done, Puts, Takes}
use Rattle.rs_prefix.specs.Earliest.{IsAbsent}
use Rattle.rs_prefix.specs.declared.earliest.ActKind.{ActKind}
use Rattle.rs_prefix.specs.declared.earliest.ActKind.TheVariants.{Send, Receive}
use Rattle.rs_derive.proofs.Greatest.{is}
use Rattle.rs_derive.proofs.Mapped.{map_at, map_of}
use Rattle.rs_derive.specs.Data.{DNode_data}
use Rattle.rs_derive.specs.Derivations.{IsProper, spot_of}
use Rattle.rs_derive.specs.Figures.{greatest}
use Rattle.rs_derive.specs.Moves.{Both, HasMove, PaysReceive, ReceivesAhead, SendsBoth, Spot, arm_of, owing_receive}
use Rattle.rs_derive.specs.Targets.{same_spot}
use Rattle.rs_derive.specs.Within.{HasLabelsOnce}
use Rattle.rs_graph.proofs.Growth.{all_found, at_in, at_short, growing_begin, in_at, no_more}
use Rattle.rs_graph.specs.Discovery.{Begin, IsDiscovery, Reached, Step}
use Rattle.rs_graph.specs.Lists.{Among}
use Rattle.rs_graph.specs.Order.{Numbered, NoMore, Known, New, Worked, AllDone, Next}
use Rattle.rs_search.proofs.Alike.{found_itself, kind_on, nexts_in}
use Rattle.rs_search.proofs.Choices.{among_map}
use Rattle.rs_search.proofs.Discovering.{IsWhole, Tells, discovered}
use Rattle.rs_search.proofs.OwnSpots.{flag, owed, own_all, own_kind, own_once, own_spots, owing_in}
use Rattle.rs_search.proofs.Same.{not_spot, spot_is}
use Rattle.rs_search.specs.Candidates.{AreMoreThan, IsCandidate, Onward, Start}
use Rattle.rs_search.specs.Canonical.{IsCanonical}
use Rattle.rs_search.specs.Figures.{AreStatesInOrder, HasOwnFigures, states_behind}
use Rattle.rs_search.specs.Itself.{IsOfItself, Even, Owes, even, even_nexts, nexts_itself}
use Rattle.rs_search.specs.Nodes.{node_at_spot}
use Rattle.rs_search.specs.declared.figures.OwnFigures.{OwnFigures}

-- what is said of a number that is known, and with each number of all in its row, is said of all

numbered_all : (P : ℕ → Type 0) (known after : ℕ) (ns : List ℕ) → Numbered known ns after → ((s : ℕ) → s < known → P s) → ((s : ℕ) → Among ns s → P s) → (s : ℕ) → s < after → P s
numbered_all P _ _ _ (NoMore known) old new s lt = old s lt
numbered_all P _ _ _ (Known known n after ns le rest) old new s lt = numbered_all P known after ns rest old (λ t h. new t (inr h)) s lt
numbered_all P _ _ _ (New known after ns rest) old new s lt =
    numbered_all P (suc known) after ns rest (λ t h. elim (cases_lt t known) [ inl a ↦ old t a | inr a ↦ (let e : known ≡ t = omega arith in new t (inl e)) ]) (λ t h. new t (inr h)) s lt

worked_all : (P : ℕ → Type 0) (k known after : ℕ) (rows : List (List ℕ)) → Worked k known rows after → ((s : ℕ) → s < known → P s)
    → ((i s : ℕ) (row : List ℕ) → slice_get rows i ≡ Some row → P (k + i) → Among row s → P s) → (s : ℕ) → s < after → P s
worked_all P _ _ _ _ (AllDone k known) old on s lt = old s lt
worked_all P _ _ _ _ (Next k known mid after row rows le num rest) old on s lt =
    worked_all P (suc k) mid after rows rest
    (numbered_all P known mid row num old (λ t h. let e : k ≡ k + 0 = omega arith in on 0 t row refl (subst P e (old k le)) h))
    (λ i t r e p h. let n : suc k + i ≡ k + suc i = omega arith in on (suc i) t r e (subst P n p) h) s lt

-- each spot is reached

abbrev IsComeTo : Machine_data → Spot → Type 0
IsComeTo m x = Reached (nexts_itself m) (even m.start) x

come_on : (m : Machine_data) (s : ℕ) (o : Option State) (x : Spot) → slice_get m.states s ≡ o → IsComeTo m (even s) → Among (even_nexts s o) x → IsComeTo m x
come_on m s o x e r h = Step (even s) x r (subst (λ (z : Option State). Among (even_nexts s z) x) (sym e) h)

come_behind : (m : Machine_data) (s n : ℕ) (st : State) → slice_get m.states s ≡ Some st → Among (states_behind st) n → IsComeTo m (even s) → IsComeTo m (even n)
come_behind m s n Done e h r = absurd h
come_behind m s n (Puts q arms) e h r =
    let a = among_map (λ (a : Arm). a.next) arms n h in
    come_on m s (Some (Puts q arms)) (even n) e r
    (in_at (map (λ (a : Arm). even a.next) arms) a.0 (even n) (map_at (λ (a : Arm). even a.next) arms a.0 a.1 a.2 ∙ ap (λ (z : ℕ). Some (even z)) a.3))
come_behind m s n (Takes q arms) e h r =
    let a = among_map (λ (a : Arm). a.next) arms n h in
    Step (owing_receive (even s) q a.1) (even n) (come_on m s (Some (Takes q arms)) (owing_receive (even s) q a.1) e r (owing_in s a.0 q arms a.1 a.2)) (inl (ap even a.3))

come_even : (m : Machine_data) → AreStatesInOrder m → (s : ℕ) → s < length m.states → IsComeTo m (even s)
come_even m o =
    worked_all (λ s. IsComeTo m (even s)) 0 1 (length m.states) (map states_behind m.states) o.order
    (λ s lt. let z = o.start in let e : m.start ≡ s = omega arith in subst (λ (k : ℕ). IsComeTo m (even k)) e Begin)
    (λ i s row e r h. let st = map_of states_behind m.states i row e in let n : 0 + i ≡ i = omega arith in
    come_behind m i s st.0 st.1 (subst (λ (z : List ℕ). Among z s) (sym st.2) h) (subst (λ (k : ℕ). IsComeTo m (even k)) n r))

come_all : (m : Machine_data) → AreStatesInOrder m → (x : Spot) → IsOfItself m x → IsComeTo m x
come_all m o x (Even s lt e) = subst (λ (z : Spot). IsComeTo m z) (sym e) (come_even m o s lt)
come_all m o x (Owes s i q arms b es eb e) =
    subst (λ (z : Spot). IsComeTo m z) (sym e)
    (come_on m s (Some (Takes q arms)) (owing_receive (even s) q b) es (come_even m o s (at_short m.states s (Takes q arms) es)) (owing_in s i q arms b eb))

-- each arm is the one with its label
arm_of_self : (arms : List Arm) → HasLabelsOnce arms → (i : ℕ) (a : Arm) → slice_get arms i ≡ Some a → arm_of arms a.label ≡ Some a
arm_of_self [] once i a e = absurd (none-some a e)
arm_of_self (x ∷ xs) once zero a e =
    let q : x ≡ a = same_Some x a e in
    subst (λ (z : Arm). arm_of (x ∷ xs) z.label ≡ Some z) q (subst (λ (b : Bool). (if b then Some x else arm_of xs x.label) ≡ Some x) (sym (eq-eqb x.label.0 x.label.0 refl)) refl)
arm_of_self (x ∷ xs) once (suc i) a e = elim (eqb_tells x.label.0 a.label.0) [
  | inl p ↦ (let named : ℕ → Label = λ n. record { 0 = n } in
      let z : zero ≡ suc i = once zero (suc i) x a refl e (ap named p.1) in let bad : ⊥ = omega arith in absurd bad)
  | inr p ↦ subst (λ (b : Bool). (if b then Some x else arm_of xs a.label) ≡ Some a) (sym p.0)
      (arm_of_self xs (λ j k b c ej ek l. (let z : suc j ≡ suc k = once (suc j) (suc k) b c ej ek l in omega arith)) i a e)
]

nothing_owed : (kind : ActKind) (q : Role) → IsAbsent [] kind q
nothing_owed kind q i a e = absurd (none-some a e)

-- a move to the spot, within the bound
record Onto (m : Machine_data) (bound : ℕ) (p x : Spot) : Type 0 where
  pub makes : Option ℕ
  pub results : List Spot
  pub move : HasMove m m p makes results
  pub short : (r : Spot) → Among results r → length r.pending ≤ bound
  pub among : Among results x

both_self : (theirs arms : List Arm) → ((i : ℕ) (a : Arm) → slice_get arms i ≡ Some a → arm_of theirs a.label ≡ Some a) → Both theirs [] arms (map (λ (a : Arm). even a.next) arms)
both_self theirs [] h = tt
both_self theirs (a ∷ arms) h = ((a, h 0 a refl, inl refl, refl), both_self theirs arms (λ i b e. h (suc i) b e))

even_short : (bound : ℕ) (arms : List Arm) (r : Spot) → Among (map (λ (a : Arm). even a.next) arms) r → length r.pending ≤ bound
even_short bound arms r m = let a = among_map (λ (a : Arm). even a.next) arms r m in subst (λ (z : Spot). length z.pending ≤ bound) a.3 (omega arith)

owing_short : (bound s : ℕ) (q : Role) (arms : List Arm) → 0 < bound → (r : Spot) → Among (map (λ (b : Arm). owing_receive (even s) q b) arms) r → length r.pending ≤ bound
owing_short bound s q arms some r m = let a = among_map (λ (b : Arm). owing_receive (even s) q b) arms r m in subst (λ (z : Spot). length z.pending ≤ bound) a.3 (omega arith)

even_move : (m : Machine_data) (bound : ℕ) → IsProper m → 0 < bound → (s : ℕ) (o : Option State) → slice_get m.states s ≡ o → (x : Spot) → Among (even_nexts s o) x → Onto m bound (even s) x
even_move m bound w some s None e x h = absurd h
even_move m bound w some s (Some Done) e x h = absurd h
even_move m bound w some s (Some (Puts q arms)) e x h = record {
  makes = None;
  results = map (λ (a : Arm). even a.next) arms;
  move = SendsBoth q arms arms e (nothing_owed Send q) e refl (both_self arms arms (arm_of_self arms (w.1.puts s q arms e).once));
  short = even_short bound arms;
  among = h;
}
even_move m bound w some s (Some (Takes q arms)) e x h = record {
  makes = None;
  results = map (λ (b : Arm). owing_receive (even s) q b) arms;
  move = ReceivesAhead q q arms arms e (nothing_owed Receive q) e refl refl;
  short = owing_short bound s q arms some;
  among = h;
}

owes_move : (m : Machine_data) (bound : ℕ) → IsProper m → (s i : ℕ) (q : Role) (arms : List Arm) (b : Arm) → slice_get m.states s ≡ Some (Takes q arms) → slice_get arms i ≡ Some b
    → (x : Spot) → Among (even b.next ∷ []) x → Onto m bound (owing_receive (even s) q b) x
owes_move m bound w s i q arms b es eb x h = record {
  makes = Some 0;
  results = even b.next ∷ [];
  move = PaysReceive q arms 0 b.label b.sort b es
      (record { act = act.Takes q b.label b.sort; stands = refl; same = eq-eqb q.0 q.0 refl; free = λ i a lt g. (let bad : ⊥ = omega arith in absurd bad) })
      refl (arm_of_self arms (w.1.takes s q arms es).once i b eb) (inl refl) refl refl;
  short = λ r k. elim k [ inl e ↦ subst (λ (z : Spot). length z.pending ≤ bound) e (omega arith) | inr bad ↦ absurd bad ];
  among = h;
}

itself_move : (m : Machine_data) (bound : ℕ) → IsProper m → 0 < bound → (p : Spot) → IsOfItself m p → (x : Spot) → Among (nexts_itself m p) x → Onto m bound p x
itself_move m bound w some p (Even s lt e) x h =
    subst (λ (z : Spot). Onto m bound z x) (sym e) (even_move m bound w some s (slice_get m.states s) refl x (subst (λ (z : Spot). Among (nexts_itself m z) x) e h))
itself_move m bound w some p (Owes s i q arms b es eb e) x h =
    subst (λ (z : Spot). Onto m bound z x) (sym e) (owes_move m bound w s i q arms b es eb x (subst (λ (z : Spot). Among (nexts_itself m z) x) e h))

-- what is reached from the start is a candidate

reached_kind : (m : Machine_data) → IsProper m → (x : Spot) → Reached (nexts_itself m) (even m.start) x → IsOfItself m x
reached_kind m w _ Begin = Even m.start w.1.start refl
reached_kind m w _ (Step p x r h) = kind_on m w p (reached_kind m w p r) x h

reached_candidate : (m : Machine_data) (bound : ℕ) → IsProper m → 0 < bound → (x : Spot) → Reached (nexts_itself m) (even m.start) x → IsCandidate m m bound x
reached_candidate m bound w some _ Begin = Start
reached_candidate m bound w some _ (Step p x r h) =
    let o = itself_move m bound w some p (reached_kind m w p r) x h in
    Onward p o.results x (reached_candidate m bound w some p r) (record { makes = o.makes; move = o.move; short = o.short }) o.among

-- the nodes at what is found

nodes_along : List Spot → List (List ℕ) → List DNode_data
nodes_along [] rows = []
nodes_along (p ∷ ps) [] = []
nodes_along (p ∷ ps) (row ∷ rows) = node_at_spot p 0 row ∷ nodes_along ps rows

along_nexts : (found : List Spot) (rows : List (List ℕ)) → length rows ≡ length found → nexts_in (nodes_along found rows) ≡ rows
unfolding nodes_along
along_nexts [] [] e = refl
along_nexts [] (row ∷ rows) e = let bad : ⊥ = omega arith in absurd bad
along_nexts (p ∷ ps) [] e = let bad : ⊥ = omega arith in absurd bad
along_nexts (p ∷ ps) (row ∷ rows) e = ap (λ (z : List (List ℕ)). row ∷ z) (along_nexts ps rows (omega arith))

along_at : (found : List Spot) (rows : List (List ℕ)) (i : ℕ) (n : DNode_data) → slice_get (nodes_along found rows) i ≡ Some n → (slice_get found i ≡ Some (spot_of n)) × (n.rank ≡ 0)
unfolding nodes_along
along_at [] rows i n e = absurd (none-some n e)
along_at (p ∷ ps) [] i n e = absurd (none-some n e)
along_at (p ∷ ps) (row ∷ rows) zero n e =
    let q = same_Some (node_at_spot p 0 row) n e in (ap (λ (z : DNode_data). Some (spot_of z)) q, sym (ap (λ (z : DNode_data). z.rank) q))
along_at (p ∷ ps) (row ∷ rows) (suc i) n e = along_at ps rows i n e

whole_itself : (m : Machine_data) (bound : ℕ) → IsProper m → 0 < bound → (w : IsWhole (nexts_itself m) (even m.start) MOST_CANDIDATES)
    → IsCanonical m m bound (record { role = m.role; bound = bound; nodes = nodes_along w.found w.rows })
whole_itself m bound p some w =
    found_itself m w.found (nodes_along w.found w.rows) p
    (subst (λ (z : List (List ℕ)). IsDiscovery (nexts_itself m) (even m.start) w.found z) (sym (along_nexts w.found w.rows w.discovery.all)) w.discovery) w.bounded
    (λ x h. let i = at_in w.found x h in reached_kind m p x (w.discovery.reached i.0 x i.1)) (record { each = along_at w.found w.rows }) bound some

same_spots : Tells Spot
same_spots p q = told (same_spot p q) refl
  where
    told : (b : Bool) → same_spot p q ≡ b → (p ≡ q) ⊎ (p ≡ q → ⊥)
    told true e = inl (spot_is p q e)
    told false e = inr (not_spot p q e)

along_owed : (found : List Spot) (rows : List (List ℕ)) → length rows ≡ length found → map (λ (n : DNode_data). length n.pending) (nodes_along found rows) ≡ map owed found
unfolding nodes_along
along_owed [] rows e = refl
along_owed (p ∷ ps) [] e = let bad : ⊥ = omega arith in absurd bad
along_owed (p ∷ ps) (row ∷ rows) e = ap (λ (z : List ℕ). owed p ∷ z) (along_owed ps rows (omega arith))

along_ranks : (found : List Spot) (rows : List (List ℕ)) → greatest (map (λ (n : DNode_data). n.rank) (nodes_along found rows)) 0 ≡ 0
unfolding nodes_along
along_ranks [] rows = refl
along_ranks (p ∷ ps) [] = refl
along_ranks (p ∷ ps) (row ∷ rows) = along_ranks ps rows

-- lists of the same numbers

greatest_up : (xs ys : List ℕ) → ((x : ℕ) → Among xs x → Among ys x) → greatest xs 0 ≤ greatest ys 0
greatest_up xs ys h = elim (is xs).among [
  | inl e ↦ (let z = e.1 in omega arith)
  | inr g ↦ (let p = at_in ys (greatest xs 0) (h (greatest xs 0) (in_at xs g.0 (greatest xs 0) g.1)) in (is ys).most p.0 (greatest xs 0) p.1)
]

owed_up : (xs ys : List Spot) → ((x : Spot) → Among xs x → Among ys x) → greatest (map owed xs) 0 ≤ greatest (map owed ys) 0
owed_up xs ys h = greatest_up (map owed xs) (map owed ys) (λ n a. let k = among_map owed xs n a in let p = at_in ys k.1 (h k.1 (in_at xs k.0 k.1 k.2)) in
    in_at (map owed ys) p.0 n (map_at owed ys p.0 k.1 p.1 ∙ ap (λ (z : ℕ). Some z) k.3))

-- the figures

pub figured : (m : Machine_data) → IsProper m → AreStatesInOrder m → (f : OwnFigures) → length (own_spots 0 m.states) ≤ MOST_CANDIDATES → f.nodes ≡ length (own_spots 0 m.states)
    → flag f.owes ≡ greatest (map owed (own_spots 0 m.states)) 0 → (bound : ℕ) → 0 < bound → HasOwnFigures m bound f
figured m w o f few count owes bound some =
    elim (discovered same_spots (nexts_itself m) (even m.start) MOST_CANDIDATES (suc MOST_CANDIDATES) (even m.start ∷ []) [] (omega arith) (omega arith) (growing_begin (nexts_itself m) (even m.start))) [
      | inl whole ↦ told whole
      | inr more ↦ (let n = no_more more.some (own_spots 0 m.states) more.once (λ x h. let i = at_in more.some x h in own_all m x (reached_kind m w x (more.reached i.0 x i.1))) in
          let many = more.many in let bad : ⊥ = omega arith in absurd bad)
    ]
  where
    told : IsWhole (nexts_itself m) (even m.start) MOST_CANDIDATES → HasOwnFigures m bound f
    told whole =
        let own = own_spots 0 m.states in
        let found = whole.found in
        let rows = whole.rows in
        let d = whole.discovery in
        let up : (x : Spot) → Among found x → Among own x = λ x h. let i = at_in found x h in own_all m x (reached_kind m w x (d.reached i.0 x i.1)) in
        let down : (x : Spot) → Among own x → Among found x = λ x h. all_found (nexts_itself m) (even m.start) found rows d x (come_all m o x (own_kind m x h)) in
        let fewer = no_more found own d.once up in
        let more = no_more own found (own_once m w) down in
        let nodes = nodes_along found rows in
        let many : length nodes ≡ length rows = sym (length-map nodes (λ (n : DNode_data). n.next)) ∙ ap (λ (z : List (List ℕ)). length z) (along_nexts found rows d.all) in
        let all = d.all in
        let less = owed_up found own up in
        let greater = owed_up own found down in
        record {
          derivation = record { role = m.role; bound = bound; nodes = nodes };
          canonical = whole_itself m bound w some whole;
          nodes = omega arith;
          owed = ap (λ (z : List ℕ). greatest z 0) (along_owed found rows d.all) ∙ (let e : greatest (map owed found) 0 ≡ greatest (map owed own) 0 = omega arith in e) ∙ sym owes;
          ranks = along_ranks found rows;
        }

pub too_many_own : (m : Machine_data) → IsProper m → AreStatesInOrder m → MOST_CANDIDATES < length (own_spots 0 m.states) → (bound : ℕ) → 0 < bound → AreMoreThan m m bound MOST_CANDIDATES
too_many_own m w o many bound some = record {
  spots = own_spots 0 m.states;
  each = λ p h. reached_candidate m bound w some p (come_all m o p (own_kind m p h));
  once = own_once m w;
  many = many;
}
