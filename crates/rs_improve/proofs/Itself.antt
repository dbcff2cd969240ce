-- A machine has a derivation from itself that forgets nothing, unless there are too many candidates.
use Rattle.std.proofs.Common.{◌≡◌, ◌⊎◌, inl, inr, ℕ, ◌<◌, ◌≤◌, Bool, true, false, List, [], ◌∷◌, length, map, refl, sym, ap, subst, arith, zero, suc, Some, None, Option, slice_get, if◌then◌else◌}
use Rattle.std.proofs.lemmas.Bool.{eq-eqb}
use Rattle.std.proofs.lemmas.Bool.Decides.{eqb_tells}
use Rattle.std.proofs.lemmas.Option.{none-some, same_Some}
use Rattle.rs_model.specs.Data.{Machine_data}
use Rattle.rs_model.specs.declared.limits.TheConstants.{MOST_CANDIDATES}
use Rattle.rs_model.specs.declared.graph.Arm.{Arm}
use Rattle.rs_model.specs.declared.graph.Label.{Label}
use Rattle.rs_model.specs.declared.graph.Role.{Role}
use Rattle.rs_model.specs.declared.machines.Act.TheVariants as act
use Rattle.rs_model.specs.declared.machines.State.{State}
use Rattle.rs_model.specs.declared.machines.State.TheVariants.{Done, Puts, Takes}
use Rattle.rs_prefix.specs.Earliest.{IsAbsent}
use Rattle.rs_prefix.specs.declared.earliest.ActKind.{ActKind}
use Rattle.rs_prefix.specs.declared.earliest.ActKind.TheVariants.{Send, Receive}
use Rattle.rs_derive.specs.Data.{DNode_data}
use Rattle.rs_derive.specs.Derivations.{IsProper, spot_of}
use Rattle.rs_derive.specs.Moves.{Both, HasMove, PaysReceive, ReceivesAhead, SendsBoth, Spot, arm_of, owing_receive}
use Rattle.rs_derive.specs.Within.{HasLabelsOnce}
use Rattle.rs_graph.proofs.Growth.{at_in, growing_begin}
use Rattle.rs_graph.specs.Discovery.{Begin, IsDiscovery, Reached, Step}
use Rattle.rs_graph.specs.Lists.{Among}
use Rattle.rs_graph.specs.Naming.{MoreThan}
use Rattle.rs_search.proofs.Alike.{found_itself, kind_on, nexts_in}
use Rattle.rs_search.proofs.Choices.{among_map}
use Rattle.rs_search.proofs.Determined.{not_both_ways}
use Rattle.rs_search.proofs.Discovering.{IsWhole, Tells, discovered}
use Rattle.rs_search.proofs.Same.{not_spot, spot_is}
use Rattle.rs_derive.specs.Targets.{same_spot}
use Rattle.rs_search.specs.Candidates.{AreMoreThan, IsCandidate, Onward, Start}
use Rattle.rs_search.specs.Canonical.{IsCanonical, SearchRefuses}
use Rattle.rs_search.specs.Itself.{IsOfItself, Even, Owes, even, even_nexts, nexts_itself}
use Rattle.rs_search.specs.Nodes.{node_at_spot}
use Rattle.rs_search.specs.declared.faults.SearchFault.{SearchFault}
use Rattle.rs_search.specs.declared.faults.SearchFault.TheVariants.{NotFound, Forgets, TooLarge, NoMemory}

-- each arm is the one with its label
arm_of_self : (arms : List Arm) → HasLabelsOnce arms → (i : ℕ) (a : Arm) → slice_get arms i ≡ Some a → arm_of arms a.label ≡ Some a
arm_of_self [] once i a e = absurd (none-some a e)
arm_of_self (x ∷ xs) once zero a e =
    let q : x ≡ a = same_Some x a e in
    subst (λ (z : Arm). arm_of (x ∷ xs) z.label ≡ Some z) q (subst (λ (b : Bool). (if b then Some x else arm_of xs x.label) ≡ Some x) (sym (eq-eqb x.label.0 x.label.0 refl)) refl)
arm_of_self (x ∷ xs) once (suc i) a e = elim (eqb_tells x.label.0 a.label.0) [
  | inl p ↦ (let named : ℕ → Label = λ n. record { 0 = n } in
      let z : zero ≡ suc i = once zero (suc i) x a refl e (ap named p.1) in let bad : ⊥ = omega arith in absurd bad)
  | inr p ↦ subst (λ (b : Bool). (if b then Some x else arm_of xs a.label) ≡ Some a) (sym p.0)
      (arm_of_self xs (λ j k b c ej ek l. (let z : suc j ≡ suc k = once (suc j) (suc k) b c ej ek l in omega arith)) i a e)
]

nothing_owed : (kind : ActKind) (q : Role) → IsAbsent [] kind q
nothing_owed kind q i a e = absurd (none-some a e)

-- a move to the spot, within the bound
record Onto (m : Machine_data) (bound : ℕ) (p x : Spot) : Type 0 where
  pub makes : Option ℕ
  pub results : List Spot
  pub move : HasMove m m p makes results
  pub short : (r : Spot) → Among results r → length r.pending ≤ bound
  pub among : Among results x

both_self : (theirs arms : List Arm) → ((i : ℕ) (a : Arm) → slice_get arms i ≡ Some a → arm_of theirs a.label ≡ Some a) → Both theirs [] arms (map (λ (a : Arm). even a.next) arms)
both_self theirs [] h = tt
both_self theirs (a ∷ arms) h = ((a, h 0 a refl, inl refl, refl), both_self theirs arms (λ i b e. h (suc i) b e))

even_short : (bound : ℕ) (arms : List Arm) (r : Spot) → Among (map (λ (a : Arm). even a.next) arms) r → length r.pending ≤ bound
even_short bound arms r m = let a = among_map (λ (a : Arm). even a.next) arms r m in subst (λ (z : Spot). length z.pending ≤ bound) a.3 (omega arith)

owing_short : (bound s : ℕ) (q : Role) (arms : List Arm) → 0 < bound → (r : Spot) → Among (map (λ (b : Arm). owing_receive (even s) q b) arms) r → length r.pending ≤ bound
owing_short bound s q arms some r m = let a = among_map (λ (b : Arm). owing_receive (even s) q b) arms r m in subst (λ (z : Spot). length z.pending ≤ bound) a.3 (omega arith)

even_move : (m : Machine_data) (bound : ℕ) → IsProper m → 0 < bound → (s : ℕ) (o : Option State) → slice_get m.states s ≡ o → (x : Spot) → Among (even_nexts s o) x → Onto m bound (even s) x
even_move m bound w some s None e x h = absurd h
even_move m bound w some s (Some Done) e x h = absurd h
even_move m bound w some s (Some (Puts q arms)) e x h = record {
  makes = None;
  results = map (λ (a : Arm). even a.next) arms;
  move = SendsBoth q arms arms e (nothing_owed Send q) e refl (both_self arms arms (arm_of_self arms (w.1.puts s q arms e).once));
  short = even_short bound arms;
  among = h;
}
even_move m bound w some s (Some (Takes q arms)) e x h = record {
  makes = None;
  results = map (λ (b : Arm). owing_receive (even s) q b) arms;
  move = ReceivesAhead q q arms arms e (nothing_owed Receive q) e refl refl;
  short = owing_short bound s q arms some;
  among = h;
}

owes_move : (m : Machine_data) (bound : ℕ) → IsProper m → (s i : ℕ) (q : Role) (arms : List Arm) (b : Arm) → slice_get m.states s ≡ Some (Takes q arms) → slice_get arms i ≡ Some b
    → (x : Spot) → Among (even b.next ∷ []) x → Onto m bound (owing_receive (even s) q b) x
owes_move m bound w s i q arms b es eb x h = record {
  makes = Some 0;
  results = even b.next ∷ [];
  move = PaysReceive q arms 0 b.label b.sort b es
      (record { act = act.Takes q b.label b.sort; stands = refl; same = eq-eqb q.0 q.0 refl; free = λ i a lt g. (let bad : ⊥ = omega arith in absurd bad) })
      refl (arm_of_self arms (w.1.takes s q arms es).once i b eb) (inl refl) refl refl;
  short = λ r k. elim k [ inl e ↦ subst (λ (z : Spot). length z.pending ≤ bound) e (omega arith) | inr bad ↦ absurd bad ];
  among = h;
}

itself_move : (m : Machine_data) (bound : ℕ) → IsProper m → 0 < bound → (p : Spot) → IsOfItself m p → (x : Spot) → Among (nexts_itself m p) x → Onto m bound p x
itself_move m bound w some p (Even s lt e) x h =
    subst (λ (z : Spot). Onto m bound z x) (sym e) (even_move m bound w some s (slice_get m.states s) refl x (subst (λ (z : Spot). Among (nexts_itself m z) x) e h))
itself_move m bound w some p (Owes s i q arms b es eb e) x h =
    subst (λ (z : Spot). Onto m bound z x) (sym e) (owes_move m bound w s i q arms b es eb x (subst (λ (z : Spot). Among (nexts_itself m z) x) e h))

-- what is reached from the start is a candidate

reached_kind : (m : Machine_data) → IsProper m → (x : Spot) → Reached (nexts_itself m) (even m.start) x → IsOfItself m x
reached_kind m w _ Begin = Even m.start w.1.start refl
reached_kind m w _ (Step p x r h) = kind_on m w p (reached_kind m w p r) x h

reached_candidate : (m : Machine_data) (bound : ℕ) → IsProper m → 0 < bound → (x : Spot) → Reached (nexts_itself m) (even m.start) x → IsCandidate m m bound x
reached_candidate m bound w some _ Begin = Start
reached_candidate m bound w some _ (Step p x r h) =
    let o = itself_move m bound w some p (reached_kind m w p r) x h in
    Onward p o.results x (reached_candidate m bound w some p r) (record { makes = o.makes; move = o.move; short = o.short }) o.among

many_itself : (m : Machine_data) (bound limit : ℕ) → IsProper m → 0 < bound → MoreThan limit (nexts_itself m) (even m.start) → AreMoreThan m m bound limit
many_itself m bound limit w some more = record {
  spots = more.some;
  each = λ p h. (let i = at_in more.some p h in reached_candidate m bound w some p (more.reached i.0 p i.1));
  once = more.once;
  many = more.many;
}

-- the nodes at what is found

nodes_along : List Spot → List (List ℕ) → List DNode_data
nodes_along [] rows = []
nodes_along (p ∷ ps) [] = []
nodes_along (p ∷ ps) (row ∷ rows) = node_at_spot p 0 row ∷ nodes_along ps rows

along_nexts : (found : List Spot) (rows : List (List ℕ)) → length rows ≡ length found → nexts_in (nodes_along found rows) ≡ rows
unfolding nodes_along
along_nexts [] [] e = refl
along_nexts [] (row ∷ rows) e = let bad : ⊥ = omega arith in absurd bad
along_nexts (p ∷ ps) [] e = let bad : ⊥ = omega arith in absurd bad
along_nexts (p ∷ ps) (row ∷ rows) e = ap (λ (z : List (List ℕ)). row ∷ z) (along_nexts ps rows (omega arith))

along_at : (found : List Spot) (rows : List (List ℕ)) (i : ℕ) (n : DNode_data) → slice_get (nodes_along found rows) i ≡ Some n → (slice_get found i ≡ Some (spot_of n)) × (n.rank ≡ 0)
unfolding nodes_along
along_at [] rows i n e = absurd (none-some n e)
along_at (p ∷ ps) [] i n e = absurd (none-some n e)
along_at (p ∷ ps) (row ∷ rows) zero n e =
    let q = same_Some (node_at_spot p 0 row) n e in (ap (λ (z : DNode_data). Some (spot_of z)) q, sym (ap (λ (z : DNode_data). z.rank) q))
along_at (p ∷ ps) (row ∷ rows) (suc i) n e = along_at ps rows i n e

whole_itself : (m : Machine_data) (bound : ℕ) → IsProper m → 0 < bound → (w : IsWhole (nexts_itself m) (even m.start) MOST_CANDIDATES)
    → IsCanonical m m bound (record { role = m.role; bound = bound; nodes = nodes_along w.found w.rows })
whole_itself m bound p some w =
    found_itself m w.found (nodes_along w.found w.rows) p
    (subst (λ (z : List (List ℕ)). IsDiscovery (nexts_itself m) (even m.start) w.found z) (sym (along_nexts w.found w.rows w.discovery.all)) w.discovery) w.bounded
    (λ x h. let i = at_in w.found x h in reached_kind m p x (w.discovery.reached i.0 x i.1)) (record { each = along_at w.found w.rows }) bound some

same_spots : Tells Spot
same_spots p q = told (same_spot p q) refl
  where
    told : (b : Bool) → same_spot p q ≡ b → (p ≡ q) ⊎ (p ≡ q → ⊥)
    told true e = inl (spot_is p q e)
    told false e = inr (not_spot p q e)

-- so the search refuses a machine and itself only where there are too many candidates
too_many : (m : Machine_data) (bound : ℕ) (f : SearchFault) → AreMoreThan m m bound MOST_CANDIDATES → SearchRefuses m m bound f → (f ≡ TooLarge) ⊎ (f ≡ NoMemory)
too_many m bound (NotFound cut) more r = absurd (r.bounded more)
too_many m bound (Forgets node) more r = absurd (r.bounded more)
too_many m bound TooLarge more r = inl refl
too_many m bound NoMemory more r = inr refl

pub itself_is_derived : (m : Machine_data) (bound : ℕ) → IsProper m → 0 < bound → (f : SearchFault) → SearchRefuses m m bound f → (f ≡ TooLarge) ⊎ (f ≡ NoMemory)
itself_is_derived m bound p some f r =
    elim (discovered same_spots (nexts_itself m) (even m.start) MOST_CANDIDATES (suc MOST_CANDIDATES) (even m.start ∷ []) [] (omega arith) (omega arith) (growing_begin (nexts_itself m) (even m.start))) [
      | inl w ↦ inr (not_both_ways m m bound (record { role = m.role; bound = bound; nodes = nodes_along w.found w.rows }) f (whole_itself m bound p some w) r)
      | inr more ↦ too_many m bound f (many_itself m bound MOST_CANDIDATES p some more) r
    ]
