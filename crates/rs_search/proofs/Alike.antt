-- A machine that follows itself: its spots, what they lead to, and its derivation.
use Rattle.std.proofs.Common.{◌≡◌, ◌≢◌, ◌⊎◌, inl, inr, ℕ, ◌<◌, ◌≤◌, ◌+◌, Bool, true, false, List, [], ◌∷◌, ◌++◌, length, get_or, map, refl, sym, ap, ◌∙◌, subst, arith, zero, suc, Some, None, Option}
use Rattle.std.proofs.Common.{slice_get, set, replicate, take, length-append, eqb, ◌&&◌, if◌then◌else◌}
use Rattle.std.proofs.lemmas.Bool.{eqb-true, eq-eqb, false≢true, le-ltb}
use Rattle.std.proofs.lemmas.Bool.Decides.{eqb_tells}
use Rattle.std.proofs.lemmas.List.{length-map, length-replicate}
use Rattle.std.proofs.lemmas.Option.{none-some, same_Some}
use Rattle.rs_model.specs.declared.limits.TheConstants.{MOST_CANDIDATES}
use Rattle.rs_model.specs.Data.{Machine_data}
use Rattle.rs_model.proofs.Serving.{test_by_serves}
use Rattle.rs_model.specs.Serving.{serves}
use Rattle.rs_model.specs.declared.graph.Arm.{Arm}
use Rattle.rs_model.specs.declared.graph.Label.{Label}
use Rattle.rs_model.specs.declared.graph.Role.{Role}
use Rattle.rs_model.specs.declared.machines.Act.{Act}
use Rattle.rs_model.specs.declared.machines.Act.TheVariants as act
use Rattle.rs_model.specs.declared.machines.State.{State}
use Rattle.rs_model.specs.declared.machines.State.TheVariants.{Done, Puts, Takes}
use Rattle.rs_model.specs.declared.values.Sort.{Sort}
use Rattle.rs_prefix.specs.Earliest.{IsAbsent, IsFound}
use Rattle.rs_prefix.specs.declared.earliest.ActKind.{ActKind}
use Rattle.rs_prefix.specs.declared.earliest.ActKind.TheVariants.{Send, Receive}
use Rattle.rs_derive.proofs.Mapped.{map_at, map_of}
use Rattle.rs_derive.proofs.Rows.{due_applies}
use Rattle.rs_derive.proofs.Ruled.{Row, SendingBoth, PayingReceive, ReceivingAhead}
use Rattle.rs_derive.specs.Data.{DNode_data}
use Rattle.rs_derive.specs.Derivations.{IsProper, spot_of}
use Rattle.rs_derive.specs.Due.{Due, both_at, due_at, due_by, nexts_by}
use Rattle.rs_derive.specs.Moves.{Spot, arm_of, owing_receive}
use Rattle.rs_derive.specs.Rules.{all_serve, arms_at, arms_of, keeps_head, serves_some}
use Rattle.rs_derive.specs.declared.rules.Rule.{Rule}
use Rattle.rs_derive.specs.declared.rules.Rule.TheVariants.{Pays, SendsBoth, Follows}
use Rattle.rs_derive.specs.Within.{HasLabelsOnce}
use Rattle.rs_graph.proofs.Buckets.{got}
use Rattle.rs_graph.proofs.Growth.{all_found, at_in, at_short, at_within, grown_adds, growing_begin, growing_done, growing_on, in_at, push_at, push_is, push_new, reads_at, take_on}
use Rattle.rs_graph.specs.Discovery.{Begin, IsDiscovery, Reached, Step}
use Rattle.rs_graph.specs.Naming.{Adds, AreNamed, Growing, Grown}
use Rattle.rs_graph.specs.Lists.{Among, ArePlacesOf, concat}
use Rattle.rs_graph.specs.Order.{Once}
use Rattle.rs_graph.specs.Ranks.{Edge}
use Rattle.rs_graph.specs.Walks.{Walk, Here, Further, IsRank}
use Rattle.rs_search.proofs.Assembled.{none_ranks}
use Rattle.rs_search.proofs.Choices.{among_map}
use Rattle.rs_search.proofs.Forced.{IsForced, forced_found}
use Rattle.rs_search.proofs.Places.{place_is, places_length}
use Rattle.rs_search.proofs.Turning.{followed_is}
use Rattle.rs_search.specs.Candidates.{start_spot}
use Rattle.rs_search.specs.Canonical.{IsCanonical}
use Rattle.rs_search.specs.Itself.{ArePlaced, IsOfItself, Even, Owes, even, even_nexts, nexts_itself, onward}
use Rattle.rs_search.specs.Nodes.{AreKept, AreNodes, node_at_spot, places_of}
use Rattle.rs_search.specs.Turns.{Turn_data, turn_with_cut, is_keeping, nexts_within, no_turn, owes_more, turn_of, turn_within}

among_either : (xs ys : List Spot) (x : Spot) → Among (xs ++ ys) x → Among xs x ⊎ Among ys x
among_either [] ys x h = inr h
among_either (y ∷ xs) ys x (inl e) = inl (inl e)
among_either (y ∷ xs) ys x (inr h) = elim (among_either xs ys x h) [ inl a ↦ inl (inr a) | inr a ↦ inr a ]

-- the label of an act
abbrev label_of : Act → Label
label_of (act.Puts q l so) = l
label_of (act.Takes q l so) = l

-- a machine serves itself

arm_of_self : (arms : List Arm) → HasLabelsOnce arms → (i : ℕ) (a : Arm) → slice_get arms i ≡ Some a → arm_of arms a.label ≡ Some a
arm_of_self [] once i a e = absurd (none-some a e)
arm_of_self (x ∷ xs) once zero a e =
    let q : x ≡ a = same_Some x a e in
    subst (λ (z : Arm). arm_of (x ∷ xs) z.label ≡ Some z) q (subst (λ (b : Bool). (if b then Some x else arm_of xs x.label) ≡ Some x) (sym (eq-eqb x.label.0 x.label.0 refl)) refl)
arm_of_self (x ∷ xs) once (suc i) a e = elim (eqb_tells x.label.0 a.label.0) [
  | inl p ↦ (let L : ℕ → Label = λ n. record { 0 = n } in
      let q : x.label ≡ a.label = ap L p.1 in
      let z : zero ≡ suc i = once zero (suc i) x a refl e q in let bad : ⊥ = omega arith in absurd bad)
  | inr p ↦ subst (λ (b : Bool). (if b then Some x else arm_of xs a.label) ≡ Some a) (sym p.0)
      (arm_of_self xs (λ j k b c ej ek l. (let z : suc j ≡ suc k = once (suc j) (suc k) b c ej ek l in omega arith)) i a e)
]

serves_self : (s : Sort) → serves s s ≡ true
serves_self s = test_by_serves s s (inl refl)

and_both : (a b : Bool) → a ≡ true → b ≡ true → (a && b) ≡ true
and_both a b ea eb = subst (λ (z : Bool). (z && b) ≡ true) (sym ea) eb

all_serve_shown : (theirs arms : List Arm) → ((i : ℕ) (a : Arm) → slice_get arms i ≡ Some a → arm_of theirs a.label ≡ Some a) → all_serve theirs arms ≡ true
all_serve_shown theirs [] h = refl
all_serve_shown theirs (a ∷ arms) h =
    and_both (serves_some a (arm_of theirs a.label)) (all_serve theirs arms) (subst (λ (o : Option Arm). serves_some a o ≡ true) (sym (h 0 a refl)) (serves_self a.sort))
    (all_serve_shown theirs arms (λ i b e. h (suc i) b e))

both_self : (theirs arms : List Arm) → ((i : ℕ) (a : Arm) → slice_get arms i ≡ Some a → arm_of theirs a.label ≡ Some a)
    → concat (map (λ (a : Arm). both_at [] a (arm_of theirs a.label)) arms) ≡ map (λ (a : Arm). even a.next) arms
both_self theirs [] h = refl
both_self theirs (a ∷ arms) h =
    subst (λ (o : Option Arm). both_at [] a o ++ concat (map (λ (b : Arm). both_at [] b (arm_of theirs b.label)) arms) ≡ even a.next ∷ map (λ (b : Arm). even b.next) arms) (sym (h 0 a refl))
    (ap (λ (z : List Spot). even a.next ∷ z) (both_self theirs arms (λ i b e. h (suc i) b e)))

-- what a spot leads to

-- the turn goes to these spots, keeps no head and has no choice
record Goes (t : Turn_data) (spots : List Spot) : Type 0 where
  pub are : t.spots ≡ spots
  pub keeps' : t.keeps ≡ false
  pub forced : t.any ≡ true → length spots ≡ 1

none_more : (bound : ℕ) (spots : List Spot) → ((r : Spot) → Among spots r → length r.pending ≤ bound) → owes_more bound spots ≡ false
none_more bound [] h = refl
none_more bound (s ∷ spots) h = rw (le-ltb bound (length s.pending) (h s (inl refl)), none_more bound spots (λ r m. h r (inr m))) refl

goes_due : (bound : ℕ) (d : Due) (spots : List Spot) → concat d.nexts ≡ spots → ((r : Spot) → Among spots r → length r.pending ≤ bound) → d.keeps ≡ false
    → (eqb (length d.nexts) 1 ≡ true → length spots ≡ 1)
    → Goes (turn_with_cut bound (turn_of (Some d))) spots
goes_due bound d spots e short k f =
    subst (λ (b : Bool). Goes (if b then no_turn true else turn_of (Some d)) spots) (sym (none_more bound (concat d.nexts) (λ r m. short r (subst (λ (z : List Spot). Among z r) e m))))
    record { are = e; keeps' = k; forced = f }

goes_by : (bound : ℕ) (p : Spot) (s t : Option State) (state : State) (rule : Rule) (spots : List Spot) → s ≡ Some state → Row p.pending state t rule
    → concat (nexts_by p (arms_at state) (arms_of t) rule) ≡ spots → ((r : Spot) → Among spots r → length r.pending ≤ bound) → keeps_head p.pending rule ≡ false
    → (eqb (length (nexts_by p (arms_at state) (arms_of t) rule)) 1 ≡ true → length spots ≡ 1) → Goes (turn_with_cut bound (turn_of (due_at p s t))) spots
goes_by bound p s t state rule spots e row are short keeps f =
    subst (λ (o : Option Due). Goes (turn_with_cut bound (turn_of o)) spots) (sym (due_applies p s t state rule e row))
    (goes_due bound (due_by p (arms_at state) (arms_of t) rule) spots are short keeps f)

even_short : (bound : ℕ) (arms : List Arm) (r : Spot) → Among (map (λ (a : Arm). even a.next) arms) r → length r.pending ≤ bound
even_short bound arms r m = let a = among_map (λ (a : Arm). even a.next) arms r m in subst (λ (z : Spot). length z.pending ≤ bound) a.3 (omega arith)

owing_short : (bound s : ℕ) (q : Role) (arms : List Arm) → 0 < bound → (r : Spot) → Among (map (λ (b : Arm). owing_receive (even s) q b) arms) r → length r.pending ≤ bound
owing_short bound s q arms some r m = let a = among_map (λ (b : Arm). owing_receive (even s) q b) arms r m in subst (λ (z : Spot). length z.pending ≤ bound) a.3 (omega arith)

one_arm_shown : {X Y : Type 0} (f : Arm → X) (g : Arm → Y) (arms : List Arm) → eqb (length (map f arms)) 1 ≡ true → length (map g arms) ≡ 1
one_arm_shown f g arms e = length-map arms g ∙ sym (length-map arms f) ∙ eqb-true (length (map f arms)) 1 e

nothing_owed : (kind : ActKind) (q : Role) → IsAbsent [] kind q
nothing_owed kind q i a e = absurd (none-some a e)

even_puts : (bound s : ℕ) (q : Role) (arms : List Arm) → HasLabelsOnce arms
    → Goes (turn_with_cut bound (turn_of (due_at (even s) (Some (Puts q arms)) (Some (Puts q arms))))) (map (λ (a : Arm). even a.next) arms)
even_puts bound s q arms once =
    let self : (i : ℕ) (a : Arm) → slice_get arms i ≡ Some a → arm_of arms a.label ≡ Some a = arm_of_self arms once in
    goes_by bound (even s) (Some (Puts q arms)) (Some (Puts q arms)) (Puts q arms) SendsBoth (map (λ (a : Arm). even a.next) arms) refl
    (SendingBoth q arms arms (nothing_owed Send q) (all_serve_shown arms arms self)) (both_self arms arms self) (even_short bound arms) refl
    (one_arm_shown (λ (a : Arm). both_at [] a (arm_of arms a.label)) (λ (a : Arm). even a.next) arms)

even_takes : (bound s : ℕ) (q : Role) (arms : List Arm) → 0 < bound
    → Goes (turn_with_cut bound (turn_of (due_at (even s) (Some (Takes q arms)) (Some (Takes q arms))))) (map (λ (b : Arm). owing_receive (even s) q b) arms)
even_takes bound s q arms some =
    goes_by bound (even s) (Some (Takes q arms)) (Some (Takes q arms)) (Takes q arms) (Follows q) (map (λ (b : Arm). owing_receive (even s) q b) arms) refl
    (ReceivingAhead q q arms arms (nothing_owed Receive q)) (followed_is (even s) q arms) (owing_short bound s q arms some) refl
    (one_arm_shown (λ (b : Arm). owing_receive (even s) q b ∷ []) (λ (b : Arm). owing_receive (even s) q b) arms)

even_goes : (m : Machine_data) (bound s : ℕ) → IsProper m → 0 < bound → (st : State) → slice_get m.states s ≡ Some st
    → Goes (turn_with_cut bound (turn_of (due_at (even s) (Some st) (Some st)))) (even_nexts s (Some st))
even_goes m bound s w some Done e = record { are = refl; keeps' = refl; forced = λ h. absurd (false≢true h) }
even_goes m bound s w some (Puts q arms) e = even_puts bound s q arms (w.1.puts s q arms e).once
even_goes m bound s w some (Takes q arms) e = even_takes bound s q arms some

owes_goes : (bound s i : ℕ) (q : Role) (arms : List Arm) (b : Arm) (t : Option State) → HasLabelsOnce arms → slice_get arms i ≡ Some b
    → Goes (turn_with_cut bound (turn_of (due_at (owing_receive (even s) q b) (Some (Takes q arms)) t))) (even b.next ∷ [])
owes_goes bound s i q arms b t once e =
    let p : Spot = owing_receive (even s) q b in
    let found : IsFound p.pending Receive q 0
    = record { act = act.Takes q b.label b.sort; stands = refl; same = eq-eqb q.0 q.0 refl; free = λ i a lt g. (let bad : ⊥ = omega arith in absurd bad) } in
    goes_by bound p (Some (Takes q arms)) t (Takes q arms) (Pays 0 b) (even b.next ∷ []) refl
    (PayingReceive q arms 0 b.label b.sort b t found refl (arm_of_self arms once i b e) (inl refl)) refl
    (λ r m. elim m [ inl h ↦ subst (λ (z : Spot). length z.pending ≤ bound) h (omega arith) | inr h ↦ absurd h ]) refl (λ h. refl)

goes : (m : Machine_data) (bound : ℕ) → IsProper m → 0 < bound → (p : Spot) → IsOfItself m p → Goes (turn_within m m bound p) (nexts_itself m p)
goes m bound w some p (Even s lt e) =
    let st = at_within m.states s lt in
    subst (λ (z : Spot). Goes (turn_within m m bound z) (nexts_itself m z)) (sym e)
    (subst (λ (o : Option State). Goes (turn_with_cut bound (turn_of (due_at (even s) o o))) (even_nexts s o)) (sym st.1) (even_goes m bound s w some st.0 st.1))
goes m bound w some p (Owes s i q arms b es eb e) =
    subst (λ (z : Spot). Goes (turn_within m m bound z) (nexts_itself m z)) (sym e)
    (subst (λ (o : Option State). Goes (turn_with_cut bound (turn_of (due_at (owing_receive (even s) q b) o (slice_get m.states b.next)))) (even b.next ∷ [])) (sym es)
    (owes_goes bound s i q arms b (slice_get m.states b.next) (w.1.takes s q arms es).once eb))

-- spots of a machine that follows itself lead to such spots

even_kind : (m : Machine_data) → IsProper m → (s : ℕ) (o : Option State) → slice_get m.states s ≡ o → (x : Spot) → Among (even_nexts s o) x → IsOfItself m x
even_kind m w s None e x h = absurd h
even_kind m w s (Some Done) e x h = absurd h
even_kind m w s (Some (Puts q arms)) e x h = let a = among_map (λ (a : Arm). even a.next) arms x h in Even a.1.next ((w.1.puts s q arms e).nexts a.0 a.1 a.2) (sym a.3)
even_kind m w s (Some (Takes q arms)) e x h = let a = among_map (λ (b : Arm). owing_receive (even s) q b) arms x h in Owes s a.0 q arms a.1 e a.2 (sym a.3)

pub kind_on : (m : Machine_data) → IsProper m → (p : Spot) → IsOfItself m p → (x : Spot) → Among (nexts_itself m p) x → IsOfItself m x
kind_on m w p (Even s lt e) x h = even_kind m w s (slice_get m.states s) refl x (subst (λ (z : Spot). Among (nexts_itself m z) x) e h)
kind_on m w p (Owes s i q arms b es eb e) x h = kind (subst (λ (z : Spot). Among (nexts_itself m z) x) e h)
  where
    kind : Among (even b.next ∷ []) x → IsOfItself m x
    kind (inl k) = Even b.next ((w.1.takes s q arms es).nexts i b eb) (sym k)
    kind (inr k) = absurd k

even_owes : (s : ℕ) (o : Option State) (x : Spot) → Among (even_nexts s o) x → x.pending ≢ [] → x.state ≡ s
even_owes s None x h ne = absurd h
even_owes s (Some Done) x h ne = absurd h
even_owes s (Some (Puts q arms)) x h ne = let a = among_map (λ (a : Arm). even a.next) arms x h in absurd (ne (ap (λ (z : Spot). z.pending) (sym a.3)))
even_owes s (Some (Takes q arms)) x h ne = let a = among_map (λ (b : Arm). owing_receive (even s) q b) arms x h in ap (λ (z : Spot). z.state) (sym a.3)

-- what owes an act comes from the even spot at its state
pub owes_from : (m : Machine_data) (p : Spot) → IsOfItself m p → (x : Spot) → Among (nexts_itself m p) x → x.pending ≢ [] → p ≡ even x.state
owes_from m p (Even s lt e) x h ne =
    let k : x.state ≡ s = even_owes s (slice_get m.states s) x (subst (λ (z : Spot). Among (nexts_itself m z) x) e h) ne in
    e ∙ ap (λ (z : ℕ). even z) (sym k)
owes_from m p (Owes s i q arms b es eb e) x h ne = absurd (no (subst (λ (z : Spot). Among (nexts_itself m z) x) e h))
  where
    no : Among (even b.next ∷ []) x → ⊥
    no (inl k) = ne (ap (λ (z : Spot). z.pending) (sym k))
    no (inr k) = k

pub even_of : (m : Machine_data) (p : Spot) → IsOfItself m p → p.pending ≡ [] → p ≡ even p.state
even_of m p (Even s lt e) h = e ∙ ap (λ (z : ℕ). even z) (sym (ap (λ (z : Spot). z.state) e))
even_of m p (Owes s i q arms b es eb e) h = let bad : act.Takes q b.label b.sort ∷ [] ≡ [] = sym (ap (λ (z : Spot). z.pending) e) ∙ h in absurd (cc (bad))

pub state_within : (m : Machine_data) (p : Spot) → IsOfItself m p → p.state < length m.states
state_within m p (Even s lt e) = subst (λ (z : Spot). z.state < length m.states) (sym e) lt
state_within m p (Owes s i q arms b es eb e) = subst (λ (z : Spot). z.state < length m.states) (sym e) (at_short m.states s (Takes q arms) es)

pub above_within : (m : Machine_data) → IsProper m → (p : Spot) → IsOfItself m p → p.above < length m.states
above_within m w p (Even s lt e) = subst (λ (z : Spot). z.above < length m.states) (sym e) lt
above_within m w p (Owes s i q arms b es eb e) = subst (λ (z : Spot). z.above < length m.states) (sym e) ((w.1.takes s q arms es).nexts i b eb)

-- the numbers of the even spots

set_get_same : (xs : List (Option ℕ)) (i : ℕ) (v : Option ℕ) → i < length xs → slice_get (set xs i v) i ≡ Some v
set_get_same [] i v h = let bad : ⊥ = omega arith in absurd bad
set_get_same (x ∷ xs) zero v h = refl
set_get_same (x ∷ xs) (suc i) v h = set_get_same xs i v (omega arith)

set_get_other : (xs : List (Option ℕ)) (i j : ℕ) (v : Option ℕ) → j ≢ i → slice_get (set xs i v) j ≡ slice_get xs j
set_get_other [] i j v ne = refl
set_get_other (x ∷ xs) zero zero v ne = absurd (ne refl)
set_get_other (x ∷ xs) zero (suc j) v ne = refl
set_get_other (x ∷ xs) (suc i) zero v ne = refl
set_get_other (x ∷ xs) (suc i) (suc j) v ne = set_get_other xs i j v (λ e. ne (ap suc e))

pub not_placed : (found : List Spot) (places : List (Option ℕ)) (y : ℕ) → ArePlaced found places → slice_get places y ≡ Some None → Among found (even y) → ⊥
not_placed found places y p e h =
    let s = at_in found (even y) h in
    let k = p.to s.0 y s.1 in
    none-some s.0 (same_Some None (Some s.0) (sym e ∙ k))

pub placed_even : (found new : List Spot) (places : List (Option ℕ)) (y n : ℕ) → y < length places → new ≡ found ++ (even y ∷ []) → n ≡ length found → ArePlaced found places
    → slice_get places y ≡ Some None → ArePlaced new (set places y (Some n))
placed_even found new places y n iny ei en p e = rw (ei, en) record {
  to = λ m s h. elim (push_is found (even y) m (even s) h) [
    | inl k ↦ set_get_other places y s (Some (length found)) (λ q. not_placed found places y p e (subst (λ (z : ℕ). Among found (even z)) q (in_at found m (even s) k))) ∙ p.to m s k
    | inr k ↦ (let q : y ≡ s = ap (λ (z : Spot). z.state) k.1 in
        let base : slice_get (set places y (Some (length found))) y ≡ Some (Some (length found)) = set_get_same places y (Some (length found)) iny in
        subst (λ (w : ℕ). slice_get (set places y (Some (length found))) s ≡ Some (Some w)) (sym k.0)
        (subst (λ (z : ℕ). slice_get (set places y (Some (length found))) z ≡ Some (Some (length found))) q base))
  ];
  from = λ s m h. elim (eqb_tells s y) [
    | inl q ↦ (let h' : slice_get (set places y (Some (length found))) y ≡ Some (Some m) = subst (λ (z : ℕ). slice_get (set places y (Some (length found))) z ≡ Some (Some m)) q.1 h in
        let k : length found ≡ m = same_Some (length found) m (same_Some (Some (length found)) (Some m) (sym (set_get_same places y (Some (length found)) iny) ∙ h')) in
        subst (λ (w : ℕ). slice_get (found ++ (even y ∷ [])) w ≡ Some (even s)) k (push_new found (even y) ∙ ap (λ (z : ℕ). Some (even z)) (sym q.1)))
    | inr q ↦ push_at found (even y) m (even s) (p.from s m (sym (set_get_other places y s (Some (length found)) q.1) ∙ h))
  ];
}

pub placed_owing : (found new : List Spot) (places : List (Option ℕ)) (x : Spot) → new ≡ found ++ (x ∷ []) → x.pending ≢ [] → ArePlaced found places → ArePlaced new places
placed_owing found new places x ei ne p = rw ei record {
  to = λ m s h. elim (push_is found x m (even s) h) [ inl k ↦ p.to m s k | inr k ↦ absurd (ne (ap (λ (z : Spot). z.pending) k.1)) ];
  from = λ s m h. push_at found x m (even s) (p.from s m h);
}

pub placed_none : (places : List (Option ℕ)) (count : ℕ) → places ≡ replicate count None → ArePlaced [] places
placed_none places count e = record {
  to = λ n s h. absurd (none-some (even s) h);
  from = λ s n h. absurd (no count s n (subst (λ (z : List (Option ℕ)). slice_get z s ≡ Some (Some n)) e h));
}
  where
    no : (count x n : ℕ) → slice_get (replicate {A = Option ℕ} count None) x ≡ Some (Some n) → ⊥
    no zero x n h = none-some (Some n) h
    no (suc count) zero n h = none-some n (same_Some None (Some n) h)
    no (suc count) (suc x) n h = no count x n h

-- where what owes an act comes from

-- each spot that owes an act comes from the even spot at its state, one of the first n
abbrev pub AreSources : List Spot → ℕ → Type 0
AreSources found count = (x : Spot) → Among found x → x.pending ≢ [] → (k : ℕ) × (k < count) × (slice_get found k ≡ Some (even x.state))

pub sources_on : (m : Machine_data) (found new : List Spot) (count : ℕ) (p : Spot) → slice_get found count ≡ Some p → IsOfItself m p → Grown found (nexts_itself m p) new → AreSources found count
    → AreSources new (count + 1)
sources_on m found new count p e kind g h x mem ne =
    let i = at_in new x mem in
    elim (g.only i.0 x i.1) [
      | inl old ↦ (let k = h x (in_at found i.0 x old) ne in (k.0, (let a = k.1 in omega arith), g.kept k.0 (even x.state) k.2))
      | inr next ↦ (count, omega arith, g.kept count p e ∙ ap (λ (z : Spot). Some z) (owes_from m p kind x next ne))
    ]

-- so the spots that an even spot leads to by receives are new where it wasn't looked at yet
pub sources_fresh : (m : Machine_data) (found : List Spot) (count : ℕ) (p : Spot) → Once found → slice_get found count ≡ Some p → IsOfItself m p → AreSources found count → p.pending ≡ []
    → (x : Spot) → Among found x → x.state ≡ p.state → x.pending ≡ []
sources_fresh m found count p once e kind h none x mem same = go x.pending refl
  where
    go : (xs : List Act) → x.pending ≡ xs → x.pending ≡ []
    go [] q = q
    go (a ∷ xs) q =
        let k = h x mem (λ z. let bad : a ∷ xs ≡ [] = sym q ∙ z in absurd (cc (bad))) in
        let r : slice_get found k.0 ≡ Some p = k.2 ∙ ap (λ (z : ℕ). Some (even z)) same ∙ ap (λ (z : Spot). Some z) (sym (even_of m p kind none)) in
        let s : k.0 ≡ count = once k.0 count p r e in
        let lt = k.1 in let bad : ⊥ = omega arith in absurd bad

pub among_all : (ys : List Spot) (y : Spot) (all : List Spot) → ((x : Spot) → Among ys x → Among all x) → Among all y → (x : Spot) → Among (ys ++ (y ∷ [])) x → Among all x
among_all ys y all h one x m = elim (among_either ys (y ∷ []) x m) [
  | inl a ↦ h x a
  | inr a ↦ elim a [ inl e ↦ subst (λ (z : Spot). Among all z) e one | inr k ↦ absurd k ]
]

-- what grew by some of the spots grew by no others
pub grown_all_of : (old ys cur new : List Spot) (y : Spot) (all : List Spot) → Grown old ys cur → Adds cur y new → ((x : Spot) → Among ys x → Among all x) → Among all y → Grown old all new
grown_all_of old ys cur new y all g adds h one =
    let more = grown_adds old ys cur y new g adds in
    record {
      once = more.once;
      only = λ n x e. elim (more.only n x e) [ inl a ↦ inl a | inr a ↦ inr (among_all ys y all h one x a) ];
      kept = more.kept;
    }

-- arms, one by one

arm_at : (xs : List Arm) (i : ℕ) (d : Arm) → i < length xs → slice_get xs i ≡ Some (get_or xs i d)
arm_at [] i d h = let bad : ⊥ = omega arith in absurd bad
arm_at (x ∷ xs) zero d h = refl
arm_at (x ∷ xs) (suc i) d h = arm_at xs i d (omega arith)

pub arm_reads : (xs : List Arm) (i : ℕ) (d : Arm) → i < length xs → slice_get xs i ≡ Some (get_or xs i d)
arm_reads = arm_at

map_append : (f : Arm → Spot) (xs : List Arm) (x : Arm) → map f (xs ++ (x ∷ [])) ≡ map f xs ++ (f x ∷ [])
map_append f [] x = refl
map_append f (y ∷ xs) x = ap (λ (z : List Spot). f y ∷ z) (map_append f xs x)

pub map_more : (f : Arm → Spot) (xs : List Arm) (i : ℕ) (x : Arm) → slice_get xs i ≡ Some x → map f (take (i + 1) xs) ≡ map f (take i xs) ++ (f x ∷ [])
map_more f xs i x e = ap (λ (z : List Arm). map f z) (take_on xs i x e) ∙ map_append f (take i xs) x

-- a receive by an arm is no earlier one's, since no label stands at two arms
before_at : (xs : List Arm) (i j : ℕ) (b : Arm) → slice_get (take i xs) j ≡ Some b → (slice_get xs j ≡ Some b) × (j < i)
before_at [] zero j b e = absurd (none-some b e)
before_at [] (suc i) j b e = absurd (none-some b e)
before_at (x ∷ xs) zero j b e = absurd (none-some b e)
before_at (x ∷ xs) (suc i) zero b e = (e, omega arith)
before_at (x ∷ xs) (suc i) (suc j) b e = let k = before_at xs i j b e in (k.0, (let lt = k.1 in omega arith))

owing_label : (s : ℕ) (q : Role) (a b : Arm) → owing_receive (even s) q a ≡ owing_receive (even s) q b → a.label ≡ b.label
owing_label s q a b e = label (act.Takes q a.label a.sort) (act.Takes q b.label b.sort) (first (ap (λ (z : Spot). z.pending) e))
  where
    first : act.Takes q a.label a.sort ∷ [] ≡ act.Takes q b.label b.sort ∷ [] → act.Takes q a.label a.sort ≡ act.Takes q b.label b.sort
    first h = cc (h)

    label : (x y : Act) → x ≡ y → label_of x ≡ label_of y
    label x y h = ap label_of h

pub not_yet : (found : List Spot) (s : ℕ) (q : Role) (arms : List Arm) (i : ℕ) (b : Arm) → HasLabelsOnce arms → ((p : Spot) → Among found p → p.state ≡ s → p.pending ≡ []) → slice_get arms i ≡ Some b
    → Among (found ++ map (λ (a : Arm). owing_receive (even s) q a) (take i arms)) (owing_receive (even s) q b) → ⊥
not_yet found s q arms i b once fresh e h = elim (among_either found (map (λ (a : Arm). owing_receive (even s) q a) (take i arms)) (owing_receive (even s) q b) h) [
  | inl old ↦ (let bad : act.Takes q b.label b.sort ∷ [] ≡ [] = fresh (owing_receive (even s) q b) old refl in absurd (cc (bad)))
  | inr new ↦ (let a = among_map (λ (a : Arm). owing_receive (even s) q a) (take i arms) (owing_receive (even s) q b) new in
      let k = before_at arms i a.0 a.1 a.2 in
      let z : a.0 ≡ i = once a.0 i a.1 b k.0 e (owing_label s q a.1 b a.3) in
      let lt = k.1 in let bad : ⊥ = omega arith in absurd bad)
]

-- the derivation

empty_at : (k i : ℕ) → i < k → slice_get (replicate {A = List ℕ} k []) i ≡ Some []
empty_at zero i h = let bad : ⊥ = omega arith in absurd bad
empty_at (suc k) zero h = refl
empty_at (suc k) (suc i) h = empty_at k i (omega arith)

no_edge : (k i j : ℕ) → Edge (replicate {A = List ℕ} k []) i j → ⊥
no_edge zero zero j h = h
no_edge zero (suc i) j h = h
no_edge (suc k) zero j h = h
no_edge (suc k) (suc i) j h = no_edge k i j h

no_walk : (k i n j : ℕ) → Walk (Edge (replicate {A = List ℕ} k [])) i n j → n ≤ 0
no_walk k i _ _ (Here _) = omega arith
no_walk k i _ j (Further _ l _ n e w) = absurd (no_edge k i l e)

pub all_unranked : (k i : ℕ) → IsRank (Edge (replicate {A = List ℕ} k [])) i (get_or [] i 0)
all_unranked k i =
    subst (λ (z : ℕ). IsRank (Edge (replicate {A = List ℕ} k [])) i z) (sym (none_ranks i)) record { end = i; walk = Here i; most = λ n j w. no_walk k i n j w }

-- where no spot keeps its head, no edge is kept
pub none_kept : (sub above : Machine_data) (bound : ℕ) (found : List Spot) (rows : List (List ℕ)) → ((n : ℕ) (x : Spot) → slice_get found n ≡ Some x → is_keeping sub above bound x ≡ false)
    → AreKept (map (is_keeping sub above bound) found) (places_of 0 found) rows (length (places_of 0 found)) (replicate (length found) [])
none_kept sub above bound found rows h = record {
  size = length-replicate {A = List ℕ} (length found) [] ∙ sym (places_length 0 found);
  each = λ i n row lt a b. (let p = place_is found i n a in
      let x = at_within found n (let q = p.0 in let g = p.1 in omega arith) in
      let k : get_or (map (is_keeping sub above bound) found) n false ≡ false
      = got (map (is_keeping sub above bound) found) n (is_keeping sub above bound x.0) false (map_at (is_keeping sub above bound) found n x.0 x.1) ∙ h n x.0 x.1 in
      empty_at (length found) i p.1 ∙ ap (λ (z : Bool). Some (if z then row else [])) (sym k));
}

-- nodes of rank 0 at the spots
pub record AreAt (found : List Spot) (nodes : List DNode_data) : Type 0 where
  pub each : (i : ℕ) (n : DNode_data) → slice_get nodes i ≡ Some n → (slice_get found i ≡ Some (spot_of n)) × (n.rank ≡ 0)

abbrev pub nexts_in : List DNode_data → List (List ℕ)
nexts_in nodes = map (λ (n : DNode_data). n.next) nodes

pub nodes_at : (found : List Spot) (nodes : List DNode_data) → length nodes ≡ length found → AreAt found nodes
    → AreNodes found (places_of 0 found) (nexts_in nodes) [] (length (places_of 0 found)) nodes
nodes_at found nodes l a = record {
  size = l ∙ sym (places_length 0 found);
  each = λ i n p row lt ei ep er. (let k = place_is found i n ei in
      let m = map_of (λ (n : DNode_data). n.next) nodes i row er in
      let s = a.each i m.0 m.1 in
      let ep' : slice_get found i ≡ Some p = ap (λ (z : ℕ). slice_get found z) k.0 ∙ ep in
      let q : spot_of m.0 ≡ p = same_Some (spot_of m.0) p (sym s.0 ∙ ep') in
      let r : m.0.rank ≡ get_or [] i 0 = s.1 ∙ sym (none_ranks i) in
      m.1 ∙ ap (λ (z : ℕ). Some (node_at_spot (spot_of m.0) z m.0.next)) r ∙ ap (λ (z : Spot). Some (node_at_spot z (get_or [] i 0) m.0.next)) q
      ∙ ap (λ (z : List ℕ). Some (node_at_spot p (get_or [] i 0) z)) m.2);
}

pub found_itself : (m : Machine_data) (found : List Spot) (nodes : List DNode_data) → IsProper m → IsDiscovery (nexts_itself m) (even m.start) found (nexts_in nodes) → length found ≤ MOST_CANDIDATES
    → ((x : Spot) → Among found x → IsOfItself m x) → AreAt found nodes → (bound : ℕ) → 0 < bound → IsCanonical m m bound (record { role = m.role; bound = bound; nodes = nodes })
found_itself m found nodes w d few kind a bound some =
    forced_found m m bound found rows [] nodes (replicate (length found) []) forced (nodes_at found nodes size a) (none_kept m m bound found rows keeps) (all_unranked (length found))
  where
    rows : List (List ℕ)
    rows = nexts_in nodes

    size : length nodes ≡ length found
    size = sym (length-map nodes (λ (n : DNode_data). n.next)) ∙ d.all

    on : (n : ℕ) (x : Spot) → slice_get found n ≡ Some x → Goes (turn_within m m bound x) (nexts_itself m x)
    on n x e = goes m bound w some x (kind x (in_at found n x e))

    keeps : (n : ℕ) (x : Spot) → slice_get found n ≡ Some x → is_keeping m m bound x ≡ false
    keeps n x e = (on n x e).keeps'

    reach : (x : Spot) → Reached (nexts_itself m) (even m.start) x → Reached (nexts_within m m bound) (start_spot m m) x
    reach _ Begin = Begin
    reach _ (Step x y r h) =
        Step x y (reach x r) (subst (λ (z : List Spot). Among z y) (sym (goes m bound w some x (kind x (all_found (nexts_itself m) (even m.start) found rows d x r))).are) h)

    forced : IsForced m m bound found rows
    forced = record {
      proper = w;
      discovery = record {
        first = d.first;
        once = d.once;
        all = d.all;
        names = λ k x row ex er. subst (λ (z : List Spot). ArePlacesOf found row z) (sym (on k x ex).are) (d.names k x row ex er);
        reached = λ n x e. reach x (d.reached n x e);
        order = d.order;
      };
      bounded = few;
      forced = λ n x e any. ap (λ (z : List Spot). length z) (on n x e).are ∙ (on n x e).forced any;
    }

-- the nodes, one by one

pub nexts_even : (m : Machine_data) (p : Spot) (st : State) → p.pending ≡ [] → slice_get m.states p.state ≡ Some st → even_nexts p.state (Some st) ≡ nexts_itself m p
nexts_even m p st e es = ap (λ (o : Option State). even_nexts p.state o) (sym es) ∙ ap (λ (z : List Act). onward z p.state (slice_get m.states p.state) p.above) (sym e)

pub nexts_owed : (m : Machine_data) (p : Spot) → (p.pending ≡ [] → ⊥) → even p.above ∷ [] ≡ nexts_itself m p
nexts_owed m p ne = go p.pending refl
  where
    go : (xs : List Act) → p.pending ≡ xs → even p.above ∷ [] ≡ onward p.pending p.state (slice_get m.states p.state) p.above
    go [] q = absurd (ne q)
    go (a ∷ later) q = ap (λ (z : List Act). onward z p.state (slice_get m.states p.state) p.above) (sym q)

-- a state that was read stands at its place
pub state_at : (m m' : Machine_data) (s : ℕ) (x st : State) → m' ≡ m → s < length m.states → x ≡ get_or m'.states s x → x ≡ st → slice_get m.states s ≡ Some st
state_at m m' s x st em lt is e = reads_at m.states s x x lt (subst (λ (z : Machine_data). get_or z.states s x ≡ x) em (sym is)) ∙ ap (λ (z : State). Some z) e

pub first_spot : (old new : List Spot) (y : Spot) (n : ℕ) → old ≡ [] → Adds old y new → slice_get new n ≡ Some y → new ≡ y ∷ []
first_spot old new y n e (inl q) at' = absurd (none-some y (subst (λ (z : List Spot). slice_get z n ≡ Some y) (q ∙ e) at'))
first_spot old new y n e (inr q) at' = q.1 ∙ ap (λ (z : List Spot). z ++ (y ∷ [])) e

map_end : (nodes : List DNode_data) (node : DNode_data) → nexts_in (nodes ++ (node ∷ [])) ≡ nexts_in nodes ++ (node.next ∷ [])
map_end [] node = refl
map_end (n ∷ nodes) node = ap (λ (z : List (List ℕ)). n.next ∷ z) (map_end nodes node)

-- as far as the nodes are made
pub record AreMade (m : Machine_data) (found : List Spot) (nodes : List DNode_data) : Type 0 where
  pub growing : Growing (nexts_itself m) (even m.start) found (nexts_in nodes)
  pub kinds : (x : Spot) → Among found x → IsOfItself m x
  pub at_spots : AreAt found nodes
  pub sources : AreSources found (length nodes)

pub made_none : (m : Machine_data) → IsProper m → (found : List Spot) (nodes : List DNode_data) → found ≡ even m.start ∷ [] → nodes ≡ [] → AreMade m found nodes
made_none m w found nodes ef en = rw (ef, en) record {
  growing = growing_begin (nexts_itself m) (even m.start);
  kinds = λ x h. elim h [ inl e ↦ Even m.start w.1.start (sym e) | inr k ↦ absurd k ];
  at_spots = record { each = λ i n e. absurd (none-some n e) };
  sources = λ x h ne. elim h [ inl e ↦ absurd (ne (ap (λ (z : Spot). z.pending) (sym e))) | inr k ↦ absurd k ];
}

pub made_on : (m : Machine_data) → IsProper m → (found new : List Spot) (nodes nodes' : List DNode_data) (p : Spot) (node : DNode_data) (row : List ℕ) → AreMade m found nodes
    → slice_get found (length nodes) ≡ Some p → AreNamed found (nexts_itself m p) new row
    → node ≡ node_at_spot p 0 row → nodes' ≡ nodes ++ (node ∷ []) → AreMade m new nodes'
made_on m w found new nodes nodes' p node row a e named en es =
    let kind = a.kinds p (in_at found (length nodes) p e) in
    let l = length-map nodes (λ (n : DNode_data). n.next) in
    let at' : slice_get found (length (nexts_in nodes)) ≡ Some p = subst (λ (z : ℕ). slice_get found z ≡ Some p) (sym l) e in
    let g = growing_on (nexts_itself m) (even m.start) found (nexts_in nodes) p new row a.growing at' named in
    let rows : nexts_in nodes' ≡ nexts_in nodes ++ (row ∷ []) = ap nexts_in es ∙ map_end nodes node ∙ ap (λ (z : List ℕ). nexts_in nodes ++ (z ∷ [])) (ap (λ (n : DNode_data). n.next) en) in
    let count : length nodes' ≡ length nodes + 1 = ap (λ (z : List DNode_data). length z) es ∙ length-append nodes (node ∷ []) in
    record {
      growing = subst (λ (z : List (List ℕ)). Growing (nexts_itself m) (even m.start) new z) (sym rows) g;
      kinds = λ x h. (let i = at_in new x h in elim (named.grown.only i.0 x i.1) [
        | inl old ↦ a.kinds x (in_at found i.0 x old)
        | inr next ↦ kind_on m w p kind x next
      ]);
      at_spots = record {
        each = λ i n h. elim (push_is nodes node i n (subst (λ (z : List DNode_data). slice_get z i ≡ Some n) es h)) [
          | inl old ↦ (let k = a.at_spots.each i n old in (named.grown.kept i (spot_of n) k.0, k.1))
          | inr this ↦ (let q : node_at_spot p 0 row ≡ n = sym en ∙ this.1 in (
            subst (λ (z : ℕ). slice_get new z ≡ Some (spot_of n)) (sym this.0) (named.grown.kept (length nodes) p e ∙ ap (λ (z : DNode_data). Some (spot_of z)) q),
            sym
                (ap (λ (z : DNode_data). z.rank) q),
          ))
        ];
      };
      sources = subst (λ (z : ℕ). AreSources new z) (sym count) (sources_on m found new (length nodes) p e kind named.grown a.sources);
    }

pub made_all : (m : Machine_data) → IsProper m → (found : List Spot) (nodes : List DNode_data) → AreMade m found nodes → length found ≤ length nodes → length found ≤ MOST_CANDIDATES
    → (bound : ℕ) → 0 < bound → IsCanonical m m bound (record { role = m.role; bound = bound; nodes = nodes })
made_all m w found nodes a done few =
    let l = length-map nodes (λ (n : DNode_data). n.next) in
    found_itself m found nodes w (growing_done (nexts_itself m) (even m.start) found (nexts_in nodes) a.growing (omega arith)) few a.kinds a.at_spots

pub made_fresh : (m : Machine_data) (found : List Spot) (nodes : List DNode_data) (p : Spot) → AreMade m found nodes → slice_get found (length nodes) ≡ Some p → p.pending ≡ [] → (x : Spot)
    → Among found x → x.state ≡ p.state → x.pending ≡ []
made_fresh m found nodes p a e = sources_fresh m found (length nodes) p a.growing.once e (a.kinds p (in_at found (length nodes) p e)) a.sources
