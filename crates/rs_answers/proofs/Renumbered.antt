-- Machines and derivations with other numbers for labels, where no two labels that are used get one number: what is well formed stays so, and what is a derivation that remembers stays one.
use Rattle.std.proofs.Common.{◌≡◌, ◌≢◌, ℕ, suc, ◌+◌, true, false, List, [], ◌∷◌, ◌++◌, map, take, drop, refl, sym, ap, ◌∙◌, subst, arith, inl, inr, Some, Option, slice_get, eqb}
use Rattle.std.proofs.lemmas.Bool.Decides.{eqb_tells}
use Rattle.std.proofs.lemmas.List.{length-map, map-append, take-map, drop-map}
use Rattle.std.proofs.lemmas.Option.{none-some, same_Some}
use Rattle.rs_derivations.specs.Printable.{label_number}
use Rattle.rs_derive.proofs.Mapped.{map_at, map_of}
use Rattle.rs_derive.specs.Data.{DNode_data, Derivation_data}
use Rattle.rs_derive.specs.Derivations.{IsDerivation, KeepsItsHead, NameResults, NodeFits, Remembers, spot_of}
use Rattle.rs_derive.specs.Moves.{Both, HasMove, Spot, arm_of, owing_receive, owing_send, spot}
use Rattle.rs_derive.specs.Moves.{Stops, PaysSend, SendsBoth, Guesses, SendsAhead, PaysReceive, ReceivesAhead}
use Rattle.rs_model.specs.Data.{Machine_data}
use Rattle.rs_model.specs.WellFormed.{IsWellFormedMachine, StateFits}
use Rattle.rs_model.specs.declared.graph.Arm.{Arm}
use Rattle.rs_model.specs.declared.graph.Label.{Label}
use Rattle.rs_model.specs.declared.graph.Role.{Role}
use Rattle.rs_model.specs.declared.machines.Act.{Act}
use Rattle.rs_model.specs.declared.machines.Act.TheVariants as act
use Rattle.rs_model.specs.declared.machines.State.{State}
use Rattle.rs_model.specs.declared.machines.State.TheVariants.{Done, Puts, Takes}
use Rattle.rs_prefix.specs.Earliest.{IsAbsent, IsFound, has, may_overtake, without}
use Rattle.rs_prefix.specs.declared.earliest.ActKind.{ActKind}
use Rattle.rs_prefix.specs.declared.earliest.ActKind.TheVariants as kind
use Rattle.rs_documents.proofs.OwnLabels.{ActsUse, ArmsUse, MachineUses}
use Rattle.rs_documents.specs.Again.{act_by, arm_by, derivation_by, label_by, machine_by, node_by, state_by}

abbrev pub spot_by : (ℕ → ℕ) → Spot → Spot
spot_by f p = spot p.state (map (act_by f) p.pending) p.above

-- ---- numbers that are kept apart

-- no two labels that are used get one number
abbrev pub KeepsApart : (ℕ → Type 0) → (ℕ → ℕ) → Type 0
KeepsApart U f = (i j : ℕ) → U i → U j → f i ≡ f j → i ≡ j

-- ---- states

state_there : (f : ℕ → ℕ) (m : Machine_data) (s : ℕ) (x : State) → slice_get m.states s ≡ Some x → slice_get (machine_by f m).states s ≡ Some (state_by f x)
state_there f m s x e = map_at (state_by f) m.states s x e

-- ---- acts

has_by : (f : ℕ → ℕ) (k : ActKind) (q : Role) (a : Act) → has k q (act_by f a) ≡ has k q a
has_by f kind.Send q (act.Puts r l so) = refl
has_by f kind.Send q (act.Takes r l so) = refl
has_by f kind.Receive q (act.Puts r l so) = refl
has_by f kind.Receive q (act.Takes r l so) = refl

overtakes_by : (f : ℕ → ℕ) (k : ActKind) (q : Role) (a : Act) → may_overtake k q (act_by f a) ≡ may_overtake k q a
overtakes_by f kind.Send q (act.Puts r l so) = refl
overtakes_by f kind.Send q (act.Takes r l so) = refl
overtakes_by f kind.Receive q (act.Puts r l so) = refl
overtakes_by f kind.Receive q (act.Takes r l so) = refl

free_by : (f : ℕ → ℕ) (k : ActKind) (q : Role) (acts : List Act) (i : ℕ) (a : Act) → ((b : Act) → slice_get acts i ≡ Some b → may_overtake k q b ≡ true) → slice_get (map (act_by f) acts) i ≡ Some a
    → may_overtake k q a ≡ true
free_by f k q acts i a free at =
    let b = map_of (act_by f) acts i a at in
    subst (λ (z : Act). may_overtake k q z ≡ true) b.2 (overtakes_by f k q b.0 ∙ free b.0 b.1)

found_by : (f : ℕ → ℕ) (acts : List Act) (k : ActKind) (q : Role) (place : ℕ) → IsFound acts k q place → IsFound (map (act_by f) acts) k q place
found_by f acts k q place h = record {
  act = act_by f h.act;
  stands = map_at (act_by f) acts place h.act h.stands;
  same = has_by f k q h.act ∙ h.same;
  free = λ i a lt at. free_by f k q acts i a (λ b e. h.free i b lt e) at;
}

absent_by : (f : ℕ → ℕ) (acts : List Act) (k : ActKind) (q : Role) → IsAbsent acts k q → IsAbsent (map (act_by f) acts) k q
absent_by f acts k q h i a at = free_by f k q acts i a (λ b e. h i b e) at

without_by : (f : ℕ → ℕ) (acts : List Act) (place : ℕ) → without (map (act_by f) acts) place ≡ map (act_by f) (without acts place)
without_by f acts place =
    ap (λ (z : List Act). z ++ drop (place + 1) (map (act_by f) acts)) (take-map (act_by f) place acts)
    ∙ ap (λ (z : List Act). map (act_by f) (take place acts) ++ z) (drop-map (act_by f) (place + 1) acts)
    ∙ sym (map-append (act_by f) (take place acts) (drop (place + 1) acts))

-- ---- arms

arm_there : (U : ℕ → Type 0) (f : ℕ → ℕ) → KeepsApart U f → (arms : List Arm) (l : Label) (b : Arm) → ArmsUse U arms → U l.0 → arm_of arms l ≡ Some b
    → arm_of (map (arm_by f) arms) (label_by f l) ≡ Some (arm_by f b)
arm_there U f apart [] l b uses used e = absurd (none-some b e)
arm_there U f apart (a ∷ arms) l b uses used e = elim (eqb_tells a.label.0 l.0) [
  | inl t ↦
      let here : Some a ≡ Some b = rw t.0 at e in
      let same : eqb (f a.label.0) (f l.0) ≡ true = rw t.1 (eqb_refl (f l.0)) in
      rw same (ap (λ (z : Arm). Some (arm_by f z)) (same_Some a b here))
  | inr t ↦
      let later : arm_of arms l ≡ Some b = rw t.0 at e in
      let other : eqb (f a.label.0) (f l.0) ≡ false = apart_by t.1 in
      rw other (arm_there U f apart arms l b (λ i x at. uses (suc i) x at) used later)
]
  where
    eqb_refl : (n : ℕ) → eqb n n ≡ true
    eqb_refl n = elim (eqb_tells n n) [ inl t ↦ t.0 | inr t ↦ absurd (t.1 refl) ]

    apart_by : a.label.0 ≢ l.0 → eqb (f a.label.0) (f l.0) ≡ false
    apart_by ne = elim (eqb_tells (f a.label.0) (f l.0)) [ inl t ↦ absurd (ne (apart a.label.0 l.0 (uses 0 a refl) used t.1)) | inr t ↦ t.0 ]

both_by : (U : ℕ → Type 0) (f : ℕ → ℕ) → KeepsApart U f → (theirs : List Arm) (pending : List Act) (arms : List Arm) (rs : List Spot) → ArmsUse U theirs → ArmsUse U arms → Both theirs pending arms rs
    → Both (map (arm_by f) theirs) (map (act_by f) pending) (map (arm_by f) arms) (map (spot_by f) rs)
both_by U f apart theirs pending [] [] ut ua h = tt
both_by U f apart theirs pending [] (r ∷ rs) ut ua h = absurd h
both_by U f apart theirs pending (a ∷ arms) [] ut ua h = absurd h
both_by U f apart theirs pending (a ∷ arms) (r ∷ rs) ut ua h = (
  (arm_by f h.0.0, arm_there U f apart theirs a.label h.0.0 ut (ua 0 a refl) h.0.1, h.0.2, ap (spot_by f) h.0.3),
  both_by U f apart theirs pending arms rs ut (λ i x at. ua (suc i) x at) h.1,
)

-- ---- results

pushed_by : (f : ℕ → ℕ) (acts : List Act) (a : Act) → map (act_by f) acts ++ (act_by f a ∷ []) ≡ map (act_by f) (acts ++ (a ∷ []))
pushed_by f acts a = sym (map-append (act_by f) acts (a ∷ []))

guessed_by : (f : ℕ → ℕ) (p : Spot) (r : Role) (b : Arm) → owing_send (spot_by f p) r (arm_by f b) ≡ spot_by f (owing_send p r b)
guessed_by f p r b = ap (λ (z : List Act). spot p.state z b.next) (pushed_by f p.pending (act.Puts r b.label b.sort))

followed_by : (f : ℕ → ℕ) (p : Spot) (r : Role) (b : Arm) → owing_receive (spot_by f p) r (arm_by f b) ≡ spot_by f (owing_receive p r b)
followed_by f p r b = ap (λ (z : List Act). spot p.state z b.next) (pushed_by f p.pending (act.Takes r b.label b.sort))

all_followed_by : (f : ℕ → ℕ) (p : Spot) (r : Role) (theirs : List Arm) → map (spot_by f) (map (λ b. owing_receive p r b) theirs) ≡ map (λ b. owing_receive (spot_by f p) r b) (map (arm_by f) theirs)
all_followed_by f p r [] = refl
all_followed_by f p r (b ∷ theirs) =
    ap (λ (z : Spot). z ∷ map (spot_by f) (map (λ b. owing_receive p r b) theirs)) (sym (followed_by f p r b))
    ∙ ap (λ (z : List Spot). owing_receive (spot_by f p) r (arm_by f b) ∷ z) (all_followed_by f p r theirs)

paid_by : (f : ℕ → ℕ) (p : Spot) (next place : ℕ) (rs : List Spot) → rs ≡ spot next (without p.pending place) p.above ∷ []
    → map (spot_by f) rs ≡ spot next (without (spot_by f p).pending place) p.above ∷ []
paid_by f p next place rs e = ap (λ (z : List Spot). map (spot_by f) z) e ∙ ap (λ (z : List Act). spot next z p.above ∷ []) (sym (without_by f p.pending place))

-- ---- moves

pub move_by : (U : ℕ → Type 0) (f : ℕ → ℕ) → KeepsApart U f → (sub above : Machine_data) (p : Spot) (makes : Option ℕ) (rs : List Spot) → MachineUses U sub → MachineUses U above
    → ActsUse U p.pending → HasMove sub above p makes rs → HasMove (machine_by f sub) (machine_by f above) (spot_by f p) makes (map (spot_by f) rs)
move_by U f apart sub above p makes rs us ua up (Stops gs none gt em er) =
    Stops (state_there f sub p.state Done gs) (ap (λ (z : List Act). map (act_by f) z) none) (state_there f above p.above Done gt) em (ap (λ (z : List Spot). map (spot_by f) z) er)
move_by U f apart sub above p makes rs us ua up (PaysSend q arm place sort gs found at sv em er) =
    PaysSend q (arm_by f arm) place sort (state_there f sub p.state (Puts q (arm ∷ [])) gs) (found_by f p.pending kind.Send q place found)
    (map_at (act_by f) p.pending place (act.Puts q arm.label sort) at) sv em (paid_by f p arm.next place rs er)
move_by U f apart sub above p makes rs us ua up (SendsBoth q arms theirs gs none gt em both) =
    SendsBoth q (map (arm_by f) arms) (map (arm_by f) theirs) (state_there f sub p.state (Puts q arms) gs) (absent_by f p.pending kind.Send q none)
    (state_there f above p.above (Puts q theirs) gt) em (both_by U f apart theirs p.pending arms rs (ua.puts p.above q theirs gt) (us.puts p.state q arms gs) both)
move_by U f apart sub above p makes rs us ua up (Guesses q r arms theirs place b gs none gt ne at em er) =
    Guesses q r (map (arm_by f) arms) (map (arm_by f) theirs) place (arm_by f b) (state_there f sub p.state (Puts q arms) gs) (absent_by f p.pending kind.Send q none)
    (state_there f above p.above (Puts r theirs) gt) ne (map_at (arm_by f) theirs place b at) em
    (ap (λ (z : List Spot). map (spot_by f) z) er ∙ ap (λ (z : Spot). z ∷ []) (sym (guessed_by f p r b)))
move_by U f apart sub above p makes rs us ua up (SendsAhead q r arms theirs gs none gt em er) =
    SendsAhead q r (map (arm_by f) arms) (map (arm_by f) theirs) (state_there f sub p.state (Puts q arms) gs) (absent_by f p.pending kind.Send q none)
    (state_there f above p.above (Takes r theirs) gt) em (ap (λ (z : List Spot). map (spot_by f) z) er ∙ all_followed_by f p r theirs)
move_by U f apart sub above p makes rs us ua up (PaysReceive q arms place l sort arm gs found at is sv em er) =
    PaysReceive q (map (arm_by f) arms) place (label_by f l) sort (arm_by f arm) (state_there f sub p.state (Takes q arms) gs) (found_by f p.pending kind.Receive q place found)
    (map_at (act_by f) p.pending place (act.Takes q l sort) at)
    (arm_there U f apart arms l arm (us.takes p.state q arms gs) (up place (act.Takes q l sort) at) is) sv em (paid_by f p arm.next place rs er)
move_by U f apart sub above p makes rs us ua up (ReceivesAhead q r arms theirs gs none gt em er) =
    ReceivesAhead q r (map (arm_by f) arms) (map (arm_by f) theirs) (state_there f sub p.state (Takes q arms) gs) (absent_by f p.pending kind.Receive q none)
    (state_there f above p.above (Takes r theirs) gt) em (ap (λ (z : List Spot). map (spot_by f) z) er ∙ all_followed_by f p r theirs)

-- ---- back to the old numbers

module _ (U : ℕ → Type 0) (f g : ℕ → ℕ) (back : (k : ℕ) → U k → g (f k) ≡ k) where
  label_back : (l : Label) → U l.0 → label_by g (label_by f l) ≡ l
  label_back l u = ap (λ (n : ℕ). record { 0 = n }) (back l.0 u)

  arm_back : (a : Arm) → U a.label.0 → arm_by g (arm_by f a) ≡ a
  arm_back a u = ap (λ (z : Label). record { label = z; sort = a.sort; next = a.next }) (label_back a.label u)

  arms_back : (arms : List Arm) → ArmsUse U arms → map (arm_by g) (map (arm_by f) arms) ≡ arms
  arms_back [] u = refl
  arms_back (a ∷ arms) u =
      ap (λ (z : Arm). z ∷ map (arm_by g) (map (arm_by f) arms)) (arm_back a (u 0 a refl)) ∙ ap (λ (z : List Arm). a ∷ z) (arms_back arms (λ i x e. u (suc i) x e))

  act_back : (a : Act) → U (label_number a) → act_by g (act_by f a) ≡ a
  act_back (act.Puts r l so) u = ap (λ (z : Label). act.Puts r z so) (label_back l u)
  act_back (act.Takes r l so) u = ap (λ (z : Label). act.Takes r z so) (label_back l u)

  acts_back : (acts : List Act) → ActsUse U acts → map (act_by g) (map (act_by f) acts) ≡ acts
  acts_back [] u = refl
  acts_back (a ∷ acts) u =
      ap (λ (z : Act). z ∷ map (act_by g) (map (act_by f) acts)) (act_back a (u 0 a refl)) ∙ ap (λ (z : List Act). a ∷ z) (acts_back acts (λ i x e. u (suc i) x e))

  abbrev StateUses : State → Type 0
  StateUses Done = Unit {0}
  StateUses (Puts q arms) = ArmsUse U arms
  StateUses (Takes q arms) = ArmsUse U arms

  state_back : (x : State) → StateUses x → state_by g (state_by f x) ≡ x
  state_back Done u = refl
  state_back (Puts q arms) u = ap (Puts q) (arms_back arms u)
  state_back (Takes q arms) u = ap (Takes q) (arms_back arms u)

  states_back : (xs : List State) → ((s : ℕ) (x : State) → slice_get xs s ≡ Some x → StateUses x) → map (state_by g) (map (state_by f) xs) ≡ xs
  states_back [] u = refl
  states_back (x ∷ xs) u =
      ap (λ (z : State). z ∷ map (state_by g) (map (state_by f) xs)) (state_back x (u 0 x refl)) ∙ ap (λ (z : List State). x ∷ z) (states_back xs (λ s y e. u (suc s) y e))

  state_uses : (m : Machine_data) → MachineUses U m → (s : ℕ) (x : State) → slice_get m.states s ≡ Some x → StateUses x
  state_uses m u s Done e = tt
  state_uses m u s (Puts q arms) e = u.puts s q arms e
  state_uses m u s (Takes q arms) e = u.takes s q arms e

  pub machine_back : (m : Machine_data) → MachineUses U m → machine_by g (machine_by f m) ≡ m
  machine_back m u = ap (λ (z : List State). record { role = m.role; states = z; start = m.start }) (states_back m.states (state_uses m u))

  pub spot_back : (p : Spot) → ActsUse U p.pending → spot_by g (spot_by f p) ≡ p
  spot_back p u = ap (λ (z : List Act). spot p.state z p.above) (acts_back p.pending u)

  -- the numbers that are used then
  abbrev pub Image : ℕ → Type 0
  Image n = (k : ℕ) × U k × (f k ≡ n)

  apart_back : KeepsApart Image g
  apart_back i j a b e =
      let ga : g i ≡ a.0 = ap g (sym a.2) ∙ back a.0 a.1 in
      let gb : g j ≡ b.0 = ap g (sym b.2) ∙ back b.0 b.1 in
      sym a.2 ∙ ap f (sym ga ∙ e ∙ gb) ∙ b.2

  arms_image : (arms : List Arm) → ArmsUse U arms → ArmsUse Image (map (arm_by f) arms)
  arms_image arms u i a at = let b = map_of (arm_by f) arms i a at in (b.0.label.0, u i b.0 b.1, ap (λ (z : Arm). z.label.0) b.2)

  label_of_act : (a : Act) → label_number (act_by f a) ≡ f (label_number a)
  label_of_act (act.Puts r l so) = refl
  label_of_act (act.Takes r l so) = refl

  acts_image : (acts : List Act) → ActsUse U acts → ActsUse Image (map (act_by f) acts)
  acts_image acts u i a at =
      let b = map_of (act_by f) acts i a at in
      (label_number b.0, u i b.0 b.1, sym (label_of_act b.0) ∙ ap label_number b.2)

  abbrev ImageOf : State → Type 0
  ImageOf Done = Unit {0}
  ImageOf (Puts q arms) = ArmsUse Image arms
  ImageOf (Takes q arms) = ArmsUse Image arms

  state_image : (x : State) → StateUses x → ImageOf (state_by f x)
  state_image Done u = tt
  state_image (Puts q arms) u = arms_image arms u
  state_image (Takes q arms) u = arms_image arms u

  image_at : (m : Machine_data) → MachineUses U m → (s : ℕ) (x : State) → slice_get (machine_by f m).states s ≡ Some x → ImageOf x
  image_at m u s x e = let y = map_of (state_by f) m.states s x e in subst ImageOf y.2 (state_image y.0 (state_uses m u s y.0 y.1))

  machine_image : (m : Machine_data) → MachineUses U m → MachineUses Image (machine_by f m)
  machine_image m u = record { puts = λ s q arms e. image_at m u s (Puts q arms) e; takes = λ s q arms e. image_at m u s (Takes q arms) e }

  -- ---- well-formed machines

  abbrev StateIsWell : Machine_data → ℕ → State → Type 0
  StateIsWell m roles Done = Unit {0}
  StateIsWell m roles (Puts q arms) = StateFits m roles q arms
  StateIsWell m roles (Takes q arms) = StateFits m roles q arms

  apart : KeepsApart U f
  apart i j a b e = sym (back i a) ∙ ap g e ∙ back j b

  not_none : (arms : List Arm) → arms ≢ [] → map (arm_by f) arms ≢ []
  not_none [] ne e = ne refl
  not_none (a ∷ arms) ne e = cc (e)

  fits_by : (m : Machine_data) (roles : ℕ) (q : Role) (arms : List Arm) → ArmsUse U arms → StateFits m roles q arms → StateFits (machine_by f m) roles q (map (arm_by f) arms)
  fits_by m roles q arms u h = record {
    some = not_none arms h.some;
    other = h.other;
    known = h.known;
    once = λ i j a b ea eb same. (
        let x = map_of (arm_by f) arms i a ea in
        let y = map_of (arm_by f) arms j b eb in
        let numbers : f x.0.label.0 ≡ f y.0.label.0 = ap (λ (z : Arm). z.label.0) x.2 ∙ ap (λ (z : Label). z.0) same ∙ sym (ap (λ (z : Arm). z.label.0) y.2) in
        h.once i j x.0 y.0 x.1 y.1 (ap (λ (n : ℕ). record { 0 = n }) (apart x.0.label.0 y.0.label.0 (u i x.0 x.1) (u j y.0 y.1) numbers)));
    nexts = λ i a ea. (
        let x = map_of (arm_by f) arms i a ea in
        let lt = h.nexts i x.0 x.1 in
        let next : x.0.next ≡ a.next = ap (λ (z : Arm). z.next) x.2 in
        omega (arith, lt, next, length-map m.states (state_by f)));
  }

  well_by : (m : Machine_data) (roles : ℕ) (x : State) → StateUses x → StateIsWell m roles x → StateIsWell (machine_by f m) roles (state_by f x)
  well_by m roles Done u h = tt
  well_by m roles (Puts q arms) u h = fits_by m roles q arms u h
  well_by m roles (Takes q arms) u h = fits_by m roles q arms u h

  state_well : (m : Machine_data) (roles : ℕ) → IsWellFormedMachine m roles → (s : ℕ) (x : State) → slice_get m.states s ≡ Some x → StateIsWell m roles x
  state_well m roles w s Done e = tt
  state_well m roles w s (Puts q arms) e = w.puts s q arms e
  state_well m roles w s (Takes q arms) e = w.takes s q arms e

  well_at : (m : Machine_data) (roles : ℕ) → IsWellFormedMachine m roles → MachineUses U m → (s : ℕ) (x : State) → slice_get (machine_by f m).states s ≡ Some x → StateIsWell (machine_by f m) roles x
  well_at m roles w u s x e =
      let y = map_of (state_by f) m.states s x e in
      subst (StateIsWell (machine_by f m) roles) y.2 (well_by m roles y.0 (state_uses m u s y.0 y.1) (state_well m roles w s y.0 y.1))

  pub well_formed_by : (m : Machine_data) (roles : ℕ) → MachineUses U m → IsWellFormedMachine m roles → IsWellFormedMachine (machine_by f m) roles
  well_formed_by m roles u w = record {
    role = w.role;
    start = (let lt = w.start in omega (arith, lt, length-map m.states (state_by f)));
    puts = λ s q arms e. well_at m roles w u s (Puts q arms) e;
    takes = λ s q arms e. well_at m roles w u s (Takes q arms) e;
  }

  -- ---- derivations

  abbrev pub NodesUse : Derivation_data → Type 0
  NodesUse d = (i : ℕ) (n : DNode_data) → slice_get d.nodes i ≡ Some n → ActsUse U n.pending

  named_by : (nodes : List DNode_data) (js : List ℕ) (rs : List Spot) → NameResults nodes js rs → NameResults (map (node_by f) nodes) js (map (spot_by f) rs)
  named_by nodes [] [] h = tt
  named_by nodes [] (r ∷ rs) h = absurd h
  named_by nodes (j ∷ js) [] h = absurd h
  named_by nodes (j ∷ js) (r ∷ rs) h =
      ((node_by f h.0.0, map_at (node_by f) nodes j h.0.0 h.0.1, ap (spot_by f) h.0.2), named_by nodes js rs h.1)

  node_fits_by : (d : Derivation_data) (sub above : Machine_data) (i : ℕ) (n : DNode_data) → MachineUses U sub → MachineUses U above → ActsUse U n.pending → NodeFits d.nodes d.bound sub above n
      → NodeFits (derivation_by f d).nodes d.bound (machine_by f sub) (machine_by f above) (node_by f n)
  node_fits_by d sub above i n us ua un h = record {
    state = (let lt = h.state in omega (arith, lt, length-map sub.states (state_by f)));
    present = (let lt = h.present in omega (arith, lt, length-map above.states (state_by f)));
    short = (let le = h.short in omega (arith, le, length-map n.pending (act_by f)));
    makes = h.makes;
    results = map (spot_by f) h.results;
    move = move_by U f apart sub above (spot_of n) h.makes h.results us ua un h.move;
    named = named_by d.nodes n.next h.results h.named;
  }

  pub derivation_is : (d : Derivation_data) (sub above : Machine_data) → MachineUses U sub → MachineUses U above → NodesUse d → IsDerivation d sub above
      → IsDerivation (derivation_by f d) (machine_by f sub) (machine_by f above)
  derivation_is d sub above us ua un h = record {
    first = node_by f h.first;
    stands = map_at (node_by f) d.nodes 0 h.first h.stands;
    starts = ap (spot_by f) h.starts;
    each = λ i n at. (
        let x = map_of (node_by f) d.nodes i n at in
        subst (NodeFits (derivation_by f d).nodes d.bound (machine_by f sub) (machine_by f above)) x.2 (node_fits_by d sub above i x.0 us ua (un i x.0 x.1) (h.each i x.0 x.1)));
  }

  -- a move with the new numbers was one with the old ones
  move_back : (sub above : Machine_data) (p : Spot) (makes : Option ℕ) (rs : List Spot) → MachineUses U sub → MachineUses U above → ActsUse U p.pending
      → HasMove (machine_by f sub) (machine_by f above) (spot_by f p) makes rs → HasMove sub above p makes (map (spot_by g) rs)
  move_back sub above p makes rs us ua up h =
      let moved = move_by Image g apart_back (machine_by f sub) (machine_by f above) (spot_by f p) makes rs (machine_image sub us) (machine_image above ua) (acts_image p.pending up) h in
      let rs' : List Spot = map (spot_by g) rs in
      subst (λ (z : Spot). HasMove sub above z makes rs') (spot_back p up)
      (subst (λ (z : Machine_data). HasMove sub z (spot_by g (spot_by f p)) makes rs') (machine_back above ua)
      (subst (λ (z : Machine_data). HasMove z (machine_by g (machine_by f above)) (spot_by g (spot_by f p)) makes rs') (machine_back sub us) moved))

  keeps_back : (n : DNode_data) (makes : Option ℕ) → KeepsItsHead (node_by f n).pending makes → KeepsItsHead n.pending makes
  keeps_back n makes h = record { owes = λ e. h.owes (ap (λ (z : List Act). map (act_by f) z) e); other = h.other }

  pub remembers_too : (d : Derivation_data) (sub above : Machine_data) → MachineUses U sub → MachineUses U above → NodesUse d → Remembers d sub above
      → Remembers (derivation_by f d) (machine_by f sub) (machine_by f above)
  remembers_too d sub above us ua un h = record {
    falls = λ i n makes rs at move keeps k j m ek em. (
        let x = map_of (node_by f) d.nodes i n at in
        let y = map_of (node_by f) d.nodes j m em in
        let Moves : DNode_data → Type 0 = λ z. HasMove (machine_by f sub) (machine_by f above) (spot_of z) makes rs in
        let move' : Moves (node_by f x.0) = subst Moves (sym x.2) move in
        let keeps' : KeepsItsHead (node_by f x.0).pending makes = subst (λ (z : DNode_data). KeepsItsHead z.pending makes) (sym x.2) keeps in
        let next' : slice_get x.0.next k ≡ Some j = subst (λ (z : DNode_data). slice_get z.next k ≡ Some j) (sym x.2) ek in
        let lt = h.falls i x.0 makes (map (spot_by g) rs) x.1 (move_back sub above (spot_of x.0) makes rs us ua (un i x.0 x.1) move') (keeps_back x.0 makes keeps') k j y.0 next' y.1 in
        let rn : x.0.rank ≡ n.rank = ap (λ (z : DNode_data). z.rank) x.2 in
        let rm : y.0.rank ≡ m.rank = ap (λ (z : DNode_data). z.rank) y.2 in
        omega (arith, lt, rn, rm));
  }

-- ---- numbers that stay

module _ (f : ℕ → ℕ) where
  abbrev pub Stays : ℕ → Type 0
  Stays k = f k ≡ k

  label_stays : (l : Label) → Stays l.0 → label_by f l ≡ l
  label_stays l u = ap (λ (n : ℕ). record { 0 = n }) u

  arms_stay : (arms : List Arm) → ArmsUse Stays arms → map (arm_by f) arms ≡ arms
  arms_stay [] u = refl
  arms_stay (a ∷ arms) u =
      ap (λ (z : Label). record { label = z; sort = a.sort; next = a.next } ∷ map (arm_by f) arms) (label_stays a.label (u 0 a refl))
      ∙ ap (λ (z : List Arm). a ∷ z) (arms_stay arms (λ i x e. u (suc i) x e))

  abbrev StateStays : State → Type 0
  StateStays Done = Unit {0}
  StateStays (Puts q arms) = ArmsUse Stays arms
  StateStays (Takes q arms) = ArmsUse Stays arms

  state_stays : (x : State) → StateStays x → state_by f x ≡ x
  state_stays Done u = refl
  state_stays (Puts q arms) u = ap (Puts q) (arms_stay arms u)
  state_stays (Takes q arms) u = ap (Takes q) (arms_stay arms u)

  states_stay : (xs : List State) → ((s : ℕ) (x : State) → slice_get xs s ≡ Some x → StateStays x) → map (state_by f) xs ≡ xs
  states_stay [] u = refl
  states_stay (x ∷ xs) u = ap (λ (z : State). z ∷ map (state_by f) xs) (state_stays x (u 0 x refl)) ∙ ap (λ (z : List State). x ∷ z) (states_stay xs (λ s y e. u (suc s) y e))

  stays_at : (m : Machine_data) → MachineUses Stays m → (s : ℕ) (x : State) → slice_get m.states s ≡ Some x → StateStays x
  stays_at m u s Done e = tt
  stays_at m u s (Puts q arms) e = u.puts s q arms e
  stays_at m u s (Takes q arms) e = u.takes s q arms e

  pub machine_stays : (m : Machine_data) → MachineUses Stays m → machine_by f m ≡ m
  machine_stays m u = ap (λ (z : List State). record { role = m.role; states = z; start = m.start }) (states_stay m.states (stays_at m u))
