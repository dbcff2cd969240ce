-- Where safe machines can step, there is a step.
use Rattle.std.proofs.Common.{◌≡◌, ◌⊎◌, inl, inr, ℕ, zero, suc, Bool, true, false, List, [], ◌∷◌, Some, slice_get, refl, ap, subst, sym}
use Rattle.std.proofs.lemmas.Bool.Decides.{eqb_tells}
use Rattle.rs_model.specs.Data.{Machine_data}
use Rattle.rs_model.specs.Sorts.{fits, HasSort}
use Rattle.rs_model.specs.declared.graph.Arm.{Arm}
use Rattle.rs_model.specs.declared.graph.Label.{Label}
use Rattle.rs_model.specs.declared.machines.State.TheVariants.{Puts}
use Rattle.rs_model.specs.declared.values.Sort.{Sort}
use Rattle.rs_model.specs.declared.values.Sort.TheVariants as sort
use Rattle.rs_model.specs.declared.values.Value.{Value}
use Rattle.rs_model.specs.declared.values.Value.TheVariants as value
use Rattle.rs_model.specs.Values.{empty_value}
use Rattle.rs_model.proofs.EmptyValues.{empty_fits}
use Rattle.rs_core.specs.Configurations.{Message, Configuration, Event, Send, Receive, Step, IsReachable}
use Rattle.rs_core.specs.Safety.{CanMove, MaySend, MayReceive, CanStep, IsSafe}
use Rattle.rs_core.specs.Choices.{HaveArms}
use Rattle.rs_core.proofs.Moves.{after_send, after_receive, send_step, receive_step}
use Rattle.rs_core.proofs.Stands.{here_is}

-- an arm takes the message
abbrev pub Fitting : Arm → Message → Type 0
Fitting arm m = (arm.label ≡ m.label) × HasSort m.value arm.sort

-- one of the arms takes it
abbrev pub Taken : List Arm → Message → Type 0
Taken arms m = (place : ℕ) × (arm : Arm) × (slice_get arms place ≡ Some arm) × Fitting arm m

-- none of them does
abbrev pub Untaken : List Arm → Message → Type 0
Untaken arms m = (place : ℕ) (arm : Arm) → slice_get arms place ≡ Some arm → arm.label ≡ m.label → HasSort m.value arm.sort → ⊥

same_label : (l k : Label) → l.0 ≡ k.0 → l ≡ k
same_label l k e = let label : ℕ → Label = λ n. record { 0 = n } in ap label e

sorts : (v : Value) (so : Sort) → HasSort v so ⊎ (HasSort v so → ⊥)
sorts v so = by (fits v so) refl
  where
    by : (t : Bool) → fits v so ≡ t → HasSort v so ⊎ (HasSort v so → ⊥)
    by true e = inl e
    by false e = inr (λ h. absurd (cc (e, h)))

one : (arm : Arm) (m : Message) → Fitting arm m ⊎ (Fitting arm m → ⊥)
one arm m = elim (eqb_tells arm.label.0 m.label.0) [
  | inl t ↦ elim (sorts m.value arm.sort) [
    | inl h ↦ inl (same_label arm.label m.label t.1, h)
    | inr n ↦ inr (λ f. n f.1)
  ]
  | inr t ↦ inr (λ f. t.1 (ap (λ (z : Label). z.0) f.0))
]

pub find : (arms : List Arm) (m : Message) → Taken arms m ⊎ Untaken arms m
find [] m = inr (λ place arm is same has. absurd (cc (is)))
find (x ∷ xs) m = elim (one x m) [
  | inl f ↦ inl (0, x, refl, f)
  | inr n ↦ elim (find xs m) [
    | inl t ↦ inl (suc t.0, t.1, t.2, t.3)
    | inr none ↦ inr (untaken n none)
  ]
]
  where
    untaken : (Fitting x m → ⊥) → Untaken xs m → Untaken (x ∷ xs) m
    untaken n none zero arm is same has = (let e : x ≡ arm = cc (is) in let P : Arm → Type 0 = λ z. Fitting z m in n (subst P (sym e) (same, has)))
    untaken n none (suc place) arm is same has = none place arm is same has

next : (machines : List Machine_data) → IsSafe machines → HaveArms machines → (c : Configuration) → IsReachable machines c
    → (p : ℕ) → CanMove machines c p → (e : Event) × (d : Configuration) × Step machines c e d
next machines safe arms' c reachable p (MaySend peer [] puts) =
    let at = here_is (slice_get machines p) (c.at p) (Puts peer []) puts in
    absurd (arms' p (c.at p) at.0 peer at.1 at.2)
next machines safe arms' c reachable p (MaySend peer (x ∷ xs) puts) =
    let v = empty_value x.sort in
    (Send (record { 0 = p }) 0 v, after_send c p peer x v, send_step machines c p 0 v peer (x ∷ xs) x puts refl (empty_fits x.sort))
next machines safe arms' c reachable p (MayReceive peer arms message later takes oldest) = elim (find arms message) [
  | inl t ↦ (Receive (record { 0 = p }), after_receive c p peer t.1 later, receive_step machines c p peer arms t.0 t.1 message later takes oldest t.2 t.3.0 t.3.1)
  | inr none ↦ absurd (safe.fits c reachable record { role = p; peer = peer; arms = arms; message = message; later = later; takes = takes; oldest = oldest; no_arm = none })
]

pub can_step : (machines : List Machine_data) → IsSafe machines → HaveArms machines → (c : Configuration)
    → IsReachable machines c → CanStep machines c → (e : Event) × (d : Configuration) × Step machines c e d
can_step machines safe arms' c reachable can = next machines safe arms' c reachable can.0 can.2
