-- Arms and their labels.
use Rattle.std.proofs.Common.{◌≡◌, ◌≢◌, inl, inr, ℕ, zero, suc, List, [], ◌∷◌, Some, None, slice_get, refl, sym, ap, ◌∙◌}
use Rattle.std.proofs.lemmas.Bool.Decides.{eqb_tells}
use Rattle.rs_model.specs.Data.{Machine_data}
use Rattle.rs_model.specs.declared.graph.Arm.{Arm}
use Rattle.rs_model.specs.declared.graph.Label.{Label}
use Rattle.rs_model.specs.declared.machines.State.TheVariants.{Puts, Takes}
use Rattle.rs_core.specs.Choices.{AreWellFormed}
use Rattle.rs_core.specs.Ways.{arm_with}
use Rattle.rs_core.proofs.Stands.{here_is}
use Rattle.rs_slots.specs.declared.parcels.Parcel.{Parcel}
use Rattle.rs_rings.specs.Acts.{role_of_number, MayPut, MayTake}

-- the arm that is found by its label stands at some place, and has the label
pub arm_at : (arms : List Arm) (l : Label) (arm : Arm) → arm_with arms l ≡ Some arm → (place : ℕ) × (slice_get arms place ≡ Some arm) × (arm.label ≡ l)
arm_at [] l arm e = absurd (cc (e))
arm_at (a ∷ arms) l arm e = elim (eqb_tells a.label.0 l.0) [
  | inl t ↦ (let e' : Some a ≡ Some arm = sym (rw t.0 refl) ∙ e in
      let label : ℕ → Label = λ n. record { 0 = n } in
      let same : a ≡ arm = cc (e') in
      (0, ap (λ (z : Arm). Some z) same, ap (λ (z : Arm). z.label) (sym same) ∙ ap label t.1))
  | inr t ↦ (let r = arm_at arms l arm (sym (rw t.0 refl) ∙ e) in (suc r.0, r.1, r.2))
]

-- where some arm has the label, one is found
pub arm_found : (arms : List Arm) (l : Label) (place : ℕ) (arm : Arm) → slice_get arms place ≡ Some arm → arm.label ≡ l → arm_with arms l ≡ None → ⊥
arm_found [] l place arm is same e = cc (is)
arm_found (a ∷ arms) l place arm is same e = elim (eqb_tells a.label.0 l.0) [
  | inl t ↦ (let e' : Some a ≡ None = sym (rw t.0 refl) ∙ e in cc (e'))
  | inr t ↦ by place is (sym (rw t.0 refl) ∙ e) t.1 (λ n i none. arm_found arms l n arm i same none)
]
  where
    by : (place : ℕ) → slice_get (a ∷ arms) place ≡ Some arm → arm_with arms l ≡ None → a.label.0 ≢ l.0 → ((n : ℕ) → slice_get arms n ≡ Some arm → arm_with arms l ≡ None → ⊥) → ⊥
    by zero i none other on = (let is' : a ≡ arm = cc (i) in other (ap (λ (z : Arm). z.label.0) is' ∙ ap (λ (z : Label). z.0) same))
    by (suc n) i none other on = on n i none

-- for well-formed machines one state is behind a parcel that is put or taken
same_next : (arms : List Arm) (x : Parcel) (once : (i j : ℕ) (a b : Arm) → slice_get arms i ≡ Some a → slice_get arms j ≡ Some b → a.label ≡ b.label → i ≡ j)
    (i j : ℕ) (a b : Arm) → slice_get arms i ≡ Some a → slice_get arms j ≡ Some b → a.label ≡ x.label → b.label ≡ x.label → a.next ≡ b.next
same_next arms x once i j a b p q u v =
    let place : i ≡ j = once i j a b p q (u ∙ sym v) in
    let same : Some a ≡ Some b = sym p ∙ ap (slice_get arms) place ∙ q in
    let arm : a ≡ b = cc (same) in
    ap (λ (z : Arm). z.next) arm

pub put_once : (ms : List Machine_data) (p q s : ℕ) (x : Parcel) (n m : ℕ) → AreWellFormed ms → MayPut ms p q s x n → MayPut ms p q s x m → n ≡ m
put_once ms p q s x n m well_formed a b =
    let at = here_is (slice_get ms p) s (Puts (role_of_number q) a.arms) a.puts in
    let fit = (well_formed.fits p at.0 at.1).puts s (role_of_number q) a.arms at.2 in
    let one : Some (Puts (role_of_number q) b.arms) ≡ Some (Puts (role_of_number q) a.arms) = sym b.puts ∙ a.puts in
    let arms : b.arms ≡ a.arms = cc (one) in
    a.goes ∙ same_next a.arms x fit.once a.place b.place a.arm b.arm a.picks (ap (λ (l : List Arm). slice_get l b.place) (sym arms) ∙ b.picks) a.same_label b.same_label ∙ sym b.goes

pub take_once : (ms : List Machine_data) (q p s : ℕ) (x : Parcel) (n m : ℕ) → AreWellFormed ms → MayTake ms q p s x n → MayTake ms q p s x m → n ≡ m
take_once ms q p s x n m well_formed a b =
    let at = here_is (slice_get ms q) s (Takes (role_of_number p) a.arms) a.takes in
    let fit = (well_formed.fits q at.0 at.1).takes s (role_of_number p) a.arms at.2 in
    let one : Some (Takes (role_of_number p) b.arms) ≡ Some (Takes (role_of_number p) a.arms) = sym b.takes ∙ a.takes in
    let arms : b.arms ≡ a.arms = cc (one) in
    a.goes ∙ same_next a.arms x fit.once a.place b.place a.arm b.arm a.picks (ap (λ (l : List Arm). slice_get l b.place) (sym arms) ∙ b.picks) a.same_label b.same_label ∙ sym b.goes
