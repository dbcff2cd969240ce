-- Where an act leads is where it leads by the definition, and the arms that are found.
use Rattle.std.proofs.Common.{◌≡◌, ◌⊎◌, inl, inr, ℕ, zero, suc, Bool, true, false, ◌&&◌, ◌||◌, ◌==◌, List, [], ◌∷◌, Option, Some, None, slice_get, refl, ap, subst, sym, if◌then◌else◌}
use Rattle.std.proofs.lemmas.Bool.Decides.{eqb_tells}
use Rattle.rs_model.specs.Sorts.{HasSort, fits}
use Rattle.rs_model.specs.declared.graph.Arm.{Arm}
use Rattle.rs_model.specs.declared.graph.Label.{Label}
use Rattle.rs_model.specs.declared.values.Value.{Value}
use Rattle.rs_monitor.specs.Nexts.{arm_for, has_label}

-- an arm with that label, and a sort that the value has
abbrev pub Fitting : List Arm → Label → Value → ℕ → Arm → Type 0
Fitting arms label value place arm = (slice_get arms place ≡ Some arm) × (arm.label ≡ label) × HasSort value arm.sort

same_label : (l k : Label) → (l.0 == k.0) ≡ true → l ≡ k
same_label l k e = elim (eqb_tells l.0 k.0) [
  | inl t ↦ (let label : ℕ → Label = λ n. record { 0 = n } in ap label t.1)
  | inr t ↦ absurd (cc (t.0, e))
]

label_test : (l k : Label) → l ≡ k → (l.0 == k.0) ≡ true
label_test l k e = elim (eqb_tells l.0 k.0) [ inl t ↦ t.0 | inr t ↦ absurd (t.1 (ap (λ (z : Label). z.0) e)) ]

found_by : (b c : Bool) (a arm : Arm) (rest : Option Arm) → (if b && c then Some a else rest) ≡ Some arm
    → ((b ≡ true) × (c ≡ true) × (a ≡ arm)) ⊎ (rest ≡ Some arm)
found_by true true a arm rest h = inl (refl, refl, cc (h))
found_by true false a arm rest h = inr h
found_by false true a arm rest h = inr h
found_by false false a arm rest h = inr h

missing_by : (b c : Bool) (a : Arm) (rest : Option Arm) → (if b && c then Some a else rest) ≡ None
    → (b ≡ true → c ≡ true → ⊥) × (rest ≡ None)
missing_by true true a rest h = absurd (cc (h))
missing_by true false a rest h = (λ x y. absurd (cc (y)), h)
missing_by false true a rest h = (λ x y. absurd (cc (x)), h)
missing_by false false a rest h = (λ x y. absurd (cc (x)), h)

pub arm_found : (arms : List Arm) (label : Label) (value : Value) (arm : Arm) → arm_for arms label value ≡ Some arm
    → (place : ℕ) × Fitting arms label value place arm
arm_found [] label value arm h = absurd (cc (h))
arm_found (a ∷ arms) label value arm h =
    elim (found_by (a.label.0 == label.0) (fits value a.sort) a arm (arm_for arms label value) h) [
      | inl t ↦ (let P : Arm → Type 0 = λ z. Fitting (a ∷ arms) label value 0 z in
          (0, subst P t.2 (refl, same_label a.label label t.0, t.1)))
      | inr r ↦ (let t = arm_found arms label value arm r in (suc t.0, t.1))
    ]

pub arm_missing : (arms : List Arm) (label : Label) (value : Value) → arm_for arms label value ≡ None
    → (place : ℕ) (arm : Arm) → slice_get arms place ≡ Some arm → arm.label ≡ label → HasSort value arm.sort → ⊥
arm_missing [] label value h place arm is same has = absurd (cc (is))
arm_missing (a ∷ arms) label value h zero arm is same has =
    let m = missing_by (a.label.0 == label.0) (fits value a.sort) a (arm_for arms label value) h in
    let e : arm ≡ a = cc (is) in
    let P : Arm → Type 0 = λ z. (z.label ≡ label) × HasSort value z.sort in
    let here = subst P e (same, has) in
    m.0 (label_test a.label label here.0) here.1
arm_missing (a ∷ arms) label value h (suc place) arm is same has =
    arm_missing arms label value (missing_by (a.label.0 == label.0) (fits value a.sort) a (arm_for arms label value) h).1 place arm is same has

or_some : (b c : Bool) → (b || c) ≡ true → (b ≡ true) ⊎ (c ≡ true)
or_some true c h = inl refl
or_some false c h = inr h

or_none : (b c : Bool) → (b || c) ≡ false → (b ≡ false) × (c ≡ false)
or_none true c h = absurd (cc (h))
or_none false c h = (refl, h)

pub label_found : (arms : List Arm) (label : Label) → has_label arms label ≡ true
    → (place : ℕ) × (arm : Arm) × (slice_get arms place ≡ Some arm) × (arm.label ≡ label)
label_found [] label h = absurd (cc (h))
label_found (a ∷ arms) label h = elim (or_some (a.label.0 == label.0) (has_label arms label) h) [
  | inl t ↦ (0, a, refl, same_label a.label label t)
  | inr t ↦ (let r = label_found arms label t in (suc r.0, r.1, r.2, r.3))
]

pub label_missing : (arms : List Arm) (label : Label) → has_label arms label ≡ false
    → (place : ℕ) (arm : Arm) → slice_get arms place ≡ Some arm → arm.label ≡ label → ⊥
label_missing [] label h place arm is same = absurd (cc (is))
label_missing (a ∷ arms) label h zero arm is same =
    let e : arm ≡ a = cc (is) in
    let P : Arm → Type 0 = λ z. z.label ≡ label in
    let test = label_test a.label label (subst P e same) in
    let no = (or_none (a.label.0 == label.0) (has_label arms label) h).0 in
    absurd (cc (test, no))
label_missing (a ∷ arms) label h (suc place) arm is same =
    label_missing arms label (or_none (a.label.0 == label.0) (has_label arms label) h).1 place arm is same
