-- The parts in the views: who speaks for which role.
use Rattle.std.proofs.Common.{◌≡◌, ◌≢◌, ℕ, ◌<◌, if◌then◌else◌, ◌==◌, List, [], ◌∷◌, Bool, true, true≢false, refl, sym, ap, ◌∙◌, subst, inl, inr, ⊎_elim, set, eq-eqb, ne_eqb}
use Rattle.std.proofs.lemmas.Bool.Decides.{eqb_tells}
use mathlib.Core.Option.{some, some-injective}
use native.Mathlib.Decide.{ℕ_discrete}
use mathlib.Core.Logic.{dite}
use lib.ListN.{get_elem?}
use Rattle.atomic_table.proofs.Lists.{at_set, set_here, set_else}
use Rattle.rs_rings.specs.declared.views.Part.{Part}
use Rattle.rs_rings.specs.declared.views.View.{View}
use Rattle.rs_rings.specs.Rule.{Spoken}
use Rattle.rs_rings.specs.Views.{speaks, the_part, put_part, view_with_part}
use Rattle.rs_rings.proofs.OneRing.{at_below}

abbrev pub at_put : {A : Type 0} → (ℕ → A) → ℕ → A → ℕ → A
at_put f p v k = if k == p then v else f k

pub put_case : {A : Type 0} (f : ℕ → A) (p : ℕ) (v : A) (k : ℕ) (F : A → Type 0) → (k ≡ p → F v) → (k ≢ p → F (f k)) → F (at_put f p v k)
put_case f p v k F here other = elim (eqb_tells k p) [ inl h ↦ rw h.0 (here h.1) | inr h ↦ rw h.0 (other h.1) ]

pub the_role : (p : ℕ) (xs : List Part) → speaks p xs ≡ true → (the_part p xs).role ≡ p
the_role p [] s = absurd (true≢false (sym s))
the_role p (x ∷ xs) s = elim (eqb_tells p x.role) [ inl h ↦ rw h.0 (sym h.1) | inr h ↦ rw h.0 (the_role p xs (subst (λ b. (if b then true else speaks p xs) ≡ true) h.0 s)) ]

pub speaks_put : (r p : ℕ) (y : Part) (xs : List Part) → y.role ≡ p → speaks r (put_part p y xs) ≡ speaks r xs
speaks_put r p y [] e = refl
speaks_put r p y (x ∷ xs) e =
    elim (eqb_tells p x.role) [
      | inl h ↦ rw h.0 (ap (λ (k : ℕ). if r == k then true else speaks r xs) (e ∙ h.1))
      | inr h ↦ rw h.0
          (ap (λ (b : Bool). if r == x.role then true else b) (speaks_put r p y xs e))
    ]

pub the_put_here : (p : ℕ) (y : Part) (xs : List Part) → y.role ≡ p → speaks p xs ≡ true → the_part p (put_part p y xs) ≡ y
the_put_here p y [] e s = absurd (true≢false (sym s))
the_put_here p y (x ∷ xs) e s = elim (eqb_tells p x.role) [
  | inl h ↦ rw h.0 (subst (λ b. (if b then y else the_part p xs) ≡ y) (sym (eq-eqb p y.role (sym e))) refl)
  | inr h ↦ rw h.0 (subst (λ b. (if b then x else the_part p (put_part p y xs)) ≡ y) (sym h.0) (the_put_here p y xs e (subst (λ b. (if b then true else speaks p xs) ≡ true) h.0 s)))
]

pub the_put_other : (r p : ℕ) (y : Part) (xs : List Part) → y.role ≡ p → r ≢ p → the_part r (put_part p y xs) ≡ the_part r xs
the_put_other r p y [] e n = refl
the_put_other r p y (x ∷ xs) e n = elim (eqb_tells p x.role) [
  | inl h ↦ rw h.0 (subst (λ b. (if b then y else the_part r xs) ≡ the_part r (x ∷ xs)) (sym (ne_eqb r y.role (λ z. n (z ∙ e))))
      (subst (λ b. the_part r xs ≡ (if b then x else the_part r xs)) (sym (ne_eqb r x.role (λ z. n (z ∙ sym h.1)))) refl))
  | inr h ↦ rw h.0 (ap (λ (z : Part). if r == x.role then x else z) (the_put_other r p y xs e n))
]

module _ (n : ℕ) (owner : ℕ → ℕ) (known : ℕ → Part) (views : List View) (sp : Spoken n owner known views) (id : ℕ) (v : View) (at : get_elem? views id ≡ some v) where
  -- what a view says of a role is what is known of it
  pub known_is : (p : ℕ) → speaks p v.parts ≡ true → (p < n) × (known p ≡ the_part p v.parts)
  known_is p s = let o = sp.only id v p at s in let e = sp.each p o.1 in
      let same : e.0 ≡ v = some-injective e.0 v (sym e.1 ∙ ap (get_elem? views) o.0 ∙ at) in (o.1, sym e.3 ∙ ap (λ (d : View). the_part p d.parts) same)

  -- what is known of a role changes, and the view that speaks for it
  pub spoken_step : (p : ℕ) (y : Part) → speaks p v.parts ≡ true → y.role ≡ p → Spoken n owner (at_put known p y) (set views id (view_with_part p y v))
  spoken_step p y s role = let w : View = view_with_part p y v in let mine = sp.only id v p at s in record {
    each = λ r l. let e = sp.each r l in dite (ℕ_discrete (owner r) id)
        (λ o. let same : e.0 ≡ v = some-injective e.0 v (sym e.1 ∙ ap (get_elem? views) o ∙ at) in (
          w,
          ap (get_elem? (set views id w)) o ∙ set_here views id w (at_below views id v at),
          speaks_put r p y v.parts role ∙ ap (λ (d : View). speaks r d.parts) (sym same) ∙ e.2,
          put_case known p y r (λ z. the_part r w.parts ≡ z) (λ is. ap (λ (k : ℕ). the_part k w.parts) is ∙ the_put_here p y v.parts role s)
              (λ ne. the_put_other r p y v.parts role ne ∙ ap (λ (d : View). the_part r d.parts) (sym same) ∙ e.3),
        ))
        (λ no. (e.0, set_else views id (owner r) w no ∙ e.1, e.2, put_case known p y r (λ z. the_part r e.0.parts ≡ z) (λ is. absurd (no (ap owner is ∙ mine.0))) (λ _. e.3)));
    only = λ j d r there says. ⊎_elim (λ t. let o = sp.only id v r at (sym (speaks_put r p y v.parts role) ∙ ap (λ (u : View). speaks r u.parts) t.1 ∙ says) in (o.0 ∙ sym t.0, o.1))
        (λ t. sp.only j d r t.1 says) (at_set views id j w d there);
  }
