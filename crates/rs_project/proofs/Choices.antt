-- The choices of several talks, label by label.
use Rattle.std.proofs.Common.{◌≡◌, ◌⊎◌, inl, inr, ℕ, zero, suc, Bool, true, false, ◌||◌, List, [], ◌∷◌, ◌++◌, map, Some, slice_get, refl, sym, ap, ◌∙◌, subst, if◌then◌else◌, ◌==◌}
use Rattle.std.specs.List.{Contains, flat_map, list_any}
use Rattle.std.proofs.lemmas.Bool.Decides.{eqb_tells}
use Rattle.std.proofs.lemmas.List.Folds.{list_any-append}
use Rattle.rs_model.specs.Data.{Protocol_data}
use Rattle.rs_model.specs.declared.graph.Arm.{Arm}
use Rattle.rs_model.specs.declared.graph.Label.{Label}
use Rattle.rs_graph.specs.Lists.{Among}
use Rattle.rs_project.specs.Projection.{LabelChoice, choice_of, choices_of, first_choices, merged_choices}
use Rattle.rs_project.proofs.Lists.{contained, among_left, among_right}

pub arm_choice : (arms : List Arm) (k : ℕ) (arm : Arm) → slice_get arms k ≡ Some arm → Among (map choice_of arms) (choice_of arm)
arm_choice [] k arm h = absurd (cc (h))
arm_choice (a ∷ arms) zero arm h = let e : a ≡ arm = cc (h) in inl (ap choice_of e)
arm_choice (a ∷ arms) (suc k) arm h = inr (arm_choice arms k arm h)

-- whether the label stands at one of the choices
abbrev pub has_label : Label → List LabelChoice → Bool
has_label l cs = list_any (λ b. b.label.0 == l.0) cs

pub label_last : (l : Label) (cs : List LabelChoice) (c : LabelChoice) → has_label l (cs ++ (c ∷ [])) ≡ (has_label l cs || (c.label.0 == l.0))
label_last l cs c = list_any-append (λ b. b.label.0 == l.0) cs (c ∷ []) ∙ ap (λ (z : Bool). has_label l cs || z) (or_false (c.label.0 == l.0))
  where
    or_false : (b : Bool) → (b || false) ≡ b
    or_false true = refl
    or_false false = refl

-- a choice with the label
abbrev pub Labelled : Label → List LabelChoice → Type 0
Labelled l cs = (d : LabelChoice) × Among cs d × (d.label ≡ l)

pub same_label : (x y : Label) → x.0 ≡ y.0 → x ≡ y
same_label x y e = ap (λ (z : ℕ). record { 0 = z }) e

-- each label stands at a first choice, or stood earlier
first_label : (cs earlier : List LabelChoice) (c : LabelChoice) → Among cs c
    → (has_label c.label earlier ≡ true) ⊎ Labelled c.label (first_choices cs earlier)
first_label [] earlier c h = absurd h
first_label (a ∷ later) earlier c h = go (has_label a.label earlier) refl h (first_label later earlier c) (first_label later (earlier ++ (a ∷ [])) c)
  where
    kept : (has_label c.label (earlier ++ (a ∷ [])) ≡ true) ⊎ Labelled c.label (first_choices later (earlier ++ (a ∷ [])))
        → (has_label c.label earlier ≡ true) ⊎ Labelled c.label (a ∷ first_choices later (earlier ++ (a ∷ [])))
    kept (inr d) = inr (d.0, inr d.1, d.2)
    kept (inl t) = elim (eqb_tells a.label.0 c.label.0) [
      | inl u ↦ inr (a, inl refl, same_label a.label c.label u.1)
      | inr u ↦ inl (drop_last (has_label c.label earlier) (sym (label_last c.label earlier a) ∙ t) u.0)
    ]
      where
        drop_last : (b : Bool) → (b || (a.label.0 == c.label.0)) ≡ true → (a.label.0 == c.label.0) ≡ false → b ≡ true
        drop_last true e f = refl
        drop_last false e f = absurd (cc (e, f))

    go : (b : Bool) → has_label a.label earlier ≡ b → Among (a ∷ later) c
        → (Among later c → (has_label c.label earlier ≡ true) ⊎ Labelled c.label (first_choices later earlier))
        → (Among later c → (has_label c.label (earlier ++ (a ∷ [])) ≡ true) ⊎ Labelled c.label (first_choices later (earlier ++ (a ∷ []))))
        → (has_label c.label earlier ≡ true)
        ⊎ Labelled c.label (if b then first_choices later earlier else a ∷ first_choices later (earlier ++ (a ∷ [])))
    go true e (inl s) skip keep = let P : LabelChoice → Type 0 = λ z. has_label z.label earlier ≡ true in inl (subst P s e)
    go true e (inr h') skip keep = skip h'
    go false e (inl s) skip keep = inr (a, inl refl, ap (λ (z : LabelChoice). z.label) s)
    go false e (inr h') skip keep = kept (keep h')

-- the choices of a member
abbrev pub member_choices : Protocol_data → ℕ → List LabelChoice
member_choices pr n = choices_of (slice_get pr.nodes n)

flat_has : (pr : Protocol_data) (members : List ℕ) (h : ℕ) (c : LabelChoice) → Among members h → Among (member_choices pr h) c
    → Among (flat_map (λ n. choices_of (slice_get pr.nodes n)) members) c
flat_has pr [] h c m a = absurd m
flat_has pr (x ∷ xs) h c (inl e) a =
    let P : ℕ → Type 0 = λ z. Among (member_choices pr z) c in
    among_left (member_choices pr x) (flat_map (λ n. choices_of (slice_get pr.nodes n)) xs) c (subst P (sym e) a)
flat_has pr (x ∷ xs) h c (inr m) a =
    among_right (member_choices pr x) (flat_map (λ n. choices_of (slice_get pr.nodes n)) xs) c (flat_has pr xs h c m a)

-- each label of a member is merged
pub merged_label : (pr : Protocol_data) (members : List ℕ) (h : ℕ) (c : LabelChoice) → Contains members h
    → Among (member_choices pr h) c → Labelled c.label (merged_choices pr members)
merged_label pr members h c m a =
    elim (first_label (flat_map (λ n. choices_of (slice_get pr.nodes n)) members) [] c (flat_has pr members h c (contained members h m) a)) [
      | inl e ↦ absurd (cc (e))
      | inr d ↦ d
    ]
