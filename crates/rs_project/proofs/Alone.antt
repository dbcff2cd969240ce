-- The choices of one talk alone, and where they lead.
use Rattle.std.proofs.Common.{◌≡◌, ◌≢◌, ◌⊎◌, inl, inr, ℕ, zero, suc, ◌<◌, ◌≤◌, Bool, true, false, List, [], ◌∷◌, ◌++◌, length, map, Some, slice_get, get_or, refl, sym, ap, ◌∙◌, subst, arith}
use Rattle.std.proofs.Common.{if◌then◌else◌, ◌==◌, ◌||◌, append-nil}
use Rattle.std.specs.List.{All, flat_map, list_any}
use Rattle.std.proofs.lemmas.Bool.Decides.{eqb_tells}
use Rattle.std.proofs.lemmas.Option.{none-some, same_Some}
use Rattle.rs_model.specs.Data.{Protocol_data}
use Rattle.rs_model.specs.declared.graph.Arm.{Arm}
use Rattle.rs_model.specs.declared.graph.Label.{Label}
use Rattle.rs_model.specs.declared.graph.Node.{Node}
use Rattle.rs_model.specs.declared.graph.Node.TheVariants.{Finished, Talk}
use Rattle.rs_model.specs.declared.graph.Role.{Role}
use Rattle.rs_wellformed.specs.WellFormed.{IsWellFormed}
use Rattle.rs_project.specs.Numbered.{nexts_of}
use Rattle.rs_graph.specs.Lists.{Among}
use Rattle.rs_project.specs.Marks.{labelled_nexts, labelled_nexts_of, arms_of_node}
use Rattle.rs_project.proofs.Cycles.{all_by}
use Rattle.rs_project.specs.Projection.{LabelChoice, choice_of, choices_of, first_choices, merged_choices}

abbrev Once : List Arm → Type 0
Once arms = (i j : ℕ) (a b : Arm) → slice_get arms i ≡ Some a → slice_get arms j ≡ Some b → a.label ≡ b.label → i ≡ j

later_once : (x : Arm) (arms : List Arm) → Once (x ∷ arms) → Once arms
later_once x arms once i j a b ea eb e = let q : suc i ≡ suc j = once (suc i) (suc j) a b ea eb e in omega arith

label_is : (a b : Arm) → a.label.0 ≡ b.label.0 → a.label ≡ b.label
label_is a b e = let L : ℕ → Label = λ n. record { 0 = n } in ap L e

-- where the label leads

none_labelled : (label : Label) (arms : List Arm) → ((i : ℕ) (a : Arm) → slice_get arms i ≡ Some a → a.label.0 ≢ label.0) → labelled_nexts label arms ≡ []
none_labelled label [] h = refl
none_labelled label (a ∷ arms) h = elim (eqb_tells a.label.0 label.0) [
  | inl p ↦ absurd (h 0 a refl p.1)
  | inr p ↦ subst (λ (b : Bool). (if b then a.next ∷ labelled_nexts label arms else labelled_nexts label arms) ≡ []) (sym p.0) (none_labelled label arms (λ i b e. h (suc i) b e))
]

one_labelled : (label : Label) (arms : List Arm) (place : ℕ) (a : Arm) → Once arms → slice_get arms place ≡ Some a → a.label ≡ label → labelled_nexts label arms ≡ a.next ∷ []
one_labelled label [] place a once at e = absurd (none-some a at)
one_labelled label (x ∷ arms) zero a once at e =
    let xa : x ≡ a = same_Some x a at in
    elim (eqb_tells x.label.0 label.0) [
      | inl p ↦ (let rest : labelled_nexts label arms ≡ [] = none_labelled label arms
          (λ i b eb same. (let z : zero ≡ suc i = once zero (suc i) x b refl eb (label_is x b (p.1 ∙ sym same)) in let bad : ⊥ = omega arith in bad)) in
          subst (λ (b : Bool). (if b then x.next ∷ labelled_nexts label arms else labelled_nexts label arms) ≡ a.next ∷ []) (sym p.0)
          (ap (λ (z : Arm). z.next ∷ labelled_nexts label arms) xa ∙ ap (λ (z : List ℕ). a.next ∷ z) rest))
      | inr p ↦ absurd (p.1 (ap (λ (z : Arm). z.label.0) xa ∙ ap (λ (z : Label). z.0) e))
    ]
one_labelled label (x ∷ arms) (suc place) a once at e = elim (eqb_tells x.label.0 label.0) [
  | inl p ↦ (let z : zero ≡ suc place = once zero (suc place) x a refl at (label_is x a (p.1 ∙ sym (ap (λ (z : Label). z.0) e))) in let bad : ⊥ = omega arith in absurd bad)
  | inr p ↦ subst (λ (b : Bool). (if b then x.next ∷ labelled_nexts label arms else labelled_nexts label arms) ≡ a.next ∷ []) (sym p.0) (one_labelled label arms place a (later_once x arms once) at e)
]

pub start_alone : (pr : Protocol_data) (t : ℕ) (node : Node) (place : ℕ) (a : Arm) → IsWellFormed pr → slice_get pr.nodes t ≡ Some node → slice_get (arms_of_node node) place ≡ Some a
    → a.next ∷ [] ≡ flat_map (λ k. labelled_nexts_of a.label (slice_get pr.nodes k)) (t ∷ [])
start_alone pr t Finished place a wf en at = absurd (none-some a at)
start_alone pr t (Talk sender receiver arms) place a wf en at =
    let one : labelled_nexts_of a.label (slice_get pr.nodes t) ≡ a.next ∷ []
    = ap (λ o. labelled_nexts_of a.label o) en ∙ one_labelled a.label arms place a (wf.talks t sender receiver arms en).once at refl in
    sym (append-nil (labelled_nexts_of a.label (slice_get pr.nodes t)) ∙ one)

-- the choices

abbrev has : Label → List LabelChoice → Bool
has label cs = list_any (λ b. b.label.0 == label.0) cs

eqb_cases : (b : Bool) → (b ≡ true) ⊎ (b ≡ false)
eqb_cases true = inl refl
eqb_cases false = inr refl

any_end : (f : LabelChoice → Bool) (cs : List LabelChoice) (c : LabelChoice) → list_any f cs ≡ false → f c ≡ false → list_any f (cs ++ (c ∷ [])) ≡ false
any_end f [] c e g = subst (λ (b : Bool). (b || false) ≡ false) (sym g) refl
any_end f (x ∷ cs) c e g = elim (eqb_cases (f x)) [
  | inl y ↦ (let bad : true ≡ false = sym (subst (λ (b : Bool). (b || list_any f cs) ≡ true) (sym y) refl) ∙ e in absurd (cc (bad)))
  | inr n ↦ subst (λ (b : Bool). (b || list_any f (cs ++ (c ∷ []))) ≡ false) (sym n) (any_end f cs c (subst (λ (b : Bool). (b || list_any f cs) ≡ false) n e) g)
]

first_same : (arms : List Arm) (earlier : List LabelChoice) → Once arms → ((i : ℕ) (a : Arm) → slice_get arms i ≡ Some a → has a.label earlier ≡ false)
    → first_choices (map choice_of arms) earlier ≡ map choice_of arms
first_same [] earlier once new = refl
first_same (x ∷ arms) earlier once new =
    subst (λ (b : Bool). (if b then first_choices (map choice_of arms) earlier else choice_of x ∷ first_choices (map choice_of arms)
    (earlier ++ (choice_of x ∷ []))) ≡ choice_of x ∷ map choice_of arms) (sym (new 0 x refl))
    (ap (λ (z : List LabelChoice). choice_of x ∷ z) (first_same arms (earlier ++ (choice_of x ∷ [])) (later_once x arms once)
    (λ i a e. any_end (λ b. b.label.0 == a.label.0) earlier (choice_of x) (new (suc i) a e) (apart i a e))))
  where
    apart : (i : ℕ) (a : Arm) → slice_get arms i ≡ Some a → (x.label.0 == a.label.0) ≡ false
    apart i a e = elim (eqb_tells x.label.0 a.label.0) [
      | inl p ↦ (let z : zero ≡ suc i = once zero (suc i) x a refl e (label_is x a p.1) in let bad : ⊥ = omega arith in absurd bad)
      | inr p ↦ p.0
    ]

choices_alone : (pr : Protocol_data) (talks : List ℕ) (t : ℕ) (sender receiver : Role) (arms : List Arm) → IsWellFormed pr → talks ≡ t ∷ [] → slice_get pr.nodes t ≡ Some (Talk sender receiver arms)
    → map choice_of arms ≡ merged_choices pr talks
choices_alone pr talks t sender receiver arms wf et en =
    let flat : flat_map (λ n. choices_of (slice_get pr.nodes n)) talks ≡ map choice_of arms =
    ap (λ (z : List ℕ). flat_map (λ n. choices_of (slice_get pr.nodes n)) z) et ∙ append-nil (choices_of (slice_get pr.nodes t)) ∙ ap (λ o. choices_of o) en in
    sym (ap (λ (z : List LabelChoice). first_choices z []) flat ∙ first_same arms [] (wf.talks t sender receiver arms en).once (λ i a e. refl))

pub choices_in : (pr : Protocol_data) (t : ℕ) (node : Node) → IsWellFormed pr → slice_get pr.nodes t ≡ Some node → map choice_of (arms_of_node node) ≡ merged_choices pr (t ∷ [])
choices_in pr t Finished wf en = sym (ap (λ o. first_choices (choices_of o ++ []) []) en)
choices_in pr t (Talk sender receiver arms) wf en = choices_alone pr (t ∷ []) t sender receiver arms wf refl en

pub next_in : (pr : Protocol_data) (t : ℕ) (node : Node) (place : ℕ) (a : Arm) → IsWellFormed pr → slice_get pr.nodes t ≡ Some node → slice_get (arms_of_node node) place ≡ Some a
    → All (λ s. s < length pr.nodes) (a.next ∷ [])
next_in pr t Finished place a wf en at = absurd (none-some a at)
next_in pr t (Talk sender receiver arms) place a wf en at = all_by (λ s. s < length pr.nodes) (a.next ∷ []) (λ x m. only x m)
  where
    only : (x : ℕ) → Among (a.next ∷ []) x → x < length pr.nodes
    only x (inl e) = let P : ℕ → Type 0 = λ z. z < length pr.nodes in subst P e ((wf.talks t sender receiver arms en).nexts place a at)
    only x (inr bad) = absurd bad

pub no_nexts : (arms : List Arm) → map choice_of arms ≡ [] → [] ≡ nexts_of arms
no_nexts [] e = refl
no_nexts (a ∷ arms) e = absurd (cc (e))

pub no_talks : (xs : List ℕ) → true ≡ (length xs == 0) → xs ≡ []
no_talks [] e = refl
no_talks (x ∷ xs) e = elim (eqb_tells (length (x ∷ xs)) 0) [
  | inl p ↦ (let q = p.1 in absurd (omega (arith, q)))
  | inr p ↦ (let q = p.0 in absurd (cc (e, q)))
]

-- a list of one arm

pub first_arm : (arms : List Arm) (d : Arm) → 1 ≤ length arms → slice_get arms 0 ≡ Some (get_or arms 0 d)
first_arm [] d some = absurd (let bad : ⊥ = omega (arith, some) in bad)
first_arm (a ∷ arms) d some = refl

pub only_arm : (arms : List Arm) (d : Arm) → 1 ≤ length arms → length arms < 2 → get_or arms 0 d ∷ [] ≡ arms
only_arm [] d some few = absurd (let bad : ⊥ = omega (arith, some) in bad)
only_arm (a ∷ []) d some few = refl
only_arm (a ∷ b ∷ arms) d some few = absurd (let bad : ⊥ = omega (arith, few) in bad)
