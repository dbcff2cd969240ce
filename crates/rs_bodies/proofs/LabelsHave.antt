-- What is so for the labels of a body, one by one or all at once.
use Rattle.std.proofs.Common.{◌≡◌, ℕ, List, ◌∷◌, ◌++◌, true, subst, sym, ◌∙◌}
use Rattle.std.proofs.lemmas.List.Folds.{list_any-append}
use Rattle.std.proofs.lemmas.Slice.Eq.{bytes_eq-Decides}
use Rattle.std.specs.Str.{bytes_eq}
use Rattle.rs_text.proofs.Basics.{or_cases}
use Rattle.rs_text.specs.Names.{is_among}
use Rattle.rs_bodies.specs.declared.dialects.Dialect.{Dialect}
use Rattle.rs_bodies.specs.Graph.{labels_of, labels_of_arms}
use Rattle.rs_bodies.specs.Trees.{Body, ends, again, binds, acts, offers, Branches, one, more}
use Rattle.rs_bodies.proofs.CanonForms.{Writing, HasNames, HasNamesArms}
use Rattle.rs_bodies.proofs.Moved.{head_among, tail_among, front_among, back_among}

one_or_rest : (P : List ℕ → Type 0) (l x : List ℕ) (rest : List (List ℕ)) → P x → (is_among l rest ≡ true → P l) → is_among l (x ∷ rest) ≡ true → P l
one_or_rest P l x rest own f h = or_cases (P l) (bytes_eq x l) (is_among l rest) h (λ same. subst P ((bytes_eq-Decides x l).0 same) own) f

mutual
  pub among_has : {dia : Dialect} (w : Writing) (P : List ℕ → Type 0) (b : Body dia) → HasNames w P b → (l : List ℕ) → is_among l (labels_of dia b) ≡ true → P l
  among_has w P ends has l h = absurd (cc h)
  among_has w P (again x) has l h = absurd (cc h)
  among_has w P (binds x b) has l h = among_has w P b has l h
  among_has {dia} w P (acts s t x sort b) has l h = one_or_rest P l x (labels_of dia b) has.1 (λ i. among_has w P b has.2 l i) h
  among_has w P (offers s t arms) has l h = arms_among_have w P arms has.1 l h

  arms_among_have : {dia : Dialect} (w : Writing) (P : List ℕ → Type 0) (arms : Branches dia) → HasNamesArms w P arms → (l : List ℕ) → is_among l (labels_of_arms dia arms) ≡ true → P l
  arms_among_have {dia} w P (one x sort b) has l h = one_or_rest P l x (labels_of dia b) has.0 (λ i. among_has w P b has.1 l i) h
  arms_among_have {dia} w P (more x sort b arms) has l h =
      one_or_rest P l x (labels_of dia b ++ labels_of_arms dia arms) has.0
      (λ rest. or_cases (P l) (is_among l (labels_of dia b)) (is_among l (labels_of_arms dia arms)) (sym (list_any-append (λ z. bytes_eq z l) (labels_of dia b) (labels_of_arms dia arms)) ∙ rest)
      (λ i. among_has w P b has.1 l i) (λ i. arms_among_have w P arms has.2 l i)) h

-- what else is so for the labels
mutual
  pub has_instead : {dia : Dialect} (w : Writing) (P Q : List ℕ → Type 0) (b : Body dia) → HasNames w P b → ((l : List ℕ) → is_among l (labels_of dia b) ≡ true → Q l) → HasNames w Q b
  has_instead w P Q ends has f = tt
  has_instead w P Q (again x) has f = tt
  has_instead w P Q (binds x b) has f = has_instead w P Q b has f
  has_instead {dia} w P Q (acts s t x sort b) has f = (has.0, f x (head_among x (labels_of dia b)), has_instead w P Q b has.2 (λ l h. f l (tail_among l x (labels_of dia b) h)))
  has_instead w P Q (offers s t arms) has f = (has.0, arms_have_instead w P Q arms has.1 f)

  arms_have_instead : {dia : Dialect} (w : Writing) (P Q : List ℕ → Type 0) (arms : Branches dia) → HasNamesArms w P arms → ((l : List ℕ) → is_among l (labels_of_arms dia arms) ≡ true → Q l)
      → HasNamesArms w Q arms
  arms_have_instead {dia} w P Q (one x sort b) has f = (f x (head_among x (labels_of dia b)), has_instead w P Q b has.1 (λ l h. f l (tail_among l x (labels_of dia b) h)))
  arms_have_instead {dia} w P Q (more x sort b arms) has f =
      let rest : List (List ℕ) = labels_of dia b ++ labels_of_arms dia arms in (
        f x (head_among x rest),
        has_instead w P Q b has.1 (λ l h. f l (tail_among l x rest (front_among l (labels_of dia b) (labels_of_arms dia arms) h))),
        arms_have_instead w P Q arms has.2 (λ l h. f l (tail_among l x rest (back_among l (labels_of dia b) (labels_of_arms dia arms) h))),
      )
