-- The labels among the tokens of a machine are those of its tree.
use Rattle.std.proofs.Common.{◌≡◌, ℕ, List, [], ◌∷◌, ◌++◌, codes, Bool, true, false, if◌then◌else◌, Option, Some, None, refl, sym, ap, ◌∙◌, append_assoc, append-nil}
use Rattle.std.proofs.lemmas.Slice.Eq.{bytes_eq-Decides}
use Rattle.std.specs.Str.{bytes_eq}
use Rattle.rs_model.specs.declared.values.Sort.{Sort}
use Rattle.rs_text.specs.Arms.{sort_signs, arm_signs}
use Rattle.rs_text.specs.Signs.{Sign, rec_word, end_word, plain, comma, dot, open_paren, close_paren, open_brace, close_brace, word_sign}
use Rattle.rs_bodies.specs.declared.dialects.Mark.{Mark}
use Rattle.rs_bodies.specs.declared.dialects.Mark.TheVariants as mark
use Rattle.rs_machines.specs.Faults.{labels_among}
use Rattle.rs_machines.specs.Trees.{MachineTree, machine_signs}
use Rattle.rs_bodies.specs.declared.dialects.Dialect.TheVariants.{Acts}
use Rattle.rs_bodies.specs.Graph.{labels_of, labels_of_arms}
use Rattle.rs_bodies.specs.Trees.{Body, ends, again, binds, acts, offers, Branches, one, more, body_signs, branch_signs}
use Rattle.rs_bodies.specs.Dialects.{mark_sign, with_mark}
use Rattle.rs_bodies.specs.Dialects.{with_mark}
use Rattle.rs_bodies.specs.Openings.{Opening, of_role, opening_signs}

word_if : (a b : Bool) (l : List ℕ) (ts : List Sign) → (a ≡ true → l ≡ codes "rec") → (b ≡ true → l ≡ codes "end")
    → labels_among true ((if a then rec_word else if b then end_word else plain l) ∷ ts) ≡ l ∷ labels_among false ts
word_if true b l ts e f = ap (λ z. z ∷ labels_among false ts) (sym (e refl))
word_if false true l ts e f = ap (λ z. z ∷ labels_among false ts) (sym (f refl))
word_if false false l ts e f = refl

word_labels : (l : List ℕ) (ts : List Sign) → labels_among true (word_sign l ∷ ts) ≡ l ∷ labels_among false ts
word_labels l ts = word_if (bytes_eq l (codes "rec")) (bytes_eq l (codes "end")) l ts (λ h. (bytes_eq-Decides l (codes "rec")).0 h) (λ h. (bytes_eq-Decides l (codes "end")).0 h)

sort_labels : (s : Option Sort) (ts : List Sign) → labels_among false (open_paren ∷ ((sort_signs s ++ close_paren ∷ dot ∷ []) ++ ts)) ≡ labels_among false ts
sort_labels None ts = refl
sort_labels (Some s) ts = refl

arm_labels : (l : List ℕ) (s : Option Sort) (ts : List Sign) → labels_among true (arm_signs l s ++ ts) ≡ l ∷ labels_among false ts
arm_labels l s ts = word_labels l (open_paren ∷ ((sort_signs s ++ close_paren ∷ dot ∷ []) ++ ts)) ∙ ap (λ z. l ∷ z) (sort_labels s ts)

marked : (m : Mark) (p : List ℕ) (ts : List Sign) → labels_among false (plain p ∷ mark_sign m ∷ ts) ≡ labels_among true ts
marked mark.Puts p ts = refl
marked mark.Takes p ts = refl

mutual
  body_labels : (b : Body Acts) (ts : List Sign) → labels_among false (body_signs Acts b ++ ts) ≡ labels_of Acts b ++ labels_among false ts
  body_labels ends ts = refl
  body_labels (again name) ts = refl
  body_labels (binds name body) ts = body_labels body ts
  body_labels (acts p (with_mark m) l s body) ts =
      marked m p ((arm_signs l s ++ body_signs Acts body) ++ ts) ∙ ap (λ z. labels_among true z) (append_assoc (arm_signs l s) (body_signs Acts body) ts) ∙ arm_labels l s (body_signs Acts body ++ ts)
      ∙ ap (λ z. l ∷ z) (body_labels body ts)
  body_labels (offers p (with_mark m) arms) ts =
      marked m p (open_brace ∷ ((branch_signs Acts arms ++ close_brace ∷ []) ++ ts)) ∙ ap (λ z. labels_among true z) (append_assoc (branch_signs Acts arms) (close_brace ∷ []) ts)
      ∙ branch_labels arms (close_brace ∷ ts)

  branch_labels : (arms : Branches Acts) (ts : List Sign) → labels_among true (branch_signs Acts arms ++ ts) ≡ labels_of_arms Acts arms ++ labels_among false ts
  branch_labels (one l s body) ts =
      ap (λ z. labels_among true z) (append_assoc (arm_signs l s) (body_signs Acts body) ts) ∙ arm_labels l s (body_signs Acts body ++ ts) ∙ ap (λ z. l ∷ z) (body_labels body ts)
  branch_labels (more l s body arms) ts =
      ap (λ z. labels_among true z)
      (append_assoc (arm_signs l s) (body_signs Acts body ++ comma ∷ branch_signs Acts arms) ts
      ∙ ap (λ z. arm_signs l s ++ z) (append_assoc (body_signs Acts body) (comma ∷ branch_signs Acts arms) ts))
      ∙ arm_labels l s (body_signs Acts body ++ comma ∷ (branch_signs Acts arms ++ ts))
      ∙ ap (λ z. l ∷ z) (body_labels body (comma ∷ (branch_signs Acts arms ++ ts)) ∙ ap (λ z. labels_of Acts body ++ z) (branch_labels arms ts)
      ∙ sym (append_assoc (labels_of Acts body) (labels_of_arms Acts arms) (labels_among false ts)))

opening_labels : (o : Opening Acts) (ts : List Sign) → labels_among false (opening_signs Acts o ++ ts) ≡ labels_among false ts
opening_labels (of_role r) ts = refl

pub tree_labels : (t : MachineTree) → labels_among false (machine_signs t) ≡ labels_of Acts t.body
tree_labels t =
    opening_labels t.opening (body_signs Acts t.body) ∙ ap (λ z. labels_among false z) (sym (append-nil (body_signs Acts t.body))) ∙ body_labels t.body [] ∙ append-nil (labels_of Acts t.body)
