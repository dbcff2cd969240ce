-- The turns of a text of a body, each with the word before it: those of its heads, in order.
use Rattle.std.proofs.Common.{◌≡◌, ℕ, suc, ◌+◌, List, [], ◌∷◌, ◌++◌, Bool, true, false, Option, Some, None, if◌then◌else◌, refl, sym, ap, ◌∙◌, append_assoc, codes}
use Rattle.std.specs.Str.{bytes_eq}
use Rattle.rs_model.specs.declared.graph.Arm.{Arm}
use Rattle.rs_model.specs.declared.values.Sort.{Sort}
use Rattle.rs_text.specs.Arms.{arm_signs, sort_signs}
use Rattle.rs_text.specs.FirstFaults.{sign_after}
use Rattle.rs_text.specs.Names.{BoundNames}
use Rattle.rs_text.specs.Signs.{Sign, rec_word, end_word, plain, bang, question, colon, dot, comma, open_brace, close_brace, open_paren, close_paren, word_sign}
use Rattle.rs_bodies.specs.declared.dialects.Dialect.{Dialect}
use Rattle.rs_bodies.specs.declared.dialects.Dialect.TheVariants.{Talks, Acts}
use Rattle.rs_bodies.specs.declared.dialects.Mark.TheVariants as mark
use Rattle.rs_bodies.specs.Dialects.{BehindRole, sends_to, with_mark, turn_signs, lone_signs, turns}
use Rattle.rs_bodies.specs.Graph.{acts_in, heads_of, heads_in, Numbering}
use Rattle.rs_bodies.specs.Trees.{Body, ends, again, binds, acts, offers, Branches, one, more, body_signs, branch_signs}

-- what is seen of a turn: the sign before it, its own, and in a protocol the one after it
abbrev pub seen : Dialect → (before turn behind : Sign) → List Sign
seen Talks before turn behind = before ∷ turn ∷ behind ∷ []
seen Acts before turn behind = before ∷ turn ∷ []

-- the turns among the signs after a sign
abbrev pub found : Dialect → Sign → List Sign → List (List Sign)
found d p [] = []
found d p (x ∷ xs) = if turns d x then seen d p x (sign_after xs) ∷ found d x xs else found d x xs

-- what is seen of a head
abbrev pub head_seen : (d : Dialect) → List ℕ → BehindRole d → List Arm → List Sign
head_seen d p t arms = plain p ∷ turn_signs d t

-- ---- other signs are passed over

passed : (d : Dialect) (p x : Sign) (xs : List Sign) → turns d x ≡ false → found d p (x ∷ xs) ≡ found d x xs
passed d p x xs e = rw e refl

word_if : (d : Dialect) (b c : Bool) (text : List ℕ) → turns d (if b then rec_word else if c then end_word else plain text) ≡ false
word_if d true c text = refl
word_if d false true text = refl
word_if d false false text = refl

word_turns : (d : Dialect) (text : List ℕ) → turns d (word_sign text) ≡ false
word_turns d text = word_if d (bytes_eq text (codes "rec")) (bytes_eq text (codes "end")) text

sort_found : (d : Dialect) (p : Sign) (sort : Option Sort) (rest : List Sign) → found d p (sort_signs sort ++ close_paren ∷ rest) ≡ found d close_paren rest
sort_found d p None rest = refl
sort_found d p (Some s) rest = refl

arm_found : (d : Dialect) (p : Sign) (label : List ℕ) (sort : Option Sort) (rest : List Sign) → found d p (arm_signs label sort ++ rest) ≡ found d dot rest
arm_found d p label sort rest =
    passed d p (word_sign label) (open_paren ∷ ((sort_signs sort ++ close_paren ∷ dot ∷ []) ++ rest)) (word_turns d label)
    ∙ ap (λ z. found d open_paren z) (append_assoc (sort_signs sort) (close_paren ∷ dot ∷ []) rest)
    ∙ sort_found d open_paren sort (dot ∷ rest)

-- ---- bodies

abbrev pub heads : (d : Dialect) → Numbering → Body d → BoundNames → ℕ → List (List Sign)
heads d n b bound k = heads_of d (head_seen d) n b bound k

abbrev pub heads_below : (d : Dialect) → Numbering → Branches d → BoundNames → ℕ → List (List Sign)
heads_below d n arms bound k = heads_in d (head_seen d) n arms bound k

turn_found : (d : Dialect) (p : Sign) (first : List ℕ) (t : BehindRole d) (rest : List Sign)
    → (s : Sign) × (found d p (plain first ∷ (turn_signs d t ++ rest)) ≡ (plain first ∷ turn_signs d t) ∷ found d s rest)
turn_found Talks p first (sends_to r) rest = (plain r, refl)
turn_found Acts p first (with_mark mark.Puts) rest = (bang, refl)
turn_found Acts p first (with_mark mark.Takes) rest = (question, refl)

lone_found : (d : Dialect) (p : Sign) (label : List ℕ) (sort : Option Sort) (rest : List Sign) → found d p (lone_signs d ++ (arm_signs label sort ++ rest)) ≡ found d dot rest
lone_found Talks p label sort rest = arm_found Talks colon label sort rest
lone_found Acts p label sort rest = arm_found Acts p label sort rest

mutual
  pub body_found : (d : Dialect) (b : Body d) (p t : Sign) (ts : List Sign) (n : Numbering) (bound : BoundNames) (k : ℕ) → turns d t ≡ false
      → found d p (body_signs d b ++ t ∷ ts) ≡ heads d n b bound k ++ found d t ts
  body_found d ends p t ts n bound k e = passed d end_word t ts e
  body_found d (again name) p t ts n bound k e = passed d (plain name) t ts e
  body_found d (binds name b) p t ts n bound k e = body_found d b dot t ts n ((name, k) ∷ bound) k e
  body_found d (acts first turn label sort b) p t ts n bound k e =
      let ys : List Sign = t ∷ ts in
      let x : List Sign = lone_signs d ++ (arm_signs label sort ++ body_signs d b) in
      let to = turn_found d p first turn (x ++ ys) in
      let apart : x ++ ys ≡ lone_signs d ++ (arm_signs label sort ++ (body_signs d b ++ ys))
      = append_assoc (lone_signs d) (arm_signs label sort ++ body_signs d b) ys ∙ ap (λ z. lone_signs d ++ z) (append_assoc (arm_signs label sort) (body_signs d b) ys) in
      ap (λ z. found d (plain first) z) (append_assoc (turn_signs d turn) x ys)
      ∙ to.1
      ∙ ap (λ z. (plain first ∷ turn_signs d turn) ∷ z) (ap (λ z. found d to.0 z) apart ∙ lone_found d to.0 label sort (body_signs d b ++ ys) ∙ body_found d b dot t ts n bound (suc k) e)
  body_found d (offers first turn arms) p t ts n bound k e =
      let ys : List Sign = t ∷ ts in
      let x : List Sign = open_brace ∷ (branch_signs d arms ++ close_brace ∷ []) in
      let to = turn_found d p first turn (x ++ ys) in
      ap (λ z. found d (plain first) z) (append_assoc (turn_signs d turn) x ys)
      ∙ to.1
      ∙ ap (λ z. (plain first ∷ turn_signs d turn) ∷ z) (
      ap (λ z. found d open_brace z) (append_assoc (branch_signs d arms) (close_brace ∷ []) ys)
      ∙ branches_found d arms open_brace close_brace ys n bound (suc k) refl
      ∙ ap (λ z. heads_below d n arms bound (suc k) ++ z) (passed d close_brace t ts e))

  branches_found : (d : Dialect) (arms : Branches d) (p t : Sign) (ts : List Sign) (n : Numbering) (bound : BoundNames) (k : ℕ) → turns d t ≡ false
      → found d p (branch_signs d arms ++ t ∷ ts) ≡ heads_below d n arms bound k ++ found d t ts
  branches_found d (one label sort b) p t ts n bound k e =
      ap (λ z. found d p z) (append_assoc (arm_signs label sort) (body_signs d b) (t ∷ ts)) ∙ arm_found d p label sort (body_signs d b ++ t ∷ ts) ∙ body_found d b dot t ts n bound k e
  branches_found d (more label sort b arms) p t ts n bound k e =
      let ys : List Sign = t ∷ ts in
      ap (λ z. found d p z) (append_assoc (arm_signs label sort) (body_signs d b ++ comma ∷ branch_signs d arms) ys)
      ∙ arm_found d p label sort ((body_signs d b ++ comma ∷ branch_signs d arms) ++ ys)
      ∙ ap (λ z. found d dot z) (append_assoc (body_signs d b) (comma ∷ branch_signs d arms) ys)
      ∙ body_found d b dot comma (branch_signs d arms ++ ys) n bound k refl
      ∙ ap (λ z. heads d n b bound k ++ z) (branches_found d arms comma t ts n bound (k + acts_in d b) e)
      ∙ sym (append_assoc (heads d n b bound k) (heads_below d n arms bound (k + acts_in d b)) (found d t ts))
