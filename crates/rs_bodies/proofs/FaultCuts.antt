-- A place of the grammar goes on by each token that it takes, and can be completed to a part.
use Rattle.std.proofs.Common.{◌≡◌, ℕ, List, [], ◌∷◌, ◌++◌, codes, Bool, true, false, Option, Some, None, is_some, refl, sym, ap, ◌∙◌, subst, ◌⊎◌, inl, inr, append_assoc, append-nil}
use Rattle.std.proofs.lemmas.Slice.Eq.{bytes_eq-Decides}
use Rattle.std.specs.Str.{bytes_eq}
use Rattle.rs_model.specs.declared.values.Sort.{Sort}
use Rattle.rs_text.specs.declared.faults.Wanted.{Wanted}
use Rattle.rs_text.specs.declared.faults.Wanted.TheVariants as wanted
use Rattle.rs_bodies.specs.declared.dialects.Dialect.{Dialect}
use Rattle.rs_bodies.specs.declared.dialects.Dialect.TheVariants.{Talks, Acts}
use Rattle.rs_bodies.specs.declared.dialects.Mark.TheVariants as mark
use Rattle.std.specs.List.{flat_map}
use Rattle.rs_text.specs.Signs.{Sign, rec_word, end_word, plain, arrow, bang, question, colon, dot, comma, open_brace, close_brace, open_paren, close_paren, word_sign}
use Rattle.rs_text.specs.Arms.{sort_signs, arm_signs}
use Rattle.rs_text.specs.ArmCuts.{ArmCut, at_label, behind_label, behind_paren, behind_sort, behind_head, arm_cut_signs, wanted_in_arm}
use Rattle.rs_text.specs.Seen.{sort_named}
use Rattle.rs_bodies.specs.Trees.{Body, ends, again, binds, acts, offers, Branches, one, more, body_signs, branch_signs}
use Rattle.rs_bodies.specs.Cuts.{Cut, at_body, behind_end, behind_name, behind_rec, behind_rec_name, in_binds, in_turn, in_arm, in_acts, in_offers, behind_brace, BranchCut, in_head, in_branch, later}
use Rattle.rs_bodies.specs.Cuts.{PartCut, in_opening, in_body, cut_signs, branch_cut_signs, part_cut_signs, wanted_at, wanted_in}
use Rattle.rs_bodies.specs.Dialects.{BehindRole, sends_to, with_mark, turn_signs, lone_signs, turns}
use Rattle.rs_bodies.specs.Cuts.{TurnCut, behind_arrow, behind_receiver, wanted_alone}
use Rattle.rs_bodies.specs.Openings.{Opening, of_roles, of_role, further_signs, line_signs, opening_signs}
use Rattle.rs_bodies.specs.Cuts.{OpeningCut, at_roles, at_first, behind_first, at_further, behind_further, at_machine, at_role, behind_role, opening_cut_signs}
use Rattle.rs_bodies.specs.Spells.{Tree, tree_signs}
use Rattle.rs_bodies.specs.Faults.{Begins}
use Rattle.rs_bodies.proofs.FaultPlaces.{is_named, is_named_in, is_named_of, opening_wants, place_wants}
use Rattle.rs_text.proofs.Arms.{sort_text_is, arm_completes}
use Rattle.rs_text.proofs.Judging.{IsProper}

-- the tokens that are taken where this is wanted
abbrev pub takes : Wanted → Sign → Bool
takes wanted.Roles (plain text) = bytes_eq text (codes "roles")
takes wanted.DerivationOrEnd (plain text) = bytes_eq text (codes "machine")
takes wanted.Comma comma = true
takes wanted.CommaOrProtocol comma = true
takes wanted.CommaOrProtocol (plain text) = bytes_eq text (codes "protocol")
takes wanted.ColonOrBrace colon = true
takes wanted.ColonOrBrace open_brace = true
takes wanted.Role (plain text) = true
takes wanted.Colon colon = true
takes wanted.Body rec_word = true
takes wanted.Body end_word = true
takes wanted.Body (plain text) = true
takes wanted.Name (plain text) = true
takes wanted.Dot dot = true
takes wanted.LabelOrBrace open_brace = true
takes wanted.LabelOrBrace rec_word = true
takes wanted.LabelOrBrace end_word = true
takes wanted.LabelOrBrace (plain text) = true
takes wanted.Label rec_word = true
takes wanted.Label end_word = true
takes wanted.Label (plain text) = true
takes wanted.OpenParen open_paren = true
takes wanted.SortOrCloseParen close_paren = true
takes wanted.SortOrCloseParen (plain text) = is_some (sort_named text)
takes wanted.CloseParen close_paren = true
takes wanted.CommaOrCloseBrace comma = true
takes wanted.CommaOrCloseBrace close_brace = true
takes _ t = false

-- ---- sorts

sort_grows : (found : Option Sort) (l text : List ℕ) → sort_named text ≡ found → is_some found ≡ true → (d : ArmCut) × (arm_cut_signs d ≡ word_sign l ∷ open_paren ∷ plain text ∷ [])
sort_grows None l text e h = cc
sort_grows (Some s) l text e h = (behind_sort l s, ap (λ z. word_sign l ∷ open_paren ∷ plain z ∷ []) (sort_text_is text s e))

-- ---- arms

abbrev ArmGrows : ArmCut → Sign → Type 0
ArmGrows arm t = ((d : ArmCut) × (arm_cut_signs d ≡ arm_cut_signs arm ++ t ∷ [])) ⊎ ((l : List ℕ) × (s : Option Sort) × (arm_signs l s ≡ arm_cut_signs arm ++ t ∷ []))

arm_grows : (dia : Dialect) (arm : ArmCut) (t : Sign) → IsProper t → takes (wanted_in_arm arm) t ≡ true → ArmGrows arm t
arm_grows dia at_label rec_word p h = inl (behind_label (codes "rec"), refl)
arm_grows dia at_label end_word p h = inl (behind_label (codes "end"), refl)
arm_grows dia at_label (plain text) p h = inl (behind_label text, ap (λ z. z ∷ []) p)
arm_grows dia at_label _ p h = cc
arm_grows dia (behind_label l) open_paren p h = inl (behind_paren l, refl)
arm_grows dia (behind_label l) _ p h = cc
arm_grows dia (behind_paren l) close_paren p h = inl (behind_head l None, refl)
arm_grows dia (behind_paren l) (plain text) p h = inl (sort_grows (sort_named text) l text refl h)
arm_grows dia (behind_paren l) _ p h = cc
arm_grows dia (behind_sort l s) close_paren p h = inl (behind_head l (Some s), refl)
arm_grows dia (behind_sort l s) _ p h = cc
arm_grows dia (behind_head l s) dot p h = inr (l, s, ap (λ z. word_sign l ∷ open_paren ∷ z) (sym (append_assoc (sort_signs s) (close_paren ∷ []) (dot ∷ []))))
arm_grows dia (behind_head l s) _ p h = cc

-- ---- bodies

record WholeCut (dia : Dialect) (c : Cut dia) : Type 0 where
  body : Body dia
  signs : body_signs dia body ≡ cut_signs dia c
  behind_is : (w : Wanted) → wanted_at dia c w ≡ w

abbrev CutGrows : (dia : Dialect) → Cut dia → Type 0
CutGrows dia c = (w : Wanted) (t : Sign) → IsProper t → takes (wanted_at dia c w) t ≡ true → (d : Cut dia) × (cut_signs dia d ≡ cut_signs dia c ++ t ∷ [])

abbrev BranchGrows : (dia : Dialect) → BranchCut dia → Sign → Type 0
BranchGrows dia a t =
    ((d : BranchCut dia) × (branch_cut_signs dia d ≡ branch_cut_signs dia a ++ t ∷ [])) ⊎ ((arms : Branches dia) × (branch_signs dia arms ++ close_brace ∷ [] ≡ branch_cut_signs dia a ++ t ∷ []))

body_grows : (dia : Dialect) (t : Sign) → takes wanted.Body t ≡ true → (d : Cut dia) × (cut_signs dia d ≡ t ∷ [])
body_grows dia rec_word h = (behind_rec, refl)
body_grows dia end_word h = (behind_end, refl)
body_grows dia (plain text) h = (behind_name text, refl)
body_grows dia _ h = cc

rec_grows : (dia : Dialect) (t : Sign) → takes wanted.Name t ≡ true → (d : Cut dia) × (cut_signs dia d ≡ rec_word ∷ t ∷ [])
rec_grows dia (plain text) h = (behind_rec_name text, refl)
rec_grows dia _ h = cc

rec_name_grows : (dia : Dialect) (name : List ℕ) (t : Sign) → takes wanted.Dot t ≡ true → (d : Cut dia) × (cut_signs dia d ≡ rec_word ∷ plain name ∷ t ∷ [])
rec_name_grows dia name dot h = (in_binds name at_body, refl)
rec_name_grows dia name _ h = cc

-- behind a head
pub acts_tail : (dia : Dialect) (x : List ℕ) (y : BehindRole dia) (l : List ℕ) (s : Option Sort) (c ts : List Sign)
    → plain x ∷ (turn_signs dia y ++ (lone_signs dia ++ (arm_signs l s ++ (c ++ ts)))) ≡ (plain x ∷ (turn_signs dia y ++ (lone_signs dia ++ (arm_signs l s ++ c)))) ++ ts
acts_tail dia x y l s c ts =
    ap (λ z. plain x ∷ z) (sym
    (append_assoc (turn_signs dia y) (lone_signs dia ++ (arm_signs l s ++ c)) ts
    ∙ ap (λ z. turn_signs dia y ++ z) (append_assoc (lone_signs dia) (arm_signs l s ++ c) ts ∙ ap (λ z. lone_signs dia ++ z) (append_assoc (arm_signs l s) c ts))))

lone_tail : (dia : Dialect) (x : List ℕ) (y : BehindRole dia) (c ts : List Sign)
    → plain x ∷ (turn_signs dia y ++ (lone_signs dia ++ (c ++ ts))) ≡ (plain x ∷ (turn_signs dia y ++ (lone_signs dia ++ c))) ++ ts
lone_tail dia x y c ts = ap (λ z. plain x ∷ z) (sym (append_assoc (turn_signs dia y) (lone_signs dia ++ c) ts ∙ ap (λ z. turn_signs dia y ++ z) (append_assoc (lone_signs dia) c ts)))

pub offers_tail : (dia : Dialect) (x : List ℕ) (y : BehindRole dia) (c ts : List Sign) → plain x ∷ (turn_signs dia y ++ open_brace ∷ (c ++ ts)) ≡ (plain x ∷ (turn_signs dia y ++ open_brace ∷ c)) ++ ts
offers_tail dia x y c ts = ap (λ z. plain x ∷ z) (sym (append_assoc (turn_signs dia y) (open_brace ∷ c) ts))

abbrev LoneGrows : (dia : Dialect) → List ℕ → BehindRole dia → ArmCut → Sign → Type 0
LoneGrows dia p m arm t = (d : Cut dia) × (cut_signs dia d ≡ cut_signs dia (in_arm p m arm) ++ t ∷ [])

in_an_arm : (dia : Dialect) (p : List ℕ) (m : BehindRole dia) (arm : ArmCut) (t : Sign) → ArmGrows arm t → LoneGrows dia p m arm t
in_an_arm dia p m arm t g = elim g [
  | inl z ↦ (in_arm p m z.0, ap (λ o. plain p ∷ (turn_signs dia m ++ (lone_signs dia ++ o))) z.1 ∙ lone_tail dia p m (arm_cut_signs arm) (t ∷ []))
  | inr z ↦ (in_acts p m z.0 z.1 at_body, ap (λ o. plain p ∷ (turn_signs dia m ++ (lone_signs dia ++ o))) (append-nil (arm_signs z.0 z.1) ∙ z.2) ∙ lone_tail dia p m (arm_cut_signs arm) (t ∷ []))
]

-- a label, or an open brace
marked_grows : (p : List ℕ) (m : BehindRole Acts) (t : Sign) → IsProper t → takes wanted.LabelOrBrace t ≡ true → LoneGrows Acts p m at_label t
marked_grows p m open_brace q h = (in_offers p m (in_head at_label), lone_tail Acts p m [] (open_brace ∷ []))
marked_grows p m t q h = in_an_arm Acts p m at_label t (arm_grows Acts at_label t q h)

first_grows : (dia : Dialect) (p : List ℕ) (m : BehindRole dia) (t : Sign) → IsProper t → takes (wanted_alone dia at_label) t ≡ true → LoneGrows dia p m at_label t
first_grows Talks p m t q h = in_an_arm Talks p m at_label t (arm_grows Talks at_label t q h)
first_grows Acts p m t q h = marked_grows p m t q h

lone_grows : (dia : Dialect) (p : List ℕ) (m : BehindRole dia) (arm : ArmCut) (t : Sign) → IsProper t → takes (wanted_alone dia arm) t ≡ true → LoneGrows dia p m arm t
lone_grows dia p m at_label t q h = first_grows dia p m t q h
lone_grows dia p m (behind_label l) t q h = in_an_arm dia p m (behind_label l) t (arm_grows dia (behind_label l) t q h)
lone_grows dia p m (behind_paren l) t q h = in_an_arm dia p m (behind_paren l) t (arm_grows dia (behind_paren l) t q h)
lone_grows dia p m (behind_sort l s) t q h = in_an_arm dia p m (behind_sort l s) t (arm_grows dia (behind_sort l s) t q h)
lone_grows dia p m (behind_head l s) t q h = in_an_arm dia p m (behind_head l s) t (arm_grows dia (behind_head l s) t q h)

-- within a head
arrow_grows : (x : List ℕ) (t : Sign) → takes wanted.Role t ≡ true → (d : Cut Talks) × (cut_signs Talks d ≡ plain x ∷ arrow ∷ t ∷ [])
arrow_grows x (plain r) h = (in_turn x (behind_receiver r), refl)
arrow_grows x _ h = cc

receiver_grows : (x r : List ℕ) (t : Sign) → takes wanted.ColonOrBrace t ≡ true → (d : Cut Talks) × (cut_signs Talks d ≡ plain x ∷ arrow ∷ plain r ∷ t ∷ [])
receiver_grows x r colon h = (in_arm x (sends_to r) at_label, refl)
receiver_grows x r open_brace h = (in_offers x (sends_to r) (in_head at_label), refl)
receiver_grows x r _ h = cc

turn_grows : (dia : Dialect) (x : List ℕ) (y : TurnCut dia) (t : Sign) → takes (wanted_at dia (in_turn x y) wanted.PartOrEnd) t ≡ true
    → (d : Cut dia) × (cut_signs dia d ≡ cut_signs dia (in_turn x y) ++ t ∷ [])
turn_grows Talks x behind_arrow t h = arrow_grows x t h
turn_grows Talks x (behind_receiver r) t h = receiver_grows x r t h
turn_grows Acts x y t h = elim y [ ]

talk_begins : (n : List ℕ) (u : Sign) → turns Talks u ≡ true → (d : Cut Talks) × (cut_signs Talks d ≡ plain n ∷ u ∷ [])
talk_begins n arrow h = (in_turn n behind_arrow, refl)
talk_begins n _ h = cc

act_begins : (n : List ℕ) (u : Sign) → turns Acts u ≡ true → (d : Cut Acts) × (cut_signs Acts d ≡ plain n ∷ u ∷ [])
act_begins n bang h = (in_arm n (with_mark mark.Puts) at_label, refl)
act_begins n question h = (in_arm n (with_mark mark.Takes) at_label, refl)
act_begins n _ h = cc

turn_begins : (dia : Dialect) (n : List ℕ) (u : Sign) → turns dia u ≡ true → (d : Cut dia) × (cut_signs dia d ≡ plain n ∷ u ∷ [])
turn_begins Talks n u h = talk_begins n u h
turn_begins Acts n u h = act_begins n u h

turn_completes : (dia : Dialect) (x : List ℕ) (y : TurnCut dia) → (b : Body dia) × (rest : List Sign) × (body_signs dia b ≡ cut_signs dia (in_turn x y) ++ rest)
turn_completes Talks x behind_arrow =
    (offers x (sends_to (codes "x")) (one (codes "x") None ends), plain (codes "x") ∷ open_brace ∷ ((arm_signs (codes "x") None ++ end_word ∷ []) ++ close_brace ∷ []), refl)
turn_completes Talks x (behind_receiver r) = (offers x (sends_to r) (one (codes "x") None ends), open_brace ∷ ((arm_signs (codes "x") None ++ end_word ∷ []) ++ close_brace ∷ []), refl)
turn_completes Acts x y = elim y [ ]

closes : (dia : Dialect) (l : List ℕ) (s : Option Sort) (b : Cut dia) (x : WholeCut dia b) (t : Sign) → takes wanted.CommaOrCloseBrace t ≡ true → BranchGrows dia (in_branch l s b) t
closes dia l s b x comma h = inl (later l s x.body (in_head at_label), ap (λ z. arm_signs l s ++ (z ++ comma ∷ [])) x.signs ∙ sym (append_assoc (arm_signs l s) (cut_signs dia b) (comma ∷ [])))
closes dia l s b x close_brace h = inr (one l s x.body, ap (λ z. (arm_signs l s ++ z) ++ close_brace ∷ []) x.signs)
closes dia l s b x _ h = cc

later_shape : (a b c : List Sign) (t : Sign) → a ++ (b ++ comma ∷ (c ++ t ∷ [])) ≡ (a ++ (b ++ comma ∷ c)) ++ t ∷ []
later_shape a b c t = sym (append_assoc a (b ++ comma ∷ c) (t ∷ []) ∙ ap (λ z. a ++ z) (append_assoc b (comma ∷ c) (t ∷ [])))

mutual
  sides : (dia : Dialect) (c : Cut dia) → WholeCut dia c ⊎ CutGrows dia c
  sides dia at_body = inr (λ w t p h. body_grows dia t h)
  sides dia behind_end = inl (record { body = ends; signs = refl; behind_is = λ w. refl })
  sides dia (behind_name n) = inl (record { body = again n; signs = refl; behind_is = λ w. refl })
  sides dia behind_rec = inr (λ w t p h. rec_grows dia t h)
  sides dia (behind_rec_name n) = inr (λ w t p h. rec_name_grows dia n t h)
  sides dia (in_binds n b) = elim (sides dia b) [
    | inl x ↦ inl (record { body = binds n x.body; signs = ap (λ z. rec_word ∷ plain n ∷ dot ∷ z) x.signs; behind_is = x.behind_is })
    | inr k ↦ inr (λ w t p h. let x = k w t p h in (in_binds n x.0, ap (λ z. rec_word ∷ plain n ∷ dot ∷ z) x.1))
  ]
  sides dia (in_turn x y) = inr (λ w t p h. turn_grows dia x y t h)
  sides dia (in_arm x y arm) = inr (λ w t p h. lone_grows dia x y arm t p h)
  sides dia (in_acts x y l s b) = elim (sides dia b) [
    | inl z ↦ inl (record { body = acts x y l s z.body; signs = ap (λ o. plain x ∷ (turn_signs dia y ++ (lone_signs dia ++ (arm_signs l s ++ o)))) z.signs; behind_is = z.behind_is })
    | inr k ↦ inr (λ w t p h. let z = k w t p h in (
      in_acts x y l s z.0,
      ap (λ o. plain x ∷ (turn_signs dia y ++ (lone_signs dia ++ (arm_signs l s ++ o)))) z.1
          ∙ acts_tail dia x y l s (cut_signs dia b) (t ∷ []),
    ))
  ]
  sides dia (in_offers x y arms) = inr (λ w t p h. elim (arms_grow dia arms t p h) [
    | inl z ↦ (in_offers x y z.0, ap (λ o. plain x ∷ (turn_signs dia y ++ open_brace ∷ o)) z.1 ∙ offers_tail dia x y (branch_cut_signs dia arms) (t ∷ []))
    | inr z ↦ (behind_brace x y z.0, ap (λ o. plain x ∷ (turn_signs dia y ++ open_brace ∷ o)) z.1 ∙ offers_tail dia x y (branch_cut_signs dia arms) (t ∷ []))
  ])
  sides dia (behind_brace x y arms) = inl (record { body = offers x y arms; signs = refl; behind_is = λ w. refl })

  arms_grow : (dia : Dialect) (a : BranchCut dia) (t : Sign) → IsProper t → takes (wanted_in dia a) t ≡ true → BranchGrows dia a t
  arms_grow dia (in_head arm) t p h = elim (arm_grows dia arm t p h) [
    | inl z ↦ inl (in_head z.0, z.1)
    | inr z ↦ inl (in_branch z.0 z.1 at_body, append-nil (arm_signs z.0 z.1) ∙ z.2)
  ]
  arms_grow dia (in_branch l s b) t p h = elim (sides dia b) [
    | inl x ↦ closes dia l s b x t (subst (λ (w : Wanted). takes w t ≡ true) (x.behind_is wanted.CommaOrCloseBrace) h)
    | inr k ↦ (let z = k wanted.CommaOrCloseBrace t p h in inl (in_branch l s z.0, ap (λ o. arm_signs l s ++ o) z.1 ∙ sym (append_assoc (arm_signs l s) (cut_signs dia b) (t ∷ []))))
  ]
  arms_grow dia (later l s b arms) t p h = elim (arms_grow dia arms t p h) [
    | inl z ↦ inl (later l s b z.0, ap (λ o. arm_signs l s ++ (body_signs dia b ++ comma ∷ o)) z.1 ∙ later_shape (arm_signs l s) (body_signs dia b) (branch_cut_signs dia arms) t)
    | inr z ↦ inr (
      more l s b z.0,
      sym (later_shape (arm_signs l s) (body_signs dia b) (branch_signs dia z.0) close_brace) ∙ ap (λ o. arm_signs l s ++ (body_signs dia b ++ comma ∷ o)) z.1
          ∙ later_shape (arm_signs l s) (body_signs dia b) (branch_cut_signs dia arms) t,
    )
  ]

-- behind a word a mark may stand
mutual
  named_grows : (dia : Dialect) (m : Sign) → turns dia m ≡ true → (c : Cut dia) → is_named dia c ≡ true → (d : Cut dia) × (cut_signs dia d ≡ cut_signs dia c ++ m ∷ [])
  named_grows dia m e (behind_name n) h = turn_begins dia n m e
  named_grows dia m e (in_binds n b) h = let z = named_grows dia m e b h in (in_binds n z.0, ap (λ o. rec_word ∷ plain n ∷ dot ∷ o) z.1)
  named_grows dia m e (in_acts x y l s b) h =
      let z = named_grows dia m e b h in (
        in_acts x y l s z.0,
        ap (λ o. plain x ∷ (turn_signs dia y ++ (lone_signs dia ++ (arm_signs l s ++ o)))) z.1
            ∙ acts_tail dia x y l s (cut_signs dia b) (m ∷ []),
      )
  named_grows dia m e (in_offers x y arms) h =
      let z = named_grows_in dia m e arms h in (in_offers x y z.0, ap (λ o. plain x ∷ (turn_signs dia y ++ open_brace ∷ o)) z.1 ∙ offers_tail dia x y (branch_cut_signs dia arms) (m ∷ []))
  named_grows dia m e _ h = cc

  named_grows_in : (dia : Dialect) (m : Sign) → turns dia m ≡ true → (a : BranchCut dia) → is_named_in dia a ≡ true → (d : BranchCut dia) × (branch_cut_signs dia d ≡ branch_cut_signs dia a ++ m ∷ [])
  named_grows_in dia m e (in_head arm) h = cc
  named_grows_in dia m e (in_branch l s b) h = let z = named_grows dia m e b h in (in_branch l s z.0, ap (λ o. arm_signs l s ++ o) z.1 ∙ sym (append_assoc (arm_signs l s) (cut_signs dia b) (m ∷ [])))
  named_grows_in dia m e (later l s b arms) h =
      let z = named_grows_in dia m e arms h in (
        later l s b z.0,
        ap (λ o. arm_signs l s ++ (body_signs dia b ++ comma ∷ o)) z.1
            ∙ later_shape (arm_signs l s) (body_signs dia b) (branch_cut_signs dia arms) m,
      )

-- ---- parts

abbrev pub Grows : (dia : Dialect) → PartCut dia → Sign → Type 0
Grows dia c t = (d : PartCut dia) × (part_cut_signs dia d ≡ part_cut_signs dia c ++ t ∷ [])

nothing_taken : (dia : Dialect) (t : Sign) → takes wanted.PartOrEnd t ≡ true → ⊥
nothing_taken dia t h = cc

abbrev OpeningGrows : (dia : Dialect) → OpeningCut dia → Sign → Type 0
OpeningGrows dia o t = (d : PartCut dia) × (part_cut_signs dia d ≡ opening_cut_signs dia o ++ t ∷ [])

line_on : (xs : List (List ℕ)) (y : List ℕ) → flat_map further_signs (xs ++ y ∷ []) ≡ flat_map further_signs xs ++ comma ∷ plain y ∷ []
line_on [] y = refl
line_on (x ∷ xs) y = ap (λ z. comma ∷ plain x ∷ z) (line_on xs y)

further_grows : (x : List ℕ) (xs : List (List ℕ)) (w : List ℕ) → OpeningGrows Talks (at_further x xs) (plain w)
further_grows x [] w = (in_opening (behind_further x w []), refl)
further_grows x (y ∷ xs) w = (
  in_opening (behind_further x y (xs ++ w ∷ [])),
  ap (λ z. plain (codes "roles") ∷ plain x ∷ comma ∷ plain y ∷ z)
      (line_on xs w ∙ sym (append_assoc (flat_map further_signs xs) (comma ∷ []) (plain w ∷ []))),
)

opening_grows : (dia : Dialect) (o : OpeningCut dia) (t : Sign) → takes (opening_wants dia o) t ≡ true → OpeningGrows dia o t
opening_grows Talks at_roles (plain text) h = (in_opening at_first, ap (λ z. plain z ∷ []) (sym ((bytes_eq-Decides text (codes "roles")).0 h)))
opening_grows Talks at_roles _ h = cc
opening_grows Talks at_first (plain text) h = (in_opening (behind_first text), refl)
opening_grows Talks at_first _ h = cc
opening_grows Talks (behind_first x) comma h = (in_opening (at_further x []), refl)
opening_grows Talks (behind_first x) _ h = cc
opening_grows Talks (at_further x xs) (plain w) h = further_grows x xs w
opening_grows Talks (at_further x xs) _ h = cc
opening_grows Talks (behind_further x y xs) comma h = (in_opening (at_further x (y ∷ xs)), refl)
opening_grows Talks (behind_further x y xs) (plain text) h =
    (in_body (of_roles x y xs) at_body, append-nil (opening_signs Talks (of_roles x y xs)) ∙ ap (λ z. line_signs x (y ∷ xs) ++ plain z ∷ []) (sym ((bytes_eq-Decides text (codes "protocol")).0 h)))
opening_grows Talks (behind_further x y xs) _ h = cc
opening_grows Acts at_machine (plain text) h = (in_opening at_role, ap (λ z. plain z ∷ []) (sym ((bytes_eq-Decides text (codes "machine")).0 h)))
opening_grows Acts at_machine _ h = cc
opening_grows Acts at_role (plain text) h = (in_opening (behind_role text), refl)
opening_grows Acts at_role _ h = cc
opening_grows Acts (behind_role x) colon h = (in_body (of_role x) at_body, refl)
opening_grows Acts (behind_role x) _ h = cc

pub place_grows : (dia : Dialect) (c : PartCut dia) (t : Sign) → IsProper t → takes (place_wants dia c) t ≡ true → Grows dia c t
place_grows dia (in_opening o) t p h = opening_grows dia o t h
place_grows dia (in_body x body) t p h = elim (sides dia body) [
  | inl b ↦ absurd (nothing_taken dia t (subst (λ (w : Wanted). takes w t ≡ true) (b.behind_is wanted.PartOrEnd) h))
  | inr k ↦ (let z = k wanted.PartOrEnd t p h in (in_body x z.0, ap (λ o. opening_signs dia x ++ o) z.1 ∙ sym (append_assoc (opening_signs dia x) (cut_signs dia body) (t ∷ []))))
]

pub word_grows : (dia : Dialect) (m : Sign) → turns dia m ≡ true → (c : PartCut dia) → is_named_of dia c ≡ true → Grows dia c m
word_grows dia m e (in_body x body) h =
    let z = named_grows dia m e body h in (in_body x z.0, ap (λ o. opening_signs dia x ++ o) z.1 ∙ sym (append_assoc (opening_signs dia x) (cut_signs dia body) (m ∷ [])))
word_grows dia m e _ h = cc

-- ---- what can stand behind a place

mutual
  completes : (dia : Dialect) (c : Cut dia) → (b : Body dia) × (rest : List Sign) × (body_signs dia b ≡ cut_signs dia c ++ rest)
  completes dia at_body = (ends, end_word ∷ [], refl)
  completes dia behind_end = (ends, [], refl)
  completes dia (behind_name n) = (again n, [], refl)
  completes dia behind_rec = (binds (codes "x") ends, plain (codes "x") ∷ dot ∷ end_word ∷ [], refl)
  completes dia (behind_rec_name n) = (binds n ends, dot ∷ end_word ∷ [], refl)
  completes dia (in_binds n b) = let z = completes dia b in (binds n z.0, z.1, ap (λ o. rec_word ∷ plain n ∷ dot ∷ o) z.2)
  completes dia (in_turn x y) = turn_completes dia x y
  completes dia (in_arm x y arm) =
      let z = arm_completes arm in (
        acts x y z.0 z.1 ends,
        z.2 ++ end_word ∷ [],
        ap (λ o. plain x ∷ (turn_signs dia y ++ (lone_signs dia ++ o)))
            (ap (λ o. o ++ end_word ∷ []) z.3 ∙ append_assoc (arm_cut_signs arm) z.2 (end_word ∷ [])) ∙ lone_tail dia x y (arm_cut_signs arm) (z.2 ++ end_word ∷ []),
      )
  completes dia (in_acts x y l s b) =
      let z = completes dia b in (acts x y l s z.0, z.1, ap (λ o. plain x ∷ (turn_signs dia y ++ (lone_signs dia ++ (arm_signs l s ++ o)))) z.2 ∙ acts_tail dia x y l s (cut_signs dia b) z.1)
  completes dia (in_offers x y arms) =
      let z = arms_complete dia arms in (
        offers x y z.0,
        z.1 ++ close_brace ∷ [],
        ap (λ o. plain x ∷ (turn_signs dia y ++ open_brace ∷ o))
            (ap (λ o. o ++ close_brace ∷ []) z.2 ∙ append_assoc (branch_cut_signs dia arms) z.1 (close_brace ∷ [])) ∙ offers_tail dia x y (branch_cut_signs dia arms) (z.1 ++ close_brace ∷ []),
      )
  completes dia (behind_brace x y arms) = (offers x y arms, [], sym (append-nil (body_signs dia (offers x y arms))))

  arms_complete : (dia : Dialect) (a : BranchCut dia) → (arms : Branches dia) × (rest : List Sign) × (branch_signs dia arms ≡ branch_cut_signs dia a ++ rest)
  arms_complete dia (in_head arm) = let z = arm_completes arm in (one z.0 z.1 ends, z.2 ++ end_word ∷ [], ap (λ o. o ++ end_word ∷ []) z.3 ∙ append_assoc (arm_cut_signs arm) z.2 (end_word ∷ []))
  arms_complete dia (in_branch l s b) = let z = completes dia b in (one l s z.0, z.1, ap (λ o. arm_signs l s ++ o) z.2 ∙ sym (append_assoc (arm_signs l s) (cut_signs dia b) z.1))
  arms_complete dia (later l s b arms) =
      let z = arms_complete dia arms in (
        more l s b z.0,
        z.1,
        ap (λ o. arm_signs l s ++ (body_signs dia b ++ comma ∷ o)) z.2
            ∙ sym (append_assoc (arm_signs l s) (body_signs dia b ++ comma ∷ branch_cut_signs dia arms) z.1
            ∙ ap (λ o. arm_signs l s ++ o) (append_assoc (body_signs dia b) (comma ∷ branch_cut_signs dia arms) z.1)),
      )

abbrev simple : (dia : Dialect) → Opening dia → Tree dia
simple dia o = record { opening = o; body = ends }

line_ends : (x : List ℕ) (xs : List (List ℕ)) → Begins Talks (line_signs x xs ++ comma ∷ [])
line_ends x [] = (simple Talks (of_roles x (codes "x") []), plain (codes "x") ∷ plain (codes "protocol") ∷ end_word ∷ [], refl)
line_ends x (y ∷ xs) = (
  simple Talks (of_roles x y (xs ++ codes "x" ∷ [])),
  plain (codes "x") ∷ plain (codes "protocol") ∷ end_word ∷ [],
  ap (λ z. (plain (codes "roles") ∷ plain x ∷ comma ∷ plain y ∷ z ++ plain (codes "protocol") ∷ []) ++ end_word ∷ []) (line_on xs (codes "x"))
      ∙ ap (λ z. plain (codes "roles") ∷ plain x ∷ comma ∷ plain y ∷ z) (append_assoc (flat_map further_signs xs ++ comma ∷ plain (codes "x") ∷ []) (plain (codes "protocol") ∷ []) (end_word ∷ [])
      ∙ append_assoc (flat_map further_signs xs) (comma ∷ plain (codes "x") ∷ []) (plain (codes "protocol") ∷ end_word ∷ [])
      ∙ sym (append_assoc (flat_map further_signs xs) (comma ∷ []) (plain (codes "x") ∷ plain (codes "protocol") ∷ end_word ∷ []))),
)

opening_begins : (dia : Dialect) (o : OpeningCut dia) → Begins dia (opening_cut_signs dia o)
opening_begins Talks at_roles = (simple Talks (of_roles (codes "x") (codes "y") []), tree_signs Talks (simple Talks (of_roles (codes "x") (codes "y") [])), refl)
opening_begins Talks at_first = (simple Talks (of_roles (codes "x") (codes "y") []), plain (codes "x") ∷ comma ∷ plain (codes "y") ∷ plain (codes "protocol") ∷ end_word ∷ [], refl)
opening_begins Talks (behind_first x) = (simple Talks (of_roles x (codes "y") []), comma ∷ plain (codes "y") ∷ plain (codes "protocol") ∷ end_word ∷ [], refl)
opening_begins Talks (at_further x xs) = line_ends x xs
opening_begins Talks (behind_further x y xs) =
    (simple Talks (of_roles x y xs), plain (codes "protocol") ∷ end_word ∷ [], append_assoc (line_signs x (y ∷ xs)) (plain (codes "protocol") ∷ []) (end_word ∷ []))
opening_begins Acts at_machine = (simple Acts (of_role (codes "x")), tree_signs Acts (simple Acts (of_role (codes "x"))), refl)
opening_begins Acts at_role = (simple Acts (of_role (codes "x")), plain (codes "x") ∷ colon ∷ end_word ∷ [], refl)
opening_begins Acts (behind_role x) = (simple Acts (of_role x), colon ∷ end_word ∷ [], refl)

pub place_begins : (dia : Dialect) (c : PartCut dia) → Begins dia (part_cut_signs dia c)
place_begins dia (in_opening o) = opening_begins dia o
place_begins dia (in_body o body) =
    let z = completes dia body in (record { opening = o; body = z.0 }, z.1, ap (λ x. opening_signs dia o ++ x) z.2 ∙ sym (append_assoc (opening_signs dia o) (cut_signs dia body) z.1))
