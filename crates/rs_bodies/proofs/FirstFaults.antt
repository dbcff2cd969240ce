-- The fault that the reader tells is the first fault of the text.
use Rattle.std.proofs.Common.{◌≡◌, ℕ, List, [], ◌∷◌, ◌++◌, length, Bool, true, false, if◌then◌else◌, nat_le, Option, Some, None, Ok, Err, refl, sym, ap, ◌∙◌, subst, ◌⊎◌, inl, inr, append_assoc}
use Rattle.rs_text.specs.declared.tokens.FaultKind.{FaultKind}
use Rattle.rs_text.specs.declared.faults.TextFault.{TextFault}
use Rattle.rs_text.specs.declared.faults.TextKind.{TextKind}
use Rattle.rs_text.specs.declared.faults.TextKind.TheVariants as kind
use Rattle.rs_text.specs.declared.faults.Wanted.{Wanted}
use Rattle.rs_text.specs.declared.faults.Wanted.TheVariants as wanted
use Rattle.rs_bodies.specs.declared.reading.Frame.{Frame}
use Rattle.rs_bodies.specs.declared.reading.Mode.{Mode}
use Rattle.rs_bodies.specs.declared.reading.Mode.TheVariants as mode
use Rattle.rs_text.specs.declared.messages.MessagePlace.TheVariants as place
use Rattle.rs_bodies.specs.declared.dialects.Dialect.{Dialect}
use Rattle.rs_bodies.specs.declared.dialects.Dialect.TheVariants.{Talks, Acts}
use Rattle.rs_bodies.specs.declared.reading.Link.{Link}
use Rattle.rs_model.specs.declared.graph.Role.{Role}
use Rattle.rs_model.specs.Data.{Names_data}
use Rattle.rs_text.specs.Faults.{kind_of}
use Rattle.rs_text.specs.Lexemes.{Lexeme}
use Rattle.rs_text.specs.Signs.{Sign, rec_word, plain, arrow, bang, question, dot, comma, open_brace, broken, finish}
use Rattle.rs_text.specs.Arms.{arm_signs}
use Rattle.rs_text.specs.ArmCuts.{wanted_in_arm, ArmCut, at_label, behind_label, behind_paren, behind_sort, behind_head}
use Rattle.rs_bodies.specs.Data.{Reader_data}
use Rattle.rs_bodies.specs.Dialects.{turns, most, turn_signs, lone_signs}
use Rattle.rs_bodies.specs.Cuts.{wanted_alone, TurnCut, behind_arrow, behind_receiver, wanted_in_turn}
use Rattle.rs_bodies.specs.Cuts.{OpeningCut, at_roles, at_first, behind_first, at_further, behind_further, at_machine, at_role, behind_role, wanted_in_opening}
use Rattle.rs_bodies.specs.Openings.{opening_signs}
use Rattle.rs_bodies.specs.Spells.{tree_signs}
use Rattle.rs_bodies.specs.Trees.{body_signs}
use Rattle.rs_bodies.specs.Cuts.{Cut, at_body, behind_end, behind_name, behind_rec, behind_rec_name, in_binds, in_turn, in_arm, in_acts, in_offers, behind_brace, BranchCut, in_head, in_branch, later}
use Rattle.rs_bodies.specs.Cuts.{PartCut, in_opening, in_body, cut_signs, branch_cut_signs, part_cut_signs, wanted_at, wanted_in, wanted_of, IsBehind}
use Rattle.rs_bodies.specs.Scenes.{Scene}
use Rattle.rs_bodies.specs.Misplaced.{fault_by, fault_of}
use Rattle.rs_bodies.specs.Faults.{Begins, IsInPart, EndsByName, IsInReach, FaultAt}
use Rattle.rs_text.specs.FirstFaults.{IsWhole, IsClear}
use Rattle.rs_bodies.specs.Feeding.{Fed, start_of_part, feed_at, feed_turn, is_read, no_frames, behind_body, feeding}
use Rattle.rs_text.specs.Readings.{feed_sign}
use Rattle.rs_text.proofs.Leading.{NotExpected, Lands, sign_behind, lexeme, Leads, leads_split, Reached}
use Rattle.rs_bodies.proofs.FaultPlaces.{place_wants, opening_wants, wanted_behind_head, wanted_by, fault_seen, is_named, is_named_in, is_named_of, NamedBy, PlaceAgrees, place_passes, tree_passes}
use Rattle.rs_bodies.proofs.FaultCuts.{takes, Grows, place_grows, word_grows, place_begins, acts_tail, offers_tail}
use Rattle.rs_text.proofs.Judging.{IsProper, Here, Wholeness, wholeness, a_faulty, a_whole}
use Rattle.rs_bodies.proofs.FaultSteps.{said, ToldUnexpected, Steps, IsMarkMode, steps, whole_fed}
use Rattle.rs_text.proofs.Arms.{arm_not}

-- a place stands behind these tokens
abbrev pub There : (dia : Dialect) → List Sign → Type 0
There dia xs = (c : PartCut dia) × (part_cut_signs dia c ≡ xs)

pub agree : (dia : Dialect) (old : Names_data) (xs : List Sign) (u : Sign) (r : Reader_data) → Reached (feeding dia) (start_of_part dia old) xs u r → (c : PartCut dia) → part_cut_signs dia c ≡ xs
    → PlaceAgrees dia old c u r
agree dia old xs u r reach c e =
    reach NotExpected (λ d. PlaceAgrees dia old c u d) (subst (λ (z : List Sign). Leads (feeding dia) z u (λ d. PlaceAgrees dia old c u d) (start_of_part dia old)) e (place_passes dia old c u))

pub begins_there : (dia : Dialect) (xs : List Sign) → There dia xs → Begins dia xs
begins_there dia xs there = subst (λ (z : List Sign). Begins dia z) there.1 (place_begins dia there.0)

grows_there : (dia : Dialect) (xs : List Sign) (t : Sign) (c : PartCut dia) → part_cut_signs dia c ≡ xs → Grows dia c t → There dia (xs ++ t ∷ [])
grows_there dia xs t c e g = (g.0, g.1 ∙ ap (λ z. z ++ t ∷ []) e)

-- ---- places

behind_wants : (dia : Dialect) (c : Cut dia) (w : Wanted) → IsBehind dia c → wanted_at dia c w ≡ w
behind_wants dia at_body w h = absurd h
behind_wants dia behind_end w h = refl
behind_wants dia (behind_name n) w h = refl
behind_wants dia behind_rec w h = absurd h
behind_wants dia (behind_rec_name n) w h = absurd h
behind_wants dia (in_binds n b) w h = behind_wants dia b w h
behind_wants dia (in_turn x y) w h = absurd h
behind_wants dia (in_arm x y arm) w h = absurd h
behind_wants dia (in_acts x y l s b) w h = behind_wants dia b w h
behind_wants dia (in_offers x y arms) w h = absurd h
behind_wants dia (behind_brace x y arms) w h = refl

within_of : (dia : Dialect) (c : PartCut dia) → (place_wants dia c ≡ wanted.PartOrEnd → ⊥) → IsInPart dia c
within_of dia (in_body x body) n = λ h. n (behind_wants dia body wanted.PartOrEnd h)
within_of dia _ n = tt

ends_by : (dia : Dialect) (c : Cut dia) → (wanted_at dia c wanted.PartOrEnd ≡ wanted.PartOrEnd → ⊥) → EndsByName dia c
ends_by dia at_body n = tt
ends_by dia behind_end n = n refl
ends_by dia (behind_name x) n = tt
ends_by dia behind_rec n = tt
ends_by dia (behind_rec_name x) n = tt
ends_by dia (in_binds x b) n = ends_by dia b n
ends_by dia (in_turn x y) n = tt
ends_by dia (in_arm x y arm) n = tt
ends_by dia (in_acts x y l s b) n = ends_by dia b n
ends_by dia (in_offers x y arms) n = tt
ends_by dia (behind_brace x y arms) n = n refl

reach_of : (dia : Dialect) (c : PartCut dia) → (place_wants dia c ≡ wanted.PartOrEnd → ⊥) → IsInReach dia c
reach_of dia (in_body x body) n = ends_by dia body n
reach_of dia _ n = tt

named_ends : (dia : Dialect) (c : Cut dia) → is_named dia c ≡ true → EndsByName dia c
named_ends dia at_body h = tt
named_ends dia behind_end h = cc
named_ends dia (behind_name x) h = tt
named_ends dia behind_rec h = tt
named_ends dia (behind_rec_name x) h = tt
named_ends dia (in_binds x b) h = named_ends dia b h
named_ends dia (in_turn x y) h = tt
named_ends dia (in_arm x y arm) h = tt
named_ends dia (in_acts x y l s b) h = named_ends dia b h
named_ends dia (in_offers x y arms) h = tt
named_ends dia (behind_brace x y arms) h = cc

named_reach : (dia : Dialect) (c : PartCut dia) → is_named_of dia c ≡ true → IsInReach dia c
named_reach dia (in_body x body) h = named_ends dia body h
named_reach dia _ h = tt

lone_no_body : (dia : Dialect) (arm : ArmCut) → wanted_alone dia arm ≡ wanted.Body → ⊥
lone_no_body Talks at_label h = cc
lone_no_body Acts at_label h = cc
lone_no_body dia (behind_label l) h = cc
lone_no_body dia (behind_paren l) h = cc
lone_no_body dia (behind_sort l s) h = cc
lone_no_body dia (behind_head l s) h = cc

turn_no_body : (dia : Dialect) (t : TurnCut dia) → wanted_in_turn dia t ≡ wanted.Body → ⊥
turn_no_body Talks behind_arrow h = cc
turn_no_body Talks (behind_receiver r) h = cc
turn_no_body Acts t h = elim t [ ]

mutual
  word_stands : (dia : Dialect) (c : Cut dia) (w : Wanted) (word : List ℕ) → (w ≡ wanted.Body → ⊥) → wanted_at dia c w ≡ wanted.Body
      → (d : Cut dia) × (cut_signs dia d ≡ cut_signs dia c ++ plain word ∷ []) × (is_named dia d ≡ true)
  word_stands dia at_body w word n h = (behind_name word, refl, refl)
  word_stands dia behind_end w word n h = absurd (n h)
  word_stands dia (behind_name x) w word n h = absurd (n h)
  word_stands dia behind_rec w word n h = cc
  word_stands dia (behind_rec_name x) w word n h = cc
  word_stands dia (in_binds x b) w word n h = let z = word_stands dia b w word n h in (in_binds x z.0, ap (λ o. rec_word ∷ plain x ∷ dot ∷ o) z.1, z.2)
  word_stands dia (in_turn x y) w word n h = absurd (turn_no_body dia y h)
  word_stands dia (in_arm x y arm) w word n h = absurd (lone_no_body dia arm h)
  word_stands dia (in_acts x y l s b) w word n h =
      let z = word_stands dia b w word n h in (
        in_acts x y l s z.0,
        ap (λ o. plain x ∷ (turn_signs dia y ++ (lone_signs dia ++ (arm_signs l s ++ o)))) z.1
            ∙ acts_tail dia x y l s (cut_signs dia b) (plain word ∷ []),
        z.2,
      )
  word_stands dia (in_offers x y arms) w word n h =
      let z = word_stands_in dia arms word h in (
        in_offers x y z.0,
        ap (λ o. plain x ∷ (turn_signs dia y ++ open_brace ∷ o)) z.1
            ∙ offers_tail dia x y (branch_cut_signs dia arms) (plain word ∷ []),
        z.2,
      )
  word_stands dia (behind_brace x y arms) w word n h = absurd (n h)

  word_stands_in : (dia : Dialect) (a : BranchCut dia) (word : List ℕ) → wanted_in dia a ≡ wanted.Body
      → (d : BranchCut dia) × (branch_cut_signs dia d ≡ branch_cut_signs dia a ++ plain word ∷ []) × (is_named_in dia d ≡ true)
  word_stands_in dia (in_head arm) word h = absurd (arm_not arm wanted.Body refl h)
  word_stands_in dia (in_branch l s b) word h =
      let z = word_stands dia b wanted.CommaOrCloseBrace word
      (λ e. cc) h in (in_branch l s z.0, ap (λ o. arm_signs l s ++ o) z.1 ∙ sym (append_assoc (arm_signs l s) (cut_signs dia b) (plain word ∷ [])), z.2)
  word_stands_in dia (later l s b arms) word h =
      let z = word_stands_in dia arms word h in (
        later l s b z.0,
        ap (λ o. arm_signs l s ++ (body_signs dia b ++ comma ∷ o)) z.1
            ∙ sym (append_assoc (arm_signs l s) (body_signs dia b ++ comma ∷ branch_cut_signs dia arms) (plain word ∷ [])
            ∙ ap (λ o. arm_signs l s ++ o) (append_assoc (body_signs dia b) (comma ∷ branch_cut_signs dia arms) (plain word ∷ []))),
        z.2,
      )

opening_no_body : (dia : Dialect) (o : OpeningCut dia) → opening_wants dia o ≡ wanted.Body → ⊥
opening_no_body Talks at_roles h = cc
opening_no_body Talks at_first h = cc
opening_no_body Talks (behind_first x) h = cc
opening_no_body Talks (at_further x xs) h = cc
opening_no_body Talks (behind_further x y xs) h = cc
opening_no_body Acts at_machine h = cc
opening_no_body Acts at_role h = cc
opening_no_body Acts (behind_role x) h = cc

word_place : (dia : Dialect) (c : PartCut dia) (word : List ℕ) → place_wants dia c ≡ wanted.Body
    → (d : PartCut dia) × (part_cut_signs dia d ≡ part_cut_signs dia c ++ plain word ∷ []) × (is_named_of dia d ≡ true)
word_place dia (in_body x body) word h =
    let z = word_stands dia body wanted.PartOrEnd word
    (λ e. cc) h in (in_body x z.0, ap (λ o. opening_signs dia x ++ o) z.1 ∙ sym (append_assoc (opening_signs dia x) (cut_signs dia body) (plain word ∷ [])), z.2)
word_place dia (in_opening o) word h = absurd (opening_no_body dia o h)

-- what the fault at a place says
arm_says : (arm : ArmCut) → said (wanted_in_arm arm) ≡ wanted_in_arm arm
arm_says at_label = refl
arm_says (behind_label l) = refl
arm_says (behind_paren l) = refl
arm_says (behind_sort l s) = refl
arm_says (behind_head l s) = refl

lone_says : (dia : Dialect) (arm : ArmCut) → said (wanted_alone dia arm) ≡ wanted_alone dia arm
lone_says Talks at_label = refl
lone_says Acts at_label = refl
lone_says dia (behind_label l) = refl
lone_says dia (behind_paren l) = refl
lone_says dia (behind_sort l s) = refl
lone_says dia (behind_head l s) = refl

turn_says : (dia : Dialect) (t : TurnCut dia) → said (wanted_in_turn dia t) ≡ wanted_in_turn dia t
turn_says Talks behind_arrow = refl
turn_says Talks (behind_receiver r) = refl
turn_says Acts t = elim t [ ]

mutual
  says : (dia : Dialect) (c : Cut dia) (w : Wanted) → said w ≡ w → said (wanted_at dia c w) ≡ wanted_at dia c w
  says dia at_body w h = refl
  says dia behind_end w h = h
  says dia (behind_name x) w h = h
  says dia behind_rec w h = refl
  says dia (behind_rec_name x) w h = refl
  says dia (in_binds x b) w h = says dia b w h
  says dia (in_turn x y) w h = turn_says dia y
  says dia (in_arm x y arm) w h = lone_says dia arm
  says dia (in_acts x y l s b) w h = says dia b w h
  says dia (in_offers x y arms) w h = says_in dia arms
  says dia (behind_brace x y arms) w h = h

  says_in : (dia : Dialect) (a : BranchCut dia) → said (wanted_in dia a) ≡ wanted_in dia a
  says_in dia (in_head arm) = arm_says arm
  says_in dia (in_branch l s b) = says dia b wanted.CommaOrCloseBrace refl
  says_in dia (later l s b arms) = says_in dia arms

opening_says : (dia : Dialect) (o : OpeningCut dia) → said (opening_wants dia o) ≡ wanted_in_opening dia o
opening_says Talks at_roles = refl
opening_says Talks at_first = refl
opening_says Talks (behind_first x) = refl
opening_says Talks (at_further x xs) = refl
opening_says Talks (behind_further x y xs) = refl
opening_says Acts at_machine = refl
opening_says Acts at_role = refl
opening_says Acts (behind_role x) = refl

pub place_says : (dia : Dialect) (c : PartCut dia) → said (place_wants dia c) ≡ wanted_of dia c
place_says dia (in_opening o) = opening_says dia o
place_says dia (in_body x body) = says dia body wanted.PartOrEnd refl

-- ---- one token

-- a token that is taken, and that breaks no rule of names or limits, is not at fault
clear_of : (dia : Dialect) (old : Names_data) (xs : List Sign) (t u : Sign) (r : Reader_data) → Reached (feeding dia) (start_of_part dia old) xs t r → There dia (xs ++ t ∷ []) → IsWhole t
    → fault_seen dia r.mode t u r ≡ None → IsClear (FaultAt dia old) xs t u
clear_of dia old xs t u r reach there whole seen k f = elim f [
  | inl x ↦ x.2.stops (begins_there dia (xs ++ t ∷ []) there)
  | inr (inl m) ↦ absurd (cc (sym m.fault ∙ (agree dia old xs t r reach m.place m.stands).faults t u ∙ seen))
  | inr (inr b) ↦ subst IsWhole b.2.broken_is whole
]

-- the next token is faulty
pub record Next (dia : Dialect) (old : Names_data) (r : Reader_data) (xs : List Sign) (t : Sign) (n : Lexeme) (e : TextFault) : Type 0 where
  pub kind : FaultKind
  pub broken_is : n.sign ≡ broken kind
  pub kind_is : e.kind ≡ kind_of kind
  pub at_is : e.at ≡ n.from
  pub clear : IsClear (FaultAt dia old) xs t n.sign
  pub place : PartCut dia
  pub stands : part_cut_signs dia place ≡ xs ++ t ∷ []
  pub reached : IsInReach dia place
  pub wants : wanted_by dia r.mode r.frames ≡ wanted.Body

abbrev pub Verdict : (dia : Dialect) → Names_data → Reader_data → List Sign → Sign → ℕ → Lexeme → Fed → Type 0
Verdict dia old r xs t at n (Ok d) = There dia (xs ++ t ∷ []) × IsClear (FaultAt dia old) xs t n.sign
Verdict dia old r xs t at n (Err e) = Here (FaultAt dia old) xs t at n.sign e ⊎ Next dia old r xs t n e

no_landing : (dia : Dialect) (x : Fed) (w : Wanted) (seen : Option TextKind) (t : Sign) (at : ℕ) (n : Lexeme) (Q : Reader_data → Type 0) → Steps dia w seen t at n x → takes w t ≡ false → Lands x Q → ⊥
no_landing dia (Ok d) w seen t at n Q s h l = absurd (cc (sym s.0 ∙ h))
no_landing dia (Err e) w seen t at n Q s h l = elim s [
  | inl a ↦ subst NotExpected a.kind_is l
  | inr (inl m) ↦ absurd (cc (sym m.taken ∙ h))
  | inr (inr b) ↦ absurd (cc (sym (ap (λ z. takes z (plain b.text)) b.body) ∙ ap (λ z. takes w z) (sym b.word) ∙ h))
]

-- with an unexpected token the tokens begin no part
stops_there : (dia : Dialect) (old : Names_data) (xs : List Sign) (t : Sign) (r : Reader_data) (w : Wanted) (seen : Sign → Option TextKind) → Reached (feeding dia) (start_of_part dia old) xs t r
    → IsWhole t → takes w t ≡ false → ((n : Lexeme) → Steps dia w (seen n.sign) t 0 n (feed_at dia r.mode t 0 n r)) → Begins dia (xs ++ t ∷ []) → ⊥
stops_there dia old xs t r w seen reach whole h s b =
    let rest : List Sign = b.1 in
    let e : tree_signs dia b.0 ≡ xs ++ (t ∷ rest) = b.2 ∙ append_assoc xs (t ∷ []) rest in
    let l : Leads (feeding dia) (xs ++ (t ∷ rest)) finish (λ d. Unit {0}) (start_of_part dia old)
    = subst (λ (z : List Sign). Leads (feeding dia) z finish (λ d. Unit {0}) (start_of_part dia old)) e (tree_passes dia old b.0) in
    let k : Leads (feeding dia) (t ∷ rest) finish (λ d. Unit {0}) r
    = reach NotExpected (λ d. Leads (feeding dia) (t ∷ rest) finish (λ d. Unit {0}) d) (leads_split (feeding dia) NotExpected xs (t ∷ rest) finish (λ d. Unit {0}) (start_of_part dia old) l) in
    let n : Lexeme = lexeme (sign_behind rest finish) 0 0 in
    no_landing dia (feed_at dia r.mode t 0 n r) w (seen n.sign) t 0 n (λ d. Leads (feeding dia) rest finish (λ d. Unit {0}) d) (s n) h
    (subst (λ (x : Fed). Lands x (λ d. Leads (feeding dia) rest finish (λ d. Unit {0}) d)) (whole_fed dia t 0 n r whole) (k 0 0 0))

-- the reader isn't behind the part
arms_no_part : (dia : Dialect) → wanted_behind_head dia ≡ wanted.PartOrEnd → ⊥
arms_no_part Talks h = cc
arms_no_part Acts h = cc

not_part : (dia : Dialect) (m : Mode) (fs : List Frame) → (IsMarkMode m → ⊥) → (if no_frames fs then behind_body m else false) ≡ false → wanted_by dia m fs ≡ wanted.PartOrEnd → ⊥
not_part dia (mode.AtTurn from s) fs a u h = a tt
not_part dia (mode.AtArms act) fs a u h = arms_no_part dia h
not_part dia mode.Next [] a u h = cc
not_part dia mode.Next (f ∷ fs) a u h = cc
not_part dia (mode.InMessage act place.Label) fs a u h = cc
not_part dia _ fs a u h = cc

here_unexpected : (dia : Dialect) (old : Names_data) (xs : List Sign) (t : Sign) (at : ℕ) (u : Sign) (r : Reader_data) (e : TextFault) → Reached (feeding dia) (start_of_part dia old) xs t r
    → (there : There dia xs) → IsWhole t → (wanted_by dia r.mode r.frames ≡ wanted.PartOrEnd → ⊥)
    → ((n : Lexeme) → Steps dia (wanted_by dia r.mode r.frames) (fault_seen dia r.mode t n.sign r) t 0 n (feed_at dia r.mode t 0 n r))
    → ToldUnexpected dia (wanted_by dia r.mode r.frames) (fault_seen dia r.mode t u r) t at e → Here (FaultAt dia old) xs t at u e
here_unexpected dia old xs t at u r e reach there whole part s x =
    let a : PlaceAgrees dia old there.0 t r = agree dia old xs t r reach there.0 there.1 in
    record {
      at_is = x.at_is;
      fault = inl (
        said (wanted_by dia r.mode r.frames),
        x.kind_is,
        record {
          whole = whole;
          place = there.0;
          stands = there.1;
          within = within_of dia there.0 (λ h. part (a.wanted ∙ h));
          wants = sym (place_says dia there.0) ∙ ap said (sym a.wanted);
          stops = stops_there dia old xs t r (wanted_by dia r.mode r.frames) (λ v. fault_seen dia r.mode t v r) reach whole x.stops s;
        },
      );
      only = λ k f. elim f [
        | inl y ↦ y.1 ∙ ap (λ z. kind.Expected z) (sym y.2.wants ∙ sym (place_says dia y.2.place) ∙ ap said (sym (agree dia old xs t r reach y.2.place y.2.stands).wanted)) ∙ sym x.kind_is
        | inr (inl m) ↦ absurd (cc (sym m.fault ∙ (agree dia old xs t r reach m.place m.stands).faults t u ∙ x.unseen))
        | inr (inr b) ↦ absurd (subst IsWhole b.2.broken_is whole)
      ];
    }

here_misplaced : (dia : Dialect) (old : Names_data) (xs : List Sign) (t : Sign) (at : ℕ) (u : Sign) (r : Reader_data) (e : TextFault) → Reached (feeding dia) (start_of_part dia old) xs t r
    → (there : There dia xs) → There dia (xs ++ t ∷ []) → IsWhole t → e.at ≡ at → fault_seen dia r.mode t u r ≡ Some e.kind → Here (FaultAt dia old) xs t at u e
here_misplaced dia old xs t at u r e reach there on whole at_is seen =
    let a : PlaceAgrees dia old there.0 t r = agree dia old xs t r reach there.0 there.1 in
    record {
      at_is = at_is;
      fault = inr (inl (record { place = there.0; stands = there.1; fault = a.faults t u ∙ seen }));
      only = λ k f. elim f [
        | inl x ↦ absurd (x.2.stops (begins_there dia (xs ++ t ∷ []) on))
        | inr (inl m) ↦ cc (sym m.fault ∙ (agree dia old xs t r reach m.place m.stands).faults t u ∙ seen)
        | inr (inr b) ↦ absurd (subst IsWhole b.2.broken_is whole)
      ];
    }

on_steps : (dia : Dialect) (old : Names_data) (x : Fed) (xs : List Sign) (t : Sign) (at : ℕ) (n : Lexeme) (r : Reader_data) → Reached (feeding dia) (start_of_part dia old) xs t r
    → (there : There dia xs) → IsProper t → IsWhole t → (wanted_by dia r.mode r.frames ≡ wanted.PartOrEnd → ⊥)
    → ((n : Lexeme) → Steps dia (wanted_by dia r.mode r.frames) (fault_seen dia r.mode t n.sign r) t 0 n (feed_at dia r.mode t 0 n r))
    → Steps dia (wanted_by dia r.mode r.frames) (fault_seen dia r.mode t n.sign r) t at n x → Verdict dia old r xs t at n x
on_steps dia old (Ok d) xs t at n r reach there proper whole part all s =
    let a : PlaceAgrees dia old there.0 t r = agree dia old xs t r reach there.0 there.1 in
    let on : There dia (xs ++ t ∷ []) = grows_there dia xs t there.0 there.1 (place_grows dia there.0 t proper (ap (λ z. takes z t) (sym a.wanted) ∙ s.0)) in
    (on, clear_of dia old xs t n.sign r reach on whole s.1)
on_steps dia old (Err e) xs t at n r reach there proper whole part all s =
    let a : PlaceAgrees dia old there.0 t r = agree dia old xs t r reach there.0 there.1 in
    elim s [
      | inl x ↦ inl (here_unexpected dia old xs t at n.sign r e reach there whole part all x)
      | inr (inl m) ↦ inl (here_misplaced dia old xs t at n.sign r e reach there
          (grows_there dia xs t there.0 there.1 (place_grows dia there.0 t proper (ap (λ z. takes z t) (sym a.wanted) ∙ m.taken))) whole m.at_is m.fault)
      | inr (inr b) ↦ (
          let w = word_place dia there.0 b.text (sym a.wanted ∙ b.body) in
          let signs : part_cut_signs dia w.0 ≡ xs ++ t ∷ [] = w.1 ∙ ap (λ z. z ++ plain b.text ∷ []) there.1 ∙ ap (λ z. xs ++ z ∷ []) (sym b.word) in
          inr (record {
            kind = b.kind;
            broken_is = b.broken_is;
            kind_is = b.kind_is;
            at_is = b.at_is;
            clear = clear_of dia old xs t n.sign r reach
                (w.0, signs) whole b.clear;
            place = w.0;
            stands = signs;
            reached = named_reach dia w.0 w.2;
            wants = b.body;
          }))
    ]

-- ---- at a mark that was seen

mark_or : (m : Mode) → IsMarkMode m ⊎ (IsMarkMode m → ⊥)
mark_or (mode.AtTurn from s) = inl tt
mark_or _ = inr (λ h. h)

mark_facts : (dia : Dialect) (m : Mode) (u : Sign) (b : Bool) (r : Reader_data) → IsMarkMode m → NamedBy dia m u b r → (turns dia u ≡ true) × (b ≡ true) × (nat_le (most dia) (length r.drafts) ≡ false)
mark_facts dia (mode.AtTurn from s) u b r a h = h
mark_facts dia _ u b r a h = absurd a

mark_unseen : (dia : Dialect) (m : Mode) (t u : Sign) (r : Reader_data) → IsMarkMode m → fault_seen dia m t u r ≡ None
mark_unseen dia (mode.AtTurn from s) t u r a = refl
mark_unseen dia _ t u r a = absurd a

marked_verdict : (dia : Dialect) (old : Names_data) (r : Reader_data) (c : Bool) (xs : List Sign) (t : Sign) (at : ℕ) (n : Lexeme) (e : TextFault) (d : Reader_data) → c ≡ false
    → There dia (xs ++ t ∷ []) → IsClear (FaultAt dia old) xs t n.sign → Verdict dia old r xs t at n (if c then Err e else Ok d)
marked_verdict dia old r true xs t at n e d h on clear = absurd (cc h)
marked_verdict dia old r false xs t at n e d h on clear = (on, clear)

turn_verdict : (dia : Dialect) (old : Names_data) (q : Reader_data) (from : Link) (p : Role) (xs : List Sign) (u : Sign) (at : ℕ) (n : Lexeme) (r : Reader_data) → turns dia u ≡ true
    → nat_le (most dia) (length r.drafts) ≡ false → There dia (xs ++ u ∷ []) → IsClear (FaultAt dia old) xs u n.sign → Verdict dia old q xs u at n (feed_turn dia from p u at r)
turn_verdict Talks old q from p xs arrow at n r e room on clear = (on, clear)
turn_verdict Acts old q from p xs bang at n r e room on clear = marked_verdict Acts old q (nat_le 256 (length r.drafts)) xs bang at n _ _ room on clear
turn_verdict Acts old q from p xs question at n r e room on clear = marked_verdict Acts old q (nat_le 256 (length r.drafts)) xs question at n _ _ room on clear
turn_verdict Talks old q from p xs _ at n r e room on clear = cc
turn_verdict Acts old q from p xs _ at n r e room on clear = cc

mark_verdict : (dia : Dialect) (old : Names_data) (m : Mode) (q : Reader_data) (xs : List Sign) (u : Sign) (at : ℕ) (n : Lexeme) (r : Reader_data) → turns dia u ≡ true → IsMarkMode m
    → nat_le (most dia) (length r.drafts) ≡ false → There dia (xs ++ u ∷ []) → IsClear (FaultAt dia old) xs u n.sign → Verdict dia old q xs u at n (feed_at dia m u at n r)
mark_verdict dia old (mode.AtTurn from p) q xs u at n r e a room on clear = turn_verdict dia old q from p xs u at n r e room on clear
mark_verdict dia old _ q xs u at n r e a room on clear = absurd a

whole_verdict : (dia : Dialect) (old : Names_data) (xs : List Sign) (t : Sign) (at : ℕ) (n : Lexeme) (r : Reader_data) → Reached (feeding dia) (start_of_part dia old) xs t r → There dia xs
    → IsProper t → IsWhole t → is_read r ≡ false → Verdict dia old r xs t at n (feed_sign (feeding dia) t at n r)
whole_verdict dia old xs t at n r reach there proper whole unread =
    let a : PlaceAgrees dia old there.0 t r = agree dia old xs t r reach there.0 there.1 in
    subst (λ (z : Fed). Verdict dia old r xs t at n z) (sym (whole_fed dia t at n r whole)) (elim (mark_or r.mode) [
      | inl m ↦ (
          let f = mark_facts dia r.mode t (is_named_of dia there.0) r m a.named in
          let on : There dia (xs ++ t ∷ []) = grows_there dia xs t there.0 there.1 (word_grows dia t f.0 there.0 f.1) in
          mark_verdict dia old r.mode r xs t at n r f.0 m f.2 on (clear_of dia old xs t n.sign r reach on whole (mark_unseen dia r.mode t n.sign r m)))
      | inr m ↦ on_steps dia old (feed_at dia r.mode t at n r) xs t at n r reach there proper whole (not_part dia r.mode r.frames m unread)
          (λ k. steps dia r.mode t 0 k r t (is_named_of dia there.0) a.named m) (steps dia r.mode t at n r t (is_named_of dia there.0) a.named m)
    ])

-- ---- a faulty token

unseen_arms : (dia : Dialect) (j : FaultKind) (u : Sign) (r : Reader_data) → fault_seen dia (mode.AtArms 0) (broken j) u r ≡ None
unseen_arms Talks j u r = refl
unseen_arms Acts j u r = refl

broken_unseen : (dia : Dialect) (m : Mode) (j : FaultKind) (u : Sign) (r : Reader_data) → fault_seen dia m (broken j) u r ≡ None
broken_unseen dia (mode.AtArms act) j u r = unseen_arms dia j u r
broken_unseen dia (mode.InMessage act place.Label) j u r = refl
broken_unseen dia _ j u r = refl

no_arrow : (dia : Dialect) (m : Mode) (j : FaultKind) (b : Bool) (r : Reader_data) → NamedBy dia m (broken j) b r → IsMarkMode m → ⊥
no_arrow dia m j b r h a = cc (mark_facts dia m (broken j) b r a h).0

broken_same : (i j : FaultKind) → broken i ≡ broken j → i ≡ j
broken_same i j h = cc

broken_verdict : (dia : Dialect) (old : Names_data) (xs : List Sign) (j : FaultKind) (at : ℕ) (n : Lexeme) (r : Reader_data) → Reached (feeding dia) (start_of_part dia old) xs (broken j) r
    → There dia xs → is_read r ≡ false → Verdict dia old r xs (broken j) at n (feed_sign (feeding dia) (broken j) at n r)
broken_verdict dia old xs j at n r reach there unread =
    let a : PlaceAgrees dia old there.0 (broken j) r = agree dia old xs (broken j) r reach there.0 there.1 in
    inl (record {
      at_is = refl;
      fault = inr (inr (
        j,
        refl,
        record {
          broken_is = refl;
          place = there.0;
          stands = there.1;
          reached = reach_of dia there.0
              (λ h. not_part dia r.mode r.frames (no_arrow dia r.mode j (is_named_of dia there.0) r a.named) unread (a.wanted ∙ h));
        },
      ));
      only = λ k f. elim f [
        | inl x ↦ absurd x.2.whole
        | inr (inl m) ↦ absurd (cc (sym m.fault ∙ (agree dia old xs (broken j) r reach m.place m.stands).faults (broken j) n.sign ∙ broken_unseen dia r.mode j n.sign r))
        | inr (inr b) ↦ b.1 ∙ ap kind_of (sym (broken_same j b.0 b.2.broken_is))
      ];
    })

verdict_by : (dia : Dialect) (old : Names_data) (t : Sign) → Wholeness t → (xs : List Sign) (at : ℕ) (n : Lexeme) (r : Reader_data) → Reached (feeding dia) (start_of_part dia old) xs t r
    → There dia xs → IsProper t → is_read r ≡ false → Verdict dia old r xs t at n (feed_sign (feeding dia) t at n r)
verdict_by dia old _ (a_faulty k) xs at n r reach there proper unread = broken_verdict dia old xs k at n r reach there unread
verdict_by dia old _ (a_whole t w) xs at n r reach there proper unread = whole_verdict dia old xs t at n r reach there proper w unread

-- what a token is, and what the reader says of it
pub verdict : (dia : Dialect) (old : Names_data) (xs : List Sign) (t : Sign) (at : ℕ) (n : Lexeme) (r : Reader_data) → Reached (feeding dia) (start_of_part dia old) xs t r → There dia xs → IsProper t
    → is_read r ≡ false → Verdict dia old r xs t at n (feed_sign (feeding dia) t at n r)
verdict dia old xs t at n r reach there proper unread = verdict_by dia old t (wholeness t) xs at n r reach there proper unread

-- ---- the end

-- ---- faulty tokens behind a word

-- no place sees a faulty token
unfaulty_opening : (dia : Dialect) (old : Names_data) (o : OpeningCut dia) (j : FaultKind) (n : Sign) → fault_of dia old (in_opening o) (broken j) n ≡ None
unfaulty_opening Talks old at_roles j n = refl
unfaulty_opening Talks old at_first j n = refl
unfaulty_opening Talks old (behind_first x) j n = refl
unfaulty_opening Talks old (at_further x xs) j n = refl
unfaulty_opening Talks old (behind_further x y xs) j n = refl
unfaulty_opening Acts old at_machine j n = refl
unfaulty_opening Acts old at_role j n = refl
unfaulty_opening Acts old (behind_role x) j n = refl

unfaulty_by : (dia : Dialect) (w : Wanted) (j : FaultKind) (n : Sign) (s : Scene) → fault_by dia w (broken j) n s ≡ None
unfaulty_by dia wanted.Body j n s = refl
unfaulty_by dia wanted.Role j n s = refl
unfaulty_by dia wanted.ColonOrBrace j n s = refl
unfaulty_by dia wanted.LabelOrBrace j n s = refl
unfaulty_by dia wanted.Label j n s = refl
unfaulty_by dia _ j n s = refl

pub unfaulty : (dia : Dialect) (old : Names_data) (c : PartCut dia) (j : FaultKind) (n : Sign) → fault_of dia old c (broken j) n ≡ None
unfaulty dia old (in_opening o) j n = unfaulty_opening dia old o j n
unfaulty dia old (in_body x body) j n = unfaulty_by dia _ j n _

pub next_here : (dia : Dialect) (old : Names_data) (r : Reader_data) (xs : List Sign) (t : Sign) (x : Lexeme) (u : Sign) (g : TextFault) → Next dia old r xs t x g
    → Here (FaultAt dia old) (xs ++ t ∷ []) x.sign x.from u g
next_here dia old r xs t x u g h = record {
  at_is = h.at_is;
  fault = inr (inr (h.kind, h.kind_is, record { broken_is = h.broken_is; place = h.place; stands = h.stands; reached = h.reached }));
  only = λ k f. elim f [
    | inl y ↦ absurd (subst IsWhole h.broken_is y.2.whole)
    | inr (inl m) ↦ absurd (cc (sym m.fault ∙ ap (λ z. fault_of dia old m.place z u) h.broken_is ∙ unfaulty dia old m.place h.kind u))
    | inr (inr b) ↦ b.1 ∙ ap kind_of (broken_same b.0 h.kind (sym b.2.broken_is ∙ h.broken_is)) ∙ sym h.kind_is
  ];
}
