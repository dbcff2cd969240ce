-- A text that is read to the end of its part has no first fault, and any text has one at most.
use Rattle.std.proofs.Common.{codes, ◌≡◌, ℕ, List, [], ◌∷◌, ◌++◌, length, true, false, if◌then◌else◌, Option, Some, None, Result, Ok, Err, refl, sym, ap, ◌∙◌, subst, inl, inr, ◌≤◌}
use Rattle.rs_text.specs.declared.faults.TextFault.{TextFault}
use Rattle.rs_text.specs.declared.faults.TextKind.{TextKind}
use Rattle.rs_text.specs.declared.faults.TextKind.TheVariants as kind
use Rattle.rs_text.specs.declared.faults.Wanted.{Wanted}
use Rattle.rs_text.specs.declared.faults.Wanted.TheVariants as wanted
use Rattle.rs_bodies.specs.declared.reading.Frame.{Frame}
use Rattle.rs_bodies.specs.declared.reading.Mode.{Mode}
use Rattle.rs_bodies.specs.declared.reading.Mode.TheVariants as mode
use Rattle.rs_model.specs.Data.{Names_data}
use Rattle.std.proofs.Common.{nat_le, nat_lt}
use Rattle.rs_text.proofs.Judging as judging
use Rattle.rs_bodies.specs.declared.dialects.Dialect.{Dialect}
use Rattle.rs_bodies.specs.declared.dialects.Dialect.TheVariants.{Talks, Acts}
use Rattle.rs_text.specs.Lexemes.{Lexeme, signs_of}
use Rattle.rs_text.specs.Lexing.{Lexed}
use Rattle.rs_text.specs.Signs.{Sign, rec_word, end_word, plain, open_brace, finish}
use Rattle.rs_text.proofs.Nexts.{one_list}
use Rattle.rs_text.specs.ArmCuts.{ArmCut, at_label, behind_label, behind_paren, behind_sort, behind_head}
use Rattle.rs_bodies.specs.Data.{Reader_data}
use Rattle.rs_bodies.specs.Trees.{ends_a_name}
use Rattle.rs_bodies.specs.Cuts.{Cut, at_body, behind_end, behind_name, behind_rec, behind_rec_name, in_binds, in_arm, in_acts, in_offers, behind_brace, BranchCut, in_head, in_branch, later, PartCut}
use Rattle.rs_bodies.specs.Cuts.{in_body, wanted_at, wanted_in, IsBehind, in_opening, in_turn}
use Rattle.rs_bodies.specs.Cuts.{at_role, behind_role, at_roles, at_first, behind_first, at_further, behind_further, at_machine, OpeningCut}
use Rattle.rs_text.specs.Names.{is_among, nearest_binding, names_with}
use Rattle.rs_bodies.specs.Scenes.{Scene}
use Rattle.rs_bodies.specs.Faults.{Begins, IsInPart, EndsByName, IsInReach, IsUnexpected, FaultAt, FirstFault, LeavesNames, names_behind, labels_among}
use Rattle.rs_bodies.specs.Feeding.{Fed, PartAnswer, start_of_part, feed_at, feed_next, is_read, no_frames, behind_body, answer_of_reading, ReadsAs, feeding}
use Rattle.rs_bodies.proofs.FaultRuns.{Follower, a_broken, a_name, follower, a_turn}
use Rattle.rs_bodies.proofs.FaultPlaces.{place_wants, wanted_behind, wanted_by, fault_seen, is_named, is_named_of, NamedBy, PlaceAgrees, place_passes, opening_wants}
use Rattle.rs_bodies.proofs.FaultSteps.{whole_fed, by_name_fault, by_turn_fault}
use Rattle.rs_bodies.proofs.FirstFaults.{There, agree, begins_there, Verdict, verdict, Next, next_here}
use Rattle.rs_bodies.specs.Ends.{at_end}
use Rattle.rs_text.proofs.Judging.{Ahead, Judges, found, first_of, proper_sign, same_place}
use Rattle.rs_text.proofs.Leading.{Reached, reach_on, calm_if, calm_not, calm_none, NotExpected, Lands, sign_behind, lexeme, Leads, faulty_calm, leads_split}
use Rattle.rs_text.proofs.Keeping.{tokens}
use Rattle.rs_text.specs.Readings.{Reading, feed_sign, read_all, last_of}
use Rattle.rs_text.specs.FirstFaults.{IsWhole, sign_after}
use Rattle.rs_text.proofs.Arms.{arm_not}
use Rattle.rs_bodies.specs.Misplaced.{fault_by, fault_of, fault_of_name, fault_of_word, fault_of_label, fault_of_first, fault_of_new_role, fault_of_opening}
use Rattle.rs_bodies.proofs.Labels.{Follows, follows_first, follows_on, follows_word}
use Rattle.rs_bodies.specs.Cuts.{TurnCut, behind_arrow, behind_receiver, wanted_alone, wanted_in_turn}
use Rattle.rs_bodies.specs.Dialects.{most}

-- ---- places behind the part

pub lone_no_part : (dia : Dialect) (arm : ArmCut) → wanted_alone dia arm ≡ wanted.PartOrEnd → ⊥
lone_no_part Talks at_label h = cc
lone_no_part Acts at_label h = cc
lone_no_part dia (behind_label l) h = cc
lone_no_part dia (behind_paren l) h = cc
lone_no_part dia (behind_sort l s) h = cc
lone_no_part dia (behind_head l s) h = cc

pub turn_no_part : (dia : Dialect) (t : TurnCut dia) → wanted_in_turn dia t ≡ wanted.PartOrEnd → ⊥
turn_no_part Talks behind_arrow h = cc
turn_no_part Talks (behind_receiver r) h = cc
turn_no_part Acts t h = elim t [ ]

pub opening_no_part : (dia : Dialect) (o : OpeningCut dia) → opening_wants dia o ≡ wanted.PartOrEnd → ⊥
opening_no_part Talks at_roles h = cc
opening_no_part Talks at_first h = cc
opening_no_part Talks (behind_first x) h = cc
opening_no_part Talks (at_further x xs) h = cc
opening_no_part Talks (behind_further x y xs) h = cc
opening_no_part Acts at_machine h = cc
opening_no_part Acts at_role h = cc
opening_no_part Acts (behind_role x) h = cc

mutual
  pub no_part : (dia : Dialect) (c : Cut dia) (w : Wanted) → (w ≡ wanted.PartOrEnd → ⊥) → wanted_at dia c w ≡ wanted.PartOrEnd → ⊥
  no_part dia at_body w n h = cc
  no_part dia behind_end w n h = n h
  no_part dia (behind_name x) w n h = n h
  no_part dia behind_rec w n h = cc
  no_part dia (behind_rec_name x) w n h = cc
  no_part dia (in_binds x b) w n h = no_part dia b w n h
  no_part dia (in_turn x y) w n h = absurd (turn_no_part dia y h)
  no_part dia (in_arm x y arm) w n h = lone_no_part dia arm h
  no_part dia (in_acts x y l s b) w n h = no_part dia b w n h
  no_part dia (in_offers x y arms) w n h = no_part_in dia arms h
  no_part dia (behind_brace x y arms) w n h = n h

  pub no_part_in : (dia : Dialect) (a : BranchCut dia) → wanted_in dia a ≡ wanted.PartOrEnd → ⊥
  no_part_in dia (in_head arm) h = arm_not arm wanted.PartOrEnd refl h
  no_part_in dia (in_branch l s b) h = no_part dia b wanted.CommaOrCloseBrace (λ e. cc) h
  no_part_in dia (later l s b arms) h = no_part_in dia arms h

part_behind : (dia : Dialect) (c : Cut dia) → wanted_at dia c wanted.PartOrEnd ≡ wanted.PartOrEnd → IsBehind dia c
part_behind dia at_body h = cc
part_behind dia behind_end h = tt
part_behind dia (behind_name x) h = tt
part_behind dia behind_rec h = cc
part_behind dia (behind_rec_name x) h = cc
part_behind dia (in_binds x b) h = part_behind dia b h
part_behind dia (in_turn x y) h = absurd (turn_no_part dia y h)
part_behind dia (in_arm x y arm) h = absurd (lone_no_part dia arm h)
part_behind dia (in_acts x y l s b) h = part_behind dia b h
part_behind dia (in_offers x y arms) h = absurd (no_part_in dia arms h)
part_behind dia (behind_brace x y arms) h = tt

part_named : (dia : Dialect) (c : Cut dia) → wanted_at dia c wanted.PartOrEnd ≡ wanted.PartOrEnd → EndsByName dia c → is_named dia c ≡ true
part_named dia at_body h e = cc
part_named dia behind_end h e = absurd e
part_named dia (behind_name x) h e = refl
part_named dia behind_rec h e = cc
part_named dia (behind_rec_name x) h e = cc
part_named dia (in_binds x b) h e = part_named dia b h e
part_named dia (in_turn x y) h e = absurd (turn_no_part dia y h)
part_named dia (in_arm x y arm) h e = absurd (lone_no_part dia arm h)
part_named dia (in_acts x y l s b) h e = part_named dia b h e
part_named dia (in_offers x y arms) h e = absurd (no_part_in dia arms h)
part_named dia (behind_brace x y arms) h e = absurd e

behind_place : (dia : Dialect) (c : PartCut dia) → place_wants dia c ≡ wanted.PartOrEnd → IsInPart dia c → ⊥
behind_place dia (in_body x body) h w = w (part_behind dia body h)
behind_place dia (in_opening o) h w = opening_no_part dia o h

named_place : (dia : Dialect) (c : PartCut dia) → place_wants dia c ≡ wanted.PartOrEnd → IsInReach dia c → is_named_of dia c ≡ true
named_place dia (in_body x body) h e = part_named dia body h e
named_place dia (in_opening o) h e = absurd (opening_no_part dia o h)

-- ---- behind the part there is no fault

pub read_facts : (m : Mode) (fs : List Frame) → (if no_frames fs then behind_body m else false) ≡ true → (m ≡ mode.Next) × (fs ≡ [])
read_facts mode.Next [] h = (refl, refl)
read_facts mode.Next (f ∷ fs) h = cc
read_facts _ [] h = cc
read_facts _ (f ∷ fs) h = cc

behind_clear : (dia : Dialect) (old : Names_data) (xs : List Sign) (t u : Sign) (r : Reader_data) (k : TextKind) → Reached (feeding dia) (start_of_part dia old) xs t r → is_read r ≡ true
    → FaultAt dia old xs t u k → ⊥
behind_clear dia old xs t u r k reach h f =
    let m = read_facts r.mode r.frames h in
    let wants : wanted_by dia r.mode r.frames ≡ wanted.PartOrEnd = ap (λ z. wanted_by dia z r.frames) m.0 ∙ ap (λ z. wanted_behind z) m.1 in
    let unseen : fault_seen dia r.mode t u r ≡ None = ap (λ z. fault_seen dia z t u r) m.0 in
    elim f [
      | inl y ↦ behind_place dia y.2.place (sym (agree dia old xs t r reach y.2.place y.2.stands).wanted ∙ wants) y.2.within
      | inr (inl x) ↦ absurd (cc (sym x.fault ∙ (agree dia old xs t r reach x.place x.stands).faults t u ∙ unseen))
      | inr (inr b) ↦ (
          let a : PlaceAgrees dia old b.2.place t r = agree dia old xs t r reach b.2.place b.2.stands in
          let n : (is_named_of dia b.2.place ≡ true → ends_a_name dia t ≡ true) = subst (λ (z : Mode). NamedBy dia z t (is_named_of dia b.2.place) r) m.0 a.named in
          let e : ends_a_name dia t ≡ true = n (named_place dia b.2.place (sym a.wanted ∙ wants) b.2.reached) in
          absurd (cc (sym e ∙ ap (λ z. ends_a_name dia z) b.2.broken_is)))
    ]

landing_next : (fs : List Frame) (t : Sign) (r : Reader_data) (Q : Reader_data → Type 0) → fs ≡ [] → Lands (feed_next fs t 0 r) Q → ⊥
landing_next [] t r Q e h = h
landing_next (f ∷ fs) t r Q e h = cc

-- no place stands further on
behind_none : (dia : Dialect) (old : Names_data) (xs : List Sign) (t : Sign) (ys : List Sign) (r : Reader_data) → Reached (feeding dia) (start_of_part dia old) xs t r → is_read r ≡ true → IsWhole t
    → There dia (xs ++ (t ∷ ys)) → ⊥
behind_none dia old xs t ys r reach h whole there =
    let m = read_facts r.mode r.frames h in
    let Q : Reader_data → Type 0 = λ d. PlaceAgrees dia old there.0 finish d in
    let l : Leads (feeding dia) (xs ++ (t ∷ ys)) finish Q (start_of_part dia old)
    = subst (λ (z : List Sign). Leads (feeding dia) z finish Q (start_of_part dia old)) there.1 (place_passes dia old there.0 finish) in
    let k : Leads (feeding dia) (t ∷ ys) finish Q r
    = reach NotExpected (λ d. Leads (feeding dia) (t ∷ ys) finish Q d) (leads_split (feeding dia) NotExpected xs (t ∷ ys) finish Q (start_of_part dia old) l) in
    let n : Lexeme = lexeme (sign_behind ys finish) 0 0 in
    let o : Lands (feed_at dia r.mode t 0 n r) (λ d. Leads (feeding dia) ys finish Q d)
    = subst (λ (x : Fed). Lands x (λ d. Leads (feeding dia) ys finish Q d)) (whole_fed dia t 0 n r whole) (k 0 0 0) in
    let p : Lands (feed_at dia mode.Next t 0 n r) (λ d. Leads (feeding dia) ys finish Q d) = subst (λ (z : Mode). Lands (feed_at dia z t 0 n r) (λ d. Leads (feeding dia) ys finish Q d)) m.0 o in
    landing_next r.frames t r (λ d. Leads (feeding dia) ys finish Q d) m.1 p

there_of : (dia : Dialect) (old : Names_data) (xs : List Sign) (t u : Sign) (k : TextKind) → FaultAt dia old xs t u k → There dia xs
there_of dia old xs t u k f = elim f [
  | inl y ↦ (y.2.place, y.2.stands)
  | inr (inl m) ↦ (m.place, m.stands)
  | inr (inr b) ↦ (b.2.place, b.2.stands)
]

-- ---- what is known of the reader

-- the labels of a machine are followed along the tokens
abbrev pub Tracks : (dia : Dialect) → Names_data → List Sign → Reader_data → Type 0
Tracks Talks old xs r = Unit {0}
Tracks Acts old xs r = Follows old xs r

-- the reader has the labels of these tokens
abbrev pub HasLabels : (dia : Dialect) → Names_data → List Sign → Reader_data → Type 0
HasLabels Talks old xs r = Unit {0}
HasLabels Acts old xs r = r.labels ≡ names_with old.labels (labels_among false xs)

tracks_first : (dia : Dialect) (old : Names_data) → Tracks dia old [] (start_of_part dia old)
tracks_first Talks old = tt
tracks_first Acts old = follows_first old

tracks_on : (dia : Dialect) (old : Names_data) (xs : List Sign) (t : Sign) (at : ℕ) (n : Lexeme) (r d : Reader_data) → Tracks dia old xs r → feed_sign (feeding dia) t at n r ≡ Ok d
    → Tracks dia old (xs ++ t ∷ []) d
tracks_on Talks old xs t at n r d k e = tt
tracks_on Acts old xs t at n r d k e = follows_on old xs t at n r d k e

tracks_word : (dia : Dialect) (old : Names_data) (xs : List Sign) (t : Sign) (r : Reader_data) → Tracks dia old xs r → wanted_by dia r.mode r.frames ≡ wanted.Body → HasLabels dia old (xs ++ t ∷ []) r
tracks_word Talks old xs t r k h = tt
tracks_word Acts old xs t r k h = follows_word old xs t r k h

has_labels : (dia : Dialect) (old : Names_data) (xs : List Sign) (r : Reader_data) → Tracks dia old xs r → HasLabels dia old xs r
has_labels Talks old xs r k = tt
has_labels Acts old xs r k = k.labels

place_first : (dia : Dialect) → There dia []
place_first Talks = (in_opening at_roles, refl)
place_first Acts = (in_opening at_machine, refl)

-- the reader r stands behind the tokens xs and before t
abbrev pub At : (dia : Dialect) → Names_data → List Sign → Sign → Reader_data → Type 1
At dia old xs t r = Reached (feeding dia) (start_of_part dia old) xs t r × There dia xs × Tracks dia old xs r

ahead_of : (dia : Dialect) (old : Names_data) (r : Reader_data) (xs : List Sign) (t : Sign) (n : Lexeme) (e : TextFault) → Tracks dia old xs r → Next dia old r xs t n e
    → Ahead (FaultAt dia old) (HasLabels dia old) r xs t n e
ahead_of dia old r xs t n e k h = record { kind = h.kind; broken_is = h.broken_is; clear = h.clear; later = λ u. next_here dia old r xs t n u e h; left = tracks_word dia old xs t r k h.wants }

says : (dia : Dialect) (old : Names_data) (x : Fed) (xs : List Sign) (t : Sign) (at : ℕ) (n : Lexeme) (r : Reader_data) → Tracks dia old xs r → Verdict dia old r xs t at n x
    → judging.Verdict (FaultAt dia old) (HasLabels dia old) r xs t at n x
says dia old (Ok d) xs t at n r k v = v.1
says dia old (Err e) xs t at n r k v = elim v [
  | inl h ↦ inl h
  | inr h ↦ inr (ahead_of dia old r xs t n e k h)
]

goes_on : (dia : Dialect) (old : Names_data) (x : Fed) (xs : List Sign) (t : Sign) (at : ℕ) (n : Lexeme) (r d : Reader_data) → Verdict dia old r xs t at n x → x ≡ Ok d → There dia (xs ++ t ∷ [])
goes_on dia old (Ok e) xs t at n r d v h = v.0
goes_on dia old (Err e) xs t at n r d v h = cc

pub judges : (dia : Dialect) (old : Names_data) → Judges (feeding dia) (FaultAt dia old) (At dia old) (HasLabels dia old)
judges dia old = record {
  ends = at_end dia;
  taken = λ xs t at n r d stands name unread e. (
    reach_on (feeding dia) (start_of_part dia old) xs t n.sign at n.from n.until r d stands.0 e,
    goes_on dia old (feed_sign (feeding dia) t at n r) xs t at n r d (verdict dia old xs t at n r stands.0 stands.1 (proper_sign t name) unread) e,
    tracks_on dia old xs t at n r d stands.2 e,
  );
  left = λ xs t r stands. has_labels dia old xs r stands.2;
  verdict = λ xs t at n r stands name unread. says dia old (feed_sign (feeding dia) t at n r) xs t at n r stands.2 (verdict dia old xs t at n r stands.0 stands.1 (proper_sign t name) unread);
  behind = λ xs t u r k stands h f. behind_clear dia old xs t u r k stands.0 h f;
  beyond = λ xs t ys s u r k stands h whole f. behind_none dia old xs t ys r stands.0 h whole (there_of dia old (xs ++ (t ∷ ys)) s u k f);
}

pub begins : (dia : Dialect) (old : Names_data) (t : Sign) → At dia old [] t (start_of_part dia old)
begins dia old t = (λ E Q k. k, place_first dia, tracks_first dia old)

-- ---- the first fault is told, and no other one

pub told : (dia : Dialect) (old : Names_data) (bytes : List ℕ) (at : ℕ) (ls : List Lexeme) (e : TextFault) → Lexed bytes at ls → read_all (feeding dia) (Ok (start_of_part dia old)) ls ≡ Err e
    → FirstFault dia old bytes at e.kind e.at
told dia old bytes at ls e h f =
    first_of (FaultAt dia old) (HasLabels dia old) bytes at ls e (last_of (feeding dia) (start_of_part dia old) (Ok (start_of_part dia old)) ls) h
    (found (judges dia old) (start_of_part dia old) bytes at ls e (begins dia old) h f)

abbrev names : List (List ℕ) → List (List ℕ) → Names_data
names roles labels = record { roles = roles; labels = labels }

-- the names that a machine leaves
pub leaves : (old new : Names_data) (bytes : List ℕ) (at : ℕ) (ls : List Lexeme) (e : TextFault) → Lexed bytes at ls → read_all (feeding Acts) (Ok (start_of_part Acts old)) ls ≡ Err e
    → new.roles ≡ old.roles → (last_of (feeding Acts) (start_of_part Acts old) (Ok (start_of_part Acts old)) ls).labels ≡ new.labels → LeavesNames old new bytes at e.kind e.at
leaves old new bytes at ls e h f roles labels =
    let x = found (judges Acts old) (start_of_part Acts old) bytes at ls e (begins Acts old) h f in (
      first_of (FaultAt Acts old) (HasLabels Acts old) bytes at ls e (last_of (feeding Acts) (start_of_part Acts old) (Ok (start_of_part Acts old)) ls) h x,
      ap (λ z. names z new.labels) roles ∙ ap (λ z. names old.roles z) (sym labels ∙ x.left),
    )

answered_err : (x : Result (Reading Reader_data) TextFault) (e : TextFault) → answer_of_reading x ≡ Err e → x ≡ Err e
answered_err (Ok x) e h = cc
answered_err (Err g) e h = cc

-- whatever fault the reader tells is the first fault of the text
pub first_fault : (dia : Dialect) (old : Names_data) (bytes : List ℕ) (at : ℕ) (e : TextFault) → at ≤ length bytes → ReadsAs dia old bytes at (Err e) → FirstFault dia old bytes at e.kind e.at
first_fault dia old bytes at e within h =
    let t = tokens bytes at within in
    told dia old bytes at t.0 e t.1 (answered_err (read_all (feeding dia) (Ok (start_of_part dia old)) t.0) e (h t.0 t.1))

answered_ok : (x : Result (Reading Reader_data) TextFault) (a : PartAnswer) → answer_of_reading x ≡ Ok a → (y : Reading Reader_data) × (x ≡ Ok y)
answered_ok (Ok y) a h = (y, refl)
answered_ok (Err e) a h = cc

-- what is read has no first fault
pub no_fault : (dia : Dialect) (old : Names_data) (bytes : List ℕ) (at : ℕ) (a : PartAnswer) (k : TextKind) (offset : ℕ) → ReadsAs dia old bytes at (Ok a) → FirstFault dia old bytes at k offset → ⊥
no_fault dia old bytes at a k offset h f =
    let ls : List Lexeme = f.before ++ f.token ∷ f.others in
    let x = answered_ok (read_all (feeding dia) (Ok (start_of_part dia old)) ls) a (h ls f.lexed) in
    judging.no_fault (judges dia old) (start_of_part dia old) bytes at x.0 k offset f (begins dia old) x.1

-- the first fault of a text is told
pub tells : (dia : Dialect) (old : Names_data) (bytes : List ℕ) (at : ℕ) (k : TextKind) (offset : ℕ) → FirstFault dia old bytes at k offset
    → ReadsAs dia old bytes at (Err (record { kind = k; at = offset }))
tells dia old bytes at k offset f = λ ls h. ap answer_of_reading (judging.tells (judges dia old) (start_of_part dia old) bytes at k offset (begins dia old) f ls h)

-- a text has one first fault at most
pub one_fault : (dia : Dialect) (old : Names_data) (bytes : List ℕ) (at : ℕ) (j k : TextKind) (n i : ℕ) → FirstFault dia old bytes at j n → FirstFault dia old bytes at k i → (j ≡ k) × (n ≡ i)
one_fault dia old bytes at j k n i f g = judging.one_fault (judges dia old) (start_of_part dia old) bytes at j k n i (begins dia old) f g

-- the tokens before the first fault begin a part
pub begins_before : (dia : Dialect) (old : Names_data) (bytes : List ℕ) (at : ℕ) (k : TextKind) (offset : ℕ) (f : FirstFault dia old bytes at k offset) → Begins dia (signs_of f.before)
begins_before dia old bytes at k offset f = begins_there dia (signs_of f.before) (there_of dia old (signs_of f.before) f.token.sign (sign_after (signs_of f.others)) k f.fault)

-- ---- what is expected

calm_name : (found : Option ℕ) (count : ℕ) (j : TextKind) → fault_of_name found count ≡ Some j → NotExpected j
calm_name None count j e = let same : kind.UnboundName ≡ j = cc in subst NotExpected same tt
calm_name (Some k) count j e = calm_not (nat_lt k count) kind.Unguarded j None tt (λ f. absurd (cc f)) e

calm_first : (dia : Dialect) (word : List ℕ) (s : Scene) (j : TextKind) → fault_of_first dia word s ≡ Some j → NotExpected j
calm_first dia word s j e =
    calm_not (is_among word s.roles) kind.UnknownRole j (if nat_le (most dia) s.acts then Some kind.TooManyNodes else None) tt
    (λ f. calm_if (nat_le (most dia) s.acts) kind.TooManyNodes j None tt (λ g. absurd (cc g)) f) e

calm_word : (dia : Dialect) (v : Sign) (f : Follower dia v) (word : List ℕ) (s : Scene) (j : TextKind) → fault_of_word dia word v s ≡ Some j → NotExpected j
calm_word dia _ (a_turn v h) word s j e = calm_first dia word s j (sym (by_turn_fault dia v word s h) ∙ e)
calm_word dia _ (a_broken k) word s j e = absurd (cc e)
calm_word dia _ (a_name v h) word s j e = calm_name (nearest_binding word s.bound) s.acts j (sym (by_name_fault dia v word s h) ∙ e)

calm_label : (l : List ℕ) (s : Scene) (j : TextKind) → fault_of_label l s ≡ Some j → NotExpected j
calm_label l s j e = calm_none (is_among l s.labels) (λ f. calm_if (nat_le 256 (length s.labels)) kind.TooManyLabels j None tt (λ g. absurd (cc g)) f) e

calm_by : (dia : Dialect) (w : Wanted) (t n : Sign) (s : Scene) (j : TextKind) → fault_by dia w t n s ≡ Some j → NotExpected j
calm_by dia wanted.Body rec_word n s j e = calm_if (nat_le 200 s.depth) kind.TooDeep j None tt (λ g. absurd (cc g)) e
calm_by dia wanted.Body (plain word) n s j e = calm_word dia n (follower dia n) word s j e
calm_by dia wanted.Body _ n s j e = absurd (cc e)
calm_by dia wanted.Role (plain word) n s j e = calm_not (is_among word s.roles) kind.UnknownRole j None tt (λ g. absurd (cc g)) e
calm_by dia wanted.Role _ n s j e = absurd (cc e)
calm_by dia wanted.ColonOrBrace open_brace n s j e = calm_if (nat_le 200 s.depth) kind.TooDeep j None tt (λ g. absurd (cc g)) e
calm_by dia wanted.ColonOrBrace _ n s j e = absurd (cc e)
calm_by dia wanted.LabelOrBrace open_brace n s j e = calm_if (nat_le 200 s.depth) kind.TooDeep j None tt (λ g. absurd (cc g)) e
calm_by dia wanted.LabelOrBrace rec_word n s j e = calm_label (codes "rec") s j e
calm_by dia wanted.LabelOrBrace end_word n s j e = calm_label (codes "end") s j e
calm_by dia wanted.LabelOrBrace (plain word) n s j e = calm_label word s j e
calm_by dia wanted.LabelOrBrace _ n s j e = absurd (cc e)
calm_by dia wanted.Label rec_word n s j e = calm_label (codes "rec") s j e
calm_by dia wanted.Label end_word n s j e = calm_label (codes "end") s j e
calm_by dia wanted.Label (plain word) n s j e = calm_label word s j e
calm_by dia wanted.Label _ n s j e = absurd (cc e)
calm_by dia _ t n s j e = absurd (cc e)

calm_new : (word : List ℕ) (roles : List (List ℕ)) (j : TextKind) → fault_of_new_role word roles ≡ Some j → NotExpected j
calm_new word roles j e =
    calm_if (is_among word roles) kind.NameTwice j (if nat_le 16 (length roles) then Some kind.TooManyRoles else None) tt
    (λ f. calm_if (nat_le 16 (length roles)) kind.TooManyRoles j None tt (λ g. absurd (cc g)) f) e

calm_opening : (dia : Dialect) (old : Names_data) (o : OpeningCut dia) (t : Sign) (j : TextKind) → fault_of_opening dia o t old ≡ Some j → NotExpected j
calm_opening Talks old at_roles t j e = absurd (cc e)
calm_opening Talks old at_first (plain word) j e = calm_new word [] j e
calm_opening Talks old at_first _ j e = absurd (cc e)
calm_opening Talks old (behind_first x) t j e = absurd (cc e)
calm_opening Talks old (at_further x xs) (plain word) j e = calm_new word (x ∷ xs) j e
calm_opening Talks old (at_further x xs) _ j e = absurd (cc e)
calm_opening Talks old (behind_further x y xs) t j e = absurd (cc e)
calm_opening Acts old at_machine t j e = absurd (cc e)
calm_opening Acts old at_role (plain word) j e = calm_not (is_among word old.roles) kind.UnknownRole j None tt (λ g. absurd (cc g)) e
calm_opening Acts old at_role _ j e = absurd (cc e)
calm_opening Acts old (behind_role x) t j e = absurd (cc e)

-- names and limits never make another token expected
calm_of : (dia : Dialect) (old : Names_data) (c : PartCut dia) (t n : Sign) (j : TextKind) → fault_of dia old c t n ≡ Some j → NotExpected j
calm_of dia old (in_opening o) t n j e = calm_opening dia old o t j e
calm_of dia old (in_body x body) t n j e = calm_by dia _ t n _ j e

same_wanted : (v w : Wanted) → kind.Expected v ≡ kind.Expected w → v ≡ w
same_wanted v w h = cc

pub expected_at : (dia : Dialect) (old : Names_data) (xs : List Sign) (t u : Sign) (w : Wanted) → FaultAt dia old xs t u (kind.Expected w) → IsUnexpected dia xs t w
expected_at dia old xs t u w f = elim f [
  | inl x ↦ subst (λ (z : Wanted). IsUnexpected dia xs t z) (sym (same_wanted w x.0 x.1)) x.2
  | inr (inl m) ↦ absurd (calm_of dia old m.place t u (kind.Expected w) m.fault)
  | inr (inr b) ↦ absurd (subst NotExpected (sym b.1) (faulty_calm b.0))
]

-- another token is expected only where the tokens begin no part with this one
pub expected : (dia : Dialect) (old : Names_data) (bytes : List ℕ) (at : ℕ) (w : Wanted) (offset : ℕ) (f : FirstFault dia old bytes at (kind.Expected w) offset)
    → IsUnexpected dia (signs_of f.before) f.token.sign w
expected dia old bytes at w offset f = expected_at dia old (signs_of f.before) f.token.sign (sign_after (signs_of f.others)) w f.fault

-- a fault of a machine leaves one list of names
pub one_left : (old new other : Names_data) (bytes : List ℕ) (at : ℕ) (j k : TextKind) (n o : ℕ) → LeavesNames old new bytes at j n → LeavesNames old other bytes at k o → new ≡ other
one_left old new other bytes at j k n o x y =
    let f : FirstFault Acts old bytes at j n = x.0 in
    let g : FirstFault Acts old bytes at k o = y.0 in
    let same = same_place (FaultAt Acts old) f.before g.before f.token g.token f.others g.others [] j k
    (one_list bytes (f.before ++ f.token ∷ f.others) (g.before ++ g.token ∷ g.others) at f.lexed g.lexed) f.fault f.clear g.fault g.clear in
    x.1 ∙ ap (λ z. names_behind old (signs_of z)) same.0 ∙ sym y.1
