-- What is written, and what is still to be written, make up the text of the canonical body.
use Rattle.std.proofs.Common.{◌≡◌, ℕ, suc, ◌+◌, ◌<◌, ◌≤◌, List, [], ◌∷◌, ◌++◌, length, codes, Bool, true, false, Option, Some, None, get_or, slice_get, is_some, ◌||◌, nat_lt, refl, sym, ap, ◌∙◌}
use Rattle.std.proofs.Common.{subst, append_assoc, append-nil, length-append, inl, inr, arith}
use Rattle.std.proofs.lemmas.Bool.Decides.{leb_tells}
use Rattle.rs_model.specs.Data.{Names_data}
use Rattle.rs_model.specs.declared.graph.Arm.{Arm}
use Rattle.rs_model.specs.declared.values.Sort.{Sort}
use Rattle.rs_text.proofs.Gaps.{true_or_false}
use Rattle.rs_text.specs.Shown.{arm_text}
use Rattle.rs_text.specs.NamePlaces.{name_at}
use Rattle.rs_bodies.specs.declared.dialects.Dialect.{Dialect}
use Rattle.rs_bodies.specs.declared.dialects.Dialect.TheVariants.{Talks, Acts}
use Rattle.rs_bodies.specs.declared.dialects.Head.{Head}
use Rattle.rs_bodies.specs.declared.dialects.Head.TheVariants as head
use Rattle.rs_bodies.specs.declared.dialects.Mark.{Mark}
use Rattle.rs_bodies.specs.declared.dialects.Mark.TheVariants as mark
use Rattle.rs_bodies.specs.declared.places.Place.{Place}
use Rattle.rs_bodies.specs.declared.places.Place.TheVariants as place
use Rattle.rs_bodies.specs.declared.printing.PlaceToWrite.{PlaceToWrite}
use Rattle.rs_bodies.specs.Canonical.{IsHeadOf, IsPointOf, IsArmOf, Draws, DrawsHead, DrawsArms}
use Rattle.rs_bodies.specs.Dialects.{BehindRole, sends_to, with_mark}
use Rattle.rs_bodies.specs.Places.{choice, name_of_place, IsGoneBackTo}
use Rattle.rs_bodies.specs.Printing.{head_text, label_text, lone_text_of, rec_text, PrintStep, step, braces_with, target, Brace_data, arms_step, whole_step, place_step, brace_step}
use Rattle.rs_bodies.proofs.BackAgain.{AreBack}
use Rattle.rs_bodies.specs.Printing.{Printer_data, next_printer, printer_from, is_left, begins_with}
use Rattle.rs_bodies.specs.Texts.{turn_text, lone_text, body_text, branches_text, mark_text}
use Rattle.rs_bodies.specs.Trees.{Body, ends, again, binds, acts, offers, Branches, one, more}
use Rattle.rs_bodies.proofs.EndsLast.{EndIsLast}

-- ---- what is still to be written

-- the end has no lower number
abbrev pub NoEndBelow : List Place → ℕ → Type 0
NoEndBelow p from = (n : ℕ) → slice_get p n ≡ Some place.End → from ≤ n

-- of the arms in open braces
abbrev ArmsLeft : (dia : Dialect) → Names_data → List Place → ℕ → List Arm → List ℕ → Type 0
ArmsLeft dia names p from [] own = own ≡ codes "}"
ArmsLeft dia names p from (a ∷ others) own = (branches : Branches dia) × DrawsArms dia names p from (a ∷ others) branches × (own ≡ codes ", " ++ (branches_text dia branches ++ codes "}"))

-- of all open braces
abbrev BracesLeft : (dia : Dialect) → Names_data → List Place → List Brace_data → List ℕ → Type 0
BracesLeft dia names p [] text = text ≡ []
BracesLeft dia names p (b ∷ outer) text = (own rest : List ℕ) × NoEndBelow p b.from × ArmsLeft dia names p b.from b.arms own × (text ≡ own ++ rest) × BracesLeft dia names p outer rest

-- of the next node, and then of the braces
abbrev pub NextLeft : (dia : Dialect) → Names_data → List Place → Option PlaceToWrite → List Brace_data → List ℕ → Type 0
NextLeft dia names p None braces text = BracesLeft dia names p braces text
NextLeft dia names p (Some t) braces text =
    (body : Body dia) × (rest : List ℕ) × NoEndBelow p t.from × Draws dia names p t.from t.number body × (text ≡ body_text dia body ++ rest) × BracesLeft dia names p braces rest

-- a step writes a front of it, and the rest is still to be written
abbrev Onward : (dia : Dialect) → Names_data → List Place → PrintStep → List Brace_data → List ℕ → Type 0
Onward dia names p s braces text = (rest : List ℕ) × NextLeft dia names p s.next (s.opened ++ braces) rest × (text ≡ s.written ++ rest)

-- ---- arms

label_is : (names : Names_data) (arm : Arm) (label : List ℕ) (sort : Option Sort) → IsArmOf names label sort arm → label_text names arm ≡ arm_text label sort
label_is names arm label sort h = rw (h.0, h.1) refl

one_shape : (m h b r : List ℕ) → (m ++ (h ++ b)) ++ r ≡ (m ++ h) ++ (b ++ r)
one_shape m h b r = simp append_assoc refl

more_shape : (m h b x r : List ℕ) → (m ++ ((h ++ (b ++ (codes ", " ++ x))) ++ codes "}")) ++ r ≡ (m ++ h) ++ (b ++ ((codes ", " ++ (x ++ codes "}")) ++ r))
more_shape m h b x r = simp append_assoc refl

last_shape : (m h b r : List ℕ) → (m ++ ((h ++ b) ++ codes "}")) ++ r ≡ (m ++ h) ++ (b ++ (codes "}" ++ r))
last_shape m h b r = simp append_assoc refl

-- the only arm
one_onward : (dia : Dialect) (names : Names_data) (p : List Place) (from : ℕ) (a : Arm) (label : List ℕ) (sort : Option Sort) (body : Body dia) (lead rest : List ℕ) (braces : List Brace_data)
    → NoEndBelow p from → IsArmOf names label sort a → Draws dia names p from a.next body → BracesLeft dia names p braces rest
    → Onward dia names p (step (lead ++ label_text names a) [] (target from a.next)) braces ((lead ++ (arm_text label sort ++ body_text dia body)) ++ rest)
one_onward dia names p from a label sort body lead rest braces none is draws left =
    (body_text dia body ++ rest, (body, rest, none, draws, refl, left), (rw (label_is names a label sort is) (one_shape lead (arm_text label sort) (body_text dia body) rest)))

-- an arm before others
more_onward : (dia : Dialect) (names : Names_data) (p : List Place) (from : ℕ) (a b : Arm) (others : List Arm) (label : List ℕ) (sort : Option Sort) (body : Body dia) (arms : Branches dia)
    (lead rest : List ℕ) (braces : List Brace_data) → NoEndBelow p from → IsArmOf names label sort a → Draws dia names p from a.next body → DrawsArms dia names p from (b ∷ others) arms
    → BracesLeft dia names p braces rest
    → Onward dia names p (step (lead ++ label_text names a) (braces_with from (b ∷ others)) (target from a.next)) braces
    ((lead ++ (branches_text dia (more label sort body arms) ++ codes "}")) ++ rest)
more_onward dia names p from a b others label sort body arms lead rest braces none is draws drawn left =
    let own = codes ", " ++ (branches_text dia arms ++ codes "}") in (
      body_text dia body ++ (own ++ rest),
      (body, own ++ rest, none, draws, refl, (own, rest, none, (arms, drawn, refl), refl, left)),
      (rw (label_is names a label sort is)
          (more_shape lead (arm_text label sort) (body_text dia body) (branches_text dia arms) rest)),
    )

-- the last of several
last_onward : (dia : Dialect) (names : Names_data) (p : List Place) (from : ℕ) (a : Arm) (label : List ℕ) (sort : Option Sort) (body : Body dia) (lead rest : List ℕ) (braces : List Brace_data)
    → NoEndBelow p from → IsArmOf names label sort a → Draws dia names p from a.next body → BracesLeft dia names p braces rest
    → Onward dia names p (step (lead ++ label_text names a) (braces_with from []) (target from a.next)) braces ((lead ++ (branches_text dia (one label sort body) ++ codes "}")) ++ rest)
last_onward dia names p from a label sort body lead rest braces none is draws left = (
  body_text dia body ++ (codes "}" ++ rest),
  (body, codes "}" ++ rest, none, draws, refl, (codes "}", rest, none, refl, refl, left)),
  (rw (label_is names a label sort is)
      (last_shape lead (arm_text label sort) (body_text dia body) rest)),
)

-- ---- open braces

further_onward : (dia : Dialect) (arms : List Arm) (branches : Branches dia) (names : Names_data) (p : List Place) (from : ℕ) (a : Arm) (rest : List ℕ) (braces : List Brace_data) → NoEndBelow p from
    → DrawsArms dia names p from (a ∷ arms) branches → BracesLeft dia names p braces rest
    → Onward dia names p (step (codes ", " ++ label_text names a) (braces_with from arms) (target from a.next)) braces ((codes ", " ++ (branches_text dia branches ++ codes "}")) ++ rest)
further_onward dia [] (one label sort body) names p from a rest braces none draws left = last_onward dia names p from a label sort body (codes ", ") rest braces none draws.0 draws.1 left
further_onward dia [] (more label sort body (one _ _ _)) names p from a rest braces none draws left = absurd draws.2
further_onward dia [] (more label sort body (more _ _ _ _)) names p from a rest braces none draws left = absurd draws.2
further_onward dia (b ∷ others) (one label sort body) names p from a rest braces none draws left = absurd draws
further_onward dia (b ∷ others) (more label sort body arms) names p from a rest braces none draws left =
    more_onward dia names p from a b others label sort body arms (codes ", ") rest braces none draws.0 draws.1 draws.2 left

brace_onward : (dia : Dialect) (arms : List Arm) (names : Names_data) (p : List Place) (from : ℕ) (own rest : List ℕ) (braces : List Brace_data) → NoEndBelow p from
    → ArmsLeft dia names p from arms own → BracesLeft dia names p braces rest → Onward dia names p (brace_step names (record { from = from; arms = arms })) braces (own ++ rest)
brace_onward dia [] names p from own rest braces none h left = (rest, left, ap (λ z. z ++ rest) h)
brace_onward dia (a ∷ arms) names p from own rest braces none h left = rw h.2 (further_onward dia arms h.0 names p from a rest braces none h.1 left)

-- ---- heads

first_onward : (dia : Dialect) (arms : List Arm) (branches : Branches dia) (names : Names_data) (p : List Place) (lone : List ℕ) (from : ℕ) (a b : Arm) (rest : List ℕ) (braces : List Brace_data)
    → NoEndBelow p from → DrawsArms dia names p from (a ∷ b ∷ arms) branches → BracesLeft dia names p braces rest
    → Onward dia names p (arms_step names lone from (a ∷ b ∷ arms)) braces ((codes "{" ++ (branches_text dia branches ++ codes "}")) ++ rest)
first_onward dia others (one label sort body) names p lone from a b rest braces none draws left = absurd draws
first_onward dia others (more label sort body arms) names p lone from a b rest braces none draws left =
    more_onward dia names p from a b others label sort body arms (codes "{") rest braces none draws.0 draws.1 draws.2 left

head_is : (dia : Dialect) (names : Names_data) (h : Head) (s : List ℕ) (t : BehindRole dia) → IsHeadOf dia names h s t → head_text names h ≡ s ++ turn_text dia t
head_is Talks names (head.Talk x y) s (sends_to r) h = rw (h.0, h.1) refl
head_is Talks names (head.Act x m) s t h = absurd h
head_is Acts names (head.Talk x y) s t h = absurd h
head_is Acts names (head.Act x m) s (with_mark w) h = rw (h.0, h.1) refl

lone_is : (dia : Dialect) (names : Names_data) (h : Head) (s : List ℕ) (t : BehindRole dia) → IsHeadOf dia names h s t → lone_text_of h ≡ lone_text dia
lone_is Talks names (head.Talk x y) s t h = refl
lone_is Talks names (head.Act x m) s t h = absurd h
lone_is Acts names (head.Talk x y) s t h = absurd h
lone_is Acts names (head.Act x m) s t h = refl

head_shape : (c s m x w rest : List ℕ) → x ≡ w ++ rest → c ++ (s ++ (m ++ x)) ≡ ((c ++ (s ++ m)) ++ w) ++ rest
head_shape c s m x w rest h = rw h (simp append_assoc refl)

-- what stands behind a head
behind_head : (dia : Dialect) (names : Names_data) (p : List Place) (back : Bool) (n : ℕ) (s : List ℕ) (t : BehindRole dia) (arms : List Arm) (braces : List Brace_data) (text : List ℕ)
    → (is : IsPointOf dia names p n s t arms) → Onward dia names p (arms_step names (lone_text_of is.head) (n + 1) arms) braces text
    → Onward dia names p (whole_step names back n (slice_get p n)) braces (rec_text back n ++ (s ++ (turn_text dia t ++ text)))
behind_head dia names p back n s t arms braces text is h =
    rw is.stands (h.0, h.1, rw (head_is dia names is.head s t is.named) (head_shape (rec_text back n) s (turn_text dia t) text (arms_step names (lone_text_of is.head) (n + 1) arms).written h.0 h.2))

pair_shape : (c s m x rest : List ℕ) → c ++ ((s ++ (m ++ x)) ++ rest) ≡ c ++ (s ++ (m ++ (x ++ rest)))
pair_shape c s m x rest = simp append_assoc refl

head_onward : (dia : Dialect) (body : Body dia) (names : Names_data) (p : List Place) (back : Bool) (n : ℕ) (rest : List ℕ) (braces : List Brace_data) → NoEndBelow p (n + 1)
    → DrawsHead dia names p n body → BracesLeft dia names p braces rest
    → Onward dia names p (whole_step names back n (slice_get p n)) braces (rec_text back n ++ (body_text dia body ++ rest))
head_onward dia (acts s t label sort body) names p back n rest braces none h left =
    rw (pair_shape (rec_text back n) s (turn_text dia t) (lone_text dia ++ (arm_text label sort ++ body_text dia body)) rest)
    (subst (λ z. Onward dia names p (whole_step names back n (slice_get p n)) braces (rec_text back n ++ (s ++ (turn_text dia t ++ ((z ++ (arm_text label sort ++ body_text dia body)) ++ rest)))))
    (lone_is dia names h.1.head s t h.1.named)
    (behind_head dia names p back n s t (h.0 ∷ []) braces ((lone_text_of h.1.head ++ (arm_text label sort ++ body_text dia body)) ++ rest) h.1
    (one_onward dia names p (n + 1) h.0 label sort body (lone_text_of h.1.head) rest braces none h.2 h.3 left)))
head_onward dia (offers s t arms) names p back n rest braces none h left =
    rw (pair_shape (rec_text back n) s (turn_text dia t) (codes "{" ++ (branches_text dia arms ++ codes "}")) rest)
    (behind_head dia names p back n s t (h.0 ∷ h.1 ∷ h.2) braces ((codes "{" ++ (branches_text dia arms ++ codes "}")) ++ rest) h.3
    (first_onward dia h.2 arms names p (lone_text_of h.3.head) (n + 1) h.0 h.1 rest braces none h.4 left))
head_onward dia ends names p back n rest braces none h left = absurd h
head_onward dia (again name) names p back n rest braces none h left = absurd h
head_onward dia (binds name body) names p back n rest braces none h left = absurd h

-- ---- places

none_below : (p : List Place) (n : ℕ) (h : Head) (arms : List Arm) → EndIsLast p → slice_get p n ≡ Some (choice h arms) → NoEndBelow p (n + 1)
none_below p n h arms last stands m e = let k : n < m = last m n h arms e stands in omega arith

drawn_none : (dia : Dialect) (body : Body dia) (names : Names_data) (p : List Place) (n : ℕ) → EndIsLast p → DrawsHead dia names p n body → NoEndBelow p (n + 1)
drawn_none dia (acts s t label sort body) names p n last h = none_below p n h.1.head (h.0 ∷ []) last h.1.stands
drawn_none dia (offers s t arms) names p n last h = none_below p n h.3.head (h.0 ∷ h.1 ∷ h.2) last h.3.stands
drawn_none dia ends names p n last h = absurd h
drawn_none dia (again name) names p n last h = absurd h
drawn_none dia (binds name body) names p n last h = absurd h

-- the node isn't below `from`, and its flag is known
drawn_onward : (dia : Dialect) (body : Body dia) (names : Names_data) (p : List Place) (flags : List Bool) (t : PlaceToWrite) (back : Bool) (rest : List ℕ) (braces : List Brace_data) → EndIsLast p
    → t.from ≤ t.number → get_or flags t.number false ≡ back → DrawsHead dia names p t.number body → BracesLeft dia names p braces rest
    → Onward dia names p (place_step names p flags t) braces (rec_text back t.number ++ (body_text dia body ++ rest))
drawn_onward dia body names p flags t back rest braces last whole flag h left = elim (leb_tells (suc t.number) t.from) [
  | inl e ↦ absurd (let k = e.1 in omega arith)
  | inr e ↦ rw (e.0, flag) (head_onward dia body names p back t.number rest braces (drawn_none dia body names p t.number last h) h left)
]

end_onward : (dia : Dialect) (names : Names_data) (p : List Place) (flags : List Bool) (t : PlaceToWrite) (rest : List ℕ) (braces : List Brace_data) → t.from ≤ t.number
    → slice_get p t.number ≡ Some place.End → BracesLeft dia names p braces rest
    → Onward dia names p (place_step names p flags t) braces (codes "end" ++ rest)
end_onward dia names p flags t rest braces whole h left = elim (leb_tells (suc t.number) t.from) [
  | inl e ↦ absurd (let k = e.1 in omega arith)
  | inr e ↦ rw (e.0, h) (rest, left, refl)
]

name_onward : (dia : Dialect) (names : Names_data) (p : List Place) (flags : List Bool) (t : PlaceToWrite) (rest : List ℕ) (braces : List Brace_data) → t.number < t.from
    → BracesLeft dia names p braces rest
    → Onward dia names p (place_step names p flags t) braces (name_of_place t.number ++ rest)
name_onward dia names p flags t rest braces below left = elim (leb_tells (suc t.number) t.from) [
  | inl e ↦ rw e.0 (rest, left, refl)
  | inr e ↦ absurd (let k = e.1 in omega arith)
]

no_flag : (p : List Place) (flags : List Bool) (n : ℕ) → AreBack p flags → (IsGoneBackTo p n → ⊥) → get_or flags n false ≡ false
no_flag p flags n back h = elim (true_or_false (get_or flags n false)) [
  | inl e ↦ absurd (h ((back n).0 e))
  | inr e ↦ e
]

rec_shape : (x b rest : List ℕ) → (codes "rec " ++ (x ++ (codes ". " ++ b))) ++ rest ≡ (codes "rec " ++ (x ++ codes ". ")) ++ (b ++ rest)
rec_shape x b rest = simp append_assoc refl

place_onward : (dia : Dialect) (body : Body dia) (names : Names_data) (p : List Place) (flags : List Bool) (t : PlaceToWrite) (rest : List ℕ) (braces : List Brace_data) → EndIsLast p → AreBack p flags
    → NoEndBelow p t.from → Draws dia names p t.from t.number body → BracesLeft dia names p braces rest
    → Onward dia names p (place_step names p flags t) braces (body_text dia body ++ rest)
place_onward dia ends names p flags t rest braces last back none h left = end_onward dia names p flags t rest braces (none t.number h) h left
place_onward dia (again name) names p flags t rest braces last back none h left = rw h.1 (name_onward dia names p flags t rest braces h.0 left)
place_onward dia (binds name body) names p flags t rest braces last back none h left =
    rw (h.1, rec_shape (name_of_place t.number) (body_text dia body) rest)
    (drawn_onward dia body names p flags t true rest braces last h.0 ((back t.number).1 h.2) h.3 left)
place_onward dia (acts s w label sort body) names p flags t rest braces last back none h left =
    drawn_onward dia (acts s w label sort body) names p flags t false rest braces last h.0 (no_flag p flags t.number back h.1) h.2 left
place_onward dia (offers s w arms) names p flags t rest braces last back none h left =
    drawn_onward dia (offers s w arms) names p flags t false rest braces last h.0 (no_flag p flags t.number back h.1) h.2 left

-- ---- the printer

abbrev Whole : (dia : Dialect) → Names_data → List Place → Printer_data → List ℕ → Type 0
Whole dia names p d whole = (left : List ℕ) × NextLeft dia names p d.next d.braces left × (d.text ++ left ≡ whole)

-- how the printer stands, which began behind the text `start`
pub record Goes (dia : Dialect) (names : Names_data) (p : List Place) (root : ℕ) (start : List ℕ) (d : Printer_data) : Type 0 where
  pub names_are : d.names ≡ names
  pub back : AreBack p d.flags
  pub whole : (body : Body dia) → Draws dia names p 0 root body → Whole dia names p d (start ++ body_text dia body)

pub goes_first : (dia : Dialect) (names : Names_data) (p : List Place) (root : ℕ) (flags : List Bool) (start : List ℕ) → AreBack p flags
    → Goes dia names p root start (begins_with names root flags start)
goes_first dia names p root flags start back = record {
  names_are = refl;
  back = back;
  whole = λ body draws. (body_text dia body ++ [], (body, [], (λ n e. omega arith), draws, refl, refl), ap (λ z. start ++ z) (append-nil (body_text dia body)));
}

moved : (dia : Dialect) (names : Names_data) (p : List Place) (s : PrintStep) (text whole left : List ℕ) (braces : List Brace_data) → text ++ left ≡ whole → Onward dia names p s braces left
    → (rest : List ℕ) × NextLeft dia names p s.next (s.opened ++ braces) rest × ((text ++ s.written) ++ rest ≡ whole)
moved dia names p s text whole left braces e h = (h.0, h.1, append_assoc text s.written h.0 ∙ ap (λ z. text ++ z) (sym h.2) ∙ e)

turn_whole : (dia : Dialect) (next : Option PlaceToWrite) (braces : List Brace_data) (p : List Place) (d : Printer_data) (whole left : List ℕ) → EndIsLast p → AreBack p d.flags
    → NextLeft dia d.names p next braces left → d.text ++ left ≡ whole → d.braces ≡ braces → d.next ≡ next
    → Whole dia d.names p (printer_from p next braces d) whole
turn_whole dia (Some t) braces p d whole left last back h e b n =
    let s = place_step d.names p d.flags t in
    rw b (moved dia d.names p s d.text whole left braces e (rw h.4 (place_onward dia h.0 d.names p d.flags t h.1 braces last back h.2 h.3 h.5)))
turn_whole dia None (brace ∷ outer) p d whole left last back h e b n =
    moved dia d.names p (brace_step d.names brace) d.text whole left outer e (rw h.4 (brace_onward dia brace.arms d.names p brace.from h.0 h.1 outer h.2 h.3 h.5))
turn_whole dia None [] p d whole left last back h e b n = (left, rw (b, n) h, e)

abbrev Kept : Printer_data → Printer_data → Type 0
Kept d e = (e.names ≡ d.names) × (e.flags ≡ d.flags)

turn_keeps : (p : List Place) (next : Option PlaceToWrite) (braces : List Brace_data) (d : Printer_data) → Kept d (printer_from p next braces d)
turn_keeps p (Some t) braces d = (refl, refl)
turn_keeps p None (brace ∷ outer) d = (refl, refl)
turn_keeps p None [] d = (refl, refl)

-- each step keeps it
pub goes_on : (dia : Dialect) (names : Names_data) (p : List Place) (root : ℕ) (start : List ℕ) (d : Printer_data) → EndIsLast p → Goes dia names p root start d
    → Goes dia names p root start (next_printer p d)
goes_on dia names p root start d last g =
    let k = turn_keeps p d.next d.braces d in
    record {
      names_are = k.0 ∙ g.names_are;
      back = subst (λ flags. AreBack p flags) (sym k.1) g.back;
      whole = λ body draws.
          let w = g.whole body draws in
          subst (λ (n : Names_data). Whole dia n p (next_printer p d) (start ++ body_text dia body)) g.names_are
          (turn_whole dia d.next d.braces p d (start ++ body_text dia body) w.0 last g.back (subst (λ (n : Names_data). NextLeft dia n p d.next d.braces w.0) (sym g.names_are) w.1) w.2 refl refl);
    }

nothing_left : (dia : Dialect) (next : Option PlaceToWrite) (braces : List Brace_data) (names : Names_data) (p : List Place) (left : List ℕ) → (is_some next || nat_lt 0 (length braces)) ≡ false
    → NextLeft dia names p next braces left → left ≡ []
nothing_left dia None [] names p left h k = k
nothing_left dia None (brace ∷ outer) names p left h k = elim (leb_tells 1 (length (brace ∷ outer))) [
  | inl e ↦ absurd (cc (e.0, h))
  | inr e ↦ absurd (let m = e.1 in omega arith)
]
nothing_left dia (Some t) braces names p left h k = absurd (cc h)

-- at the end the text is whole
pub goes_to : (dia : Dialect) (names : Names_data) (p : List Place) (root : ℕ) (start : List ℕ) (d : Printer_data) → Goes dia names p root start d → is_left d ≡ false → (body : Body dia)
    → Draws dia names p 0 root body → d.text ≡ start ++ body_text dia body
goes_to dia names p root start d g h body draws =
    let w = g.whole body draws in
    let none : w.0 ≡ [] = nothing_left dia d.next d.braces names p w.0 h w.1 in
    sym (append-nil d.text) ∙ ap (λ z. d.text ++ z) (sym none) ∙ w.2

-- ---- each step writes something

longer : (xs ys : List ℕ) → 0 < length ys → length xs < length (xs ++ ys)
longer xs ys h = let e = length-append xs ys in omega arith

front_some : (xs ys : List ℕ) → 0 < length xs → 0 < length (xs ++ ys)
front_some xs ys h = let e = length-append xs ys in omega arith

back_some : (xs ys : List ℕ) → 0 < length ys → 0 < length (xs ++ ys)
back_some xs ys h = let e = length-append xs ys in omega arith

mark_some : (m : Mark) → 0 < length (mark_text m)
mark_some mark.Puts = omega arith
mark_some mark.Takes = omega arith

head_writes : (names : Names_data) (h : Head) → 0 < length (head_text names h)
head_writes names (head.Talk x y) = back_some (name_at names.roles x.0) (codes "->" ++ name_at names.roles y.0) (omega arith)
head_writes names (head.Act x m) = back_some (name_at names.roles x.0) (mark_text m) (mark_some m)

whole_writes : (x : Option Place) (names : Names_data) (back : Bool) (n : ℕ) → 0 < length (whole_step names back n x).written
whole_writes None names back n = omega arith
whole_writes (Some place.End) names back n = omega arith
whole_writes (Some (place.Point x)) names back n =
    front_some (rec_text back n ++ head_text names x.head) (arms_step names (lone_text_of x.head) (n + 1) x.arms).written
    (back_some (rec_text back n) (head_text names x.head) (head_writes names x.head))

place_writes : (names : Names_data) (p : List Place) (flags : List Bool) (t : PlaceToWrite) → 0 < length (place_step names p flags t).written
place_writes names p flags t = elim (leb_tells (suc t.number) t.from) [
  | inl e ↦ rw e.0 (omega arith)
  | inr e ↦ rw e.0 (whole_writes (slice_get p t.number) names (get_or flags t.number false) t.number)
]

further_writes : (arms : List Arm) (names : Names_data) (from : ℕ) → 0 < length (brace_step names (record { from = from; arms = arms })).written
further_writes [] names from = omega arith
further_writes (a ∷ arms) names from = omega arith

turn_writes : (p : List Place) (next : Option PlaceToWrite) (braces : List Brace_data) (d : Printer_data) → (is_some next || nat_lt 0 (length braces)) ≡ true
    → length d.text < length (printer_from p next braces d).text
turn_writes p (Some t) braces d h = longer d.text (place_step d.names p d.flags t).written (place_writes d.names p d.flags t)
turn_writes p None (brace ∷ outer) d h = longer d.text (brace_step d.names brace).written (further_writes brace.arms d.names brace.from)
turn_writes p None [] d h = absurd (cc h)

pub turned_longer : (p : List Place) (d : Printer_data) → is_left d ≡ true → length d.text < length (next_printer p d).text
turned_longer p d h = turn_writes p d.next d.braces d h
