-- Steps: how the body of a canonical text is written, step by step: braces that are open are kept on a stack.
use Rattle.std.specs.Prelude.{ℕ, ◌+◌, List, [], ◌∷◌, ◌++◌, codes, length, Option, Some, None, Bool, true, false, get_or, replicate, slice_get, slice_set, nat_lt, nat_le, ◌&&◌, ◌||◌, is_some}
use Rattle.std.specs.Prelude.{if◌then◌else◌}
use Rattle.rs_model.specs.Data.{Names_data}
use Rattle.rs_model.specs.declared.graph.Arm.{Arm}
use Rattle.rs_text.specs.Shown.{shown_sort, arm_text}
use Rattle.rs_text.specs.NamePlaces.{name_at}
use Rattle.rs_bodies.specs.declared.dialects.Dialect.TheVariants.{Talks, Acts}
use Rattle.rs_bodies.specs.declared.dialects.Head.{Head}
use Rattle.rs_bodies.specs.declared.dialects.Head.TheVariants as head
use Rattle.rs_bodies.specs.declared.places.Place.{Place}
use Rattle.rs_bodies.specs.declared.places.Place.TheVariants as place
use Rattle.rs_bodies.specs.declared.printing.PlaceToWrite.{PlaceToWrite}
use Rattle.rs_bodies.specs.Places.{name_of_place}
use Rattle.rs_bodies.specs.Texts.{mark_text, lone_text}

-- ---- which places are gone back to

-- with a flag at each place that an arm of this place leads to, where it isn't behind the place
abbrev pub flags_behind_arms : ℕ → List Arm → List Bool → List Bool
flags_behind_arms n [] flags = flags
flags_behind_arms n (a ∷ more) flags = flags_behind_arms n more (if nat_le a.next n && nat_lt a.next (length flags) then slice_set flags a.next true else flags)

-- the flags with those of what stands at the number n
abbrev pub marked_place : ℕ → Place → List Bool → List Bool
marked_place n place.End flags = flags
marked_place n (place.Point p) flags = flags_behind_arms n p.arms flags

-- the flags with those of what stands there, where anything does
abbrev pub flags_behind_place : ℕ → Option Place → List Bool → List Bool
flags_behind_place n None flags = flags
flags_behind_place n (Some p) flags = marked_place n p flags

-- the same of all places, of which the first has the number n
abbrev pub flags_behind_places : ℕ → List Place → List Bool → List Bool
flags_behind_places n [] flags = flags
flags_behind_places n (p ∷ places) flags = flags_behind_places (n + 1) places (marked_place n p flags)

-- for each place whether an arm of it or of a later one leads to it
abbrev pub back_flags : List Place → List Bool
back_flags places = flags_behind_places 0 places (replicate (length places) false)

-- ---- pieces of text

-- a head before its arms
abbrev pub head_text : Names_data → Head → List ℕ
head_text names (head.Talk sender receiver) = name_at names.roles sender.0 ++ (codes "->" ++ name_at names.roles receiver.0)
head_text names (head.Act peer m) = name_at names.roles peer.0 ++ mark_text m

-- what stands between a head and its only arm
abbrev pub lone_text_of : Head → List ℕ
lone_text_of (head.Talk sender receiver) = lone_text Talks
lone_text_of (head.Act peer m) = lone_text Acts

-- `label(sort). `
abbrev pub label_text : Names_data → Arm → List ℕ
label_text names arm = arm_text (name_at names.labels arm.label.0) (shown_sort arm.sort)

-- `rec Xn. `
abbrev pub rec_text : Bool → ℕ → List ℕ
rec_text true n = codes "rec " ++ (name_of_place n ++ codes ". ")
rec_text false n = []

-- ---- steps

-- braces that are open: the number from which on places are written whole, and the arms still to be written
pub record Brace_data : Type 0 where
  pub from : ℕ
  pub arms : List Arm

-- what is written, which braces are opened by it, and which place is to be written next
pub record PrintStep : Type 0 where
  pub written : List ℕ
  pub opened : List Brace_data
  pub next : Option PlaceToWrite

-- the step that writes this, opens these braces and goes on there
abbrev pub step : List ℕ → List Brace_data → Option PlaceToWrite → PrintStep
step written opened next = record { written = written; opened = opened; next = next }

-- braces in which these arms are still to be written
abbrev pub braces_with : ℕ → List Arm → List Brace_data
braces_with from arms = record { from = from; arms = arms } ∷ []

-- that place is to be written next
abbrev pub target : ℕ → ℕ → Option PlaceToWrite
target from number = Some (record { from = from; number = number })

-- the arms behind a head, where a single one stands behind `lone`: the first one of several opens braces
abbrev pub arms_step : Names_data → (lone : List ℕ) → ℕ → List Arm → PrintStep
arms_step names lone from [] = step (codes "{}") [] None
arms_step names lone from (only ∷ []) = step (lone ++ label_text names only) [] (target from only.next)
arms_step names lone from (a ∷ b ∷ more) = step (codes "{" ++ label_text names a) (braces_with from (b ∷ more)) (target from a.next)

-- a head with its arms
abbrev pub point_step : Names_data → Bool → ℕ → Head → List Arm → PrintStep
point_step names back n h arms = let s = arms_step names (lone_text_of h) (n + 1) arms in step ((rec_text back n ++ head_text names h) ++ s.written) s.opened s.next

-- a place that is written whole
abbrev pub whole_step : Names_data → Bool → ℕ → Option Place → PrintStep
whole_step names back n None = step (codes "end") [] None
whole_step names back n (Some place.End) = step (codes "end") [] None
whole_step names back n (Some (place.Point p)) = point_step names back n p.head p.arms

-- a place: below `from` by its name
abbrev pub place_step : Names_data → List Place → List Bool → PlaceToWrite → PrintStep
place_step names places flags t = if nat_lt t.number t.from then step (name_of_place t.number) [] None else whole_step names (get_or flags t.number false) t.number (slice_get places t.number)

-- what comes next in open braces: a further arm, or their end
abbrev further_step : Names_data → ℕ → List Arm → PrintStep
further_step names from [] = step (codes "}") [] None
further_step names from (a ∷ more) = step (codes ", " ++ label_text names a) (braces_with from more) (target from a.next)

-- the next step in these braces
abbrev pub brace_step : Names_data → Brace_data → PrintStep
brace_step names brace = further_step names brace.from brace.arms

-- how far the writing has come: the text, the place to be written next, and the open braces, of which the inner ones
-- stand first
pub record Printer_data : Type 0 where
  pub names : Names_data
  pub flags : List Bool
  pub text : List ℕ
  pub next : Option PlaceToWrite
  pub braces : List Brace_data

-- the printer behind that step
abbrev pub printer_behind : PrintStep → Printer_data → Printer_data
printer_behind s p = record p { text = p.text ++ s.written; next = s.next; braces = s.opened ++ p.braces }

-- one step on: the next place, or what comes next in the innermost braces
abbrev pub printer_from : List Place → Option PlaceToWrite → List Brace_data → Printer_data → Printer_data
printer_from places (Some t) braces p = printer_behind (place_step p.names places p.flags t) p
printer_from places None (brace ∷ outer) p = printer_behind (brace_step p.names brace) (record p { braces = outer })
printer_from places None [] p = p

-- where the printer goes on from where it stands
abbrev pub next_printer : List Place → Printer_data → Printer_data
next_printer places p = printer_from places p.next p.braces p

-- whether anything is left to be written
abbrev pub is_left : Printer_data → Bool
is_left p = is_some p.next || nat_lt 0 (length p.braces)

-- the printer before the first step, behind that text
abbrev pub begins_with : Names_data → (root : ℕ) → List Bool → List ℕ → Printer_data
begins_with names root flags text = record { names = names; flags = flags; text = text; next = target 0 root; braces = [] }
