-- Steps: what is drawn for a place of a protocol, whatever body is written for it.
use Rattle.std.specs.Prelude.{◌≡◌, ℕ, ◌<◌, ◌≤◌, List, [], ◌∷◌, ◌++◌, Some, slice_get, Bool, true, false}
use Rattle.rs_model.specs.Data.{Names_data, Protocol_data}
use Rattle.rs_model.specs.declared.graph.Arm.{Arm}
use Rattle.rs_model.specs.declared.graph.Role.{Role}
use Rattle.rs_bodies.specs.declared.dialects.Dialect.TheVariants.{Talks}
use Rattle.rs_bodies.specs.declared.dialects.Head.{Head}
use Rattle.rs_bodies.specs.declared.dialects.Head.TheVariants as head
use Rattle.rs_bodies.specs.declared.places.Place.TheVariants as place
use Rattle.rs_bodies.specs.Canonical.{Draws, DrawsHead, DrawsArms, IsHeadOf}
use Rattle.rs_bodies.specs.Dialects.{BehindRole}
use Rattle.rs_bodies.specs.Places.{choice, places_of_protocol}
use Rattle.rs_bodies.specs.Trees.{Body, Branches}
use Rattle.rs_pictures.specs.Lines.{Says, first_case, next_case, lines_text}
use Rattle.rs_pictures.specs.Sequences.{body_lines, case_lines}

-- no end has a lower number
abbrev pub NoEndBelow : Protocol_data → ℕ → Type 0
NoEndBelow p from = (n : ℕ) → slice_get (places_of_protocol p) n ≡ Some place.End → from ≤ n

-- each talk has a lower number than an end
abbrev pub EndsLast : Protocol_data → Type 0
EndsLast p = (n m : ℕ) (h : Head) (arms : List Arm) → slice_get (places_of_protocol p) n ≡ Some place.End → slice_get (places_of_protocol p) m ≡ Some (choice h arms) → m < n

-- the lines of the place n stand behind the text
abbrev pub AddsPlace : Names_data → Protocol_data → (depth from n : ℕ) → (old new : List ℕ) → Type 0
AddsPlace names p depth from n old new = (body : Body Talks) → Draws Talks names (places_of_protocol p) from n body → new ≡ old ++ lines_text p.roles (body_lines names depth body)

-- the lines of the talk n, without its loop, stand behind the text
abbrev pub AddsTalk : Names_data → Protocol_data → (depth n : ℕ) → (old new : List ℕ) → Type 0
AddsTalk names p depth n old new = (body : Body Talks) → DrawsHead Talks names (places_of_protocol p) n body → new ≡ old ++ lines_text p.roles (body_lines names depth body)

-- which case an alternative is
abbrev pub case_of : Bool → List ℕ → Says
case_of true label = first_case label
case_of false label = next_case label

-- the lines of these alternatives stand behind the text; where there are none nothing was written
abbrev pub AddsCases : Names_data → Protocol_data → (depth from : ℕ) → Role → Role → (first : Bool) → List Arm → (old new : List ℕ) → Type 0
AddsCases names p depth from sender receiver first [] old new = new ≡ old
AddsCases names p depth from sender receiver first (arm ∷ later) old new =
    (s : List ℕ) (t : BehindRole Talks) (branches : Branches Talks) → IsHeadOf Talks names (head.Talk sender receiver) s t → DrawsArms Talks names (places_of_protocol p) from (arm ∷ later) branches
    → new ≡ old ++ lines_text p.roles (case_lines names depth s t (case_of first) branches)
