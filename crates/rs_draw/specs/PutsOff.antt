-- Public: how many acts a role's machine puts off at each of its states, where the search accepts it.
use Rattle.std.specs.Prelude.{◌≡◌, ◌==◌, ◌-◌, ℕ, List, length, map, if◌then◌else◌, Option, Some, None, slice_get}
use Rattle.rs_model.specs.Data.{Machine_data, Names_data}
use Rattle.rs_model.specs.Faults.{first_fault}
use Rattle.rs_model.specs.declared.limits.TheConstants.{DEFAULT_BOUND}
use Rattle.rs_model.specs.declared.machines.Act.{Act}
use Rattle.rs_model.specs.declared.machines.State.{State}
use Rattle.rs_project.specs.Data.{Projection_data}
use Rattle.rs_derive.specs.Data.{DNode_data, Derivation_data}
use Rattle.rs_derive.specs.Figures.{greatest}
use Rattle.rs_derive.specs.Rules.{rule_at}
use Rattle.rs_derive.specs.declared.rules.Rule.{Rule}
use Rattle.rs_derive.specs.declared.rules.Rule.TheVariants.{Pays, SendsBoth}
use Rattle.rs_search.specs.Canonical.{IsCanonical}
use Rattle.rs_documents.specs.Data.{Document_data}
use Rattle.rs_answers.specs.Data.{Answer_data}
use Rattle.rs_answers.specs.Sessions.{HasProjections}
use Rattle.rs_answers.specs.declared.verdicts.Verdict.TheVariants.{Fine}
use Rattle.rs_pictures.specs.Machines.{machine_picture, machine_picture_with}

-- how many of the pending acts are still owed after the act that the machine makes by the rule; 0 if it makes none
abbrev pub left_by : List Act → Option Rule → ℕ
left_by pending (Some (Pays place arm)) = length pending - 1
left_by pending (Some SendsBoth) = length pending
left_by pending _ = 0

-- the same by the rule for a state of the machine and one of the projection, if there are both
abbrev pub left_between : List Act → Option State → Option State → ℕ
left_between pending (Some s) (Some t) = left_by pending (rule_at pending s (Some t))
left_between pending _ _ = 0

-- the same at the node, if it has this state of the machine; 0 otherwise
abbrev pub left_at : Machine_data → Machine_data → ℕ → DNode_data → ℕ
left_at sub above state node = if node.state == state then left_between node.pending (slice_get sub.states node.state) (slice_get above.states node.above) else 0

-- how many acts the machine puts off at this state: the most that it still owes after an act that it makes there
abbrev pub puts_off_at : Machine_data → Machine_data → Derivation_data → ℕ → ℕ
puts_off_at sub above derivation state = greatest (map (left_at sub above state) derivation.nodes) 0

-- the derivation that the search finds for a machine from its projection, within the bound that `check` has if none is told, or none
-- if there is none
abbrev pub Finds : Machine_data → Machine_data → Option Derivation_data → Type 0
Finds sub above (Some derivation) = IsCanonical sub above DEFAULT_BOUND derivation
Finds sub above None = (derivation : Derivation_data) → IsCanonical sub above DEFAULT_BOUND derivation → ⊥

-- the picture of a machine: with what it puts off at its states, if there is a derivation from its projection
abbrev pub own_picture : Names_data → Machine_data → Machine_data → Option Derivation_data → List ℕ
own_picture names sub above (Some derivation) = machine_picture_with names (puts_off_at sub above derivation) sub
own_picture names sub above None = machine_picture names sub

-- the machine is drawn, with what it puts off if the search finds a derivation from its projection
pub record DrawsBeside (names : Names_data) (sub above : Machine_data) (answer : Answer_data) : Type 0 where
  pub derivation : Option Derivation_data
  pub finds : Finds sub above derivation
  pub drawn : answer ≡ record { text = own_picture names sub above derivation; verdict = Fine }

-- the machine may be compared with this projection of the role with the place: the protocol has projections, and the machine is well
-- formed
pub record IsComparable (d : Document_data) (place : ℕ) (machine : Machine_data) (projection : Projection_data) : Type 0 where
  pub projections : List Projection_data
  pub projects : HasProjections d projections
  pub stands : slice_get projections place ≡ Some projection
  pub well_formed : first_fault machine d.protocol.roles ≡ None

-- the machine of the role with this place, which the document has, is drawn
pub data DrawsOwn (d : Document_data) (place : ℕ) (machine : Machine_data) (answer : Answer_data) : Type 0 where
  -- beside its projection
  HasProjection : (projection : Projection_data) → IsComparable d place machine projection → DrawsBeside d.names machine projection.machine answer → DrawsOwn d place machine answer
  -- without what it puts off, since there is no projection, or the machine isn't well formed
  HasNone : ((projection : Projection_data) → IsComparable d place machine projection → ⊥) → answer ≡ record { text = machine_picture d.names machine; verdict = Fine } → DrawsOwn d place machine answer
