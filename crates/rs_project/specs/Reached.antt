-- Public: what a role does on the way to a state of its projection. Labels are listed with the latest first.
use Rattle.std.specs.Prelude.{◌≡◌, ℕ, List, [], ◌∷◌, Some, slice_get}
use Rattle.rs_model.specs.Data.{Protocol_data}
use Rattle.rs_model.specs.declared.graph.Arm.{Arm}
use Rattle.rs_model.specs.declared.graph.Label.{Label}
use Rattle.rs_model.specs.declared.graph.Role.{Role}
use Rattle.rs_model.specs.declared.machines.State.{State}
use Rattle.rs_model.specs.declared.machines.State.TheVariants.{Done, Puts, Takes}
use Rattle.rs_project.specs.Data.{Projection_data}
use Rattle.rs_project.specs.Graph.{LeadsTo, MeetsFirst, MeetsTheEnd}

-- the arms of a state, in order
abbrev pub arms_behind : State → List Arm
arms_behind Done = []
arms_behind (Puts peer arms) = arms
arms_behind (Takes peer arms) = arms

-- an arm with the label leads from one state to the other
pub record StateLeads (projection : Projection_data) (from : ℕ) (label : Label) (to : ℕ) : Type 0 where
  pub state : State
  pub present : slice_get projection.machine.states from ≡ Some state
  pub place : ℕ
  pub arm : Arm
  pub stands : slice_get (arms_behind state) place ≡ Some arm
  pub its_label : arm.label ≡ label
  pub leads : arm.next ≡ to

-- the labels lead from state 0 to the state
abbrev pub LeadToState : Projection_data → List Label → ℕ → Type 0
LeadToState projection [] to = to ≡ 0
LeadToState projection (label ∷ labels) to = (from : ℕ) × LeadToState projection labels from × StateLeads projection from label to

-- an arm with the label leads from one node to the other
pub record NodeLeads (protocol : Protocol_data) (from : ℕ) (label : Label) (to : ℕ) : Type 0 where
  pub place : ℕ
  pub step : LeadsTo protocol from place to
  pub its_label : step.arm.label ≡ label

-- some path from the root on which the role's own talks take these labels, in order, reaches the talk, which involves
-- the role
abbrev pub MeetsAfter : Protocol_data → Role → List Label → ℕ → Type 0
MeetsAfter protocol role [] talk = MeetsFirst protocol role protocol.root talk
MeetsAfter protocol role (label ∷ labels) talk =
    (before : ℕ) × (next : ℕ) × MeetsAfter protocol role labels before × NodeLeads protocol before label next × MeetsFirst protocol role next talk

-- some such path reaches a node that is idle for the role
abbrev pub EndsAfter : Protocol_data → Role → List Label → Type 0
EndsAfter protocol role [] = MeetsTheEnd protocol role protocol.root
EndsAfter protocol role (label ∷ labels) =
    (before : ℕ) × (next : ℕ) × MeetsAfter protocol role labels before × NodeLeads protocol before label next × MeetsTheEnd protocol role next
