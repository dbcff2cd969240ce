-- Headline: the whole meaning of the projection of a protocol onto a role: also its numbers are fixed.
use Rattle.std.specs.Prelude.{◌≡◌, ◌≤◌, ℕ, List, [], map, length, Some, slice_get}
use Rattle.rs_model.specs.declared.limits.TheConstants.{MOST_STATES}
use Rattle.rs_model.specs.Data.{Protocol_data}
use Rattle.rs_model.specs.declared.graph.Arm.{Arm}
use Rattle.rs_model.specs.declared.graph.Role.{Role}
use Rattle.rs_model.specs.declared.machines.State.{State}
use Rattle.rs_model.specs.declared.machines.State.TheVariants.{Done, Puts, Takes}
use Rattle.rs_project.specs.Data.{Projection_data}
use Rattle.rs_graph.specs.Order.{Once, Worked}
use Rattle.rs_project.specs.Projection.{IsProjection}

-- the numbers to which arms lead, in order
abbrev pub nexts_of : List Arm → List ℕ
nexts_of arms = map (λ (a : Arm). a.next) arms

-- the numbers of the states to which the arms of a state lead
abbrev pub nexts_behind : State → List ℕ
nexts_behind Done = []
nexts_behind (Puts peer arms) = nexts_of arms
nexts_behind (Takes peer arms) = nexts_of arms

-- it is a projection, its states are numbered in the order in which their sets are found, working on the states in
-- order of number and on the arms of each in order, no set occurs twice, and there are at most 1,024
pub record IsNumberedProjection (protocol : Protocol_data) (role : Role) (projection : Projection_data) : Type 0 where
  pub is_projection : IsProjection protocol role projection
  pub order : Worked 0 1 (map nexts_behind projection.machine.states) (length projection.sets)
  pub once : Once projection.sets
  pub bounded : length projection.sets ≤ MOST_STATES

-- those onto the first n roles, in role order
pub record AreFirstProjections (protocol : Protocol_data) (count : ℕ) (projections : List Projection_data) : Type 0 where
  pub many : length projections ≡ count
  pub each : (p : ℕ) (projection : Projection_data) → slice_get projections p ≡ Some projection → IsNumberedProjection protocol (record { 0 = p }) projection

-- numbered projections onto all roles
abbrev pub AreNumberedProjections : Protocol_data → List Projection_data → Type 0
AreNumberedProjections protocol projections = AreFirstProjections protocol protocol.roles projections
