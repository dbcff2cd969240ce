-- Public: the figures of the derivation of a machine from itself.
use Rattle.std.specs.Prelude.{◌≡◌, ℕ, List, [], length, map, if◌then◌else◌}
use Rattle.rs_model.specs.Data.{Machine_data}
use Rattle.rs_model.specs.declared.graph.Arm.{Arm}
use Rattle.rs_model.specs.declared.machines.State.{State}
use Rattle.rs_model.specs.declared.machines.State.TheVariants.{Done, Puts, Takes}
use Rattle.rs_derive.specs.Data.{DNode_data, Derivation_data}
use Rattle.rs_derive.specs.Figures.{greatest}
use Rattle.rs_graph.specs.Order.{Worked}
use Rattle.rs_search.specs.Canonical.{IsCanonical}
use Rattle.rs_search.specs.declared.figures.OwnFigures.{OwnFigures}

-- the numbers of the states after the arms of a state
abbrev pub states_behind : State → List ℕ
states_behind Done = []
states_behind (Puts peer arms) = map (λ (a : Arm). a.next) arms
states_behind (Takes peer arms) = map (λ (a : Arm). a.next) arms

-- the machine starts at state 0, and its states are numbered in the order in which they are found from there, working on the
-- states in order of number and on the arms of each in order
pub record AreStatesInOrder (m : Machine_data) : Type 0 where
  pub start : m.start ≡ 0
  pub order : Worked 0 1 (map states_behind m.states) (length m.states)

-- the derivation of the machine from itself has so many nodes; one act at most is owed at each, and one is at some node if
-- `owes` says so; and all ranks are 0
pub record HasOwnFigures (m : Machine_data) (bound : ℕ) (f : OwnFigures) : Type 0 where
  pub derivation : Derivation_data
  pub canonical : IsCanonical m m bound derivation
  pub nodes : length derivation.nodes ≡ f.nodes
  pub owed : greatest (map (λ (n : DNode_data). length n.pending) derivation.nodes) 0 ≡ (if f.owes then 1 else 0)
  pub ranks : greatest (map (λ (n : DNode_data). n.rank) derivation.nodes) 0 ≡ 0
