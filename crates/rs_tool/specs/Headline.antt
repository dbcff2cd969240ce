-- Headline: what the status 0 of `check` tells.
use Rattle.std.specs.Prelude.{◌≡◌, ℕ, List, Option, length}
use Rattle.rs_core.specs.Safety.{IsSafe}
use Rattle.rs_documents.specs.Spells.{SpellsMachines}
use Rattle.rs_model.specs.Data.{Machine_data, Protocol_data}
use Rattle.rs_project.specs.Data.{Projection_data}
use Rattle.rs_project.specs.Numbered.{AreNumberedProjections}
use Rattle.rs_wellformed.specs.WellFormed.{IsWellFormed}
use Rattle.rs_answers.specs.Machines.{machines_of}

-- the bytes spell a protocol and machines; the protocol is well formed and has a projection onto each role, there is one
-- place for a machine a role, and the machines are safe: those that the text has, and the projections of the other roles
pub record SpellsSafeMachines (bytes : List ℕ) : Type 0 where
  pub protocol : Protocol_data
  pub machines : List (Option Machine_data)
  pub projections : List Projection_data
  pub spells : SpellsMachines bytes protocol machines
  pub well_formed : IsWellFormed protocol
  pub projected : AreNumberedProjections protocol projections
  pub one_each : length machines ≡ protocol.roles
  pub safe : IsSafe (machines_of machines projections)
