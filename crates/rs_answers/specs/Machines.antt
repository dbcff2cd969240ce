-- Headline: the machines of a document's session.
use Rattle.std.specs.Prelude.{List, [], ◌∷◌, Option, Some, None}
use Rattle.rs_model.specs.Data.{Machine_data}
use Rattle.rs_project.specs.Data.{Projection_data}

-- a role without a machine runs its projection
abbrev pub machine_or : Option Machine_data → Projection_data → Machine_data
machine_or None projection = projection.machine
machine_or (Some machine) projection = machine

-- the machines of the session, in role order
abbrev pub machines_of : List (Option Machine_data) → List Projection_data → List Machine_data
machines_of (own ∷ machines) (projection ∷ projections) = machine_or own projection ∷ machines_of machines projections
machines_of [] projections = []
machines_of (own ∷ machines) [] = []
