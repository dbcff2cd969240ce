-- Steps: what comes at a spot that takes two labels.
use Rattle.rs_model.specs.Data.{Machine_data}
use Rattle.rs_rings.specs.Passes.{Rings_data}
use Rattle.rs_typed.specs.Endpoints.{IsEndpoint}
use Rattle.double_buffering.specs.declared.waiting.Came.{Came}
use Rattle.double_buffering.specs.declared.waiting.Came.TheVariants.{First, Second}

-- the spot after it is of the session, whose machine of the role is this
abbrev pub ComesTo : Rings_data → Machine_data → {M V N W A B : Type 0} → Came M V N W A B → Type 0
ComesTo session machine (First value at) = IsEndpoint session machine at
ComesTo session machine (Second value at) = IsEndpoint session machine at
