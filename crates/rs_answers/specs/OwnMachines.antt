-- Steps: the test of the roles' own machines.
use Rattle.std.specs.Prelude.{ℕ, List, [], ◌∷◌, Option, Some, None}
use Rattle.rs_model.specs.Data.{Machine_data}
use Rattle.rs_model.specs.Faults.{first_fault}
use Rattle.rs_answers.specs.Sessions.{MachineRefusal, refusal_or}

-- the first machine in the document of one of the first n roles that isn't well formed
abbrev pub first_own_refusal : ℕ → List (Option Machine_data) → Option MachineRefusal
first_own_refusal roles [] = None
first_own_refusal roles (None ∷ own) = first_own_refusal roles own
first_own_refusal roles (Some machine ∷ own) = refusal_or (first_fault machine roles) machine.role (first_own_refusal roles own)
