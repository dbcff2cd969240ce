-- Public: what `verify` answers to a document.
use Rattle.std.specs.Prelude.{◌≡◌, ℕ, suc, List, [], ◌∷◌, Option, Some, None}
use Rattle.std.specs.List.{flat_map}
use Rattle.rs_derive.specs.Data.{Derivation_data}
use Rattle.rs_derive.specs.Derivations.{IsProper}
use Rattle.rs_derive.specs.Faults.{first_fault}
use Rattle.rs_derive.specs.declared.faults.DeriveFault.{DeriveFault}
use Rattle.rs_documents.specs.Data.{Document_data}
use Rattle.rs_documents.specs.Ready.{IsBounded}
use Rattle.rs_model.specs.Data.{Machine_data}
use Rattle.rs_model.specs.declared.graph.Role.{Role}
use Rattle.rs_project.specs.Data.{Projection_data}
use Rattle.rs_answers.specs.Data.{Answer_data}
use Rattle.rs_answers.specs.Refusals.{HasNoSession, refusal_answer}
use Rattle.rs_answers.specs.Report.{report}
use Rattle.rs_answers.specs.Sessions.{HasMachines}
use Rattle.rs_answers.specs.declared.refusals.Refusal.{Refusal}
use Rattle.rs_answers.specs.declared.refusals.Refusal.TheVariants as refusal
use Rattle.rs_answers.specs.declared.verifying.Blame.{Blame}
use Rattle.rs_answers.specs.declared.verifying.Blame.TheVariants as blame

-- the fault of a derivation, as a reason
abbrev pub blame_by : Option DeriveFault → Option Blame
blame_by None = None
blame_by (Some fault) = Some (blame.Fault fault)

-- why the role's own derivation isn't one of its machine from its projection that remembers: it isn't there, or has a
-- first fault
abbrev pub blame_of : Option Derivation_data → Machine_data → Projection_data → Option Blame
blame_of None machine projection = Some blame.Missing
blame_of (Some derivation) machine projection = blame_by (first_fault derivation machine projection.machine)

-- a role, and why its derivation shows nothing
pub record RoleBlame : Type 0 where
  pub role : Role
  pub blame : Blame

-- the role with its blame, where it has one, else what is said of later roles
abbrev pub blame_or : Option Blame → Role → Option RoleBlame → Option RoleBlame
blame_or (Some blame) role later = Some (record { role = role; blame = blame })
blame_or None role later = later

-- the first such role, counted from n
abbrev pub first_blame : ℕ → List (Option Derivation_data) → List Machine_data → List Projection_data → Option RoleBlame
first_blame n (own ∷ owns) (machine ∷ machines) (projection ∷ projections) =
    blame_or (blame_of own machine projection) (record { 0 = n }) (first_blame (suc n) owns machines projections)
first_blame n (own ∷ owns) (machine ∷ machines) [] = None
first_blame n (own ∷ owns) [] projections = None
first_blame n [] machines projections = None

-- those that are there, in role order
abbrev pub there : Option Derivation_data → List Derivation_data
there None = []
there (Some derivation) = derivation ∷ []

-- the derivations of all roles that are there, in role order
abbrev pub those_there : List (Option Derivation_data) → List Derivation_data
those_there own = flat_map there own

-- why the document isn't verified: the first of these that applies
pub data IsUnverified (d : Document_data) : Refusal → Type 0 where
  -- it has no session
  HasNone : (refusal : Refusal) → HasNoSession d refusal → IsUnverified d refusal
  -- some role's own derivation doesn't show that its machine may stand for its projection
  IsBlamed : (projections : List Projection_data) (machines : List Machine_data) → HasMachines d projections machines
      → (b : RoleBlame) → first_blame 0 d.derivations machines projections ≡ Some b → IsUnverified d (refusal.Blamed b.role b.blame)

-- it is verified: its own derivations show that these machines may stand for these projections
pub record IsVerified (d : Document_data) (projections : List Projection_data) (machines : List Machine_data) : Type 0 where
  pub has : HasMachines d projections machines
  pub none : first_blame 0 d.derivations machines projections ≡ None

-- one of these applies
pub data Verifies (d : Document_data) (answer : Answer_data) : Type 0 where
  -- the document is refused
  IsRefused : (refusal : Refusal) → IsUnverified d refusal → answer ≡ refusal_answer d.names refusal → Verifies d answer
  -- its session is accepted
  IsReported : (projections : List Projection_data) (machines : List Machine_data) → IsVerified d projections machines
      → answer ≡ report d.names.roles (those_there d.derivations) → Verifies d answer

-- what the checker asks of its arguments
pub record IsCheckable (own : Option Derivation_data) (machine : Machine_data) (projection : Projection_data) : Type 0 where
  pub machine_is : IsProper machine
  pub projection_is : IsProper projection.machine
  pub bounded : (derivation : Derivation_data) → own ≡ Some derivation → IsBounded derivation

-- what the checker asks of its arguments, role by role
abbrev pub AreCheckable : List (Option Derivation_data) → List Machine_data → List Projection_data → Type 0
AreCheckable (own ∷ owns) (machine ∷ machines) (projection ∷ projections) = IsCheckable own machine projection × AreCheckable owns machines projections
AreCheckable (own ∷ owns) (machine ∷ machines) [] = Unit {0}
AreCheckable (own ∷ owns) [] projections = Unit {0}
AreCheckable [] machines projections = Unit {0}
