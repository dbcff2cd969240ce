-- Public: what holds of a document that was read.
use Rattle.std.specs.Prelude.{◌+◌, ◌≡◌, ℕ, ◌≤◌, List, length, Option, Some, slice_get}
use Rattle.rs_derive.specs.Data.{Derivation_data}
use Rattle.rs_documents.specs.Data.{Document_data}
use Rattle.rs_model.specs.Data.{Machine_data}
use Rattle.rs_model.specs.declared.graph.Role.{Role}
use Rattle.rs_model.specs.declared.limits.TheConstants.{MOST_BOUND, MOST_CANDIDATES, MOST_LABELS, MOST_ROLES, MOST_STATES, MOST_TALKS}
use Rattle.rs_text.specs.Sound.{IsSound}

-- all parts that are there have this property
abbrev pub AllHave : {A : Type 0} → (A → Type 0) → List (Option A) → Type 0
AllHave {A} P parts = (k : ℕ) (part : A) → slice_get parts k ≡ Some (Some part) → P part

-- each stands in its role's place
abbrev pub StandInPlace : {A : Type 0} → (A → Role) → List (Option A) → Type 0
StandInPlace {A} role_of parts = (k : ℕ) (part : A) → slice_get parts k ≡ Some (Some part) → (role_of part).0 ≡ k

-- no machine has more than 1,024 states
abbrev pub IsShort : Machine_data → Type 0
IsShort machine = length machine.states ≤ MOST_STATES

-- all machines that are there are short
abbrev pub AreShort : List (Option Machine_data) → Type 0
AreShort machines = AllHave IsShort machines

-- each machine stands in its role's place
abbrev pub AreInPlace : List (Option Machine_data) → Type 0
AreInPlace machines = StandInPlace (λ (machine : Machine_data). machine.role) machines

-- a derivation's bound is from 1 to 64, and it has at most 65,536 nodes
pub record IsBounded (derivation : Derivation_data) : Type 0 where
  pub bound : (1 ≤ derivation.bound) × (derivation.bound ≤ MOST_BOUND)
  pub bounded : length derivation.nodes ≤ MOST_CANDIDATES

-- parts as they are while they are read: one place a role, each in its role's place, and all have a property
pub record AreHeld {A : Type 0} (role_of : A → Role) (P : A → Type 0) (roles : List (List ℕ)) (parts : List (Option A)) : Type 0 where
  pub one_each : length parts ≡ length roles
  pub in_place : StandInPlace role_of parts
  pub all : AllHave P parts

-- the roles have these derivations, each within the limits of a text
abbrev pub DerivationsAreHeld : List (List ℕ) → List (Option Derivation_data) → Type 0
DerivationsAreHeld roles derivations = AreHeld (λ (derivation : Derivation_data). derivation.role) IsBounded roles derivations

-- what a document that was read has, whatever it spells
pub record DocumentIsReady (d : Document_data) : Type 0 where
  pub sound : IsSound d.names
  pub two : 2 ≤ length d.names.roles
  pub roles : length d.names.roles ≤ MOST_ROLES
  pub a_name_each : length d.names.roles ≡ d.protocol.roles
  pub labels : length d.names.labels ≤ MOST_LABELS
  pub one_each : length d.machines ≡ length d.names.roles
  pub short : AreShort d.machines
  pub in_place : AreInPlace d.machines
  pub nodes : length d.protocol.nodes ≤ MOST_TALKS + 1
  pub derivations : DerivationsAreHeld d.names.roles d.derivations
