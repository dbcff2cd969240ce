-- Headline: protocols as graphs: paths, and what a role first meets on them.
use Rattle.std.specs.Prelude.{◌≡◌, ◌≢◌, ◌⊎◌, ℕ, List, [], ◌∷◌, Some, slice_get}
use Rattle.rs_model.specs.Data.{Protocol_data}
use Rattle.rs_model.specs.declared.graph.Arm.{Arm}
use Rattle.rs_model.specs.declared.graph.Role.{Role}
use Rattle.rs_model.specs.Talks.{Talks}

-- one step of a path: a node, and the place of the arm that is taken there
pub record PathStep : Type 0 where
  pub node : ℕ
  pub place : ℕ

-- node n is a talk, and its arm at that place leads to the next node
pub record LeadsTo (protocol : Protocol_data) (n place next : ℕ) : Type 0 where
  pub sender : Role
  pub receiver : Role
  pub arms : List Arm
  pub arm : Arm
  pub talks : Talks protocol n sender receiver arms
  pub stands : slice_get arms place ≡ Some arm
  pub leads : arm.next ≡ next

-- the steps follow each other from one node to the other
abbrev pub IsPath : Protocol_data → ℕ → List PathStep → ℕ → Type 0
IsPath protocol from [] to = from ≡ to
IsPath protocol from (s ∷ ss) to =
    (next : ℕ) × (s.node ≡ from) × LeadsTo protocol from s.place next × IsPath protocol next ss to

-- some path leads from one node to the other
abbrev pub IsReachedFrom : Protocol_data → ℕ → ℕ → Type 0
IsReachedFrom protocol from to = (steps : List PathStep) × IsPath protocol from steps to

-- some path leads from the root to node n
abbrev pub IsReached : Protocol_data → ℕ → Type 0
IsReached protocol n = IsReachedFrom protocol protocol.root n

-- node n is a talk that involves the role: the role is its sender or its receiver
pub record Involves (protocol : Protocol_data) (role : Role) (n : ℕ) : Type 0 where
  pub sender : Role
  pub receiver : Role
  pub arms : List Arm
  pub talks : Talks protocol n sender receiver arms
  pub part : (sender ≡ role) ⊎ (receiver ≡ role)

-- node n is idle for the role: no talk that involves the role can be reached from it, itself included
abbrev pub IsIdle : Protocol_data → Role → ℕ → Type 0
IsIdle protocol role n = (talk : ℕ) → IsReachedFrom protocol n talk → Involves protocol role talk → ⊥

-- node n passes by the role: it doesn't involve the role and isn't idle for it
pub record PassesBy (protocol : Protocol_data) (role : Role) (n : ℕ) : Type 0 where
  pub uninvolved : Involves protocol role n → ⊥
  pub awaited : IsIdle protocol role n → ⊥

-- all nodes at which a step is made pass by the role
abbrev pub AllPassBy : Protocol_data → Role → List PathStep → Type 0
AllPassBy protocol role [] = Unit {0}
AllPassBy protocol role (s ∷ ss) = PassesBy protocol role s.node × AllPassBy protocol role ss

-- the talk is one of those that the role first meets from a node: a path leads to it whose earlier nodes pass by the
-- role, and it involves the role
pub record MeetsFirst (protocol : Protocol_data) (role : Role) (from talk : ℕ) : Type 0 where
  pub steps : List PathStep
  pub path : IsPath protocol from steps talk
  pub earlier : AllPassBy protocol role steps
  pub involved : Involves protocol role talk

-- the role may meet the end from a node before any talk: a path whose earlier nodes pass by the role leads to a node
-- that is idle for it
pub record MeetsTheEnd (protocol : Protocol_data) (role : Role) (from : ℕ) : Type 0 where
  pub steps : List PathStep
  pub last : ℕ
  pub path : IsPath protocol from steps last
  pub earlier : AllPassBy protocol role steps
  pub idle : IsIdle protocol role last

-- the session can reach node n and then loop for ever with the role left waiting: n is reached from the root,
-- and lies on a cycle whose nodes all pass by the role
pub record IsUnreached (protocol : Protocol_data) (role : Role) (n : ℕ) : Type 0 where
  pub reached : IsReached protocol n
  pub steps : List PathStep
  pub some : steps ≢ []
  pub cycle : IsPath protocol n steps n
  pub around : AllPassBy protocol role steps
