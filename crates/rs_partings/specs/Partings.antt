-- Public: where the ways part to two members of a front, that a role can't tell apart.
use Rattle.std.specs.Prelude.{◌≡◌, ◌⊎◌, ℕ, ◌<◌, ◌≤◌, Option, Some, None}
use Rattle.rs_model.specs.Data.{Protocol_data}
use Rattle.rs_model.specs.declared.graph.Role.{Role}
use Rattle.rs_project.specs.Graph.{LeadsTo, IsReached, Involves, MeetsFirst, MeetsTheEnd}
use Rattle.rs_partings.specs.declared.searching.Parting.{Parting}

-- the role may meet the member of a front first from node n: a talk, or the end, which is None
abbrev pub MeetsMember : Protocol_data → Role → ℕ → Option ℕ → Type 0
MeetsMember protocol role n (Some talk) = MeetsFirst protocol role n talk
MeetsMember protocol role n None = MeetsTheEnd protocol role n

-- the arm at that place of node n leads to a node from which the role may meet the member first
pub record LeadsToward (protocol : Protocol_data) (role : Role) (member : Option ℕ) (n place : ℕ) : Type 0 where
  pub next : ℕ
  pub leads : LeadsTo protocol n place next
  pub meets : MeetsMember protocol role next member

-- the ways to talk a and to member b part at a talk of others, which the session can come to: one of its arms leads toward
-- a and not toward b, so that here the choice is made, and another one toward b
pub record PartsAt (protocol : Protocol_data) (role : Role) (a : ℕ) (b : Option ℕ) (talk one other : ℕ) : Type 0 where
  pub reached : IsReached protocol talk
  pub uninvolved : Involves protocol role talk → ⊥
  pub to_a : LeadsToward protocol role (Some a) talk one
  pub only : LeadsToward protocol role b talk one → ⊥
  pub to_b : LeadsToward protocol role b talk other

-- the parting is no later than that at this talk and these arms: talks go first, then the one arm, then the other
abbrev pub IsNoLater : Parting → ℕ → ℕ → ℕ → Type 0
IsNoLater p talk one other = (p.talk < talk) ⊎ ((p.talk ≡ talk) × ((p.one < one) ⊎ ((p.one ≡ one) × (p.other ≤ other))))

-- the parting is one of these, and none of them is before it
pub record IsFirstOf (Parts : ℕ → ℕ → ℕ → Type 0) (p : Parting) : Type 0 where
  pub parts : Parts p.talk p.one p.other
  pub first : (talk one other : ℕ) → Parts talk one other → IsNoLater p talk one other

-- it is the first place at which the ways to a and to b part
abbrev pub IsParting : Protocol_data → Role → ℕ → Option ℕ → Parting → Type 0
IsParting protocol role a b p = IsFirstOf (PartsAt protocol role a b) p

-- the ways to a and to b part nowhere
abbrev pub PartNowhere : Protocol_data → Role → ℕ → Option ℕ → Type 0
PartNowhere protocol role a b = (talk one other : ℕ) → PartsAt protocol role a b talk one other → ⊥
