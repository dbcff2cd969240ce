-- Public: bodies whose heads have known roles and some arms, and whose arms lead to their own places.
use Rattle.std.specs.Prelude.{◌≡◌, ◌≢◌, ℕ, ◌+◌, ◌<◌, [], length, slice_get, Bool, true, false, Some}
use Rattle.rs_model.specs.declared.graph.Arm.{Arm}
use Rattle.rs_bodies.specs.declared.dialects.Head.{Head}
use Rattle.rs_bodies.specs.declared.dialects.Head.TheVariants as head
use Rattle.rs_bodies.specs.Data.{Point_data, Spelling_data}

-- the roles of a head are among so many
abbrev pub KnowsRoles : (roles : ℕ) → Head → Type 0
KnowsRoles roles (head.Talk sender receiver) = (sender.0 < roles) × (receiver.0 < roles)
KnowsRoles roles (head.Act peer m) = peer.0 < roles

-- a head with known roles and some arms, each of which leads to one of so many places
pub record PointLeads (roles places : ℕ) (p : Point_data) : Type 0 where
  pub known : KnowsRoles roles p.head
  pub some : p.arms ≢ []
  pub nexts : (i : ℕ) (a : Arm) → slice_get p.arms i ≡ Some a → a.next < places

-- the places behind all heads: an end, where there is one
abbrev pub ends_in : Bool → ℕ
ends_in true = 1
ends_in false = 0

-- the places of a body: its heads, and its end
abbrev pub places_in : Spelling_data → ℕ
places_in s = length s.points + ends_in s.ended

-- the body begins at one of its places, and so do its heads lead to them
pub record LeadsInside (roles : ℕ) (s : Spelling_data) : Type 0 where
  pub start : s.start < places_in s
  pub points : (n : ℕ) (p : Point_data) → slice_get s.points n ≡ Some p → PointLeads roles (places_in s) p
