-- Public: which pending act a next act makes, and what blocks it.
use Rattle.std.specs.Prelude.{◌≡◌, ℕ, ◌<◌, ◌+◌, List, ◌++◌, take, drop, slice_get, Bool, true, false, not, ◌==◌, Some}
use Rattle.rs_model.specs.declared.graph.Role.{Role}
use Rattle.rs_model.specs.declared.machines.Act.{Act}
use Rattle.rs_model.specs.declared.machines.Act.TheVariants.{Puts, Takes}
use Rattle.rs_prefix.specs.declared.earliest.Found.{Found}
use Rattle.rs_prefix.specs.declared.earliest.Found.TheVariants.{At, Blocked, Absent}
use Rattle.rs_prefix.specs.declared.earliest.ActKind.{ActKind}
use Rattle.rs_prefix.specs.declared.earliest.ActKind.TheVariants.{Send, Receive}

-- the act is of the kind with the peer
abbrev pub has : ActKind → Role → Act → Bool
has Send q (Puts peer label sort) = peer.0 == q.0
has Receive q (Takes peer label sort) = peer.0 == q.0
has _ _ _ = false

-- an act of the kind with the peer may overtake the pending act: a send may overtake receives, and sends to others; a receive may overtake receives from others, and no send
abbrev pub may_overtake : ActKind → Role → Act → Bool
may_overtake Send q (Takes peer label sort) = true
may_overtake Send q (Puts peer label sort) = not (peer.0 == q.0)
may_overtake Receive q (Takes peer label sort) = not (peer.0 == q.0)
may_overtake Receive q (Puts peer label sort) = false

-- an act of the kind with the peer may overtake each act before the place
abbrev pub IsFreeTo : List Act → ActKind → Role → ℕ → Type 0
IsFreeTo pending kind q place = (i : ℕ) (a : Act) → i < place → slice_get pending i ≡ Some a → may_overtake kind q a ≡ true

-- the act at the place is of the kind with the peer, and may overtake all acts before it; so it is the first of its kind with that peer
pub record IsFound (pending : List Act) (kind : ActKind) (q : Role) (place : ℕ) : Type 0 where
  pub act : Act
  pub stands : slice_get pending place ≡ Some act
  pub same : has kind q act ≡ true
  pub free : IsFreeTo pending kind q place

-- the act at the place is the first that one of the kind with the peer may not overtake, and isn't such an act itself
pub record IsBlocked (pending : List Act) (kind : ActKind) (q : Role) (place : ℕ) : Type 0 where
  pub act : Act
  pub stands : slice_get pending place ≡ Some act
  pub other : has kind q act ≡ false
  pub blocks : may_overtake kind q act ≡ false
  pub free : IsFreeTo pending kind q place

-- an act of the kind with the peer may overtake all pending acts; so none of them is such an act
abbrev pub IsAbsent : List Act → ActKind → Role → Type 0
IsAbsent pending kind q = (i : ℕ) (a : Act) → slice_get pending i ≡ Some a → may_overtake kind q a ≡ true

-- what each answer says
abbrev pub Finds : List Act → ActKind → Role → Found → Type 0
Finds pending kind q (At place) = IsFound pending kind q place
Finds pending kind q (Blocked place) = IsBlocked pending kind q place
Finds pending kind q Absent = IsAbsent pending kind q

-- the list without the act at the place
abbrev pub without : List Act → ℕ → List Act
without pending place = take place pending ++ drop (place + 1) pending
