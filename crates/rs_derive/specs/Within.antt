-- Public: what the code asks of places and of arms.
use Rattle.std.specs.Prelude.{◌≡◌, ℕ, ◌<◌, List, slice_get, Some}
use Rattle.rs_model.specs.declared.graph.Arm.{Arm}
use Rattle.rs_model.specs.declared.machines.State.{State}
use Rattle.rs_model.specs.declared.machines.State.TheVariants.{Done, Puts, Takes}
use Rattle.rs_derive.specs.declared.targets.Change.{Change}
use Rattle.rs_derive.specs.declared.targets.Change.TheVariants.{Same, Without, With}

-- if the change takes an act out of n, there is one at its place
abbrev pub IsPlaceWithin : ℕ → Change → Type 0
IsPlaceWithin count Same = Unit {0}
IsPlaceWithin count (Without place) = place < count
IsPlaceWithin count (With x) = Unit {0}

-- no two arms have the same label
abbrev pub HasLabelsOnce : List Arm → Type 0
HasLabelsOnce arms = (i j : ℕ) (a b : Arm) → slice_get arms i ≡ Some a → slice_get arms j ≡ Some b → a.label ≡ b.label → i ≡ j

-- at a state
abbrev pub IsOnceAt : State → Type 0
IsOnceAt Done = Unit {0}
IsOnceAt (Puts q arms) = HasLabelsOnce arms
IsOnceAt (Takes q arms) = HasLabelsOnce arms
