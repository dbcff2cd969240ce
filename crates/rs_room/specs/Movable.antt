-- Public: the least role that can go on over rings.
use Rattle.std.specs.Prelude.{ℕ, ◌<◌, length}
use Rattle.rs_core.specs.declared.messages.Event.{Event}
use Rattle.rs_core.specs.Configurations.{Configuration}
use Rattle.rs_core.specs.Core.{configuration_of}
use Rattle.rs_room.specs.Bounded.{BoundedStep, HasBoundedStep}
use Rattle.rs_room.specs.Rings.{Bounded_data}

-- role p is one of the roles and has a bounded step, and no lesser role has one
pub record IsLeastMovable (b : Bounded_data) (p : ℕ) : Type 0 where
  pub present : p < length b.core.machines
  pub moves : HasBoundedStep b.core.machines b.capacity (configuration_of b.core) p
  pub least : (q : ℕ) → q < p → HasBoundedStep b.core.machines b.capacity (configuration_of b.core) q → ⊥

-- no event is a bounded step
abbrev pub NoneIsMovable : Bounded_data → Type 0
NoneIsMovable b = (event : Event) (d : Configuration) → BoundedStep b.core.machines b.capacity (configuration_of b.core) event d → ⊥
