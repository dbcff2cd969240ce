-- Public: what is answered of a past, which is a list of events.
use Rattle.std.specs.Prelude.{◌≡◌, ℕ, ◌<◌, ◌≤◌, List, Some, length, slice_get, take}
use Rattle.rs_model.specs.Data.{Machine_data}
use Rattle.rs_model.specs.declared.graph.Role.{Role}
use Rattle.rs_core.specs.declared.messages.Event.{Event}
use Rattle.rs_core.specs.declared.messages.Message.{Message}
use Rattle.rs_core.specs.Configurations.{Configuration, StartsAt, Step, Steps}
use Rattle.rs_alive.specs.Taken.{CarryEmptyValues, EndsWithReceive, IsTaken}
use Rattle.rs_alive.specs.declared.taking.AliveFault.{AliveFault}
use Rattle.rs_alive.specs.declared.taking.AliveFault.TheVariants as fault

-- the events, one after the other, lead from the start to c
pub record PastLeadsTo (machines : List Machine_data) (events : List Event) (c : Configuration) : Type 0 where
  pub first : Configuration
  pub starts : StartsAt machines first
  pub steps : Steps machines first events c

-- the past leads to a configuration in which this message is at the place of the queue from the sender to the receiver.
-- From there the events take what is at the place, and the last of them is the receive of this very message. What they
-- send are empty values
pub record IsContinued (machines : List Machine_data) (past : List Event) (sender receiver : Role) (place : ℕ) (events : List Event) : Type 0 where
  pub at : Configuration
  pub message : Message
  pub leads : PastLeadsTo machines past at
  pub stands : slice_get (at.queue sender.0 receiver.0) place ≡ Some message
  pub taken : IsTaken machines sender receiver at place events
  pub ends : EndsWithReceive machines sender receiver at events message
  pub values : CarryEmptyValues machines at events

-- the event at that place is the first one of the past that is no step: those before it lead to a configuration, and from
-- there it leads nowhere
pub record IsNoPast (machines : List Machine_data) (past : List Event) (place : ℕ) : Type 0 where
  pub event : Event
  pub stands : slice_get past place ≡ Some event
  pub at : Configuration
  pub leads : PastLeadsTo machines (take place past) at
  pub no_step : (d : Configuration) → Step machines at event d → ⊥

-- the past leads to a configuration in which the queue from the sender to the receiver has n messages, and none
-- is at the place
pub record HasNoMessage (machines : List Machine_data) (past : List Event) (sender receiver : Role) (place many : ℕ) : Type 0 where
  pub at : Configuration
  pub leads : PastLeadsTo machines past at
  pub has : length (at.queue sender.0 receiver.0) ≡ many
  pub none : many ≤ place

-- what a fault says; of refused memory nothing is said
abbrev pub PastTells : List Machine_data → List Event → Role → Role → ℕ → AliveFault → Type 0
PastTells machines past sender receiver place (fault.NotAPast at) = IsNoPast machines past at
PastTells machines past sender receiver place (fault.NoMessage len) = HasNoMessage machines past sender receiver place len
PastTells machines past sender receiver place fault.NoMemory = Unit {0}

-- the same states of the first n roles, and the same messages under way
pub record AgreeFor (roles : ℕ) (c d : Configuration) : Type 0 where
  pub at : (p : ℕ) → p < roles → c.at p ≡ d.at p
  pub queue : (p q : ℕ) → c.queue p q ≡ d.queue p q
