-- Public: a monitor as its contracts see it, and which acts it lets through.
use Rattle.std.specs.Prelude.{◌≡◌, ℕ, Bool, true, false, suc, min, ◌^◌, ◌-◌, Option, Some, None}
use Rattle.rs_core.specs.Configurations.{state_of}
use Rattle.rs_model.specs.Data.{Machine_data}
use Rattle.rs_model.specs.declared.machines.State.{State}
use Rattle.rs_model.specs.declared.machines.State.TheVariants.{Done, Puts, Takes}
use Rattle.rs_monitor.specs.Acts.{ProgramAct, IsActOf}

-- a monitor: the machine of its role, the number of the state in which the machine stands, and how many acts were let through
pub record Monitor_data : Type 0 where
  pub machine : Machine_data
  pub at : ℕ
  pub acts : ℕ

-- the monitor of a program that has made no act: the machine stands in its start state
abbrev pub new_monitor : Machine_data → Monitor_data
new_monitor machine = record { machine = machine; at = machine.start; acts = 0 }

-- the state in which its machine stands
abbrev pub state_now : Monitor_data → Option State
state_now m = state_of (Some m.machine) m.at

-- one act more, up to the greatest number of 64 bits
abbrev pub counted : ℕ → ℕ
counted acts = min (suc acts) (2 ^ 64 - 1)

-- the monitor after an act that leads to the state numbered next
abbrev pub after_act : Monitor_data → ℕ → Monitor_data
after_act m next = record { machine = m.machine; at = next; acts = counted m.acts }

-- the state neither sends nor receives
abbrev pub has_ended : Option State → Bool
has_ended None = true
has_ended (Some Done) = true
has_ended (Some (Puts peer arms)) = false
has_ended (Some (Takes peer arms)) = false

-- the monitor lets the act through, and this is the monitor afterwards: the act is one of its state's, its machine has gone
-- where the act leads, and one act more is counted
pub record LetsThrough (before : Monitor_data) (act : ProgramAct) (after : Monitor_data) : Type 0 where
  pub is_act : IsActOf (state_now before) act after.at
  pub machine : after.machine ≡ before.machine
  pub acts : after.acts ≡ counted before.acts
