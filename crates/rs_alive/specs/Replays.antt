-- Steps: why a past can't be replayed.
use Rattle.std.specs.Prelude.{◌≡◌, ℕ, List}
use Rattle.rs_model.specs.Data.{Machine_data}
use Rattle.rs_core.specs.declared.messages.Event.{Event}
use Rattle.rs_core.specs.Configurations.{Configuration, Step}
use Rattle.rs_alive.specs.Pasts.{IsNoPast}
use Rattle.rs_alive.specs.declared.taking.AliveFault.{AliveFault}
use Rattle.rs_alive.specs.declared.taking.AliveFault.TheVariants as fault

-- the event at that place leads nowhere; or memory runs out
abbrev pub IsStepFault : List Machine_data → Configuration → Event → ℕ → AliveFault → Type 0
IsStepFault machines c event place (fault.NotAPast at) = (at ≡ place) × ((d : Configuration) → Step machines c event d → ⊥)
IsStepFault machines c event place (fault.NoMessage len) = ⊥
IsStepFault machines c event place fault.NoMemory = Unit {0}

-- an event of the past is the first that leads nowhere; or memory is wanted
abbrev pub IsReplayFault : List Machine_data → List Event → AliveFault → Type 0
IsReplayFault machines past (fault.NotAPast at) = IsNoPast machines past at
IsReplayFault machines past (fault.NoMessage len) = ⊥
IsReplayFault machines past fault.NoMemory = Unit {0}
