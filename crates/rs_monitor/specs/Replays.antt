-- Public: which acts a machine makes one after another, and where a list of acts departs from it.
use Rattle.std.specs.Prelude.{◌≡◌, ℕ, List, [], ◌∷◌, Some, slice_get, take}
use Rattle.rs_core.specs.Configurations.{state_of}
use Rattle.rs_model.specs.Data.{Machine_data}
use Rattle.rs_monitor.specs.Acts.{ProgramAct, IsActOf}
use Rattle.rs_monitor.specs.Refusals.{IsRefusedFor}
use Rattle.rs_monitor.specs.declared.replaying.Departure.{Departure}

-- the acts, one after another, are the machine's, and lead from the state numbered s to the one numbered t
abbrev pub Makes : Machine_data → ℕ → List ProgramAct → ℕ → Type 0
Makes machine s [] t = s ≡ t
Makes machine s (act ∷ acts) t = (next : ℕ) × IsActOf (state_of (Some machine) s) act next × Makes machine next acts t

-- the acts depart from the machine there: those before that place are made from the start, and lead to that state; the act at
-- that place isn't one of the state's, for that reason
pub record DepartsAt (machine : Machine_data) (acts : List ProgramAct) (d : Departure) : Type 0 where
  pub act : ProgramAct
  pub made : Makes machine machine.start (take d.place acts) d.state
  pub there : slice_get acts d.place ≡ Some act
  pub refused : IsRefusedFor (state_of (Some machine) d.state) act d.refusal
