-- Steps: the turns that a worker makes with a task before it gives the task back.
use Rattle.std.specs.Prelude.{◌≡◌, Bool, true, false, List, [], ◌∷◌}
use Rattle.rs_core.specs.Actors.{Behaviour}
use Rattle.rs_exec.specs.Data.{Task_data}
use Rattle.rs_exec.specs.Tasks.{TaskTurnTells}
use Rattle.rs_exec.specs.declared.tasks.Turn.{Turn}
use Rattle.rs_exec.specs.declared.tasks.Turn.TheVariants as turn
use Rattle.rs_rings.specs.Passes.{Rings_data}

-- the turns, of which the list has the last one first, lead from the old task to the new one
abbrev pub LeadTo : {A : Type 0} → Rings_data → Behaviour A → Task_data A → List Turn → Task_data A → Type 0
LeadTo session b old [] new = old ≡ new
LeadTo {A} session b old (t ∷ turns) new = (between : Task_data A) × LeadTo session b old turns between × TaskTurnTells session b between new t

-- the turn found that the task has to wait
abbrev pub is_waiting : Turn → Bool
is_waiting (turn.Waits why) = true
is_waiting t = false

-- the task has had at least one turn; if nothing moved, the last turn found that the task has to wait
pub record HasHadTurns {A : Type 0} (session : Rings_data) (b : Behaviour A) (old new : Task_data A) (moved : Bool) : Type 0 where
  pub last : Turn
  pub earlier : List Turn
  pub lead : LeadTo session b old (last ∷ earlier) new
  pub waits : moved ≡ false → is_waiting last ≡ true
