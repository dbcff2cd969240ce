-- The turns that a worker has made with a task so far, each of which moved it.
use Rattle.std.proofs.Common.{◌≡◌, ℕ, zero, suc, ◌+◌, ◌<◌, Bool, true, false, true≢false, List, [], ◌∷◌, length, refl, sym, ap, ◌∙◌, subst, arith}
use Rattle.rs_core.specs.Actors.{Behaviour}
use Rattle.rs_exec.specs.Data.{Task_data}
use Rattle.rs_exec.specs.Tasks.{TaskTurnTells}
use Rattle.rs_exec.specs.declared.tasks.Turn.{Turn}
use Rattle.rs_rings.specs.Passes.{Rings_data}
use Rattle.rs_pool.specs.Turns.{HasHadTurns, LeadTo, is_waiting}

-- so many turns lead from the old task to the new one, and if none was made nothing has moved
pub record HaveLed {A : Type 0} (session : Rings_data) (b : Behaviour A) (old new : Task_data A) (many : ℕ) (moved : Bool) : Type 0 where
  pub turns : List Turn
  pub count : length turns ≡ many
  pub lead : LeadTo session b old turns new
  pub idle : moved ≡ false → many ≡ 0

one_on : (n : ℕ) → suc n ≡ n + 1
one_on n = omega arith

module _ {A : Type 0} (session : Rings_data) (b : Behaviour A) (old task new : Task_data A) (many : ℕ) (moved : Bool) where
  pub one_more : (t : Turn) → HaveLed session b old task many moved → TaskTurnTells session b task new t → HaveLed session b old new (many + 1) true
  one_more t so tells = record {
    turns = t ∷ so.turns;
    count = ap suc so.count ∙ one_on many;
    lead = (task, so.lead, tells);
    idle = λ e. absurd (true≢false e);
  }

  -- the turn that is made last
  pub last_one : (t : Turn) (result : Bool) → HaveLed session b old task many moved → TaskTurnTells session b task new t → (result ≡ false → is_waiting t ≡ true) → HasHadTurns session b old new result
  last_one t result so tells waits = record { last = t; earlier = so.turns; lead = (task, so.lead, tells); waits = waits }

  -- turns were made, and none of them found that the task has to wait
  pub all_made : HaveLed session b old new many moved → 0 < many → HasHadTurns session b old new moved
  all_made so some = go so.turns so.lead (so.count) so.idle
    where
      go : (turns : List Turn) → LeadTo session b old turns new → length turns ≡ many → (moved ≡ false → many ≡ 0) → HasHadTurns session b old new moved
      go [] lead count idle = absurd (omega (arith, count, some))
      go (t ∷ turns) lead count idle = record { last = t; earlier = turns; lead = lead; waits = λ e. (let none = idle e in absurd (omega (arith, none, some))) }
