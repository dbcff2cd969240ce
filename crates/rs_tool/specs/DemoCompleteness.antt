-- Public: what a `demo` doesn't refuse.
use Rattle.std.specs.Prelude.{ℕ, ◌≤◌, List, length, Option, IfSome}
use Rattle.rs_answers.specs.Derivations.{AreCanonical}
use Rattle.rs_answers.specs.Machines.{machines_of}
use Rattle.rs_runs.specs.Runs.{capacity_of}
use Rattle.rs_runs.specs.Demos.{Opens}
use Rattle.rs_demos.specs.declared.actors.DemoTalker.{DemoTalker}
use Rattle.rs_derive.specs.Data.{Derivation_data}
use Rattle.rs_model.specs.declared.limits.TheConstants.{MOST_BYTES}
use Rattle.rs_model.specs.declared.demos.Demo.{Demo}
use Rattle.rs_safety.specs.Room.{room_of}
use Rattle.rs_tool.specs.Completeness.{SpellsDerivableSession}
use Rattle.rs_tool.specs.Data.{Call}
use Rattle.rs_tool.specs.Tasks.{SpellsDemo}
use Rattle.rs_tool.specs.declared.statuses.Status.{Status}
use Rattle.rs_tool.specs.declared.statuses.Status.TheVariants as status
use Rattle.rs_model.specs.declared.limits.TheConstants.{DEFAULT_BOUND}

-- the bytes are data of the demo within the limit; the text of its document spells a session whose machines may be
-- derived; and the rings hold as many messages as its room says
pub record CanBePerformed (kind : Demo) (ring : Option ℕ) (bytes : List ℕ) : Type 0 where
  pub short : length bytes ≤ MOST_BYTES
  pub actors : List DemoTalker
  pub text : List ℕ
  pub opens : Opens kind bytes actors text
  pub session : SpellsDerivableSession DEFAULT_BOUND text
  pub enough : (derivations : List Derivation_data) → AreCanonical DEFAULT_BOUND (machines_of session.document.machines session.projections) session.projections derivations
      → room_of derivations ≤ capacity_of ring (room_of derivations)

-- the demo was run, and all roles ended; or memory was refused
abbrev pub IsPerformed : Status → Type 0
IsPerformed status.Fine = Unit {0}
IsPerformed status.NoMemory = Unit {0}
IsPerformed other = ⊥

-- a `demo` on such data, in which no fault of the source or the sink rises, is run or wants memory
abbrev pub IsCompleteDemo : {S K : Type 0} → Call S K → Status → Type 0
IsCompleteDemo call status = (kind : Demo) (ring : Option ℕ) → SpellsDemo call.words kind ring → IfSome call.input.left (λ bytes. CanBePerformed kind ring bytes
    → (call.input.rose → ⊥) → (call.output.rose → ⊥) → IsPerformed status)
