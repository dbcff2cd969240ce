-- Headline: what tasks ask for.
use Rattle.std.specs.Prelude.{◌≡◌, ℕ, List, Option, Bool}
use Rattle.rs_model.specs.declared.demos.Demo.{Demo}
use Rattle.rs_model.specs.declared.runs.RunOptions.{RunOptions}
use Rattle.rs_model.specs.declared.runs.Workers.{Workers}
use Rattle.rs_model.specs.declared.runs.Workers.TheVariants.{Several}
use Rattle.rs_words.specs.Meaning.{SpellsTask}
use Rattle.rs_words.specs.Tasks.{workers_of}
use Rattle.rs_words.specs.declared.tasks.DocumentTask.TheVariants as on_document
use Rattle.rs_words.specs.declared.tasks.ImproveOptions.{ImproveOptions}
use Rattle.rs_words.specs.declared.tasks.Task.{Task}
use Rattle.rs_words.specs.declared.tasks.Task.TheVariants as task

-- the task is carried out on the input: on its document, or on its data
abbrev pub ReadsTheInput : Task → Type 0
ReadsTheInput (task.Gen number) = ⊥
ReadsTheInput other = Unit {0}

-- the words ask for a task that reads the input
abbrev pub ReadTheInput : List (List ℕ) → Type 0
ReadTheInput words = (spelt : Task) × SpellsTask words spelt × ReadsTheInput spelt

-- the words ask for a run by several workers
abbrev pub AskForWorkers : List (List ℕ) → Type 0
AskForWorkers words = (spelt : Task) × (crew : ℕ) × SpellsTask words spelt × (workers_of spelt ≡ Several crew)

-- the words are those of a `check` within this bound, which asks for the derivations or not
abbrev pub SpellsCheck : List (List ℕ) → ℕ → Type 0
SpellsCheck words bound = (derivations : Bool) × SpellsTask words (task.OnDocument (on_document.Check (record { bound = bound; derivations = derivations })))

-- the words are those of an `explain` within this bound
abbrev pub SpellsExplain : List (List ℕ) → ℕ → Type 0
SpellsExplain words bound = SpellsTask words (task.OnDocument (on_document.Explain bound))

-- the words are those of `verify`
abbrev pub SpellsVerify : List (List ℕ) → Type 0
SpellsVerify words = SpellsTask words (task.OnDocument on_document.Verify)

-- the words are those of `migrate`
abbrev pub SpellsMigrate : List (List ℕ) → Type 0
SpellsMigrate words = SpellsTask words (task.OnDocument on_document.Migrate)

-- the words are those of an `improve`, of any role
abbrev pub SpellsImprove : List (List ℕ) → Type 0
SpellsImprove words = (options : ImproveOptions) × SpellsTask words (task.OnDocument (on_document.Improve options))

-- the words are those of a `run` with these options, by any number of workers
abbrev pub SpellsRun : List (List ℕ) → RunOptions → Type 0
SpellsRun words options = (workers : Workers) × SpellsTask words (task.OnDocument (on_document.Run options workers))

-- the words are those of a `draw --run` with these options
abbrev pub SpellsDrawnRun : List (List ℕ) → RunOptions → Type 0
SpellsDrawnRun words options = SpellsTask words (task.OnDocument (on_document.DrawRun options))

-- the words are those of a `demo`, with rings of this capacity where one is asked for, by any number of workers
abbrev pub SpellsDemo : List (List ℕ) → Demo → Option ℕ → Type 0
SpellsDemo words kind ring = (workers : Workers) × SpellsTask words (task.OnData (record { kind = kind; ring = ring; workers = workers }))
