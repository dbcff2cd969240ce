-- Headline: what a list of words asks for.
use Rattle.std.specs.Prelude.{◌≡◌, ◌==◌, ◌&&◌, ◌||◌, ℕ, Bool, List, ◌∷◌, codes, Option, Some, None, option_map, option_and_then, find, if◌then◌else◌, nat_le, is_some, IfSome}
use Rattle.std.specs.Str.{bytes_eq}
use Rattle.std.specs.Str.Parse.{digits_value}
use Rattle.std.specs.Fmt.{decimal}
use Rattle.rs_model.specs.Limits.{IsBound, IsCapacity, IsCrew, IsFromTo}
use Rattle.rs_model.specs.declared.limits.TheConstants.{DEFAULT_BOUND, MOST_BOUND, MOST_CAPACITY, MOST_WORKERS}
use Rattle.rs_model.specs.declared.demos.Demo.{Demo}
use Rattle.rs_model.specs.declared.demos.Demo.TheVariants as demo
use Rattle.rs_model.specs.declared.runs.Workers.{Workers}
use Rattle.rs_model.specs.declared.runs.Workers.TheVariants.{One, Several}
use Rattle.rs_words.specs.declared.limits.TheConstants.{DEFAULT_DRAWN_LIMIT, DEFAULT_LIMIT, MOST_GEN, MOST_LIMIT, MOST_SEED, MOST_SWAPS}
use Rattle.rs_words.specs.declared.tasks.DocumentTask.TheVariants as on_document
use Rattle.rs_words.specs.declared.tasks.Task.{Task}
use Rattle.rs_words.specs.declared.tasks.Task.TheVariants as task
use Rattle.rs_words.specs.Grammar.{Bytes, Form, SpellsUses, Use, forms}

-- the number whose decimal text this is, where it lies from the low one to the high one
abbrev pub number_from_to : ℕ → ℕ → Bytes → Option ℕ
number_from_to low high text =
    let n = digits_value 10 text in
    if bytes_eq (decimal n) text && (nat_le low n && nat_le n high) then Some n else None

-- the text of an option or a positional word, where it is used
abbrev pub text_of_use : Bytes → List Use → Option Bytes
text_of_use id uses = option_map (λ u. u.value) (find (λ u. bytes_eq u.id id) uses)

-- an optional number: Some None where no text is there, and None where one is that is no such number
abbrev pub optional_in : ℕ → ℕ → Option Bytes → Option (Option ℕ)
optional_in low high None = Some None
optional_in low high (Some text) = option_map (λ n. Some n) (number_from_to low high text)

-- a number that is the first one where no text is there
abbrev pub number_or_else : ℕ → ℕ → ℕ → Option Bytes → Option ℕ
number_or_else fallback low high None = Some fallback
number_or_else fallback low high (Some text) = number_from_to low high text

-- the demo of this name
abbrev pub demo_of_name : Bytes → Option Demo
demo_of_name text = if bytes_eq text (codes "double") then Some demo.Double
    else if bytes_eq text (codes "ring") then Some demo.Ring
    else if bytes_eq text (codes "stream") then Some demo.Stream
    else if bytes_eq text (codes "butterfly") then Some demo.Butterfly else None

-- the numbers of the options, each with its range and its default
abbrev pub bound_of_option : Option Bytes → Option ℕ
bound_of_option text = number_or_else DEFAULT_BOUND 1 MOST_BOUND text

-- the capacity of rings, which may be left out
abbrev pub ring_in : Option Bytes → Option (Option ℕ)
ring_in text = optional_in 1 MOST_CAPACITY text

-- who makes the turns, where the workers are so many
abbrev pub workers_of_number : ℕ → Workers
workers_of_number n = if n == 1 then One else Several n

-- who makes the turns
abbrev pub workers_in : Option Bytes → Option Workers
workers_in text = option_map workers_of_number (number_or_else 1 1 MOST_WORKERS text)

-- how many acts a role may make
abbrev pub limit_in : Option Bytes → Option ℕ
limit_in text = number_or_else DEFAULT_LIMIT 1 MOST_LIMIT text

-- how many acts a role may make in a run that is drawn
abbrev pub drawn_limit_in : Option Bytes → Option ℕ
drawn_limit_in text = number_or_else DEFAULT_DRAWN_LIMIT 1 MOST_LIMIT text

-- how many swaps are asked
abbrev pub swaps_in : Option Bytes → Option ℕ
swaps_in text = number_or_else 1 1 MOST_SWAPS text

-- the seed of the draws
abbrev pub seed_in : Option Bytes → Option ℕ
seed_in text = number_or_else 0 0 MOST_SEED text

-- what `check` asks for, by the text of its bound and whether it is to print derivations
abbrev pub check_task : Option Bytes → Bool → Option Task
check_task bound derivations = option_map (λ k. task.OnDocument (on_document.Check (record { bound = k; derivations = derivations }))) (bound_of_option bound)

-- what `run` asks for, by the texts of its options
abbrev pub run_task : Option Bytes → Option Bytes → Option Bytes → Option Bytes → Option Bytes → Option Task
run_task bound ring workers limit seed =
    option_and_then (λ k. option_and_then (λ c. option_and_then (λ n. option_and_then (λ l. option_map (λ x. task.OnDocument (on_document.Run (record { bound = k; ring = c; limit = l; seed = x }) n))
    (seed_in seed)) (limit_in limit)) (workers_in workers)) (ring_in ring)) (bound_of_option bound)

-- what `demo` asks for, by the text of its name and those of its options
abbrev pub demo_task : Option Bytes → Option Bytes → Option Bytes → Option Task
demo_task name ring workers =
    option_and_then (λ d. option_and_then (λ c. option_map (λ n. task.OnData (record { kind = d; ring = c; workers = n }))
    (workers_in workers)) (ring_in ring)) (option_and_then demo_of_name name)

-- what `improve` asks for, by the text of its role and those of its options
abbrev pub improve_task : Option Bytes → Option Bytes → Option Bytes → Option Task
improve_task role swaps bound =
    option_and_then (λ r. option_and_then (λ n. option_map (λ k. task.OnDocument (on_document.Improve (record { role = r; bound = k; swaps = n })))
    (bound_of_option bound)) (swaps_in swaps)) role

-- what `explain` asks for, by the text of its bound
abbrev pub explain_task : Option Bytes → Option Task
explain_task bound = option_map (λ k. task.OnDocument (on_document.Explain k)) (bound_of_option bound)

-- what `draw` without `--run` asks for, by the text of its role, which may be left out
abbrev pub draw_plain_task : Option Bytes → Task
draw_plain_task role = task.OnDocument (on_document.Draw role)

-- what `draw --run` asks for, by the texts of its options
abbrev pub draw_run_task : Option Bytes → Option Bytes → Option Bytes → Option Bytes → Option Task
draw_run_task bound ring limit seed =
    option_and_then (λ k. option_and_then (λ c. option_and_then (λ l. option_map (λ x. task.OnDocument (on_document.DrawRun (record { bound = k; ring = c; limit = l; seed = x })))
    (seed_in seed)) (drawn_limit_in limit)) (ring_in ring)) (bound_of_option bound)

-- one of the options is used that only `draw --run` takes
abbrev pub has_run_options : Option Bytes → Option Bytes → Option Bytes → Option Bytes → Bool
has_run_options bound ring limit seed = is_some bound || is_some ring || is_some limit || is_some seed

-- what `draw` asks for, by whether `--run` is used, the text of its role and those of its options: with `--run` no role may
-- be given, and without it none of the options
abbrev pub draw_task : Bool → Option Bytes → Option Bytes → Option Bytes → Option Bytes → Option Bytes → Option Task
draw_task is_run role bound ring limit seed =
    if is_run then (if is_some role then None else draw_run_task bound ring limit seed)
    else if has_run_options bound ring limit seed then None
    else Some (draw_plain_task role)

-- what `gen` asks for, by the text of its number
abbrev pub gen_task : Option Bytes → Option Task
gen_task number = option_map (λ n. task.Gen n) (option_and_then (number_from_to 0 MOST_GEN) number)

-- what the command of this name asks for, by the texts that it is given; None where one isn't as it must be, or is missing
abbrev pub task_of : Bytes → (Bytes → Option Bytes) → Option Task
task_of name value =
    if bytes_eq name (codes "check") then check_task (value (codes "bound")) (is_some (value (codes "derivations")))
    else if bytes_eq name (codes "verify") then Some (task.OnDocument on_document.Verify)
    else if bytes_eq name (codes "migrate") then Some (task.OnDocument on_document.Migrate)
    else if bytes_eq name (codes "show") then Some (task.OnDocument on_document.Show)
    else if bytes_eq name (codes "project") then Some (task.OnDocument on_document.Project)
    else if bytes_eq name (codes "run") then run_task (value (codes "bound")) (value (codes "ring")) (value (codes "workers")) (value (codes "limit")) (value (codes "seed"))
    else if bytes_eq name (codes "demo") then demo_task (value (codes "name")) (value (codes "ring")) (value (codes "workers"))
    else if bytes_eq name (codes "gen") then gen_task (value (codes "number"))
    else if bytes_eq name (codes "improve") then improve_task (value (codes "role")) (value (codes "swaps")) (value (codes "bound"))
    else if bytes_eq name (codes "explain") then explain_task (value (codes "bound"))
    else if bytes_eq name (codes "draw") then draw_task (is_some (value (codes "run"))) (value (codes "role")) (value (codes "bound")) (value (codes "ring")) (value (codes "limit")) (value (codes "seed"))
    else None

-- the words spell the task: a command's name, and behind it uses of what the command takes, whose texts ask for the task
pub record SpellsTask (words : List Bytes) (spelt : Task) : Type 0 where
  pub form : Form
  pub rest : List Bytes
  pub uses : List Use
  pub is_command : find (λ f. bytes_eq f.name form.name) forms ≡ Some form
  pub words_are : words ≡ form.name ∷ rest
  pub rest_spells : SpellsUses form rest uses
  pub task_is : task_of form.name (λ id. text_of_use id uses) ≡ Some spelt

-- what a list of words means: the task that it spells, or none, where it spells none
abbrev pub IsMeaning : List Bytes → Option Task → Type 0
IsMeaning words (Some spelt) = SpellsTask words spelt
IsMeaning words None = (any : Task) → SpellsTask words any → ⊥

-- who makes the turns is one worker, or a crew
abbrev pub AreWorkers : Workers → Type 0
AreWorkers One = Unit {0}
AreWorkers (Several n) = IsCrew n

-- each number of the task lies in its range
abbrev pub IsInRange : Task → Type 0
IsInRange (task.OnDocument (on_document.Check options)) = IsBound options.bound
IsInRange (task.OnDocument (on_document.Run options workers)) =
    IsBound options.bound × IfSome options.ring IsCapacity × AreWorkers workers × IsFromTo 1 MOST_LIMIT options.limit × IsFromTo 0 MOST_SEED options.seed
IsInRange (task.OnDocument (on_document.DrawRun options)) = IsBound options.bound × IfSome options.ring IsCapacity × IsFromTo 1 MOST_LIMIT options.limit × IsFromTo 0 MOST_SEED options.seed
IsInRange (task.OnDocument (on_document.Improve options)) = IsBound options.bound × IsFromTo 1 MOST_SWAPS options.swaps
IsInRange (task.OnDocument (on_document.Explain bound)) = IsBound bound
IsInRange (task.OnData demo) = IfSome demo.ring IsCapacity × AreWorkers demo.workers
IsInRange (task.Gen number) = IsFromTo 0 MOST_GEN number
IsInRange _ = Unit {0}
