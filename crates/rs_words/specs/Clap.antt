-- Steps: what clap is asked to read, and what it tells.
use Rattle.std.specs.Prelude.{◌≡◌, ◌==◌, ◌&&◌, ◌||◌, Bool, true, false, List, [], ◌∷◌, ◌++◌, map, codes, Option, Some, None, option_and_then, if◌then◌else◌, fold, not}
use Rattle.std.specs.Str.{bytes_eq}
use Rattle.clap.specs.Words.{App, Row, Rule, first_of, fault_of, new_app, new_rule, subcommand_of, subcommand_rows_of, with_rule, with_subcommand}
use Rattle.clap.specs.declared.builder.action.ArgAction.TheVariants.{Set, SetTrue}
use Rattle.clap.specs.declared.parser.matches.ArgMatches.{ArgMatches}
use Rattle.rs_words.specs.declared.tasks.Task.{Task}
use Rattle.rs_words.specs.Grammar.{Bytes, Form, begins_with_dash, option_word, forms}
use Rattle.rs_words.specs.Meaning.{task_of}

-- an option as clap is told it
abbrev pub choice_rule : Bytes → Bool → Rule
choice_rule name is_valued = record (new_rule name) { long = Some name; action = Some (if is_valued then Set else SetTrue) }

-- a positional word as clap is told it
abbrev pub word_rule : Bytes → Rule
word_rule id = record (new_rule id) { action = Some Set }

-- the rule of the positional word, where there is one
abbrev pub word_rules : Option Bytes → List Rule
word_rules None = []
word_rules (Some id) = word_rule id ∷ []

-- all that a command takes, as clap is told it
abbrev pub rules_of : Form → List Rule
rules_of form = map (λ c. choice_rule c.name c.is_valued) form.choices ++ word_rules form.word

-- a command
abbrev pub app_of_form : Form → App
app_of_form form = fold with_rule (new_app form.name) (rules_of form)

-- the program, before its commands are added
abbrev pub program : App
program = record { top = record (new_app (codes "rumpsteak")).top { no_binary_name = true; disable_help_flag = true; disable_help_subcommand = true; subcommand_required = true }; subs = [] }

-- the program with all of its commands
abbrev pub app : App
app = fold with_subcommand program (map (λ f. (app_of_form f).top) forms)

-- the text is `true`
abbrev pub is_true_text : Option Bytes → Bool
is_true_text None = false
is_true_text (Some text) = bytes_eq text (codes "true")

-- the name is that of an option without a value
abbrev pub is_flag_name : Bytes → Bool
is_flag_name name = bytes_eq name (codes "derivations") || bytes_eq name (codes "run")

-- the text that clap found for an id; of an option without a value only where it is used
abbrev pub found_text : List Row → Bytes → Option Bytes
found_text rows id = if is_flag_name id then (if is_true_text (first_of id rows) then Some (codes "true") else None) else first_of id rows

-- what the command that clap found asks for, by the rows that it found
abbrev pub task_found : Option (Bytes × List Row) → Option Task
task_found found = option_and_then (λ p. task_of p.0 (found_text p.1)) found

-- the word begins with `--`
abbrev pub begins_with_two_dashes : Bytes → Bool
begins_with_two_dashes [] = false
begins_with_two_dashes (x ∷ xs) = (x == 45) && begins_with_dash xs

-- the word may stand behind `--` (then it begins with no dash) or before it (then with none or with two)
abbrev pub dash_is_allowed : Bool → Bytes → Bool
dash_is_allowed true word = not (begins_with_dash word)
dash_is_allowed false word = not (begins_with_dash word) || begins_with_two_dashes word

-- each word may stand where it stands; of others clap would take some that the program doesn't
abbrev pub dashes_are_allowed : List Bytes → Bool → Bool
dashes_are_allowed [] behind = true
dashes_are_allowed (word ∷ words) behind = dash_is_allowed behind word && dashes_are_allowed words (behind || bytes_eq word (option_word []))

-- clap took the words, and found this; or it refused them
abbrev pub ClapFinds : List Bytes → Option ArgMatches → Type 0
ClapFinds words (Some m) = (fault_of app words ≡ []) × (subcommand_rows_of m ≡ subcommand_of app words)
ClapFinds words None = fault_of app words ≡ [] → ⊥
