-- Headline: what each command takes, and which lists of words spell uses of it.
use Rattle.std.specs.Prelude.{◌≡◌, ◌==◌, ℕ, Bool, true, false, List, [], ◌∷◌, ◌++◌, map, codes, Option, Some, None, flat_map, find}
use Rattle.std.specs.List.{list_any}
use Rattle.std.specs.Str.{bytes_eq}

-- a word, a name or a value, as its bytes
abbrev pub Bytes : Type 0
Bytes = List ℕ

-- an option: its name, and whether it has a value
pub record CommandOption : Type 0 where
  pub name : Bytes
  pub is_valued : Bool

-- what a command takes: its name, its options, and the id of its positional word, where it has one
pub record Form : Type 0 where
  pub name : Bytes
  pub choices : List CommandOption
  pub word : Option Bytes

-- options with these names, each with a value
abbrev pub with_values : List Bytes → List CommandOption
with_values names = map (λ name. record { name = name; is_valued = true }) names

-- a command with nothing behind its name
abbrev pub bare_form : Bytes → Form
bare_form name = record { name = name; choices = []; word = None }

-- check [--bound K] [--derivations]
abbrev pub check_form : Form
check_form = record { name = codes "check"; choices = with_values (codes "bound" ∷ []) ++ record { name = codes "derivations"; is_valued = false } ∷ []; word = None }

-- run [--bound K] [--ring C] [--workers N] [--limit L] [--seed X]
abbrev pub run_form : Form
run_form = record { name = codes "run"; choices = with_values (codes "bound" ∷ codes "ring" ∷ codes "workers" ∷ codes "limit" ∷ codes "seed" ∷ []); word = None }

-- demo NAME [--ring C] [--workers N]
abbrev pub demo_form : Form
demo_form = record { name = codes "demo"; choices = with_values (codes "ring" ∷ codes "workers" ∷ []); word = Some (codes "name") }

-- gen N
abbrev pub gen_form : Form
gen_form = record { name = codes "gen"; choices = []; word = Some (codes "number") }

-- improve ROLE [--swaps N] [--bound K]
abbrev pub improve_form : Form
improve_form = record { name = codes "improve"; choices = with_values (codes "swaps" ∷ codes "bound" ∷ []); word = Some (codes "role") }

-- explain [--bound K]
abbrev pub explain_form : Form
explain_form = record { name = codes "explain"; choices = with_values (codes "bound" ∷ []); word = None }

-- draw [--bound K] [--ring C] [--limit L] [--seed X] [--run] [ROLE]; which of them go together is a matter of meaning
abbrev pub draw_form : Form
draw_form = record {
  name = codes "draw";
  choices = with_values (codes "bound" ∷ codes "ring" ∷ codes "limit" ∷ codes "seed" ∷ []) ++ record { name = codes "run"; is_valued = false } ∷ [];
  word = Some (codes "role");
}

-- all commands
abbrev pub forms : List Form
forms = check_form ∷ bare_form (codes "verify") ∷ bare_form (codes "migrate") ∷ bare_form (codes "show") ∷ bare_form (codes "project") ∷ run_form ∷ demo_form ∷ gen_form ∷ improve_form ∷ explain_form ∷ draw_form ∷ []

-- the bytes begin with `-`
abbrev pub begins_with_dash : Bytes → Bool
begins_with_dash [] = false
begins_with_dash (x ∷ xs) = x == 45

-- `--` and the name
abbrev pub option_word : Bytes → Bytes
option_word name = 45 ∷ 45 ∷ name

-- an option or a positional word, as it may stand behind the command's name
pub data WordPiece : Type 0 where
  -- `--name value`
  value_behind : (name value : Bytes) → WordPiece
  -- `--name=value`
  value_joined : (name value : Bytes) → WordPiece
  -- `--name`
  flag : (name : Bytes) → WordPiece
  -- `text`
  positional : (text : Bytes) → WordPiece

-- the words of a piece
abbrev pub words_of : WordPiece → List Bytes
words_of (value_behind name value) = option_word name ∷ value ∷ []
words_of (value_joined name value) = option_word (name ++ 61 ∷ value) ∷ []
words_of (flag name) = option_word name ∷ []
words_of (positional text) = text ∷ []

-- the command has an option of this name, with a value or without
abbrev pub HasChoice : Form → Bytes → Bool → Type 0
HasChoice form name is_valued = find (λ c. bytes_eq c.name name) form.choices ≡ Some (record { name = name; is_valued = is_valued })

-- the command takes the piece: a value in a word of its own doesn't begin with `-`, and no positional word does
abbrev pub PieceStands : Form → WordPiece → Type 0
PieceStands form (value_behind name value) = HasChoice form name true × (begins_with_dash value ≡ false)
PieceStands form (value_joined name value) = HasChoice form name true
PieceStands form (flag name) = HasChoice form name false
PieceStands form (positional text) = (id : Bytes) × (form.word ≡ Some id) × (begins_with_dash text ≡ false)

-- the command takes each of the pieces
abbrev pub AllStand : Form → List WordPiece → Type 0
AllStand form [] = Unit {0}
AllStand form (p ∷ ps) = PieceStands form p × AllStand form ps

-- what stands behind the last piece: nothing, `--`, or `--` and a positional word
pub data WordsEnd : Type 0 where
  nothing : WordsEnd
  dashes_alone : WordsEnd
  dashes_and_word : (text : Bytes) → WordsEnd

-- the words of an ending
abbrev pub ending_words : WordsEnd → List Bytes
ending_words nothing = []
ending_words dashes_alone = option_word [] ∷ []
ending_words (dashes_and_word text) = option_word [] ∷ text ∷ []

-- the command takes the ending
abbrev pub EndingStands : Form → WordsEnd → Type 0
EndingStands form (dashes_and_word text) = PieceStands form (positional text)
EndingStands form _ = Unit {0}

-- one use of what a command takes: an option by its name, or the positional word by its id, and the text that it was given
pub record Use : Type 0 where
  pub id : Bytes
  pub value : Bytes

-- the id of the positional word, and nothing where there is none
abbrev pub word_id : Form → Bytes
word_id form = id_or_nothing form.word
  where
    id_or_nothing : Option Bytes → Bytes
    id_or_nothing None = []
    id_or_nothing (Some id) = id

-- what a piece uses; an option without a value is given the text `true`
abbrev pub use_of : Form → WordPiece → Use
use_of form (value_behind name value) = record { id = name; value = value }
use_of form (value_joined name value) = record { id = name; value = value }
use_of form (flag name) = record { id = name; value = codes "true" }
use_of form (positional text) = record { id = word_id form; value = text }

-- what an ending uses
abbrev pub ending_uses : Form → WordsEnd → List Use
ending_uses form (dashes_and_word text) = use_of form (positional text) ∷ []
ending_uses form _ = []

-- one of the uses has this id
abbrev pub has_use : Bytes → List Use → Bool
has_use id uses = list_any (λ u. bytes_eq u.id id) uses

-- each use has another id than those before it
abbrev pub AllNew : List Use → List Use → Type 0
AllNew before [] = Unit {0}
AllNew before (u ∷ us) = (has_use u.id before ≡ false) × AllNew (before ++ u ∷ []) us

-- the words behind the name of a command spell these uses: pieces that it takes and an ending that it takes, none of
-- which uses what another one used
pub record SpellsUses (form : Form) (words : List Bytes) (uses : List Use) : Type 0 where
  pub pieces : List WordPiece
  pub ending : WordsEnd
  pub words_are : words ≡ flat_map words_of pieces ++ ending_words ending
  pub pieces_stand : AllStand form pieces
  pub ending_stands : EndingStands form ending
  pub uses_are : uses ≡ map (use_of form) pieces ++ ending_uses form ending
  pub all_new : AllNew [] uses
