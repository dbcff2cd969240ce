-- Public: how transcripts are written.
use Rattle.std.specs.Prelude.{ℕ, ℤ, ◌/◌, ◌%◌, List, [], ◌∷◌, ◌++◌, codes, Bool, true, false}
use Rattle.std.specs.Fmt.{decimal, digit_glyph, signed_decimal}
use Rattle.std.specs.List.{flat_map}
use Rattle.rs_core.specs.declared.transcripts.Entry.{Entry}
use Rattle.rs_core.specs.declared.transcripts.Entry.TheVariants as entry
use Rattle.rs_model.specs.Data.{Names_data}
use Rattle.rs_model.specs.declared.values.Value.{Value}
use Rattle.rs_model.specs.declared.values.Value.TheVariants as value
use Rattle.rs_answers.specs.RefusalTexts.{label_name, role_name}
use Rattle.rs_answers.specs.Texts.{joined_texts}

-- a truth value
abbrev pub flag_text : Bool → List ℕ
flag_text true = codes "true"
flag_text false = codes "false"

-- a byte as two hexadecimal digits, in lower case
abbrev pub hex_text : ℕ → List ℕ
hex_text byte = digit_glyph false (byte / 16) ∷ digit_glyph false (byte % 16) ∷ []

-- a number behind a comma
abbrev pub number_behind : ℤ → List ℕ
number_behind n = codes "," ++ signed_decimal n

-- numbers, with a comma between
abbrev pub integers_text : List ℤ → List ℕ
integers_text [] = []
integers_text (n ∷ ns) = signed_decimal n ++ flat_map number_behind ns

-- a value in parentheses, and nothing for the only value of its sort
abbrev pub value_text : Value → List ℕ
value_text value.Unit = []
value_text (value.Flag flag) = joined_texts (codes "(" ∷ flag_text flag ∷ codes ")" ∷ [])
value_text (value.Natural n) = joined_texts (codes "(" ∷ decimal n ∷ codes ")" ∷ [])
value_text (value.Whole n) = joined_texts (codes "(" ∷ signed_decimal n ∷ codes ")" ∷ [])
value_text (value.Octets bytes) = joined_texts (codes "(" ∷ flat_map hex_text bytes ∷ codes ")" ∷ [])
value_text (value.Numbers ns) = joined_texts (codes "([" ∷ integers_text ns ∷ codes "])" ∷ [])

-- a send as ` Q!label`, and a receive as ` Q?label(value)`
abbrev pub entry_text : Names_data → Entry → List ℕ
entry_text names (entry.Sent peer label) = joined_texts (codes " " ∷ role_name names peer ∷ codes "!" ∷ label_name names label ∷ [])
entry_text names (entry.Got peer label value) =
    joined_texts (codes " " ∷ role_name names peer ∷ codes "?" ∷ label_name names label ∷ value_text value ∷ [])

-- `P:` and all that the role did: a line
abbrev pub transcript_text : Names_data → List ℕ → List Entry → List ℕ
transcript_text names name entries = joined_texts (name ∷ codes ":" ∷ flat_map (entry_text names) entries ∷ codes "\n" ∷ [])

-- a line for each role, in order
abbrev pub transcripts_text : Names_data → List (List ℕ) → List (List Entry) → List ℕ
transcripts_text names (role ∷ roles) (entries ∷ transcripts) = transcript_text names role entries ++ transcripts_text names roles transcripts
transcripts_text names (role ∷ roles) [] = []
transcripts_text names [] transcripts = []
