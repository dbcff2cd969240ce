-- Public: what is seen in a word.
use Rattle.std.specs.Prelude.{ℕ, List, codes, Option, Some, None, Bool, false, if◌then◌else◌}
use Rattle.std.specs.Str.{bytes_eq}
use Rattle.rs_model.specs.declared.values.Sort.{Sort}
use Rattle.rs_model.specs.declared.values.Sort.TheVariants as sort
use Rattle.rs_text.specs.Signs.{Sign, rec_word, end_word, plain}

-- the text of a word other than rec and end
abbrev pub plain_text : Sign → Option (List ℕ)
plain_text (plain text) = Some text
plain_text _ = None

-- the text of a word
abbrev pub word_text : Sign → Option (List ℕ)
word_text rec_word = Some (codes "rec")
word_text end_word = Some (codes "end")
word_text (plain text) = Some text
word_text _ = None

-- the word is this name
abbrev pub is_text : List ℕ → Option (List ℕ) → Bool
is_text name None = false
is_text name (Some text) = bytes_eq text name

-- the sort of this name
abbrev pub sort_named : List ℕ → Option Sort
sort_named text =
    if bytes_eq text (codes "unit") then Some sort.Unit
    else if bytes_eq text (codes "bool") then Some sort.Flag
    else if bytes_eq text (codes "nat") then Some sort.Natural
    else if bytes_eq text (codes "int") then Some sort.Whole
    else if bytes_eq text (codes "bytes") then Some sort.Octets
    else if bytes_eq text (codes "list") then Some sort.Numbers
    else None
