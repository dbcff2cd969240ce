-- Public: words.
use Rattle.std.specs.Prelude.{ℕ, List, length, codes, not, nat_le, Bool, ◌&&◌}
use Rattle.std.specs.List.{list_all}
use Rattle.std.specs.Str.{bytes_eq}
use Rattle.rs_model.specs.declared.limits.TheConstants.{MOST_NAME_BYTES}
use Rattle.rs_text.specs.Bytes.{begins, is_letter, is_word_byte}

-- a letter or _, then letters, digits and _: 1 to 64 bytes
abbrev pub is_word : List ℕ → Bool
is_word text = begins is_letter text && (list_all is_word_byte text && nat_le (length text) MOST_NAME_BYTES)

-- a word other than rec and end
abbrev pub is_role_word : List ℕ → Bool
is_role_word text = is_word text && (not (bytes_eq text (codes "rec")) && not (bytes_eq text (codes "end")))
