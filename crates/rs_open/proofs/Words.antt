-- Words are texts, and so are the names of a document.
use Rattle.std.proofs.Common.{◌≡◌, ℕ, ◌<◌, List, [], ◌∷◌, true, ◌&&◌, All, IsAscii, IsUtf8, Option, Some, None, slice_get, length, refl, ap, arith, subst}
use Rattle.std.proofs.lemmas.Bool.Decides.{nat_tests}
use Rattle.std.proofs.lemmas.List.Elements.{All-weaker}
use Rattle.std.proofs.lemmas.Option.{get_or_from_slice_get, slice_get_within}
use Rattle.std.proofs.lemmas.Str.{IsUtf8-from_ascii, IsUtf8-nil}
use Rattle.std.proofs.lemmas.Str.Ascii.{IsAscii-cons, IsAscii-nil}
use Rattle.std.specs.List.{list_all}
use Rattle.std.specs.Prelude.{nat_le}
use Rattle.rs_answers.specs.RefusalTexts.{label_name, role_name}
use Rattle.rs_model.specs.Data.{Names_data}
use Rattle.rs_model.specs.declared.graph.Label.{Label}
use Rattle.rs_model.specs.declared.graph.Role.{Role}
use Rattle.rs_text.proofs.Basics.{both}
use Rattle.rs_text.proofs.Naming.{place_stands}
use Rattle.rs_text.proofs.Numbers.{place_below}
use Rattle.rs_text.proofs.Written.{role_is_word}
use Rattle.rs_text.specs.Bytes.{begins, is_letter, is_word_byte}
use Rattle.rs_text.specs.NamePlaces.{name_at, text_or_none}
use Rattle.rs_text.specs.Names.{place_of}
use Rattle.rs_text.specs.Sound.{IsSound}
use Rattle.rs_text.specs.Words.{is_role_word, is_word}

byte_is_ascii : (b : ℕ) → is_word_byte b ≡ true → b < 128
byte_is_ascii b is = grind (arith, nat_tests)

are_ascii : (bs : List ℕ) → list_all is_word_byte bs ≡ true → IsAscii bs
are_ascii [] all = IsAscii-nil
are_ascii (b ∷ bs) all = let h = both (is_word_byte b) (list_all is_word_byte bs) all in IsAscii-cons b bs (byte_is_ascii b h.0) (are_ascii bs h.1)

word_is_text : (word : List ℕ) → is_word word ≡ true → IsUtf8 word
word_is_text word is =
    let behind = (both (begins is_letter word) (list_all is_word_byte word && nat_le (length word) 64) is).1 in
    IsUtf8-from_ascii word (are_ascii word (both (list_all is_word_byte word) (nat_le (length word) 64) behind).0)

text_at : (names : List (List ℕ)) (k : ℕ) → All IsUtf8 names → IsUtf8 (name_at names k)
text_at names k all = by (slice_get names k) refl
  where
    by : (found : Option (List ℕ)) → slice_get names k ≡ found → IsUtf8 (text_or_none found)
    by None is = IsUtf8-nil
    by (Some name) is = subst IsUtf8 (get_or_from_slice_get names k name name is) (all k name (slice_get_within names k name is))

pub role_is_text : (names : Names_data) (role : Role) → IsSound names → IsUtf8 (role_name names role)
role_is_text names role sound =
    text_at names.roles role.0 (All-weaker (λ x. is_role_word x ≡ true) IsUtf8 (λ x is. word_is_text x (role_is_word x is)) names.roles sound.roles_are_words)

pub label_is_text : (names : Names_data) (label : Label) → IsSound names → IsUtf8 (label_name names label)
label_is_text names label sound = text_at names.labels label.0 (All-weaker (λ x. is_word x ≡ true) IsUtf8 word_is_text names.labels sound.labels_are_words)

-- a name that is found is below the end, and stands there
pub found_below : (names : List (List ℕ)) (name : List ℕ) (k : ℕ) → place_of name names ≡ Some k → k < length names
found_below = place_below

pub found_there : (names : List (List ℕ)) (name : List ℕ) (k : ℕ) → place_of name names ≡ Some k → name_at names k ≡ name
found_there names name k is = ap text_or_none (place_stands names name k is).present
