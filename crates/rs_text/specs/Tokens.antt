-- Headline: what the tokens of a text are, apart from any way to find them.
use Rattle.std.specs.Prelude.{◌≡◌, ◌≢◌, ◌<◌, ◌≤◌, ◌+◌, ℕ, List, [], ◌∷◌, ◌++◌, length, drop, codes, ◌==◌, true, false}
use Rattle.std.specs.List.{list_all, list_any}
use Rattle.rs_model.specs.declared.limits.TheConstants.{MOST_NAME_BYTES, MOST_NUMBER}
use Rattle.rs_text.specs.declared.tokens.FaultKind.{FaultKind}
use Rattle.rs_text.specs.declared.tokens.FaultKind.TheVariants as fault
use Rattle.rs_text.specs.Bytes.{is_blank, is_letter, is_digit, is_word_byte, begins}
use Rattle.rs_text.specs.Signs.{Sign, rec_word, end_word, plain, number, arrow, bang, question, colon, dot, comma, open_brace, close_brace, open_paren, close_paren, open_bracket, close_bracket}
use Rattle.rs_text.specs.Signs.{finish, broken}
use Rattle.rs_text.specs.Lexemes.{Lexeme, value_of, is_last}

-- what stands between tokens: blanks, and comments of # and further bytes
pub data Gap : Type 0 where
  nothing : Gap
  blank : (byte : ℕ) → (more : Gap) → Gap
  comment : (held : List ℕ) → (more : Gap) → Gap

-- the bytes of a gap
abbrev pub gap_bytes : Gap → List ℕ
gap_bytes nothing = []
gap_bytes (blank byte more) = byte ∷ gap_bytes more
gap_bytes (comment held more) = 35 ∷ held ++ gap_bytes more

-- the bytes are at their end, or an LF comes
abbrev pub EndsLine : List ℕ → Type 0
EndsLine [] = Unit {0}
EndsLine (b ∷ bs) = b ≡ 10

-- its blanks are blanks, and each comment goes on to before the next LF or the end
abbrev pub IsGap : Gap → (behind : List ℕ) → Type 0
IsGap nothing behind = Unit {0}
IsGap (blank byte more) behind = (is_blank byte ≡ true) × IsGap more behind
IsGap (comment held more) behind = (list_any (λ b. b == 10) held ≡ false) × EndsLine (gap_bytes more ++ behind) × IsGap more behind

-- letters, digits and _ behind a first letter or _, as many as there are
pub record IsWholeWord (text behind : List ℕ) : Type 0 where
  pub first : begins is_letter text ≡ true
  pub all : list_all is_word_byte text ≡ true
  pub whole : begins is_word_byte behind ≡ false

-- one digit or more, as many as there are
pub record IsWholeNumber (text behind : List ℕ) : Type 0 where
  pub first : begins is_digit text ≡ true
  pub all : list_all is_digit text ≡ true
  pub whole : begins is_digit behind ≡ false

-- no token and no gap begins with b where bs stand behind it
pub record BeginsNothing (b : ℕ) (bs : List ℕ) : Type 0 where
  pub no_blank : is_blank b ≡ false
  pub no_comment : b ≢ 35
  pub no_word : is_letter b ≡ false
  pub no_number : is_digit b ≡ false
  pub no_mark : list_any (λ mark. b == mark) (codes "!?:.,{}()[]") ≡ false
  pub no_arrow : b ≡ 45 → begins (λ next. next == 62) bs ≡ false

-- what stands here is at fault
abbrev pub IsFaulty : FaultKind → List ℕ → Type 0
IsFaulty fault.BadByte here = (b : ℕ) × (bs : List ℕ) × (here ≡ b ∷ bs) × BeginsNothing b bs
IsFaulty fault.NumberTooLarge here = (text : List ℕ) × (behind : List ℕ) × (here ≡ text ++ behind) × IsWholeNumber text behind × (MOST_NUMBER < value_of text)
IsFaulty fault.NameTooLong here = (text : List ℕ) × (behind : List ℕ) × (here ≡ text ++ behind) × IsWholeWord text behind × (MOST_NAME_BYTES < length text)

-- the text is a token of this sign before the bytes behind it. A faulty token has no text of its own
abbrev pub IsToken : Sign → (text behind : List ℕ) → Type 0
IsToken rec_word text behind = IsWholeWord text behind × (text ≡ codes "rec")
IsToken end_word text behind = IsWholeWord text behind × (text ≡ codes "end")
IsToken (plain name) text behind = IsWholeWord text behind × (length text ≤ MOST_NAME_BYTES) × (text ≢ codes "rec") × (text ≢ codes "end") × (name ≡ text)
IsToken (number value) text behind = IsWholeNumber text behind × (value_of text ≤ MOST_NUMBER) × (value ≡ value_of text)
IsToken arrow text behind = text ≡ codes "->"
IsToken bang text behind = text ≡ codes "!"
IsToken question text behind = text ≡ codes "?"
IsToken colon text behind = text ≡ codes ":"
IsToken dot text behind = text ≡ codes "."
IsToken comma text behind = text ≡ codes ","
IsToken open_brace text behind = text ≡ codes "{"
IsToken close_brace text behind = text ≡ codes "}"
IsToken open_paren text behind = text ≡ codes "("
IsToken close_paren text behind = text ≡ codes ")"
IsToken open_bracket text behind = text ≡ codes "["
IsToken close_bracket text behind = text ≡ codes "]"
IsToken finish text behind = (text ≡ []) × (behind ≡ [])
IsToken (broken kind) text behind = (text ≡ []) × IsFaulty kind behind

-- the bytes from `at` on are a gap, the token's text and what stands behind it
pub record IsNext (bytes : List ℕ) (at : ℕ) (l : Lexeme) : Type 0 where
  pub gap : Gap
  pub text : List ℕ
  pub behind : List ℕ
  pub parts : drop at bytes ≡ gap_bytes gap ++ (text ++ behind)
  pub between : IsGap gap (text ++ behind)
  pub token : IsToken l.sign text behind
  pub from : l.from ≡ at + length (gap_bytes gap)
  pub until : l.until ≡ l.from + length text

-- the token doesn't begin before `at`, nor end before it begins, nor behind the bytes
pub record IsWithin (bytes : List ℕ) (at : ℕ) (l : Lexeme) : Type 0 where
  pub ahead : at ≤ l.from
  pub order : l.from ≤ l.until
  pub inside : l.until ≤ length bytes

-- the tokens of the bytes from `at` on, as far as the end or the first faulty one
abbrev pub AreTokens : (bytes : List ℕ) → (at : ℕ) → List Lexeme → Type 0
AreTokens bytes at [] = ⊥
AreTokens bytes at (l ∷ ls) = IsNext bytes at l × (is_last l.sign ≡ true → ls ≡ []) × (is_last l.sign ≡ false → AreTokens bytes l.until ls)
