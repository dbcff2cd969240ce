-- Steps: turns of a reader, each by the next token of the text.
use Rattle.std.specs.Prelude.{◌≡◌, ℕ, zero, suc, List, false, Ok}
use Rattle.rs_model.specs.Data.{Names_data}
use Rattle.rs_text.specs.declared.reading.Stop.{Stop}
use Rattle.rs_text.specs.Lexemes.{Lexeme}
use Rattle.rs_text.specs.Lexing.{next_lexeme}
use Rattle.rs_text.specs.Readings.{Automaton, Fails, feed_sign}

-- the next token from `now` on, which ends before `until`, leads the reader r, which has not read all, to the reader d
pub record Turn {R : Type 0} (a : Automaton R) (bytes : List ℕ) (now : ℕ) (r : R) (until : ℕ) (d : R) : Type 0 where
  pub token : Lexeme
  pub token_is : token ≡ next_lexeme bytes now
  pub unread : a.is_read r ≡ false
  pub fed : feed_sign a token.sign token.from (next_lexeme bytes token.until) r ≡ Ok d
  pub until_is : until ≡ token.until

-- so many turns
abbrev pub Turns : {R : Type 0} → Automaton R → List ℕ → (count : ℕ) → (now : ℕ) → R → (until : ℕ) → R → Type 0
Turns a bytes zero now r until d = (until ≡ now) × (d ≡ r)
Turns {R} a bytes (suc count) now r until d = (m : ℕ) × (q : R) × Turn a bytes now r m q × Turns a bytes count m q until d

-- some turns lead the reader r at the offset `now` to the reader d at the offset `until`
abbrev pub Passes : {R : Type 0} → Automaton R → List ℕ → (now : ℕ) → R → (until : ℕ) → R → Type 0
Passes a bytes now r until d = (count : ℕ) × Turns a bytes count now r until d

-- the reader r, which has not read all, stops at the next token from `now` on, and what is left of it has its names
pub record Refuses {R : Type 0} (a : Automaton R) (names : R → Names_data) (stop : Stop) (bytes : List ℕ) (now : ℕ) (r left : R) : Type 0 where
  pub token : Lexeme
  pub token_is : token ≡ next_lexeme bytes now
  pub unread : a.is_read r ≡ false
  pub fails : Fails stop (feed_sign a token.sign token.from (next_lexeme bytes token.until) r)
  pub names_are : names left ≡ names r
