-- Public: what a reader makes of the tokens of a text, for any kind of reader.
use Rattle.std.specs.Prelude.{◌≡◌, ℕ, List, [], ◌∷◌, ◌++◌, Result, Ok, Err, Bool, if◌then◌else◌}
use Rattle.rs_model.specs.Data.{Names_data}
use Rattle.rs_text.specs.declared.faults.TextFault.{TextFault}
use Rattle.rs_text.specs.declared.faults.TextKind.{TextKind}
use Rattle.rs_text.specs.declared.faults.TextKind.TheVariants as kind
use Rattle.rs_text.specs.declared.faults.Wanted.{Wanted}
use Rattle.rs_text.specs.declared.faults.Wanted.TheVariants as wanted
use Rattle.rs_text.specs.declared.reading.Stop.{Stop}
use Rattle.rs_text.specs.declared.reading.Stop.TheVariants as stops
use Rattle.rs_text.specs.Faults.{kind_of}
use Rattle.rs_text.specs.Lexemes.{Lexeme}
use Rattle.rs_text.specs.Lexing.{Lexed}
use Rattle.rs_text.specs.Signs.{Sign, broken, finish}

-- a kind of reader: what a token that isn't faulty makes of it, with the token's offset and the token behind it, and
-- whether it has read all
pub record Automaton (R : Type 0) : Type 0 where
  pub feed : Sign → ℕ → Lexeme → R → Result R TextFault
  pub is_read : R → Bool

-- the end is never taken, and nothing behind it counts
pub record StopsAtEnd {R : Type 0} (a : Automaton R) : Type 0 where
  pub never : (at : ℕ) (n : Lexeme) (r d : R) → a.feed finish at n r ≡ Ok d → ⊥
  pub same : (at : ℕ) (n k : Lexeme) (r : R) → a.feed finish at n r ≡ a.feed finish at k r

-- a fault at an offset
abbrev pub fault : {R : Type 0} → TextKind → ℕ → Result R TextFault
fault k at = Err (record { kind = k; at = at })

-- something else is wanted there
abbrev pub expected : {R : Type 0} → Wanted → ℕ → Result R TextFault
expected w at = fault (kind.Expected w) at

-- a faulty token is its own fault, whatever was wanted
abbrev pub feed_sign : {R : Type 0} → Automaton R → Sign → ℕ → Lexeme → R → Result R TextFault
feed_sign a (broken k) at next r = fault (kind_of k) at
feed_sign a t at next r = a.feed t at next r

-- nothing stands behind the last token
abbrev pub next_lexeme_of : Lexeme → List Lexeme → Lexeme
next_lexeme_of l [] = l
next_lexeme_of l (x ∷ xs) = x

-- a reader that has read all, and the offset of the token behind
pub record Reading (R : Type 0) : Type 0 where
  pub reader : R
  pub until : ℕ

-- all tokens, until the reader has read all
abbrev pub read_all : {R : Type 0} → Automaton R → Result R TextFault → List Lexeme → Result (Reading R) TextFault
read_all a (Err e) ls = Err e
read_all a (Ok r) [] = Err (record { kind = kind.Expected wanted.PartOrEnd; at = 0 })
read_all a (Ok r) (l ∷ ls) = if a.is_read r then Ok (record { reader = r; until = l.from }) else read_all a (feed_sign a l.sign l.from (next_lexeme_of l ls) r) ls

-- what the tokens of the bytes from `at` on lead the reader r to
abbrev pub ReadsBy : {R : Type 0} → Automaton R → R → List ℕ → ℕ → Result (Reading R) TextFault → Type 0
ReadsBy a r bytes at reading = (lexemes : List Lexeme) → Lexed bytes at lexemes → read_all a (Ok r) lexemes ≡ reading

-- the reader as it stands before the first token that it refuses, or behind all; r is the one before this token
abbrev pub last_of : {R : Type 0} → Automaton R → R → Result R TextFault → List Lexeme → R
last_of a r (Err e) ls = r
last_of a r (Ok d) [] = d
last_of a r (Ok d) (l ∷ ls) = if a.is_read d then d else last_of a d (feed_sign a l.sign l.from (next_lexeme_of l ls) d) ls

-- a stop by want of memory may come at any token; any other one is the fault that was fed
abbrev pub Fails : {R : Type 0} → Stop → Result R TextFault → Type 0
Fails stops.Memory fed = Unit {0}
Fails (stops.Fault f) fed = fed ≡ Err f

-- a reader takes a token, or stops at it with the names that it had
abbrev pub Feeds : {R : Type 0} → (R → Names_data) → Result (Unit {0}) Stop → Result R TextFault → (old new : R) → Type 0
Feeds names (Ok done) fed old new = fed ≡ Ok new
Feeds names (Err stop) fed old new = Fails stop fed × (names new ≡ names old)

-- a stop of a whole reading: by want of memory anywhere, or with the fault that the reading has
abbrev pub StopsBy : {R : Type 0} → Automaton R → Stop → R → List ℕ → ℕ → Type 0
StopsBy a stops.Memory r bytes at = Unit {0}
StopsBy a (stops.Fault f) r bytes at = ReadsBy a r bytes at (Err f)

-- a fault leaves the names of the reader that refused its token
abbrev pub Leaves : {R : Type 0} → Automaton R → (R → Names_data) → Stop → R → List ℕ → ℕ → Names_data → Type 0
Leaves a names stops.Memory r bytes at left = Unit {0}
Leaves a names (stops.Fault f) r bytes at left = (lexemes : List Lexeme) → Lexed bytes at lexemes → names (last_of a r (Ok r) lexemes) ≡ left

-- these tokens, before others, lead the reader r to the reader d
abbrev pub Lead : {R : Type 0} → Automaton R → R → (these others : List Lexeme) → R → Type 0
Lead a r [] others d = r ≡ d
Lead {R} a r (l ∷ ls) others d = (m : R) × (feed_sign a l.sign l.from (next_lexeme_of l (ls ++ others)) r ≡ Ok m) × Lead a m ls others d

-- the names are those of the reader that some first tokens of the bytes from `at` on lead the reader r to
pub record AreNamesBehind {R : Type 0} (a : Automaton R) (names : R → Names_data) (r : R) (bytes : List ℕ) (at : ℕ) (found : Names_data) : Type 0 where
  pub before : List Lexeme
  pub others : List Lexeme
  pub lexed : Lexed bytes at (before ++ others)
  pub reader : R
  pub lead : Lead a r before others reader
  pub names_are : found ≡ names reader

-- a refusal of memory is told at the offset where the reading began
abbrev pub fault_of_stop : Stop → ℕ → TextFault
fault_of_stop stops.Memory at = record { kind = kind.NoMemory; at = at }
fault_of_stop (stops.Fault f) at = f
