-- Public: what a text is read as, and which faults its tokens have.
use Rattle.std.specs.Prelude.{ℕ, ◌≡◌, ◌++◌, ◌⊎◌, List, [], ◌∷◌, true, Ok, Err}
use Rattle.rs_grammar.specs.declared.symbols.Symbol.{Symbol}
use Rattle.rs_grammar.specs.Building.{Building, built}
use Rattle.rs_grammar.specs.Grammar.{Grammar, whole}
use Rattle.rs_grammar.specs.Places.{Takes, Leads, can_end, wanted_at}
use Rattle.rs_grammar.specs.Trees.{Event, Trees, SpellsAs, Spells, Begins, events_of, signs_in}
use Rattle.rs_text.specs.declared.faults.TextKind.{TextKind}
use Rattle.rs_text.specs.declared.faults.TextKind.TheVariants as kind
use Rattle.rs_text.specs.declared.reading.Stop.{Stop}
use Rattle.rs_text.specs.declared.reading.Stop.TheVariants as stops
use Rattle.rs_text.specs.declared.tokens.FaultKind.{FaultKind}
use Rattle.rs_text.specs.Faults.{kind_of}
use Rattle.rs_text.specs.FirstFaults.{FaultRule, FirstFaultBy, IsWhole}
use Rattle.rs_text.specs.Lexemes.{Lexeme, signs_of}
use Rattle.rs_text.specs.Signs.{Sign, broken}
use Rattle.rs_text.specs.Tokens.{AreTokens}

-- a token with the number of its action
abbrev pub event : ℕ → Sign → Event
event action t = record { action = action; sign = t }

-- the reading ends at this place: nothing is left, or what is left is optional and the next token, which isn't faulty, doesn't
-- begin it
abbrev pub EndsAt : Grammar → (place : List Symbol) → (next : Sign) → Type 0
EndsAt g place next = (place ≡ []) ⊎ ((can_end g place ≡ true) × IsWhole next × ((action : ℕ) → (d : List Symbol) → Takes g (event action next) place d → ⊥))

-- the bytes from `at` on begin with a sentence of the grammar, the longest one; its actions make the value of s, and the next
-- token is at `until`
pub record IsReadAs {S : Type 0} (g : Grammar) (take : Building S) (s : S) (bytes : List ℕ) (at : ℕ) (value : S) (until : ℕ) : Type 0 where
  pub trees : Trees
  pub lexemes : List Lexeme
  pub next : Lexeme
  pub others : List Lexeme
  pub tokens : AreTokens bytes at (lexemes ++ next ∷ others)
  pub spelt : SpellsAs g whole (signs_of lexemes) trees
  pub place : List Symbol
  pub leads : Leads g whole (events_of trees) place
  pub longest : EndsAt g place next.sign
  pub made : built take (events_of trees) next.sign s ≡ Ok value
  pub goes_on : until ≡ next.from

-- the tokens lead from the start of the grammar to the place, and their actions make the value of s; t is the token after them
pub record Reaches {S : Type 0} (g : Grammar) (take : Building S) (s : S) (before : List Sign) (t : Sign) (place : List Symbol) (value : S) : Type 0 where
  pub events : List Event
  pub signs : signs_in events ≡ before
  pub leads : Leads g whole events place
  pub made : built take events t s ≡ Ok value

-- the tokens before t are no sentence, and with t they begin none: what is wanted at the place is told
pub record IsUnexpected (g : Grammar) (before : List Sign) (t : Sign) (place : List Symbol) (k : TextKind) : Type 0 where
  pub whole_token : IsWhole t
  pub unended : Spells g whole before → ⊥
  pub stops : Begins g whole (before ++ t ∷ []) → ⊥
  pub wants : k ≡ kind.Expected (wanted_at g place)

-- t is taken at the place, and its action finds the fault
pub record IsRefused {S : Type 0} (g : Grammar) (take : Building S) (t next : Sign) (place : List Symbol) (value : S) (k : TextKind) : Type 0 where
  pub action : ℕ
  pub later : List Symbol
  pub takes : Takes g (event action t) place later
  pub finds : take action t next value ≡ Err k

-- t is a faulty token where something may still be read
pub record IsBroken (t : Sign) (place : List Symbol) (k : TextKind) : Type 0 where
  pub broken_kind : FaultKind
  pub broken_is : t ≡ broken broken_kind
  pub unread : place ≡ [] → ⊥
  pub kind_is : k ≡ kind_of broken_kind

-- t has a fault of this kind, at the place where the tokens before it lead
pub record FaultAt {S : Type 0} (g : Grammar) (take : Building S) (s : S) (before : List Sign) (t next : Sign) (k : TextKind) : Type 0 where
  pub place : List Symbol
  pub value : S
  pub reaches : Reaches g take s before t place value
  pub says : IsUnexpected g before t place k ⊎ (IsRefused g take t next place value k ⊎ IsBroken t place k)

-- the faults of tokens, as the frame of readers wants them
abbrev pub fault_rule : {S : Type 0} → Grammar → Building S → S → FaultRule
fault_rule g take s = λ before t next k. FaultAt g take s before t next k

-- the tokens before make this value
abbrev pub Makes : {S : Type 0} → Grammar → Building S → S → (before : List Sign) → S → Type 0
Makes g take s before value = (t : Sign) × (place : List Symbol) × Reaches g take s before t place value

-- why a reading stops: memory was refused, which may happen anywhere, or this is the first fault of the text
abbrev pub IsFirstFault : {S : Type 0} → Grammar → Building S → S → (bytes : List ℕ) → (at : ℕ) → Stop → Type 0
IsFirstFault g take s bytes at stops.Memory = Unit {0}
IsFirstFault g take s bytes at (stops.Fault f) = FirstFaultBy (fault_rule g take s) bytes at f.kind f.at
