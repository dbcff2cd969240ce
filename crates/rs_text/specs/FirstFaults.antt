-- Public: the first fault of a text, for any rule that says which faults a token has.
use Rattle.std.specs.Prelude.{◌≡◌, ℕ, ◌≤◌, ◌⊎◌, List, [], ◌∷◌, ◌++◌, length}
use Rattle.rs_text.specs.declared.faults.TextFault.{TextFault}
use Rattle.rs_text.specs.declared.faults.TextKind.{TextKind}
use Rattle.rs_text.specs.declared.faults.TextKind.TheVariants as kind
use Rattle.rs_text.specs.Faults.{kind_number}
use Rattle.rs_text.specs.Lexemes.{Lexeme, signs_of}
use Rattle.rs_text.specs.Lexing.{Lexed}
use Rattle.rs_text.specs.Signs.{Sign, broken, finish}

-- such a rule: a token has a fault of this kind, with the tokens before it and the one behind it
abbrev pub FaultRule : Type 1
FaultRule = (before : List Sign) → (t next : Sign) → TextKind → Type 0

-- the token isn't a faulty one
abbrev pub IsWhole : Sign → Type 0
IsWhole (broken k) = ⊥
IsWhole _ = Unit {0}

-- the sign behind a token; nothing stands behind the end
abbrev pub sign_after : List Sign → Sign
sign_after [] = finish
sign_after (t ∷ ts) = t

-- the token has no fault
abbrev pub IsClear : FaultRule → (before : List Sign) → (t next : Sign) → Type 0
IsClear rule before t next = (k : TextKind) → rule before t next k → ⊥

-- none of these tokens has a fault
abbrev pub AllClear : FaultRule → (before these after : List Sign) → Type 0
AllClear rule before [] after = Unit {0}
AllClear rule before (t ∷ ts) after = IsClear rule before t (sign_after (ts ++ after)) × AllClear rule (before ++ t ∷ []) ts after

-- the fault at the least offset, and at one token the one with the least number
pub record FirstFaultBy (rule : FaultRule) (bytes : List ℕ) (at : ℕ) (kind : TextKind) (offset : ℕ) : Type 0 where
  pub before : List Lexeme
  pub token : Lexeme
  pub others : List Lexeme
  pub lexed : Lexed bytes at (before ++ token ∷ others)
  pub stands : token.from ≡ offset
  pub fault : rule (signs_of before) token.sign (sign_after (signs_of others)) kind
  pub clear : AllClear rule [] (signs_of before) (signs_of (token ∷ others))
  pub least : (k : TextKind) → rule (signs_of before) token.sign (sign_after (signs_of others)) k → kind_number kind ≤ kind_number k

-- what is told of bytes that are refused: want of memory or their first fault, at an offset within them
pub record IsRefusal (First : TextKind → (offset : ℕ) → Type 0) (bytes : List ℕ) (told : TextFault) : Type 0 where
  pub fault : (told.kind ≡ kind.NoMemory) ⊎ First told.kind told.at
  pub within : told.at ≤ length bytes
