-- Steps: what the token behind a word tells of it.
use Rattle.std.specs.Prelude.{◌≡◌, ℕ, List, drop, Result, Ok, Bool}
use Rattle.rs_text.specs.declared.faults.TextFault.{TextFault}
use Rattle.rs_text.specs.Faults.{kind_of}
use Rattle.rs_text.specs.Lexing.{next_lexeme}
use Rattle.rs_text.specs.Readings.{fault}
use Rattle.rs_text.specs.Signs.{Sign, broken}
use Rattle.rs_bodies.specs.declared.dialects.Dialect.{Dialect}
use Rattle.rs_bodies.specs.Dialects.{turns}

-- whether it makes the word a role; a faulty one is its own fault, at its offset
abbrev pub role_told : Dialect → Sign → ℕ → Result Bool TextFault
role_told d (broken k) at = fault (kind_of k) at
role_told d t at = Ok (turns d t)

-- a token that stands directly in front of these bytes makes the word before it a role, or doesn't
abbrev pub IsToldBy : Dialect → List ℕ → Bool → Type 0
IsToldBy d here is_role = (bytes : List ℕ) → (at : ℕ) → drop at bytes ≡ here → role_told d (next_lexeme bytes at).sign (next_lexeme bytes at).from ≡ Ok is_role
