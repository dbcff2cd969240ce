-- Steps: how a document is read: part by part behind the protocol.
use Rattle.std.specs.Prelude.{◌≡◌, ◌||◌, ℕ, ◌<◌, ◌≤◌, codes, suc, List, [], ◌∷◌, length, Bool, true, false, Option, Some, None, Result, slice_get, if◌then◌else◌}
use Rattle.std.specs.Str.{bytes_eq}
use Rattle.rs_documents.specs.Parts.{PartKind, PartsRead, GoesOn}
use Rattle.rs_model.specs.Data.{Names_data, Machine_data}
use Rattle.rs_text.specs.Lexemes.{Lexeme}
use Rattle.rs_text.specs.Names.{place_of}
use Rattle.rs_text.specs.Seen.{plain_text}
use Rattle.rs_text.specs.Signs.{Sign, plain}
use Rattle.rs_text.specs.Sound.{AreReadable}
use Rattle.rs_text.specs.declared.faults.TextFault.{TextFault}
use Rattle.rs_documents.specs.Ready.{IsShort, AreHeld}

-- the token is this word
abbrev pub is_this_word : List ℕ → Sign → Bool
is_this_word word (plain text) = bytes_eq text word
is_this_word word _ = false

-- the token is a word with which a machine begins
abbrev pub machine_word : Sign → Bool
machine_word s = is_this_word (codes "machine") s || is_this_word (codes "table") s

-- whether the role at the place has a part
abbrev pub is_held : {A : Type 0} → Option (Option A) → Bool
is_held None = false
is_held (Some None) = false
is_held (Some (Some part)) = true

-- the place of the role that a token names
abbrev pub place_named : Option (List ℕ) → List (List ℕ) → Option ℕ
place_named None roles = None
place_named (Some name) roles = place_of name roles

-- the role that a token names, among these names
abbrev pub role_at : Names_data → Lexeme → Option ℕ
role_at names l = place_named (plain_text l.sign) names.roles

-- the offset of the token, where the role at the place has a part
abbrev pub twice_by : {A : Type 0} → Option ℕ → List (Option A) → ℕ → Option ℕ
twice_by None parts from = None
twice_by (Some place) parts from = if is_held (slice_get parts place) then Some from else None

-- the fault of a token that is a role that has a part
abbrev pub twice_of : {A : Type 0} → Names_data → List (Option A) → Lexeme → Option ℕ
twice_of names parts l = twice_by (role_at names l) parts l.from

-- names as they are while a document is read
pub record AreGood (names : Names_data) : Type 0 where
  pub readable : AreReadable names
  pub two : 2 ≤ length names.roles

-- the roles have these machines, none of them too long
abbrev pub MachinesAreHeld : List (List ℕ) → List (Option Machine_data) → Type 0
MachinesAreHeld roles machines = AreHeld (λ (machine : Machine_data). machine.role) IsShort roles machines

-- how many roles have no part
abbrev pub free_in : {A : Type 0} → List (Option A) → ℕ
free_in [] = 0
free_in (None ∷ parts) = suc (free_in parts)
free_in (Some part ∷ parts) = free_in parts

-- what comes of the text from the new offset on comes of it from the old one on
abbrev pub LeadsBack : {A : Type 0} → PartKind A → List ℕ → (old : PartsRead A) → (new : PartsRead A) → Type 0
LeadsBack {A} kind bytes old new = (row : Result (PartsRead A) TextFault) → GoesOn kind bytes new.until new.names new.parts row → GoesOn kind bytes old.until old.names old.parts row

-- one part more, and the text goes on behind it
pub record IsAdded {A : Type 0} (kind : PartKind A) (P : A → Type 0) (bytes : List ℕ) (old new : PartsRead A) : Type 0 where
  pub back : LeadsBack kind bytes old new
  pub fewer : free_in new.parts < free_in old.parts
  pub within : new.until ≤ length bytes
  pub names : AreGood new.names
  pub held : AreHeld kind.role_of P new.names.roles new.parts
  pub roles : new.names.roles ≡ old.names.roles
