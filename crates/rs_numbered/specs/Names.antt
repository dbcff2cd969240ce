-- Public: roles and labels, by numbers and by names.
use Rattle.std.specs.Prelude.{◌≡◌, ℕ, List, Some, None, slice_get}
use Rattle.rs_text.specs.Names.{place_of}
use Rattle.rs_numbered.specs.Copies.{CopyTells}
use Rattle.rs_numbered.specs.Statuses.{CallStatus, Fine, TooSmall, Unknown}

-- Fine: this is the number of the name. Unknown: there is no such name, and the number is as it was
abbrev pub NumberTells : List (List ℕ) → List ℕ → ℕ → ℕ → CallStatus → Type 0
NumberTells names word old new Fine = place_of word names ≡ Some new
NumberTells names word old new Unknown = (place_of word names ≡ None) × (new ≡ old)
NumberTells names word old new _ = ⊥

-- Fine and TooSmall: the name with this number is handed out. Unknown: there is none, and nothing is written
abbrev pub NameTells : List (List ℕ) → ℕ → List ℕ → List ℕ → ℕ → ℕ → CallStatus → Type 0
NameTells names number old new written_old written Fine = (name : List ℕ) × (slice_get names number ≡ Some name) × CopyTells name old new written Fine
NameTells names number old new written_old written TooSmall = (name : List ℕ) × (slice_get names number ≡ Some name) × CopyTells name old new written TooSmall
NameTells names number old new written_old written Unknown = (slice_get names number ≡ None) × (new ≡ old) × (written ≡ written_old)
NameTells names number old new written_old written _ = ⊥
