-- Public: what statuses say, handed out.
use Rattle.std.specs.Prelude.{◌≡◌, ℕ, List, Some, None}
use Rattle.rs_numbered.specs.Copies.{CopyTells}
use Rattle.rs_numbered.specs.Statuses.{CallStatus, Fine, TooSmall, Unknown, status_numbered, text_of}

-- Fine and TooSmall: what the status with this number says is handed out. Unknown: no status has the number, and nothing is written
abbrev pub StatusTextTells : ℕ → List ℕ → List ℕ → ℕ → ℕ → CallStatus → Type 0
StatusTextTells number old new written_old written Fine = (status : CallStatus) × (status_numbered number ≡ Some status) × CopyTells (text_of status) old new written Fine
StatusTextTells number old new written_old written TooSmall = (status : CallStatus) × (status_numbered number ≡ Some status) × CopyTells (text_of status) old new written TooSmall
StatusTextTells number old new written_old written Unknown = (status_numbered number ≡ None) × (new ≡ old) × (written ≡ written_old)
StatusTextTells number old new written_old written _ = ⊥
