-- Public: what is handed out to a place of the caller's.
use Rattle.std.specs.Prelude.{◌≡◌, ℕ, ◌<◌, ◌≤◌, ◌++◌, List, length, drop}
use Rattle.rs_numbered.specs.Statuses.{CallStatus, Fine, TooSmall}

-- how many items there are is told. Fine: they have room, and stand at the first places; what stood behind them is as it was.
-- TooSmall: they have no room, and the place is as it was
abbrev pub CopyTells : {A : Type 0} → List A → List A → List A → ℕ → CallStatus → Type 0
CopyTells items old new written Fine = (written ≡ length items) × (length items ≤ length old) × (new ≡ items ++ drop (length items) old)
CopyTells items old new written TooSmall = (written ≡ length items) × (length old < length items) × (new ≡ old)
CopyTells items old new written _ = ⊥
