-- Public: how far reading came before it stopped.
use Rattle.std.specs.Prelude.{◌≡◌, ℕ, ◌+◌, ◌≤◌}
use Rattle.rs_io.specs.declared.reading.ReadStop.{ReadStop}
use Rattle.rs_io.specs.declared.reading.ReadStop.TheVariants.{ReadFault, TooLong, NoMemory}

-- the bytes taken are one more than the limit at TooLong, and at most the limit at the others
abbrev pub StopsAfter : ℕ → ℕ → ReadStop → Type 0
StopsAfter limit taken TooLong = taken ≡ limit + 1
StopsAfter limit taken ReadFault = taken ≤ limit
StopsAfter limit taken NoMemory = taken ≤ limit
