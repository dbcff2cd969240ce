-- Steps: the lanes of one load.
use Rattle.std.specs.Prelude.{ℕ, ◌==◌, if◌then◌else◌}
use Rattle.std.specs.Int.{w64, trailing_zeros}
use Rattle.rs_text.specs.declared.word_lanes.TheConstants.{LANES}

-- the place of the lowest bit that is set, or the count of lanes
abbrev pub first_set : ℕ → ℕ
first_set mask = if mask == 0 then LANES else trailing_zeros w64 mask
