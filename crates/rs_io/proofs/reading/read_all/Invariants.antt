use Rattle.std.proofs.Common.{◌+◌, ◌-◌, ◌<◌, ◌≤◌, vec_len}
use Rattle.std.specs.Io.KnownBytes.{Consumes}
use Rattle.rs_io.specs.Faults.{NeverFalls}
use Rattle.rs_io.proofs.reading.read_all.Given as goal

abbrev pub invariant-loop-count : goal.invariant-loop-count
invariant-loop-count g l = (vec_len l.all ≤ l.limit) × (0 < vec_len l.buffer)
    × Consumes (g.S.Source.left l.initial.source) (g.S.Source.left l.source) l.all.items
    × NeverFalls (g.S.Source.faults l.initial.source) (g.S.Source.faults l.source) (g.S.Source.last l.initial.source) (g.S.Source.last l.source)

abbrev pub decreases-loop-count : goal.decreases-loop-count
decreases-loop-count g l = l.limit + 1 - vec_len l.all
