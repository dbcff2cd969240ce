use Rattle.std.proofs.Common.{◌≤◌, ◌-◌, length}
use Rattle.rs_text.proofs.Standing.{Stands}
use Rattle.rs_text.proofs.Taking.{Came}
use Rattle.rs_bodies.specs.PartFeeding.{feeding_part}
use Rattle.rs_bodies.proofs.parts.read_tokens.Given as goal

abbrev pub decreases-loop-token : goal.decreases-loop-token
decreases-loop-token l = length l.bytes - l.until

abbrev pub invariant-loop-token : goal.invariant-loop-token
invariant-loop-token l = (l.until ≤ length l.bytes)
    × Stands feeding_part l.initial.part l.bytes l.at l.part l.until
    × Came feeding_part l.initial.part l.bytes l.at l.part l.until
