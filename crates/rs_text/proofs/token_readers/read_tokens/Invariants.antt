use Rattle.std.proofs.Common.{◌≤◌, ◌-◌, length}
use Rattle.rs_text.proofs.Standing.{Stands}
use Rattle.rs_text.proofs.Taking.{Came}
use Rattle.rs_text.proofs.token_readers.read_tokens.Given as goal

abbrev pub decreases-loop-token : goal.decreases-loop-token
decreases-loop-token g l = length l.bytes - l.until

abbrev pub invariant-loop-token : goal.invariant-loop-token
invariant-loop-token g l = (l.until ≤ length l.bytes)
    × Stands g.R.TokenReader.automaton l.initial.reader l.bytes l.at l.reader l.until
    × Came g.R.TokenReader.automaton l.initial.reader l.bytes l.at l.reader l.until
