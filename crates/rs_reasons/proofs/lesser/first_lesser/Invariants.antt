use Rattle.std.proofs.Common.{ℕ, List, drop}
use Rattle.rs_reasons.specs.Underivable.{TellsTooLarge}
use Rattle.rs_reasons.proofs.lesser.first_lesser.Given as goal

abbrev pub invariant-loop-lesser : goal.invariant-loop-lesser
invariant-loop-lesser l = (lines : List ℕ) → TellsTooLarge l.source l.bound (drop l.lesser-index l.bounds) lines → TellsTooLarge l.source l.bound l.bounds lines
