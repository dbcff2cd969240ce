use Rattle.std.proofs.Common.{◌≡◌, ◌==◌, ℕ, drop}
use Rattle.std.specs.List.{list_any}
use Rattle.rs_reasons.proofs.waits.is_among.Given as goal

abbrev pub invariant-loop-number : goal.invariant-loop-number
invariant-loop-number l = list_any (λ (m : ℕ). m == l.node) (drop l.number-index l.round) ≡ list_any (λ (m : ℕ). m == l.node) l.round
