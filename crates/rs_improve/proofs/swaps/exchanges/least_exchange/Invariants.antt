use Rattle.std.proofs.Common.{ℕ, ◌<◌}
use Rattle.rs_improve.specs.Swaps.{IsSwappable}
use Rattle.rs_improve.proofs.swaps.exchanges.least_exchange.Given as goal

abbrev pub invariant-loop-state : goal.invariant-loop-state
invariant-loop-state l = (state : ℕ) → state < l.state → IsSwappable l.machine state → ⊥
