use Rattle.rs_safety.proofs.Accepts.{AreDerivedBefore}
use Rattle.rs_safety.proofs.accepting.first_refused.Given as goal

abbrev pub invariant-loop-place : goal.invariant-loop-place
invariant-loop-place l = AreDerivedBefore l.machines l.projections l.derivations l.place
