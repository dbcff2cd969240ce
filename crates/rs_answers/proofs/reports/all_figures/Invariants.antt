use Rattle.std.proofs.Common.{◌≡◌, map, take}
use Rattle.rs_safety.specs.Figures.{figures_of}
use Rattle.rs_answers.proofs.reports.all_figures.Given as goal

abbrev pub invariant-loop-derivation : goal.invariant-loop-derivation
invariant-loop-derivation l = l.all.items ≡ map figures_of (take l.derivation-index l.derivations)
