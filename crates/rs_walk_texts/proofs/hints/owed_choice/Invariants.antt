use Rattle.std.proofs.Common.{◌≡◌, drop}
use Rattle.rs_walk_texts.specs.Hints.{owed_choice}
use Rattle.rs_walk_texts.proofs.hints.owed_choice.Given as goal

abbrev pub invariant-loop-act : goal.invariant-loop-act
invariant-loop-act l = owed_choice l.source (drop l.act-index l.acts) ≡ owed_choice l.source l.acts
