use Rattle.std.proofs.Common.{sym, subst}
use Rattle.rs_derive.specs.Derivations.{IsProper}
use Rattle.low_trials.proofs.Guessed.{few_steps, ours_proper, theirs_proper}
use Rattle.low_trials.proofs.of_rs_search.searched.Goals as goal

pub search_counted-requires-clause-ours : goal.search_counted-requires-clause-ours
search_counted-requires-clause-ours g c = subst IsProper (sym c.requires.machines.0) ours_proper

pub search_counted-requires-clause-theirs : goal.search_counted-requires-clause-theirs
search_counted-requires-clause-theirs g c = subst IsProper (sym c.requires.machines.1) theirs_proper

pub returns : goal.returns
returns g c = few_steps c.search_counted.result c.args.sub.now c.args.above.now c.args.steps.now c.search_counted.new.steps c.requires.machines.0 c.requires.machines.1 c.search_counted.ensures.steps
