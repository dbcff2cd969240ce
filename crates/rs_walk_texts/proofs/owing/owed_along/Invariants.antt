use Rattle.std.proofs.Common.{◌≡◌, [], drop}
use Rattle.rs_walk_texts.specs.Owing.{owed_along}
use Rattle.rs_walk_texts.specs.Walks.{spot_before}
use Rattle.rs_walk_texts.proofs.owing.owed_along.Given as goal

abbrev pub invariant-loop-i : goal.invariant-loop-i
invariant-loop-i l =
    owed_along l.source (spot_before l.first l.steps l.i) (drop l.i l.steps) (drop l.i l.talks) l.owed.items ≡ owed_along l.source l.first l.steps l.talks []
