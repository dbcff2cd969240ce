use Rattle.std.proofs.Common.{◌≡◌, ◌++◌, drop}
use Rattle.rs_walk_texts.specs.Walks.{lines_text, spot_before}
use Rattle.rs_walk_texts.proofs.walks.push_lines.Given as goal

abbrev pub invariant-loop-i : goal.invariant-loop-i
invariant-loop-i l =
    l.text ++ lines_text l.source (spot_before l.first l.steps l.i) (drop l.i l.steps) (drop l.i l.talks) ≡ l.initial.text ++ lines_text l.source l.first l.steps l.talks
