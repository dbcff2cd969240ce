use Rattle.std.proofs.Common.{◌≡◌, take}
use Rattle.rs_answers.specs.Tables.{tables_text}
use Rattle.rs_answers.proofs.tables.tables_text.Given as goal

abbrev pub invariant-loop-projection : goal.invariant-loop-projection
invariant-loop-projection l = l.text ≡ tables_text l.names (take l.projection-index l.projections)
