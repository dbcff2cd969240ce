use Rattle.std.proofs.Common.{◌≡◌, ◌++◌}
use Rattle.rs_tool.specs.Pipelines.{rounds_text}
use Rattle.rs_tool.proofs.texts.push_rounds.Given as goal

abbrev pub invariant-loop : goal.invariant-loop
invariant-loop l = l.text ≡ l.fn.text ++ rounds_text l.last l.counter
