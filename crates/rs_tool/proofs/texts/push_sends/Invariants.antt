use Rattle.std.proofs.Common.{◌≡◌, ◌++◌}
use Rattle.rs_tool.specs.Pipelines.{sends_text}
use Rattle.rs_tool.proofs.texts.push_sends.Given as goal

abbrev pub invariant-loop : goal.invariant-loop
invariant-loop l = l.text ≡ l.fn.text ++ sends_text l.counter
