use Rattle.std.proofs.Common.{◌≡◌, ◌++◌}
use Rattle.rs_tool.specs.Pipelines.{values_text}
use Rattle.rs_tool.proofs.texts.push_values.Given as goal

abbrev pub invariant-loop-role : goal.invariant-loop-role
invariant-loop-role l = l.text ≡ l.fn.text ++ values_text l.role
