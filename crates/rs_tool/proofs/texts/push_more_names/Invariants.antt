use Rattle.std.proofs.Common.{◌≡◌, ◌++◌}
use Rattle.rs_tool.specs.Pipelines.{more_names}
use Rattle.rs_tool.proofs.texts.push_more_names.Given as goal

abbrev pub invariant-loop-role : goal.invariant-loop-role
invariant-loop-role l = l.text ≡ l.fn.text ++ more_names l.role
