use Rattle.std.proofs.Common.{◌≡◌, ◌++◌, drop, map}
use Rattle.rs_demos.specs.Outputs.{result_of}
use Rattle.rs_demos.specs.Printing.{further_numbers_text}
use Rattle.rs_demos.proofs.outputs.push_others.Given as goal

abbrev pub invariant-loop-actor : goal.invariant-loop-actor
invariant-loop-actor l = l.text ++ further_numbers_text (map result_of (drop l.actor-index l.actors)) ≡ l.fn.text ++ further_numbers_text (map result_of l.fn.actors)
