use Rattle.std.proofs.Common.{◌≡◌, ◌++◌, drop}
use Rattle.rs_global.specs.Printing.{further_names_text}
use Rattle.rs_global.proofs.printing.push_others.Given as goal

abbrev pub invariant-loop-name : goal.invariant-loop-name
invariant-loop-name l = l.text ++ further_names_text (drop l.name-index l.names) ≡ l.fn.text ++ further_names_text l.fn.names
