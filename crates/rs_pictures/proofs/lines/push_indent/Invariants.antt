use Rattle.std.proofs.Common.{◌≡◌, ◌++◌}
use Rattle.rs_pictures.specs.Lines.{indent}
use Rattle.rs_pictures.proofs.lines.push_indent.Given as goal

abbrev pub invariant-loop : goal.invariant-loop
invariant-loop l = l.text ≡ l.fn.text ++ indent l.counter
