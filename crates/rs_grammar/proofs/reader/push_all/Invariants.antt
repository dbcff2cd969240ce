use Rattle.std.proofs.Common.{◌≡◌, ◌≤◌, ◌++◌, drop, length}
use Rattle.rs_grammar.specs.Code.{place_of}
use Rattle.rs_grammar.proofs.reader.push_all.Given as goal

abbrev pub invariant-loop-left : goal.invariant-loop-left
invariant-loop-left l = (l.left ≤ length l.symbols) × (place_of l.stack.items ≡ drop l.left l.symbols ++ place_of l.initial.stack.items)

abbrev pub decreases-loop-left : goal.decreases-loop-left
decreases-loop-left l = l.left
