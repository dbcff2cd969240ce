use Rattle.std.proofs.Common.{◌≡◌, ◌++◌, take}
use Rattle.rs_documents.specs.Canonical.{derivations_text}
use Rattle.rs_documents.proofs.printing.push_derivations.Given as goal

abbrev pub invariant-loop-own : goal.invariant-loop-own
invariant-loop-own l = l.text ≡ l.fn.text ++ derivations_text l.names (take l.own-index l.derivations)
