use Rattle.std.proofs.Common.{◌≡◌, take}
use Rattle.rs_documents.specs.Parts.{no_parts}
use Rattle.rs_documents.proofs.documents.no_parts.Given as goal

abbrev pub invariant-loop : goal.invariant-loop
invariant-loop g l = l.parts.items ≡ no_parts (take l.index l.roles)
