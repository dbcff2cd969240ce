use Rattle.std.proofs.Common.{take}
use Rattle.rs_documents.specs.Canonical.{IsShownBehind}
use Rattle.rs_documents.proofs.printing.push_machines.Given as goal

abbrev pub invariant-loop-own : goal.invariant-loop-own
invariant-loop-own l = IsShownBehind l.names (take l.own-index l.machines) l.fn.text l.text
