use Rattle.std.proofs.Common.{◌≡◌, drop}
use Rattle.std.specs.List.{list_any}
use Rattle.rs_reasons.specs.Before.{leads}
use Rattle.rs_reasons.proofs.before.arms_lead.Given as goal

abbrev pub invariant-loop-arm : goal.invariant-loop-arm
invariant-loop-arm l = list_any (leads l.flags l.label) (drop l.arm-index l.arms) ≡ list_any (leads l.flags l.label) l.arms
