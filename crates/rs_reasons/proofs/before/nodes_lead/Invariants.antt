use Rattle.std.proofs.Common.{◌≡◌, drop}
use Rattle.std.specs.List.{list_any}
use Rattle.rs_reasons.specs.Before.{talk_leads}
use Rattle.rs_reasons.proofs.before.nodes_lead.Given as goal

abbrev pub invariant-loop-node : goal.invariant-loop-node
invariant-loop-node l = list_any (talk_leads l.role l.flags l.label) (drop l.node-index l.nodes) ≡ list_any (talk_leads l.role l.flags l.label) l.nodes
