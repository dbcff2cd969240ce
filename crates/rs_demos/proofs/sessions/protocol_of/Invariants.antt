use Rattle.std.proofs.Common.{◌≡◌, ◌++◌, drop}
use Rattle.rs_demos.specs.Sessions.{nodes_from}
use Rattle.rs_demos.proofs.sessions.protocol_of.Given as goal

abbrev pub invariant-loop-exchange : goal.invariant-loop-exchange
invariant-loop-exchange l = (l.next ≡ l.exchange-index) × (l.nodes.items ++ nodes_from l.exchange-index (drop l.exchange-index l.exchanges) ≡ nodes_from 0 l.exchanges)
