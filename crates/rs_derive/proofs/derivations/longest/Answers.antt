use Rattle.std.proofs.Common.{rules, length}
use Rattle.rs_derive.proofs.Greatest.{at_end}
use Rattle.rs_derive.proofs.derivations.longest.Goals as goal

pub returns : goal.returns
returns c = at_end (λ n. length n.pending) c.args.derivation.now.nodes c.loop-node.node-index c.loop-node.greatest c.loop-node.invariant (search rules)
