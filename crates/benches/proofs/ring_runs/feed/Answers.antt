use Rattle.std.proofs.Common.{ap, ◌∙◌, arith}
use Rattle.rs_model.specs.declared.graph.Role.{Role}
use Rattle.benches.proofs.Sends.{stream_puts}
use Rattle.benches.proofs.ring_runs.feed.Goals as goal

pub send-requires-clause-may : goal.send-requires-clause-may
send-requires-clause-may g c =
    stream_puts c.args.rings.now.machines c.loop-n.player.role.0 c.loop-n.player.state c.loop-n.n c.natural.result c.requires.machines
    (ap (λ (r : Role). r.0) c.loop-n.invariant.1 ∙ c.requires.start.0) c.loop-n.invariant.2 c.natural.ensures (let test = c.loop-n-test.true in let few = c.requires.bounded in omega arith)
