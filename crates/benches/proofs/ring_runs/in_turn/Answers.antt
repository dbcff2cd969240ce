use Rattle.std.proofs.Common.{ap, ◌∙◌, arith}
use Rattle.rs_model.specs.declared.graph.Role.{Role}
use Rattle.benches.proofs.Sends.{stream_puts}
use Rattle.benches.proofs.ring_runs.in_turn.Goals as goal

pub try_send-requires-clause-may : goal.try_send-requires-clause-may
try_send-requires-clause-may c =
    stream_puts c.args.rings.now.machines c.loop-n.a.role.0 c.loop-n.a.state c.loop-n.n c.natural.result c.requires.machines (ap (λ (r : Role). r.0) c.loop-n.invariant.2 ∙ c.requires.start.0)
    c.loop-n.invariant.4 c.natural.ensures (let test = c.loop-n-test.true in let few = c.requires.bounded in omega arith)
