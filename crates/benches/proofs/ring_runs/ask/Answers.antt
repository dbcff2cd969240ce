use Rattle.std.proofs.Common.{ap, ◌∙◌, arith}
use Rattle.rs_model.specs.declared.graph.Role.{Role}
use Rattle.benches.proofs.Sends.{ask_puts, ask_takes, tell_puts}
use Rattle.benches.proofs.ring_runs.ask.Goals as goal

pub send-requires-clause-may : goal.send-requires-clause-may
send-requires-clause-may g c =
    ask_puts c.args.rings.now.machines c.loop-n.player.role.0 c.loop-n.player.state c.loop-n.n c.natural.result c.requires.machines (ap (λ (r : Role). r.0) c.loop-n.invariant.1 ∙ c.requires.start.0)
    c.loop-n.invariant.2 c.natural.ensures (let test = c.loop-n-test.true in let few = c.requires.bounded.0 in omega arith)

pub receive-answer-requires-clause-takes : goal.receive-answer-requires-clause-takes
receive-answer-requires-clause-takes g c =
    ask_takes c.args.rings.now.machines c.send.new.player.role.0 c.send.new.player.state c.requires.machines (ap (λ (r : Role). r.0) (c.send.ensures.role ∙ c.loop-n.invariant.1) ∙ c.requires.start.0)
    c.send.ensures.went.0

pub send-requires-in-loop-n-clause-may : goal.send-requires-in-loop-n-clause-may
send-requires-in-loop-n-clause-may g c =
    tell_puts c.args.rings.now.machines c.receive-answer.new.player.role.0 c.receive-answer.new.player.state c.loop-n.n c.natural-in-loop-n.result c.requires.machines
    (ap (λ (r : Role). r.0) (c.receive-answer.ensures.role ∙ c.send.ensures.role ∙ c.loop-n.invariant.1) ∙ c.requires.start.0) c.receive-answer.ensures.got.0 c.natural-in-loop-n.ensures
    (let test = c.loop-n-test.true in let few = c.requires.bounded.0 in omega arith)
