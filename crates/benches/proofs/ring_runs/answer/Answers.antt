use Rattle.std.proofs.Common.{ap, ◌∙◌, arith}
use Rattle.rs_model.specs.declared.graph.Role.{Role}
use Rattle.benches.proofs.Sends.{answer_puts, answer_takes}
use Rattle.benches.proofs.ring_runs.answer.Goals as goal

pub receive-asked-requires-clause-takes : goal.receive-asked-requires-clause-takes
receive-asked-requires-clause-takes g c =
    answer_takes c.args.rings.now.machines c.loop-n.player.role.0 c.loop-n.player.state c.requires.machines (ap (λ (r : Role). r.0) c.loop-n.invariant.1 ∙ c.requires.start.0) c.loop-n.invariant.2

pub send-requires-clause-may : goal.send-requires-clause-may
send-requires-clause-may g c =
    answer_puts c.args.rings.now.machines c.receive-asked.new.player.role.0 c.receive-asked.new.player.state c.loop-n.n c.natural.result c.requires.machines
    (ap (λ (r : Role). r.0) (c.receive-asked.ensures.role ∙ c.loop-n.invariant.1) ∙ c.requires.start.0) c.receive-asked.ensures.got.0 c.natural.ensures
    (let test = c.loop-n-test.true in let few = c.requires.bounded.0 in omega arith)
