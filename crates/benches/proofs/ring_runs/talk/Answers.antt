use Rattle.std.proofs.Common.{◌+◌, sym, ap, ◌∙◌, arith}
use Rattle.rs_model.specs.declared.graph.Role.{Role}
use Rattle.benches.proofs.Sends.{number, rounds_puts, rounds_takes}
use Rattle.benches.proofs.ring_runs.talk.Goals as goal

pub send-requires-clause-may : goal.send-requires-clause-may
send-requires-clause-may g c =
    rounds_puts c.args.rings.now.machines c.loop-n.player.role.0 c.args.peer.0 c.loop-n.player.state c.loop-n.n c.natural.result c.requires.machines
    (ap (λ (r : Role). r.0 + c.args.peer.0) c.loop-n.invariant.1 ∙ c.requires.peers) c.loop-n.invariant.2
    (c.natural.ensures ∙ (λ i. number ((c.loop-n.invariant.5 ∙ ap (λ (r : Role). r.0) (sym c.loop-n.invariant.1)) i) c.loop-n.n))
    (let test = c.loop-n-test.true in let few = c.requires.bounded in omega arith)

pub receive-parcel-requires-clause-takes : goal.receive-parcel-requires-clause-takes
receive-parcel-requires-clause-takes g c =
    rounds_takes c.args.rings.now.machines c.send.new.player.role.0 c.args.peer.0 c.send.new.player.state c.requires.machines
    (ap (λ (r : Role). r.0 + c.args.peer.0) (c.send.ensures.role ∙ c.loop-n.invariant.1) ∙ c.requires.peers) c.send.ensures.went.0
