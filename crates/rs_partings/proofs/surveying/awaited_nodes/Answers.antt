use Rattle.std.proofs.Common.{rules, ◌≡◌, length, replicate, true}
use Rattle.std.proofs.lemmas.Result.{IfOk-weaker}
use Rattle.rs_project.specs.Marks.{IsAwaited}
use Rattle.rs_partings.specs.Flags.{AreFlags, ReachesThrough}
use Rattle.rs_partings.proofs.Ways.{awaited_are}
use Rattle.rs_partings.proofs.surveying.awaited_nodes.Goals as goal

pub returns : goal.returns
returns c =
    let pr = c.args.protocol.now in
    let every : c.deref.result.now ≡ replicate (length pr.nodes) true = search rules in
    IfOk-weaker c.reaching_through.result (λ v. AreFlags (length pr.nodes) (λ n. ReachesThrough pr c.deref.result.now c.args.involved.now n) v.items)
    (λ v. AreFlags (length pr.nodes) (λ n. IsAwaited pr c.args.role n) v.items)
    (λ v is. awaited_are pr c.args.role c.deref.result.now c.args.involved.now v.items every c.requires.involved is) c.reaching_through.ensures
