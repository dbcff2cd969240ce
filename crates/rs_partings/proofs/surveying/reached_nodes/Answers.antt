use Rattle.std.proofs.Common.{rules, ◌≡◌, length, replicate, true}
use Rattle.std.proofs.lemmas.Result.{IfOk-weaker}
use Rattle.rs_project.specs.Graph.{IsReached}
use Rattle.rs_partings.specs.Flags.{AreFlags, IsReachedThrough, only_flag}
use Rattle.rs_partings.proofs.Ways.{reached_are}
use Rattle.rs_partings.proofs.surveying.reached_nodes.Goals as goal

pub returns : goal.returns
returns c =
    let pr = c.args.protocol.now in
    let every : c.deref.result.now ≡ replicate (length pr.nodes) true = search rules in
    let root : c.deref-2.result.now ≡ only_flag (length pr.nodes) pr.root = search rules in
    IfOk-weaker c.reached_through.result (λ v. AreFlags (length pr.nodes) (λ n. IsReachedThrough pr c.deref.result.now c.deref-2.result.now n) v.items)
    (λ v. AreFlags (length pr.nodes) (λ n. IsReached pr n) v.items)
    (λ v is. reached_are pr c.deref.result.now c.deref-2.result.now v.items c.requires.well_formed every root is) c.reached_through.ensures
