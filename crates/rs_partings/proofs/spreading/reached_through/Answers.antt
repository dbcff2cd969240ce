use Rattle.std.proofs.Common.{List, ℕ, length, subst, sym}
use Rattle.std.proofs.lemmas.Result.{IfOk-weaker}
use Rattle.rs_project.specs.Marks.{AreRows}
use Rattle.rs_partings.specs.Flags.{AreFlags, IsReachedThrough}
use Rattle.rs_partings.specs.Rows.{IsReachedAlong}
use Rattle.rs_partings.proofs.Turning.{rows_within}
use Rattle.rs_partings.proofs.Ways.{reached_along}
use Rattle.rs_partings.proofs.spreading.reached_through.Goals as goal

pub spread_along-requires-clause-within : goal.spread_along-requires-clause-within
spread_along-requires-clause-within c =
    let P : List (List ℕ) → Type 0 = λ z. AreRows c.args.protocol.now c.args.through.now (length c.args.protocol.now.nodes) z in
    rows_within c.args.protocol.now c.args.through.now c.deref.result.now c.requires.well_formed (subst P (sym c.deref.ensures.value) c.in_ok-rows.ensures)

pub returns : goal.returns
returns c =
    let pr = c.args.protocol.now in
    let rows = c.deref.result.now in
    let P : List (List ℕ) → Type 0 = λ z. AreRows pr c.args.through.now (length pr.nodes) z in
    let are = subst P (sym c.deref.ensures.value) c.in_ok-rows.ensures in
    IfOk-weaker c.spread_along.result (λ v. AreFlags (length rows) (λ n. IsReachedAlong rows c.args.starts.now n) v.items)
    (λ v. AreFlags (length pr.nodes) (λ n. IsReachedThrough pr c.args.through.now c.args.starts.now n) v.items)
    (λ v is. reached_along pr c.args.through.now c.args.starts.now v.items rows are is) c.spread_along.ensures
