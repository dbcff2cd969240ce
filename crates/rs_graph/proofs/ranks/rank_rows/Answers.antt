use Rattle.std.proofs.Common.{arith, ◌≡◌, List, ℕ, length, Option, MatchOption, sym, subst, ◌∙◌, ap}
use Rattle.rs_graph.specs.Ranks.{Edge, IsOrdered}
use Rattle.rs_graph.specs.RanksSoFar.{Ranked}
use Rattle.rs_graph.specs.Walks.{IsOnCycle, IsLeastOnCycle}
use Rattle.rs_graph.proofs.Endless.{of_edges, ordered, ranks_right, order_few}
use Rattle.rs_graph.proofs.ranks.rank_rows.Goals as goal

pub least_on_cycle-requires-clause-ordered : goal.least_on_cycle-requires-clause-ordered
least_on_cycle-requires-clause-ordered c =
    let o = of_edges c.as_slice.result.now c.args.rows.now c.in-Ok-graph_of.graph (c.as_slice.ensures.value ∙ c.in-Ok.ensures) c.in-Ok-graph_of.ensures in
    subst (λ (z : List ℕ). IsOrdered c.args.rows.now z) (sym c.as_slice-2.ensures.value)
    (ordered c.args.rows.now c.in-Ok-graph_of.graph.outs c.in-Ok-remove_uncounted.left.current.items c.in-Ok-remove_uncounted.left.order.items o c.in-Ok-remove_uncounted.ensures)

pub rank_all-requires-clause-bounded : goal.rank_all-requires-clause-bounded
rank_all-requires-clause-bounded c =
    let o = of_edges c.as_slice.result.now c.args.rows.now c.in-Ok-graph_of.graph (c.as_slice.ensures.value ∙ c.in-Ok.ensures) c.in-Ok-graph_of.ensures in
    let q = order_few c.args.rows.now c.in-Ok-remove_uncounted.left.order.items
    (ordered c.args.rows.now c.in-Ok-graph_of.graph.outs c.in-Ok-remove_uncounted.left.current.items c.in-Ok-remove_uncounted.left.order.items o c.in-Ok-remove_uncounted.ensures)
    c.in-Ok-graph_of.graph.outs o.size in
    let l : length c.as_slice-3.result.now ≡ length c.in-Ok-remove_uncounted.left.order.items = ap (λ (z : List ℕ). length z) c.as_slice-3.ensures.value in
    let n = c.requires.nodes in omega arith

pub rank_all-requires-clause-ordered : goal.rank_all-requires-clause-ordered
rank_all-requires-clause-ordered c =
    let o = of_edges c.as_slice.result.now c.args.rows.now c.in-Ok-graph_of.graph (c.as_slice.ensures.value ∙ c.in-Ok.ensures) c.in-Ok-graph_of.ensures in
    subst (λ (z : List ℕ). IsOrdered c.args.rows.now z) (sym c.as_slice-3.ensures.value)
    (ordered c.args.rows.now c.in-Ok-graph_of.graph.outs c.in-Ok-remove_uncounted.left.current.items c.in-Ok-remove_uncounted.left.order.items o c.in-Ok-remove_uncounted.ensures)

pub returns-in-Ok-rank_all-clause-ranks : goal.returns-in-Ok-rank_all-clause-ranks
returns-in-Ok-rank_all-clause-ranks c =
    let o = of_edges c.as_slice.result.now c.args.rows.now c.in-Ok-graph_of.graph (c.as_slice.ensures.value ∙ c.in-Ok.ensures) c.in-Ok-graph_of.ensures in
    ranks_right c.args.rows.now c.in-Ok-graph_of.graph.outs c.in-Ok-remove_uncounted.left.current.items c.in-Ok-remove_uncounted.left.order.items c.in-Ok-rank_all.ranks.items o
    c.in-Ok-remove_uncounted.ensures
    (subst (λ (x : Option ℕ). MatchOption x ((k : ℕ) → IsOnCycle (Edge c.args.rows.now) k → ⊥) (λ v. IsLeastOnCycle (Edge c.args.rows.now) v)) c.in-Ok-None.field-0-is c.in-Ok-None.ensures)
    (subst (λ (z : List ℕ). Ranked c.args.rows.now z c.in-Ok-rank_all.ranks.items (length z)) c.as_slice-3.ensures.value c.in-Ok-rank_all.ensures)

pub returns-in-Ok-rank_all-clause-size : goal.returns-in-Ok-rank_all-clause-size
returns-in-Ok-rank_all-clause-size c = c.in-Ok-rank_all.ensures.size
