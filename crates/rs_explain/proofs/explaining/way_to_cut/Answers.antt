use Rattle.std.proofs.Common.{Bool, List, subst, sym}
use Rattle.rs_explain.proofs.Existing.{cut_from_start}
use Rattle.rs_explain.proofs.Nearest.{candidate_edges, chart_of, ends_within, nearest_cut, start_far}
use Rattle.rs_explain.specs.OnWay.{AreFlagged}
use Rattle.rs_explain.specs.Walks.{IsHelped}
use Rattle.rs_explain.proofs.explaining.way_to_cut.Goals as goal

pub helped_cuts-requires-clause-helped : goal.helped_cuts-requires-clause-helped
helped_cuts-requires-clause-helped c =
    subst (λ (z : List Bool). AreFlagged (IsHelped c.args.sub.now c.args.above.now c.args.bound c.args.greater) c.args.found.now.table.spots z) (sym c.as_slice-inside.ensures.value) c.in_ok-helped.ensures

pub distances-requires-clause-edges : goal.distances-requires-clause-edges
distances-requires-clause-edges c =
    candidate_edges c.args.sub.now c.args.above.now c.args.bound c.args.found.now c.in_ok-lost.lost.graph c.in_ok-lost.lost.gone.items c.requires.found c.in_ok-lost.ensures.lost c.requires.bounded

pub distances-requires-clause-within : goal.distances-requires-clause-within
distances-requires-clause-within c =
    ends_within c.args.sub.now c.args.above.now c.args.bound c.args.greater c.args.found.now.table.spots c.in_ok-helped.helped.items c.as_slice-inside.result.now c.in_ok-ends.ends.items c.as_slice.result.now c.in_ok-helped.ensures c.in_ok-ends.ensures
    c.as_slice-inside.ensures.value c.as_slice.ensures.value

pub walk-requires-clause-downhill : goal.walk-requires-clause-downhill
walk-requires-clause-downhill c =
    (chart_of c.args.sub.now c.args.above.now c.args.bound c.args.greater c.args.found.now c.in_ok-lost.lost.graph c.in_ok-lost.lost.gone.items c.in_ok-helped.helped.items c.as_slice-inside.result.now
    c.in_ok-ends.ends.items c.as_slice.result.now c.in_ok-far.far.items c.as_slice-2.result.now c.requires.found c.in_ok-lost.ensures.lost c.in_ok-helped.ensures c.in_ok-ends.ensures
    c.as_slice-inside.ensures.value c.as_slice.ensures.value c.as_slice-2.ensures.value c.in_ok-far.ensures).downhill

pub walk-requires-clause-known : goal.walk-requires-clause-known
walk-requires-clause-known c =
    let f = cut_from_start c.args.sub.now c.args.above.now c.args.bound c.args.greater c.requires.refused.0 c.requires.refused.1 c.requires.helps in
    start_far c.args.sub.now c.args.above.now c.args.bound c.args.greater c.args.found.now.table.spots c.args.found.now.table.rows c.as_slice-2.result.now
    (chart_of c.args.sub.now c.args.above.now c.args.bound c.args.greater c.args.found.now c.in_ok-lost.lost.graph c.in_ok-lost.lost.gone.items c.in_ok-helped.helped.items c.as_slice-inside.result.now
    c.in_ok-ends.ends.items c.as_slice.result.now c.in_ok-far.far.items c.as_slice-2.result.now c.requires.found c.in_ok-lost.ensures.lost c.in_ok-helped.ensures c.in_ok-ends.ensures
    c.as_slice-inside.ensures.value c.as_slice.ensures.value c.as_slice-2.ensures.value c.in_ok-far.ensures)
    c.requires.found.discovery.first f.0 f.1

pub returns : goal.returns
returns c =
    nearest_cut c.args.sub.now c.args.above.now c.args.bound c.args.greater c.args.found.now.table.spots c.args.found.now.table.rows c.as_slice-2.result.now
    (chart_of c.args.sub.now c.args.above.now c.args.bound c.args.greater c.args.found.now c.in_ok-lost.lost.graph c.in_ok-lost.lost.gone.items c.in_ok-helped.helped.items c.as_slice-inside.result.now
    c.in_ok-ends.ends.items c.as_slice.result.now c.in_ok-far.far.items c.as_slice-2.result.now c.requires.found c.in_ok-lost.ensures.lost c.in_ok-helped.ensures c.in_ok-ends.ensures
    c.as_slice-inside.ensures.value c.as_slice.ensures.value c.as_slice-2.ensures.value c.in_ok-far.ensures)
    c.requires.found.discovery.first c.in_ok-way.way.steps.items c.in_ok-way.way.node c.in_ok-way.ensures
