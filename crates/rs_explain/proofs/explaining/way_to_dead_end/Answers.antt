use Rattle.std.proofs.Common.{List, Option, ℕ, sym, subst}
use Rattle.rs_explain.specs.Deaths.{AreDeaths}
use Rattle.rs_explain.proofs.Lowering.{deaths_downhill, dying_way}
use Rattle.rs_search.specs.Candidates.{start_spot}
use Rattle.rs_explain.proofs.explaining.way_to_dead_end.Goals as goal

pub walk-requires-clause-downhill : goal.walk-requires-clause-downhill
walk-requires-clause-downhill c =
    deaths_downhill c.args.sub.now c.args.above.now c.args.bound c.args.found.now c.as_slice-2.result.now c.requires.found
    (subst (λ (z : List (Option ℕ)). AreDeaths c.args.sub.now c.args.above.now c.args.bound c.args.found.now.table.spots z) (sym c.as_slice-2.ensures.value) c.in_ok-far.ensures)

pub walk-requires-clause-known : goal.walk-requires-clause-known
walk-requires-clause-known c =
    (subst (λ (z : List (Option ℕ)). AreDeaths c.args.sub.now c.args.above.now c.args.bound c.args.found.now.table.spots z) (sym c.as_slice-2.ensures.value) c.in_ok-far.ensures).all
    0 (start_spot c.args.sub.now c.args.above.now) c.requires.found.discovery.first c.requires.refused.1.dies

pub returns : goal.returns
returns c =
    dying_way c.args.sub.now c.args.above.now c.args.bound c.args.found.now c.as_slice-2.result.now c.requires.found
    (subst (λ (z : List (Option ℕ)). AreDeaths c.args.sub.now c.args.above.now c.args.bound c.args.found.now.table.spots z) (sym c.as_slice-2.ensures.value) c.in_ok-far.ensures)
    c.in_ok-way.way.steps.items c.in_ok-way.way.node c.in_ok-way.ensures
