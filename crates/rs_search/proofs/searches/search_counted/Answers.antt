use Rattle.std.proofs.Common.{arith, List, sym, ap, subst, Bool}
use Rattle.rs_model.specs.Data.{Machine_data}
use Rattle.rs_model.specs.declared.graph.Role.{Role}
use Rattle.rs_graph.specs.Discovery.{IsDiscovery}
use Rattle.rs_search.specs.Candidates.{start_spot}
use Rattle.rs_search.specs.Canonical.{IsCanonical}
use Rattle.rs_search.specs.Forward.{AreForward}
use Rattle.rs_search.specs.Turns.{nexts_within}
use Rattle.rs_search.proofs.Costing.{candidates_are}
use Rattle.rs_search.proofs.Rising.{forward_found}
use Rattle.rs_search.proofs.Verdicts.{rows_within}
use Rattle.rs_search.proofs.searches.search_counted.Goals as goal

pub has_plain_ranks-requires-clause-within : goal.has_plain_ranks-requires-clause-within
has_plain_ranks-requires-clause-within g c =
    rows_within (nexts_within c.args.sub.now c.args.above.now c.args.bound)
    (start_spot c.args.sub.now c.args.above.now) c.in-Ok.found.table.spots c.in-Ok.found.table.rows c.in-Ok.ensures.found.discovery

pub search_among-requires-clause-found : goal.search_among-requires-clause-found
search_among-requires-clause-found g c =
    let e = c.in-Ok.ensures.found in
    let es = c.has_plain_ranks.ensures.spots in
    let er = c.has_plain_ranks.ensures.rows in
    let n = e.noted in
    record { discovery = rw (es, er) e.discovery; noted = record { short = rw er n.short; anys = rw es n.anys; keeps = rw es n.keeps; cut = rw es n.cut; choosing = rw es n.choosing } }

pub search_among-requires-clause-bounded : goal.search_among-requires-clause-bounded
search_among-requires-clause-bounded g c = rw c.has_plain_ranks.ensures.spots c.in-Ok.ensures.bounded

pub returns-then-has_plain_ranks-clause-ok : goal.returns-then-has_plain_ranks-clause-ok
returns-then-has_plain_ranks-clause-ok g c =
    let e = c.in-Ok.ensures in
    let t = c.has_plain_ranks.new.table in
    let es = c.has_plain_ranks.ensures.spots in
    let er = c.has_plain_ranks.ensures.rows in
    let d : IsDiscovery (nexts_within c.args.sub.now c.args.above.now c.args.bound) (start_spot c.args.sub.now c.args.above.now) t.spots t.rows = rw (es, er) e.found.discovery in
    let w = forward_found c.args.sub.now c.args.above.now c.args.bound t.spots t.rows c.in-Ok.found.keeps.items t.ranks c.into_nodes.result.items c.in-Ok.found.choosing
    c.requires.theirs d (rw es e.bounded) (rw es e.found.noted.keeps) (rw es e.found.noted.choosing) (c.has_plain_ranks.ensures.choosing c.if-has_plain_ranks.true)
    (subst (λ (z : List Bool). AreForward z t.rows t.ranks 0) c.deref.ensures.value (c.has_plain_ranks.ensures.ranks c.if-has_plain_ranks.true)) c.into_nodes.ensures in
    subst (λ (q : Role). IsCanonical c.args.sub.now c.args.above.now c.args.bound (record { role = q; bound = c.args.bound; nodes = c.into_nodes.result.items }))
    (sym (ap (λ (m : Machine_data). m.role) c.sub.view_is)) w

pub returns-then-has_plain_ranks-clause-steps : goal.returns-then-has_plain_ranks-clause-steps
returns-then-has_plain_ranks-clause-steps g c = record {
  spots = c.in-Ok.found.table.spots;
  are = candidates_are c.args.sub.now c.args.above.now c.args.bound c.in-Ok.found.table.spots c.in-Ok.found.table.rows c.in-Ok.ensures.found.discovery;
  most = omega arith;
}
