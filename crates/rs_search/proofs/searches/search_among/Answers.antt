use Rattle.std.proofs.Common.{arith, ◌≡◌, ◌<◌, [], List, ℕ, Bool, length, map, slice_index_or, sym, subst, ◌∙◌, ap, refl}
use Rattle.std.proofs.lemmas.List.{length-map}
use Rattle.rs_model.specs.declared.limits.TheConstants.{MOST_CANDIDATES}
use Rattle.rs_model.specs.declared.graph.Role.{Role}
use Rattle.rs_model.specs.Data.{Machine_data}
use Rattle.rs_graph.specs.Ranks.{Edge}
use Rattle.rs_graph.specs.Removal.{AreLeft, IsRemoval}
use Rattle.rs_graph.specs.Unranked.{Unranks}
use Rattle.rs_graph.specs.Walks.{IsLeastOnCycle, IsRank}
use Rattle.rs_graph.specs.declared.ranks.RankFault.{RankFault}
use Rattle.rs_graph.specs.declared.ranks.RankFault.TheVariants.{OnCycle}
use Rattle.rs_search.specs.Canonical.{IsCanonical, IsForgets}
use Rattle.rs_search.specs.Turns.{is_keeping}
use Rattle.rs_search.proofs.Assembled.{all_within, forgets, is_found, kept_few, kept_within, next_few, nexts_few, same_kept, same_nodes, unranked, unranked_are}
use Rattle.rs_search.proofs.Costing.{whole_cost}
use Rattle.rs_search.proofs.Verdicts.{pictures}
use Rattle.rs_search.proofs.searches.search_among.Goals as goal

pub kept_rows-requires-clause-within : goal.kept_rows-requires-clause-within
kept_rows-requires-clause-within g c = λ n m.
    let s = c.in-Ok.survivors in let e = c.in-Ok.ensures.survivors in
    let pic = pictures c.args.sub.now c.args.above.now c.args.bound s.found.table.spots s.found.table.rows s.found.anys.items s.graph e.found.discovery e.found.noted.anys e.built in
    let w = all_within c.args.sub.now c.args.above.now c.args.bound s.found.table.spots s.graph c.as_slice-current.result.now c.in-Ok-number_all.numbers.items.items c.as_slice-items.result.now pic
    c.in-Ok-number_all.ensures.stay c.as_slice-items.ensures.value n m in
    let l : length c.as_slice.result.now ≡ length s.found.table.spots
    = ap (λ (z : List Bool). length z) (c.as_slice.ensures.value ∙ e.found.noted.keeps) ∙ length-map s.found.table.spots (is_keeping c.args.sub.now c.args.above.now c.args.bound) in
    omega arith

pub rank_rows-requires-clause-bounded : goal.rank_rows-requires-clause-bounded
rank_rows-requires-clause-bounded g c = λ n.
    let s = c.in-Ok.survivors in let e = c.in-Ok.ensures.survivors in let d = c.in-Ok-number_all in
    let f = nexts_few s.found.anys.items s.found.table.rows s.graph c.as_slice-current.result.now d.numbers.items.items d.numbers.nexts.items MOST_CANDIDATES e.built e.found.noted.short
    d.ensures.found in
    let a = same_kept c.as_slice.result.now c.as_slice.result.now d.numbers.items.items c.as_slice-items.result.now d.numbers.nexts.items c.as_slice-nexts.result.now c.in-Ok-kept_rows.kept.items
    refl c.as_slice-items.ensures.value c.as_slice-nexts.ensures.value c.in-Ok-kept_rows.ensures in
    let k = kept_few c.as_slice.result.now d.numbers.items.items d.numbers.nexts.items c.in-Ok-kept_rows.kept.items 65537 a d.ensures.found.all f n in
    let l : length (slice_index_or c.as_slice-2.result.now n []) ≡ length (slice_index_or c.in-Ok-kept_rows.kept.items n [])
    = ap (λ (z : List (List ℕ)). length (slice_index_or z n [])) c.as_slice-2.ensures.value in
    omega arith

pub rank_rows-requires-clause-within : goal.rank_rows-requires-clause-within
rank_rows-requires-clause-within g c =
    let d = c.in-Ok-number_all in
    let a = same_kept c.as_slice.result.now c.as_slice.result.now d.numbers.items.items c.as_slice-items.result.now d.numbers.nexts.items c.as_slice-nexts.result.now c.in-Ok-kept_rows.kept.items
    refl c.as_slice-items.ensures.value c.as_slice-nexts.ensures.value c.in-Ok-kept_rows.ensures in
    subst (λ (z : List (List ℕ)). (n r : ℕ) → Edge z n r → r < length z) (sym c.as_slice-2.ensures.value)
    (kept_within _ c.as_slice.result.now d.numbers.items.items d.numbers.nexts.items c.in-Ok-kept_rows.kept.items d.ensures.found a)

pub returns-in-Err-OnCycle-clause-err : goal.returns-in-Err-OnCycle-clause-err
returns-in-Err-OnCycle-clause-err g c =
    let s = c.in-Ok.survivors in let e = c.in-Ok.ensures.survivors in let d = c.in-Ok-number_all in
    let a = same_kept (map (is_keeping c.args.sub.now c.args.above.now c.args.bound) s.found.table.spots)
    c.as_slice.result.now d.numbers.items.items c.as_slice-items.result.now d.numbers.nexts.items c.as_slice-nexts.result.now c.in-Ok-kept_rows.kept.items
    (c.as_slice.ensures.value ∙ e.found.noted.keeps) c.as_slice-items.ensures.value c.as_slice-nexts.ensures.value c.in-Ok-kept_rows.ensures in
    let y : Unranks c.as_slice-2.result.now c.in-Err-OnCycle.field-0 = c.in-Err-OnCycle.ensures.cycle in
    let w = forgets c.args.sub.now c.args.above.now c.args.bound (record {
      found = s.found.table.spots;
      rows = s.found.table.rows;
      graph = s.graph;
      current = c.as_slice-current.result.now;
      order = s.left.order.items;
      items = d.numbers.items.items;
      nexts = d.numbers.nexts.items;
      ranks = [];
      nodes = unranked s.found.table.spots d.numbers.items.items d.numbers.nexts.items;
      proper = c.requires.theirs;
      discovery = e.found.discovery;
      bounded = e.bounded;
      pictures = pictures c.args.sub.now c.args.above.now c.args.bound s.found.table.spots s.found.table.rows s.found.anys.items s.graph e.found.discovery e.found.noted.anys e.built;
      left = subst (λ (z : List ℕ). IsRemoval s.graph.outs z s.left.order.items) (sym c.as_slice-current.ensures.value) e.left;
      numbers = d.ensures.found;
      stay = d.ensures.stay;
      made = unranked_are s.found.table.spots d.numbers.items.items d.numbers.nexts.items d.ensures.found.all;
    }) c.in-Ok-kept_rows.kept.items c.in-Err-OnCycle.node a in
    let y' : Unranks c.as_slice-2.result.now (OnCycle c.in-Err-OnCycle.node) = subst (λ (f : RankFault). Unranks c.as_slice-2.result.now f) c.in-Err-OnCycle.field-0-is y in
    let z : IsLeastOnCycle (Edge c.in-Ok-kept_rows.kept.items) c.in-Err-OnCycle.node
    = subst (λ (rows : List (List ℕ)). IsLeastOnCycle (Edge rows) c.in-Err-OnCycle.node) c.as_slice-2.ensures.value y' in
    subst (λ (k : ℕ). IsForgets c.args.sub.now c.args.above.now c.args.bound k) (sym c.in-Err-OnCycle.node-is) (w z)

pub nodes_of-requires-clause-within : goal.nodes_of-requires-clause-within
nodes_of-requires-clause-within g c = λ n m.
    let s = c.in-Ok.survivors in let e = c.in-Ok.ensures.survivors in
    let pic = pictures c.args.sub.now c.args.above.now c.args.bound s.found.table.spots s.found.table.rows s.found.anys.items s.graph e.found.discovery e.found.noted.anys e.built in
    let w = all_within c.args.sub.now c.args.above.now c.args.bound s.found.table.spots s.graph c.as_slice-current.result.now c.in-Ok-number_all.numbers.items.items c.as_slice-items.result.now pic
    c.in-Ok-number_all.ensures.stay c.as_slice-items.ensures.value n m in
    w

pub nodes_of-requires-clause-ranks : goal.nodes_of-requires-clause-ranks
nodes_of-requires-clause-ranks g c =
    ap (λ (z : List ℕ). length z) c.as_slice-3.ensures.value ∙ c.in-Ok-rank_rows.ensures.size ∙ ap (λ (z : List (List ℕ)). length z) c.as_slice-2.ensures.value ∙ c.in-Ok-kept_rows.ensures.size

pub returns-in-Ok-nodes_of-clause-ok : goal.returns-in-Ok-nodes_of-clause-ok
returns-in-Ok-nodes_of-clause-ok g c =
    let s = c.in-Ok.survivors in let e = c.in-Ok.ensures.survivors in let d = c.in-Ok-number_all in
    let a = same_kept (map (is_keeping c.args.sub.now c.args.above.now c.args.bound) s.found.table.spots)
    c.as_slice.result.now d.numbers.items.items c.as_slice-items.result.now d.numbers.nexts.items c.as_slice-nexts.result.now c.in-Ok-kept_rows.kept.items
    (c.as_slice.ensures.value ∙ e.found.noted.keeps) c.as_slice-items.ensures.value c.as_slice-nexts.ensures.value c.in-Ok-kept_rows.ensures in
    let r = c.in-Ok-rank_rows.ensures.ranks in
    let w = is_found c.args.sub.now c.args.above.now c.args.bound (record {
      found = s.found.table.spots;
      rows = s.found.table.rows;
      graph = s.graph;
      current = c.as_slice-current.result.now;
      order = s.left.order.items;
      items = d.numbers.items.items;
      nexts = d.numbers.nexts.items;
      ranks = c.in-Ok-rank_rows.ranks.items;
      nodes = c.in-Ok-nodes_of.nodes.items;
      proper = c.requires.theirs;
      discovery = e.found.discovery;
      bounded = e.bounded;
      pictures = pictures c.args.sub.now c.args.above.now c.args.bound s.found.table.spots s.found.table.rows s.found.anys.items s.graph e.found.discovery e.found.noted.anys e.built;
      left = subst (λ (z : List ℕ). IsRemoval s.graph.outs z s.left.order.items) (sym c.as_slice-current.ensures.value) e.left;
      numbers = d.ensures.found;
      stay = d.ensures.stay;
      made = same_nodes s.found.table.spots s.found.table.spots d.numbers.items.items c.as_slice-items.result.now d.numbers.nexts.items c.as_slice-nexts.result.now c.in-Ok-rank_rows.ranks.items
          c.as_slice-3.result.now c.in-Ok-nodes_of.nodes.items
          refl c.as_slice-items.ensures.value c.as_slice-nexts.ensures.value c.as_slice-3.ensures.value c.in-Ok-nodes_of.ensures;
    }) c.in-Ok-kept_rows.kept.items a in
    let r' = subst (λ (rows : List (List ℕ)). (i : ℕ) → IsRank (Edge rows) i (slice_index_or c.in-Ok-rank_rows.ranks.items i 0)) c.as_slice-2.ensures.value r in
    subst (λ (q : Role). IsCanonical c.args.sub.now c.args.above.now c.args.bound (record { role = q; bound = c.args.bound; nodes = c.in-Ok-nodes_of.nodes.items }))
    (sym (ap (λ (m : Machine_data). m.role) c.sub.view_is)) (w r')

pub returns-in-Err-OnCycle-clause-cost : goal.returns-in-Err-OnCycle-clause-cost
returns-in-Err-OnCycle-clause-cost g c =
    let s = c.in-Ok.survivors in let e = c.in-Ok.ensures.survivors in let d = c.in-Ok-number_all in
    whole_cost c.args.sub.now c.args.above.now c.args.bound s.found.table.spots s.found.table.rows s.found.anys.items s.graph c.as_slice-current.result.now s.left.order.items d.numbers.items.items
    d.numbers.nexts.items
    c.args.steps.now c.explore.new.steps c.number_all.new.steps e.found.discovery e.built
    (subst (λ (z : List ℕ). IsRemoval s.graph.outs z s.left.order.items) (sym c.as_slice-current.ensures.value) e.left)
    d.ensures.found d.ensures.stay c.in-Ok.ensures.steps d.ensures.steps

pub returns-in-Ok-nodes_of-clause-steps : goal.returns-in-Ok-nodes_of-clause-steps
returns-in-Ok-nodes_of-clause-steps g c =
    let s = c.in-Ok.survivors in let e = c.in-Ok.ensures.survivors in let d = c.in-Ok-number_all in
    whole_cost c.args.sub.now c.args.above.now c.args.bound s.found.table.spots s.found.table.rows s.found.anys.items s.graph c.as_slice-current.result.now s.left.order.items d.numbers.items.items
    d.numbers.nexts.items
    c.args.steps.now c.explore.new.steps c.number_all.new.steps e.found.discovery e.built
    (subst (λ (z : List ℕ). IsRemoval s.graph.outs z s.left.order.items) (sym c.as_slice-current.ensures.value) e.left)
    d.ensures.found d.ensures.stay c.in-Ok.ensures.steps d.ensures.steps

pub number_all-requires-clause-short : goal.number_all-requires-clause-short
number_all-requires-clause-short g c = λ n. (let s = c.in-Ok.survivors in let e = c.in-Ok.ensures.survivors in
    let k = next_few s.found.anys.items s.found.table.rows s.graph c.as_slice-current.result.now MOST_CANDIDATES e.built e.found.noted.short n in omega arith)

pub number_all-requires-clause-left : goal.number_all-requires-clause-left
number_all-requires-clause-left g c =
    let s = c.in-Ok.survivors in let e = c.in-Ok.ensures.survivors in
    subst (λ (z : List ℕ). AreLeft s.graph.outs z) (sym c.as_slice-current.ensures.value) (record { size = e.left.size; start = e.start; closed = e.left.stays })
