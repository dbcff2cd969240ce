-- The reads of the graph are no more than the candidates and their results allow.
use Rattle.std.proofs.Common.{◌≡◌, ℕ, ◌<◌, ◌+◌, Bool, false, List, [], length, get_or, sym, ap, ◌∙◌, arith, Some, slice_get}
use Rattle.std.specs.List.{sum_by}
use Rattle.rs_model.specs.Data.{Machine_data}
use Rattle.rs_derive.specs.Moves.{Spot}
use Rattle.rs_graph.proofs.Buckets.{got}
use Rattle.rs_graph.proofs.Counting.{moves_sum, removal_fits, steps_fit, sum_same}
use Rattle.rs_graph.proofs.Growth.{all_found, at_in, at_short, at_within}
use Rattle.rs_graph.specs.Built.{IsBuilt}
use Rattle.rs_graph.specs.Discovery.{IsDiscovery}
use Rattle.rs_graph.specs.Graphs.{Graph_data, moves_of}
use Rattle.rs_graph.specs.Places.{next_of}
use Rattle.rs_graph.specs.Removal.{IsRemoval, at, cost_of, edges_in, moves_at}
use Rattle.rs_search.proofs.Verdicts.{from_candidate, names_length, to_candidate}
use Rattle.rs_search.specs.Candidates.{start_spot}
use Rattle.rs_search.specs.Costs.{AreCandidates, IsWithinCost, results_of}
use Rattle.rs_search.specs.Turns.{nexts_within}

-- the edges of the graph are the results of all moves
edges_are : (sub above : Machine_data) (bound : ℕ) (found : List Spot) (rows : List (List ℕ)) (anys : List Bool) (g : Graph_data)
    → IsDiscovery (nexts_within sub above bound) (start_spot sub above) found rows
    → IsBuilt anys rows (length rows) g → edges_in g.outs ≡ results_of sub above bound found
edges_are sub above bound found rows anys g d b =
    sum_same (λ (moves : List (List ℕ)). sum_by (λ (results : List ℕ). length results) moves) (λ (p : Spot). length (nexts_within sub above bound p)) g.outs found (b.size ∙ d.all)
    (λ i moves p em ep. (
    let lt = at_short g.outs i moves em in
    let row = at_within rows i (let s = b.size in omega arith) in
    let e : moves_of (get_or anys i false) (get_or rows i []) ≡ moves = sym (b.done i (let s = b.size in omega arith)) ∙ got g.outs i moves [] em in
    let m = moves_sum (get_or anys i false) (get_or rows i []) in
    let l = names_length found row.0 (nexts_within sub above bound p) (d.names i p row.0 ep row.1) in
    let q : length (get_or rows i []) ≡ length row.0 = ap (λ (z : List ℕ). length z) (got rows i row.0 [] row.1) in
    ap (sum_by (λ (results : List ℕ). length results)) (sym e) ∙ m ∙ q ∙ l))

pub candidates_are : (sub above : Machine_data) (bound : ℕ) (found : List Spot) (rows : List (List ℕ)) → IsDiscovery (nexts_within sub above bound) (start_spot sub above) found rows
    → AreCandidates sub above bound found
candidates_are sub above bound found rows d = record {
  once = d.once;
  to = λ p m. (let s = at_in found p m in to_candidate sub above bound p (d.reached s.0 p s.1));
  from = λ p c. all_found (nexts_within sub above bound) (start_spot sub above) found rows d p (from_candidate sub above bound p c);
}

pub removal_cost : (sub above : Machine_data) (bound : ℕ) (found : List Spot) (rows : List (List ℕ)) (anys : List Bool) (g : Graph_data) (current order : List ℕ) (before after : ℕ)
    → IsDiscovery (nexts_within sub above bound) (start_spot sub above) found rows
    → IsBuilt anys rows (length rows) g → IsRemoval g.outs current order → after ≡ before + sum_by (λ (n : ℕ). cost_of g.intos n) order → IsWithinCost sub above bound before after
removal_cost sub above bound found rows anys g current order before after d b r e = record {
  spots = found;
  are = candidates_are sub above bound found rows d;
  most = (let a = removal_fits g.outs g.intos current order b.into r in let c = edges_are sub above bound found rows anys g d b in let s = b.size in let l = d.all in omega arith);
}

pub whole_cost : (sub above : Machine_data) (bound : ℕ) (found : List Spot) (rows : List (List ℕ)) (anys : List Bool) (g : Graph_data) (current order items : List ℕ) (nexts : List (List ℕ))
    (before mid after : ℕ) → IsDiscovery (nexts_within sub above bound) (start_spot sub above) found rows
    → IsBuilt anys rows (length rows) g → IsRemoval g.outs current order → IsDiscovery (next_of g.outs current) 0 items nexts
    → ((i n : ℕ) → slice_get items i ≡ Some n → at current n < moves_at g.outs n)
    → mid ≡ before + sum_by (λ (n : ℕ). cost_of g.intos n) order → after ≡ mid + sum_by (λ (n : ℕ). length (next_of g.outs current n) + 1) items → IsWithinCost sub above bound before after
whole_cost sub above bound found rows anys g current order items nexts before mid after d b r n stay e f = record {
  spots = found;
  are = candidates_are sub above bound found rows d;
  most = (let a = steps_fit g.outs g.intos current order items nexts b.into r n stay in let c = edges_are sub above bound found rows anys g d b in let s = b.size in let l = d.all in omega arith);
}
