-- Public: the removal of nodes that have no move left: a graph whose nodes have moves, and of each move the results.
use Rattle.std.specs.Prelude.{◌≡◌, ℕ, suc, ◌<◌, ◌≤◌, List, [], length, Some, slice_get, slice_index_or}
use Rattle.std.specs.List.{sum_by}
use Rattle.rs_graph.specs.Lists.{Among}
use Rattle.rs_graph.specs.Order.{Once}
use Rattle.rs_graph.specs.declared.graph.Move.{Move}

-- how many moves the node has
abbrev pub moves_at : List (List (List ℕ)) → ℕ → ℕ
moves_at outs n = length (slice_index_or outs n [])

-- the move at that place of node n has the result r
abbrev pub Leads : List (List (List ℕ)) → ℕ → ℕ → ℕ → Type 0
Leads outs n place r = Among (slice_index_or (slice_index_or outs n []) place []) r

-- how many results all the moves have together
abbrev pub edges_in : List (List (List ℕ)) → ℕ
edges_in outs = sum_by (λ (moves : List (List ℕ)). sum_by (λ (results : List ℕ). length results) moves) outs

-- for each node the moves that have it as a result, each as often as it has it
pub record IsInto (outs : List (List (List ℕ))) (intos : List (List Move)) : Type 0 where
  pub size : length intos ≡ length outs
  pub to : (m : Move) (r : ℕ) → Leads outs m.node m.place r → Among (slice_index_or intos r []) m
  pub from : (m : Move) (r : ℕ) → Among (slice_index_or intos r []) m → Leads outs m.node m.place r
  pub count : sum_by (λ (row : List Move). length row) intos ≡ edges_in outs

-- the place of the node's first move that isn't lost, or the place after its last move
abbrev pub at : List ℕ → ℕ → ℕ
at current n = slice_index_or current n 0

-- a result of the move is in the list before that place
pub record Behind (outs : List (List (List ℕ))) (order : List ℕ) (n place before : ℕ) : Type 0 where
  pub result : ℕ
  pub leads : Leads outs n place result
  pub index : ℕ
  pub stands : slice_get order index ≡ Some result
  pub early : index < before

-- the nodes that are removed, in an order in which each move of a removed node has a result that was removed before; and for each other node its first move whose results all stay
pub record IsRemoval (outs : List (List (List ℕ))) (current order : List ℕ) : Type 0 where
  pub size : length current ≡ length outs
  pub within : (n : ℕ) → at current n ≤ moves_at outs n
  pub stays : (n r : ℕ) → at current n < moves_at outs n → Leads outs n (at current n) r → at current r < moves_at outs r
  pub passed : (n place : ℕ) → place < at current n → Behind outs order n place (length order)
  pub gone : (i n : ℕ) → slice_get order i ≡ Some n → (n < length outs) × (at current n ≡ moves_at outs n)
  pub ordered : (i n place : ℕ) → slice_get order i ≡ Some n → place < moves_at outs n → Behind outs order n place i
  pub listed : (n : ℕ) → n < length outs → at current n ≡ moves_at outs n → Among order n
  pub once : Once order

-- node 0 stays, and nodes that stay lead only to such, by the moves at which they stay
pub record AreLeft (outs : List (List (List ℕ))) (current : List ℕ) : Type 0 where
  pub size : length current ≡ length outs
  pub start : at current 0 < moves_at outs 0
  pub closed : (n r : ℕ) → at current n < moves_at outs n → Leads outs n (at current n) r → at current r < moves_at outs r

-- the number of steps that a removed node costs: one for itself, and one for each edge that ends at it
abbrev pub cost_of : List (List Move) → ℕ → ℕ
cost_of intos n = suc (length (slice_index_or intos n []))
