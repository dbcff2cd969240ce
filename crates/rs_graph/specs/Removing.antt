-- Steps: what holds while nodes are removed.
use Rattle.std.specs.Prelude.{◌≡◌, ◌⊎◌, ℕ, suc, ◌+◌, ◌<◌, ◌≤◌, Bool, true, false, List, [], ◌∷◌, length, map, replicate, ◌==◌, if◌then◌else◌, Some, slice_get, slice_index_or}
use Rattle.std.specs.List.{sum_by}
use Rattle.rs_graph.specs.Lists.{Among}
use Rattle.rs_graph.specs.Order.{Once}
use Rattle.rs_graph.specs.declared.graph.Move.{Move}
use Rattle.rs_graph.specs.Removal.{moves_at, Leads, at, Behind}

-- the flag of the move
abbrev pub is_lost : List (List Bool) → ℕ → ℕ → Bool
is_lost lost n place = slice_index_or (slice_index_or lost n []) place false

-- what holds in between: a removed node is in the order, and the moves that are left and lead to it are still to be marked as lost
pub record Going (outs : List (List (List ℕ))) (lost : List (List Bool)) (current order : List ℕ) (Left : ℕ → Move → Type 0) : Type 0 where
  pub rows : length lost ≡ length outs
  pub nodes : length current ≡ length outs
  pub flags : (n : ℕ) → length (slice_index_or lost n []) ≡ moves_at outs n
  pub within : (n : ℕ) → at current n ≤ moves_at outs n
  pub unlost : (n : ℕ) → at current n < moves_at outs n → is_lost lost n (at current n) ≡ false
  pub past : (n place : ℕ) → place < at current n → is_lost lost n place ≡ true
  pub gone : (n place : ℕ) → is_lost lost n place ≡ true → Behind outs order n place (length order)
  pub removed : (i n : ℕ) → slice_get order i ≡ Some n → (n < length outs) × (at current n ≡ moves_at outs n)
  pub ordered : (i n place : ℕ) → slice_get order i ≡ Some n → place < moves_at outs n → Behind outs order n place i
  pub listed : (n : ℕ) → n < length outs → at current n ≡ moves_at outs n → Among order n
  pub once : Once order
  pub told : (m : Move) (x : ℕ) → is_lost lost m.node m.place ≡ false → Leads outs m.node m.place x → x < length outs → at current x ≡ moves_at outs x
      → (j : ℕ) × (slice_get order j ≡ Some x) × Left j m

-- the news of the nodes from that place of the order on
abbrev pub From : ℕ → ℕ → Move → Type 0
From k j m = k ≤ j

-- the node at that place is still to be passed on to these moves, and so are all nodes after it to theirs
abbrev pub Rest : ℕ → List Move → ℕ → Move → Type 0
Rest k rest j m = (k < j) ⊎ ((j ≡ k) × Among rest m)

-- the edges and the nodes, counted together
abbrev pub whole : List (List Move) → ℕ
whole intos = sum_by (λ (row : List Move). suc (length row)) intos

-- the next move of a node from a place on that isn't lost, or the number of its moves
pub record IsNextMove (flags : List Bool) (start next : ℕ) : Type 0 where
  pub most : next ≤ length flags
  pub unlost : next < length flags → slice_index_or flags next false ≡ false
  pub past : (place : ℕ) → start ≤ place → place < next → slice_index_or flags place false ≡ true
  pub on : start ≤ next

-- no flag is raised
abbrev pub lowered_flags : List (List (List ℕ)) → List (List Bool)
lowered_flags outs = map (λ (row : List (List ℕ)). replicate (length row) false) outs

-- the nodes that have no move, the first of which has the number n
abbrev pub moveless : ℕ → List (List (List ℕ)) → List ℕ
moveless n [] = []
moveless n (row ∷ outs) = if length row == 0 then n ∷ moveless (n + 1) outs else moveless (n + 1) outs
