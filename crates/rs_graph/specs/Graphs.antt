-- Public: what contracts see of a graph.
use Rattle.std.specs.Prelude.{ℕ, List, [], ◌∷◌, ◌++◌, map, slice_index_or, slice_set, Bool, if◌then◌else◌, Option, None, Some}
use Rattle.rs_graph.specs.declared.graph.Move.{Move}

-- for each node its moves, each with its results in order of addition; and for each node the moves of the edges that end there, in order of addition
pub record Graph_data : Type 0 where
  pub outs : List (List (List ℕ))
  pub intos : List (List Move)

-- the results of the move with one more
abbrev pub with_result : List (List (List ℕ)) → ℕ → ℕ → ℕ → List (List (List ℕ))
with_result outs n place r = slice_set outs n (slice_set (slice_index_or outs n []) place (slice_index_or (slice_index_or outs n []) place [] ++ r ∷ []))

-- the moves of the node with one more, which has no result
abbrev pub with_move : List (List (List ℕ)) → ℕ → List (List (List ℕ))
with_move outs n = slice_set outs n (slice_index_or outs n [] ++ [] ∷ [])

-- the moves that lead to a node with one more
abbrev pub with_end : List (List Move) → ℕ → Move → List (List Move)
with_end intos r m = slice_set intos r (slice_index_or intos r [] ++ m ∷ [])

-- the moves that lead to the items: one to each of them, or one to all
abbrev pub moves_of : {X : Type 0} → Bool → List X → List (List X)
moves_of {X} any items = if any then map (λ (x : X). x ∷ []) items else items ∷ []

-- a move by its node and its place
abbrev pub pair_of : Option Move → Option (ℕ × ℕ)
pair_of None = None
pair_of (Some m) = Some (m.node, m.place)
