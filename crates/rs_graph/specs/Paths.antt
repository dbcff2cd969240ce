-- Steps: the search for cycles: a path in parts, each of which goes round or is one node, and the edges that are still to be looked at.
use Rattle.std.specs.Prelude.{◌≡◌, ◌⊎◌, ◌+◌, ◌*◌, ℕ, suc, List, [], ◌∷◌, ◌++◌, length, Bool, true, false, Some, slice_get}
use Rattle.std.specs.List.{sum_by}
use Rattle.rs_graph.specs.Lists.{Among}
use Rattle.rs_graph.specs.Ranks.{Edge}
use Rattle.rs_graph.specs.Walks.{Walk, IsOnCycle}
use Rattle.rs_graph.specs.declared.cycles.NodeMark.{NodeMark}
use Rattle.rs_graph.specs.declared.cycles.NodeMark.TheVariants.{Ahead, On, Known}
use Rattle.rs_graph.specs.declared.cycles.PathPart.{PathPart}

-- of the node it is known whether it is on a cycle
abbrev pub CycleIsKnown : List NodeMark → ℕ → Type 0
CycleIsKnown marks x = (round : Bool) × (slice_get marks x ≡ Some (Known round))

-- a part of the path: its nodes, and their edges that are still to be looked at
pub record Layer : Type 0 where
  pub nodes : List ℕ
  pub edges : List ℕ
  pub round : Bool

-- the last part is first in this list
abbrev pub path_of : List Layer → List ℕ
path_of [] = []
path_of (l ∷ ls) = path_of ls ++ l.nodes

-- all edges that are still to be looked at
abbrev pub edges_of : List Layer → List ℕ
edges_of [] = []
edges_of (l ∷ ls) = edges_of ls ++ l.edges

-- where each part begins among the nodes and among these edges, and whether it goes round
abbrev pub parts_of : List Layer → List PathPart
parts_of [] = []
parts_of (l ∷ ls) = parts_of ls ++ (record { start = length (path_of ls); edges = length (edges_of ls); round = l.round } ∷ [])

-- the nodes of a part are reached from those before it; they lead to each other where it goes round, else it is one node;
-- and each of their edges leads to a known node, is still to be looked at, or stays in a part that goes round
pub record LayerFits (rows : List (List ℕ)) (marks : List NodeMark) (lower nodes edges : List ℕ) (round : Bool) : Type 0 where
  pub first : (x : ℕ) × Among nodes x
  pub reached : (x y : ℕ) → Among lower x → Among nodes y → (n : ℕ) × Walk (Edge rows) x n y
  pub around : round ≡ true → (x y : ℕ) → Among nodes x → Among nodes y → (n : ℕ) × Walk (Edge rows) x (suc n) y
  pub one : round ≡ false → (x y : ℕ) → Among nodes x → Among nodes y → x ≡ y
  pub sources : (y : ℕ) → Among edges y → (x : ℕ) × Among nodes x × Edge rows x y
  pub told : (x y : ℕ) → Among nodes x → Edge rows x y → CycleIsKnown marks y ⊎ (Among edges y ⊎ (Among nodes y × (round ≡ true)))

-- each part fits after those before it
abbrev pub AllFit : List (List ℕ) → List NodeMark → List Layer → Type 0
AllFit rows marks [] = Unit {0}
AllFit rows marks (l ∷ ls) = LayerFits rows marks (path_of ls) l.nodes l.edges l.round × AllFit rows marks ls

-- what is known is right, and is closed; nodes on the path know their places
pub record AreRight (rows : List (List ℕ)) (marks : List NodeMark) (path : List ℕ) : Type 0 where
  pub size : length marks ≡ length rows
  pub to : (i x : ℕ) → slice_get path i ≡ Some x → slice_get marks x ≡ Some (On i)
  pub from : (x i : ℕ) → slice_get marks x ≡ Some (On i) → slice_get path i ≡ Some x
  pub closed : (x y : ℕ) → CycleIsKnown marks x → Edge rows x y → CycleIsKnown marks y
  pub yes : (x : ℕ) → slice_get marks x ≡ Some (Known true) → IsOnCycle (Edge rows) x
  pub not : (x : ℕ) → slice_get marks x ≡ Some (Known false) → IsOnCycle (Edge rows) x → ⊥

-- as far as the search has come
pub record Searching (rows : List (List ℕ)) (marks : List NodeMark) (path edges : List ℕ) (parts : List PathPart) : Type 0 where
  pub layers : List Layer
  pub path_is : path ≡ path_of layers
  pub edges_is : edges ≡ edges_of layers
  pub parts_is : parts ≡ parts_of layers
  pub fit : AllFit rows marks layers
  pub right : AreRight rows marks path

-- the search rests between two nodes: no path is followed
pub record Resting (rows : List (List ℕ)) (marks : List NodeMark) (path edges : List ℕ) (parts : List PathPart) : Type 0 where
  pub searching : Searching rows marks path edges parts
  pub none : path ≡ []

-- the last part is taken off the path: it begins at that place of the path and of the edges
pub record Splits (rows : List (List ℕ)) (marks : List NodeMark) (path edges : List ℕ) (parts : List PathPart) (start from : ℕ) : Type 0 where
  pub nodes : List ℕ
  pub last : List ℕ
  pub layers : List Layer
  pub path_is : path ≡ path_of layers ++ nodes
  pub edges_is : edges ≡ edges_of layers ++ last
  pub parts_is : parts ≡ parts_of layers
  pub start_is : start ≡ length (path_of layers)
  pub from_is : from ≡ length (edges_of layers)
  pub fit : AllFit rows marks layers

-- the part was taken off the path, and fits after the rest of the path
pub record TakenOff (rows : List (List ℕ)) (marks : List NodeMark) (path edges : List ℕ) (parts : List PathPart) (part : PathPart) : Type 0 where
  pub splits : Splits rows marks path edges parts part.start part.edges
  pub here : LayerFits rows marks (path_of splits.layers) splits.nodes splits.last part.round

-- several parts were taken off the path, to be joined: all their nodes lead to y, an edge of theirs, and from there to each other where y is one of them
pub record Joining (rows : List (List ℕ)) (marks : List NodeMark) (path edges : List ℕ) (parts : List PathPart) (start from y : ℕ) : Type 0 where
  pub splits : Splits rows marks path edges parts start from
  pub first : (x : ℕ) × Among splits.nodes x
  pub reached : (x z : ℕ) → Among (path_of splits.layers) x → Among splits.nodes z → (n : ℕ) × Walk (Edge rows) x n z
  pub sources : (z : ℕ) → Among splits.last z → (x : ℕ) × Among splits.nodes x × Edge rows x z
  pub told : (x z : ℕ) → Among splits.nodes x → Edge rows x z → CycleIsKnown marks z ⊎ ((z ≡ y) ⊎ (Among splits.last z ⊎ Among splits.nodes z))
  pub closes : (x : ℕ) → Among splits.nodes x → (n : ℕ) × Walk (Edge rows) x (suc n) y
  pub opens : Among splits.nodes y → (z : ℕ) → Among splits.nodes z → (n : ℕ) × Walk (Edge rows) y n z

-- some of the last nodes of the path have left it, and are known
pub record Leaving (old : List NodeMark) (from : List ℕ) (marks : List NodeMark) (path : List ℕ) (round : Bool) : Type 0 where
  pub left : List ℕ
  pub whole : from ≡ path ++ left
  pub size : length marks ≡ length old
  pub on : (x : ℕ) → Among left x → slice_get marks x ≡ Some (Known round)
  pub off : (x : ℕ) → (Among left x → ⊥) → slice_get marks x ≡ slice_get old x

-- n nodes weren't visited yet
abbrev pub ahead : List NodeMark → ℕ
ahead [] = 0
ahead (Ahead ∷ marks) = suc (ahead marks)
ahead (On place ∷ marks) = ahead marks
ahead (Known round ∷ marks) = ahead marks

-- what is still to be done at most
abbrev pub to_do : List (List ℕ) → List NodeMark → List ℕ → List PathPart → ℕ
to_do rows marks edges parts = ahead marks * (sum_by (λ (row : List ℕ). length row) rows + 2) + length edges + length parts

-- no node is ahead that wasn't
abbrev pub NoneMoreAhead : List NodeMark → List NodeMark → Type 0
NoneMoreAhead old new = (x : ℕ) → slice_get new x ≡ Some Ahead → slice_get old x ≡ Some Ahead
