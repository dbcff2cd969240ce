-- Public: what stands at the numbers of a graph.
use Rattle.std.specs.Prelude.{◌≡◌, ℕ, ◌≤◌, List, [], ◌∷◌, ◌++◌, codes, map, Bool, true, false, Some, slice_get}
use Rattle.std.specs.Fmt.{decimal}
use Rattle.rs_model.specs.Data.{Machine_data, Protocol_data}
use Rattle.rs_model.specs.declared.graph.Arm.{Arm}
use Rattle.rs_model.specs.declared.graph.Node.{Node}
use Rattle.rs_model.specs.declared.graph.Node.TheVariants as node
use Rattle.rs_model.specs.declared.machines.State.{State}
use Rattle.rs_model.specs.declared.machines.State.TheVariants as state
use Rattle.rs_bodies.specs.declared.dialects.Head.{Head}
use Rattle.rs_bodies.specs.declared.dialects.Head.TheVariants as head
use Rattle.rs_bodies.specs.declared.dialects.Mark.TheVariants as mark
use Rattle.rs_bodies.specs.declared.places.Place.{Place}
use Rattle.rs_bodies.specs.declared.places.Place.TheVariants as place
use Rattle.rs_bodies.specs.Data.{Spelling_data}

-- a head with its arms stands there
abbrev pub choice : Head → List Arm → Place
choice h arms = place.Point (record { head = h; arms = arms })

-- a talk is a head, and Finished an end
abbrev pub place_of_node : Node → Place
place_of_node node.Finished = place.End
place_of_node (node.Talk sender receiver arms) = choice (head.Talk sender receiver) arms

-- an act is a head, and Done an end
abbrev pub place_of_state : State → Place
place_of_state state.Done = place.End
place_of_state (state.Puts peer arms) = choice (head.Act peer mark.Puts) arms
place_of_state (state.Takes peer arms) = choice (head.Act peer mark.Takes) arms

-- the places of a protocol
abbrev pub places_of_protocol : Protocol_data → List Place
places_of_protocol p = map place_of_node p.nodes

-- the places of a machine
abbrev pub places_of_machine : Machine_data → List Place
places_of_machine m = map place_of_state m.states

-- one end stands behind the last head exactly where the text has an end
abbrev pub end_of : Bool → List Place
end_of true = place.End ∷ []
end_of false = []

-- the places of what a part spells
abbrev pub places_spelt : Spelling_data → List Place
places_spelt s = map place.Point s.points ++ end_of s.ended

-- the recursion name of the place n: X and the number
abbrev pub name_of_place : ℕ → List ℕ
name_of_place n = codes "X" ++ decimal n

-- an arm of the place n or of a later one leads to n
pub record IsGoneBackTo (places : List Place) (n : ℕ) : Type 0 where
  pub number : ℕ
  pub behind : n ≤ number
  pub head : Head
  pub arms : List Arm
  pub stands : slice_get places number ≡ Some (choice head arms)
  pub index : ℕ
  pub arm : Arm
  pub holds : slice_get arms index ≡ Some arm
  pub leads : arm.next ≡ n
