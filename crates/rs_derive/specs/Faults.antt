-- Public: the first fault of a derivation: all its tests in order, and the first that isn't passed.
use Rattle.std.specs.Prelude.{◌≡◌, ◌≢◌, ◌⊎◌, ℕ, ◌+◌, ◌<◌, ◌≤◌, List, [], ◌∷◌, ◌++◌, length, slice_get, Bool, true, false, not, ◌&&◌, ◌||◌, nat_lt, nat_le, Option, Some, None}
use Rattle.rs_model.specs.Data.{Machine_data}
use Rattle.rs_model.specs.FirstFailed.{Test, first_failed}
use Rattle.rs_derive.specs.Nodes.{names, starts}
use Rattle.rs_derive.specs.Data.{DNode_data, Derivation_data}
use Rattle.rs_derive.specs.Derivations.{KeepsItsHead, spot_of}
use Rattle.rs_derive.specs.Due.{Due, due}
use Rattle.rs_derive.specs.Moves.{HasMove, Spot, spot}
use Rattle.rs_derive.specs.declared.faults.DeriveFault.{DeriveFault}
use Rattle.rs_derive.specs.declared.faults.DeriveFault.TheVariants.{BadStart, BadState, TooLongPending, NoMove, WrongNext, Forgets}

-- the number names a node at one of the spots
abbrev pub is_named : List Spot → Option DNode_data → Bool
is_named spots None = false
is_named spots (Some m) = names m spots

-- the node that is named has a lesser rank
abbrev pub falls : ℕ → Option DNode_data → Bool
falls rank None = true
falls rank (Some m) = nat_lt m.rank rank

-- the tests of node i's nexts from arm k on: for each arm that the next names one of the spots that are due, and that the rank falls
-- where the head is kept; then that there are no fewer and no more nexts than are due
abbrev pub next_tests : List DNode_data → Bool → ℕ → ℕ → List (List Spot) → List ℕ → ℕ → List (Test DeriveFault)
next_tests nodes keeps rank i [] [] k = []
next_tests nodes keeps rank i [] (j ∷ js) k = record { passes = false; fault = WrongNext i k } ∷ []
next_tests nodes keeps rank i (d ∷ ds) [] k = record { passes = false; fault = WrongNext i k } ∷ []
next_tests nodes keeps rank i (d ∷ ds) (j ∷ js) k =
    record { passes = is_named d (slice_get nodes j); fault = WrongNext i k }
    ∷ record { passes = not keeps || falls rank (slice_get nodes j); fault = Forgets i k }
    ∷ next_tests nodes keeps rank i ds js (k + 1)

-- that the node has a move, and the tests of its nexts
abbrev pub move_tests : List DNode_data → ℕ → DNode_data → Option Due → List (Test DeriveFault)
move_tests nodes i n None = record { passes = false; fault = NoMove i } ∷ []
move_tests nodes i n (Some d) = next_tests nodes d.keeps n.rank i d.nexts n.next 0

-- the tests of node i: its states, how much it owes, its move and its nexts
abbrev pub node_tests : Derivation_data → Machine_data → Machine_data → ℕ → DNode_data → List (Test DeriveFault)
node_tests d sub above i n =
    record { passes = nat_lt n.state (length sub.states) && nat_lt n.above (length above.states); fault = BadState i }
    ∷ record { passes = nat_le (length n.pending) d.bound; fault = TooLongPending i }
    ∷ move_tests d.nodes i n (due sub above (spot_of n))

-- those of the nodes in order, the first of which has the number i
abbrev pub nodes_tests : Derivation_data → Machine_data → Machine_data → List DNode_data → ℕ → List (Test DeriveFault)
nodes_tests d sub above [] i = []
nodes_tests d sub above (n ∷ later) i = node_tests d sub above i n ++ nodes_tests d sub above later (i + 1)

-- all tests in order: the start, and those of the nodes
abbrev pub tests_of : Derivation_data → Machine_data → Machine_data → List (Test DeriveFault)
tests_of d sub above =
    record { passes = starts sub above d.nodes; fault = BadStart } ∷ nodes_tests d sub above d.nodes 0

-- the fault of the first test that the derivation doesn't pass
unfoldable pub first_fault : Derivation_data → Machine_data → Machine_data → Option DeriveFault
first_fault d sub above = first_failed (tests_of d sub above)

-- at place k there is a next and no result, or a result and no next, or the next names no node that is the result
pub record Misnames (nodes : List DNode_data) (next : List ℕ) (results : List Spot) (k : ℕ) : Type 0 where
  pub one : slice_get next k ≡ None → slice_get results k ≡ None → ⊥
  pub none : (j : ℕ) (r : Spot) (m : DNode_data) → slice_get next k ≡ Some j → slice_get results k ≡ Some r → slice_get nodes j ≡ Some m
      → spot_of m ≢ r

-- the node has a move that keeps its head, and the rank doesn't fall to its next at place k
pub record Stays (nodes : List DNode_data) (sub above : Machine_data) (n : DNode_data) (k : ℕ) : Type 0 where
  pub makes : Option ℕ
  pub results : List Spot
  pub move : HasMove sub above (spot_of n) makes results
  pub keeps : KeepsItsHead n.pending makes
  pub j : ℕ
  pub m : DNode_data
  pub next : slice_get n.next k ≡ Some j
  pub node : slice_get nodes j ≡ Some m
  pub stays : n.rank ≤ m.rank

-- what each fault says of the derivation
abbrev pub Blames : Derivation_data → Machine_data → Machine_data → DeriveFault → Type 0
Blames d sub above BadStart = (n : DNode_data) → slice_get d.nodes 0 ≡ Some n → spot_of n ≢ spot sub.start [] above.start
Blames d sub above (BadState i) =
    (n : DNode_data) × (slice_get d.nodes i ≡ Some n) × ((length sub.states ≤ n.state) ⊎ (length above.states ≤ n.above))
Blames d sub above (TooLongPending i) = (n : DNode_data) × (slice_get d.nodes i ≡ Some n) × (d.bound < length n.pending)
Blames d sub above (NoMove i) =
    (n : DNode_data) × (slice_get d.nodes i ≡ Some n)
    × ((makes : Option ℕ) (results : List Spot) → HasMove sub above (spot_of n) makes results → ⊥)
Blames d sub above (WrongNext i k) =
    (n : DNode_data) × (slice_get d.nodes i ≡ Some n)
    × ((makes : Option ℕ) (results : List Spot) → HasMove sub above (spot_of n) makes results → Misnames d.nodes n.next results k)
Blames d sub above (Forgets i k) = (n : DNode_data) × (slice_get d.nodes i ≡ Some n) × Stays d.nodes sub above n k
