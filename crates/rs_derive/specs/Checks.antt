-- Steps: the first fault of a derivation, as the code finds it.
use Rattle.std.specs.Prelude.{ℕ, ◌+◌, List, [], ◌∷◌, length, slice_get, Bool, ◌==◌, ◌&&◌, nat_lt, nat_le, if◌then◌else◌, Option, Some, None}
use Rattle.rs_model.specs.Data.{Machine_data}
use Rattle.rs_model.specs.FirstFailed.{or_later}
use Rattle.rs_model.specs.declared.graph.Arm.{Arm}
use Rattle.rs_derive.specs.Data.{DNode_data, Derivation_data}
use Rattle.rs_derive.specs.Derivations.{spot_of}
use Rattle.rs_derive.specs.Due.{Due, due}
use Rattle.rs_derive.specs.Moves.{Spot}
use Rattle.rs_derive.specs.declared.faults.DeriveFault.{DeriveFault}
use Rattle.rs_derive.specs.declared.faults.DeriveFault.TheVariants.{BadStart, BadState, TooLongPending, NoMove, WrongNext, Forgets}
use Rattle.rs_derive.specs.Nodes.{names, starts}

-- tests of equality

-- the spot that a target of an edge stands for

-- faults

-- an edge leads to no spot that is due, or keeps its head and leads to no lower rank
abbrev pub fault_of_edge : Bool → ℕ → ℕ → ℕ → Bool → ℕ → Option DeriveFault
fault_of_edge keeps rank i k named there =
    if named then (if keeps && nat_le rank there then Some (Forgets i k) else None) else Some (WrongNext i k)

-- the fault of one edge: it leads to another spot than it should, its rank doesn't fall, or it names no node
abbrev pub edge_fault : Bool → ℕ → ℕ → ℕ → List Spot → Option DNode_data → Option DeriveFault
edge_fault keeps rank i k spots None = Some (WrongNext i k)
edge_fault keeps rank i k spots (Some m) = fault_of_edge keeps rank i k (names m spots) m.rank

-- the edge by that arm and that next
abbrev pub edge_at : (Arm → List Spot) → List DNode_data → Bool → ℕ → ℕ → ℕ → Option Arm → Option ℕ → Option DeriveFault
edge_at due nodes keeps rank i k (Some a) (Some j) = edge_fault keeps rank i k (due a) (slice_get nodes j)
edge_at due nodes keeps rank i k (Some a) None = None
edge_at due nodes keeps rank i k None next = None

-- there are more nexts than are due
abbrev pub spare : ℕ → ℕ → List ℕ → Option DeriveFault
spare i k [] = None
spare i k (j ∷ js) = Some (WrongNext i k)

-- there are more or fewer nexts than are due
abbrev pub fault_of_count : ℕ → ℕ → ℕ → ℕ → Option DeriveFault
fault_of_count i k due given = if due == given then None else Some (WrongNext i k)

-- the first fault of node i's edges, from the one at place k on
abbrev pub nexts_fault : List DNode_data → Bool → ℕ → ℕ → List (List Spot) → List ℕ → ℕ → Option DeriveFault
nexts_fault nodes keeps rank i [] js k = spare i k js
nexts_fault nodes keeps rank i (d ∷ ds) [] k = Some (WrongNext i k)
nexts_fault nodes keeps rank i (d ∷ ds) (j ∷ js) k =
    or_later (edge_fault keeps rank i k d (slice_get nodes j)) (nexts_fault nodes keeps rank i ds js (k + 1))

-- node i has no move; if it has one, the first fault of its edges
abbrev pub move_fault : List DNode_data → ℕ → DNode_data → Option Due → Option DeriveFault
move_fault nodes i n None = Some (NoMove i)
move_fault nodes i n (Some d) = nexts_fault nodes d.keeps n.rank i d.nexts n.next 0

-- node i names a state that the machine or its projection doesn't have
abbrev pub state_fault : Machine_data → Machine_data → ℕ → DNode_data → Option DeriveFault
state_fault sub above i n =
    if nat_lt n.state (length sub.states) && nat_lt n.above (length above.states) then None else Some (BadState i)

-- node i owes more acts than the bound
abbrev pub length_fault : ℕ → ℕ → DNode_data → Option DeriveFault
length_fault bound i n = if nat_le (length n.pending) bound then None else Some (TooLongPending i)

-- the first fault of node i
abbrev pub node_fault : Derivation_data → Machine_data → Machine_data → ℕ → DNode_data → Option DeriveFault
node_fault d sub above i n =
    or_later (state_fault sub above i n)
    (or_later (length_fault d.bound i n) (move_fault d.nodes i n (due sub above (spot_of n))))

-- the first fault of the nodes from number i on
abbrev pub nodes_fault : Derivation_data → Machine_data → Machine_data → List DNode_data → ℕ → Option DeriveFault
nodes_fault d sub above [] i = None
nodes_fault d sub above (n ∷ later) i = or_later (node_fault d sub above i n) (nodes_fault d sub above later (i + 1))

-- the first fault of a derivation
abbrev pub derive_fault : Derivation_data → Machine_data → Machine_data → Option DeriveFault
derive_fault d sub above =
    or_later (if starts sub above d.nodes then None else Some BadStart) (nodes_fault d sub above d.nodes 0)
