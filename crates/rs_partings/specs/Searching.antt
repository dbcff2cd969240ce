-- Steps: the first parting, told by flags of the nodes.
use Rattle.std.specs.Prelude.{ℕ, ◌+◌, Bool, false, not, ◌&&◌, List, [], ◌∷◌, Option, Some, None, slice_index_or, if◌then◌else◌}
use Rattle.rs_model.specs.declared.graph.Arm.{Arm}
use Rattle.rs_model.specs.declared.graph.Node.{Node}
use Rattle.rs_project.specs.Marks.{arms_of_node}
use Rattle.rs_partings.specs.declared.searching.Parting.{Parting}

-- the place of the first arm that leads to a flagged node, where the first arm has the place k
abbrev pub arm_toward : List Bool → ℕ → List Arm → Option ℕ
arm_toward flags k [] = None
arm_toward flags k (a ∷ arms) = if slice_index_or flags a.next false then Some k else arm_toward flags (k + 1) arms

-- the parting at these arms, where there is another one
abbrev pub parting_with : ℕ → ℕ → Option ℕ → Option Parting
parting_with talk one None = None
parting_with talk one (Some other) = Some (record { talk = talk; one = one; other = other })

-- the parting at this arm, where it leads to a node that is flagged for the one way alone, and an arm to one that is
-- flagged for the other way
abbrev pub parting_by : List Bool → List Bool → ℕ → List Arm → ℕ → Arm → Option Parting
parting_by ones others talk all one a = if slice_index_or ones a.next false && not (slice_index_or others a.next false) then parting_with talk one (arm_toward others 0 all) else None

-- the first of two partings that there is
abbrev pub or_later : Option Parting → Option Parting → Option Parting
or_later None later = later
or_later (Some p) later = Some p

-- the first parting at these arms, where the first arm has the place k
abbrev pub parting_of_arms : List Bool → List Bool → ℕ → List Arm → ℕ → List Arm → Option Parting
parting_of_arms ones others talk all k [] = None
parting_of_arms ones others talk all k (a ∷ arms) = or_later (parting_by ones others talk all k a) (parting_of_arms ones others talk all (k + 1) arms)

-- the first parting at the node, where it is flagged
abbrev pub parting_of_node : List Bool → List Bool → List Bool → ℕ → Node → Option Parting
parting_of_node here ones others n node = if slice_index_or here n false then parting_of_arms ones others n (arms_of_node node) 0 (arms_of_node node) else None

-- the first parting at these nodes, where the first node has the number n
abbrev pub parting_of_nodes : List Bool → List Bool → List Bool → ℕ → List Node → Option Parting
parting_of_nodes here ones others n [] = None
parting_of_nodes here ones others n (node ∷ nodes) = or_later (parting_of_node here ones others n node) (parting_of_nodes here ones others (n + 1) nodes)
