-- Steps: the sorts with which labels were noted, so that a receive is tested against all earlier ones at once.
use Rattle.std.specs.Prelude.{◌≡◌, ℕ, ◌<◌, true, ◌==◌, List, Option, Some, slice_get}
use Rattle.rs_model.specs.Data.{Protocol_data}
use Rattle.rs_model.specs.declared.graph.Arm.{Arm}
use Rattle.rs_model.specs.declared.graph.Node.{Node}
use Rattle.rs_model.specs.declared.graph.Node.TheVariants.{Finished, Talk}
use Rattle.rs_model.specs.declared.graph.Role.{Role}
use Rattle.rs_model.specs.declared.values.Sort.{Sort}

-- the arm's label is noted with the arm's sort
abbrev pub IsNotedWith : List (Option Sort) → Arm → Type 0
IsNotedWith sorts a = slice_get sorts a.label.0 ≡ Some (Some a.sort)

-- so are all of these
abbrev pub AllNoted : List (Option Sort) → List Arm → Type 0
AllNoted sorts arms = (place : ℕ) (a : Arm) → slice_get arms place ≡ Some a → IsNotedWith sorts a

-- what was noted stays so
abbrev pub KeepsNotes : List (Option Sort) → List (Option Sort) → Type 0
KeepsNotes old new = (label : ℕ) (s : Sort) → slice_get old label ≡ Some (Some s) → slice_get new label ≡ Some (Some s)

-- the role receives in the node, from this sender, and its labels are noted
abbrev pub IsNotedTalk : Role → Role → List (Option Sort) → Node → Type 0
IsNotedTalk role sender sorts Finished = ⊥
IsNotedTalk role sender sorts (Talk s r arms) = (s.0 == sender.0 ≡ true) × (r.0 == role.0 ≡ true) × AllNoted sorts arms

-- the labels of the first n talks are noted with their sorts
abbrev pub AreNotedTalks : Protocol_data → Role → Role → List (Option Sort) → List ℕ → ℕ → Type 0
AreNotedTalks protocol role sender sorts talks count = (k t : ℕ) (node : Node) → k < count → slice_get talks k ≡ Some t → slice_get protocol.nodes t ≡ Some node → IsNotedTalk role sender sorts node
