-- Public: the canonical derivation, and why there may be none.
use Rattle.std.specs.Prelude.{◌≡◌, ◌↔◌, ℕ, ◌≤◌, List, length, map, slice_get, Bool, true, Option, Some}
use Rattle.rs_model.specs.declared.limits.TheConstants.{MOST_CANDIDATES}
use Rattle.rs_model.specs.Data.{Machine_data}
use Rattle.rs_derive.specs.Data.{DNode_data, Derivation_data}
use Rattle.rs_derive.specs.Derivations.{IsDerivation, KeepsItsHead, Remembers, spot_of}
use Rattle.rs_derive.specs.Moves.{Spot, HasMove}
use Rattle.rs_search.specs.Candidates.{start_spot, IsCandidate, MeetsACut, AreMoreThan}
use Rattle.rs_graph.specs.Order.{Once, Worked}
use Rattle.rs_graph.specs.Lists.{Among, ArePlacesOf}
use Rattle.rs_search.specs.Survives.{Survives, IsChosen}
use Rattle.rs_graph.specs.Walks.{IsRank, IsOnCycle, IsLeastOnCycle}
use Rattle.rs_search.specs.declared.faults.SearchFault.{SearchFault}
use Rattle.rs_search.specs.declared.faults.SearchFault.TheVariants.{NotFound, Forgets, TooLarge, NoMemory}

-- the results of the chosen move of the node, by its nexts
pub record FollowsTheChoice (sub above : Machine_data) (bound : ℕ) (nodes : List DNode_data) (n : DNode_data) : Type 0 where
  pub results : List Spot
  pub chosen : IsChosen sub above bound (spot_of n) results
  pub names : ArePlacesOf (map (λ (m : DNode_data). spot_of m) nodes) n.next results

-- the canonical derivation, but for its ranks: from the start by the chosen moves, numbered in order of first discovery
pub record HasCanonicalNodes (sub above : Machine_data) (bound : ℕ) (d : Derivation_data) : Type 0 where
  pub role : d.role ≡ sub.role
  pub bound' : d.bound ≡ bound
  pub first : slice_get (map (λ (m : DNode_data). spot_of m) d.nodes) 0 ≡ Some (start_spot sub above)
  pub once : Once (map (λ (m : DNode_data). spot_of m) d.nodes)
  pub each : (i : ℕ) (n : DNode_data) → slice_get d.nodes i ≡ Some n → FollowsTheChoice sub above bound d.nodes n
  pub order : Worked 0 1 (map (λ (m : DNode_data). m.next) d.nodes) (length d.nodes)

-- an edge of the derivation that keeps the oldest act that is owed
pub record KeepsHead (sub above : Machine_data) (nodes : List DNode_data) (i j : ℕ) : Type 0 where
  pub node : DNode_data
  pub stands : slice_get nodes i ≡ Some node
  pub makes : Option ℕ
  pub results : List Spot
  pub move : HasMove sub above (spot_of node) makes results
  pub keeps : KeepsItsHead node.pending makes
  pub leads : Among node.next j

-- the canonical derivation: with it each rank is the greatest length of a walk of edges that keep their head
pub record IsCanonical (sub above : Machine_data) (bound : ℕ) (d : Derivation_data) : Type 0 where
  pub bounded : AreMoreThan sub above bound MOST_CANDIDATES → ⊥
  pub canonical : HasCanonicalNodes sub above bound d
  pub ranks : (i : ℕ) (n : DNode_data) → slice_get d.nodes i ≡ Some n → IsRank (KeepsHead sub above d.nodes) i n.rank

-- some candidate meets a cut
pub record SomeCut (sub above : Machine_data) (bound : ℕ) : Type 0 where
  pub spot : Spot
  pub candidate : IsCandidate sub above bound spot
  pub cut : MeetsACut sub above bound spot

-- the start doesn't survive; cut is whether some candidate meets a cut
pub record IsNotFound (sub above : Machine_data) (bound : ℕ) (cut : Bool) : Type 0 where
  pub bounded : AreMoreThan sub above bound MOST_CANDIDATES → ⊥
  pub dies : Survives sub above bound (start_spot sub above) → ⊥
  pub cuts : (cut ≡ true) ↔ SomeCut sub above bound

-- the canonical derivation has a cycle of edges that keep their head, and the node is the least on one
pub record IsForgets (sub above : Machine_data) (bound node : ℕ) : Type 0 where
  pub bounded : AreMoreThan sub above bound MOST_CANDIDATES → ⊥
  pub derivation : Derivation_data
  pub canonical : HasCanonicalNodes sub above bound derivation
  pub cycle : IsLeastOnCycle (KeepsHead sub above derivation.nodes) node

-- the canonical derivation has a cycle of edges that keep their head, round which the oldest act may be owed for ever
pub record IsForgetful (sub above : Machine_data) (bound : ℕ) : Type 0 where
  pub derivation : Derivation_data
  pub canonical : HasCanonicalNodes sub above bound derivation
  pub node : ℕ
  pub cycle : IsOnCycle (KeepsHead sub above derivation.nodes) node

-- some derivation within the bound forgets nothing that is owed
pub record CanFollow (sub above : Machine_data) (bound : ℕ) : Type 0 where
  pub derivation : Derivation_data
  pub is_derivation : IsDerivation derivation sub above
  pub remembers : Remembers derivation sub above
  pub within : derivation.bound ≤ bound

-- some derivation within the bound forgets nothing that is owed, and there are at most 65,536 candidates
pub record IsDerivable (sub above : Machine_data) (bound : ℕ) : Type 0 where
  pub bounded : AreMoreThan sub above bound MOST_CANDIDATES → ⊥
  pub follows : CanFollow sub above bound

-- what each fault says; want of memory says nothing
abbrev pub SearchRefuses : Machine_data → Machine_data → ℕ → SearchFault → Type 0
SearchRefuses sub above bound (NotFound cut) = IsNotFound sub above bound cut
SearchRefuses sub above bound (Forgets node) = IsForgets sub above bound node
SearchRefuses sub above bound TooLarge = AreMoreThan sub above bound MOST_CANDIDATES
SearchRefuses sub above bound NoMemory = Unit {0}
