-- Headline: the names and the graph that a body spells.
use Rattle.std.specs.Prelude.{ℕ, suc, ◌+◌, List, [], ◌∷◌, ◌++◌, Option, Bool, true, false, ◌||◌}
use Rattle.rs_model.specs.Data.{Names_data}
use Rattle.rs_model.specs.declared.graph.Arm.{Arm}
use Rattle.rs_model.specs.declared.graph.Role.{Role}
use Rattle.rs_model.specs.declared.graph.Label.{Label}
use Rattle.rs_model.specs.declared.values.Sort.{Sort}
use Rattle.rs_text.specs.Arms.{sort_or_unit}
use Rattle.rs_text.specs.Names.{number_or, place_of, BoundNames, nearest_binding}
use Rattle.rs_bodies.specs.declared.dialects.Dialect.{Dialect}
use Rattle.rs_bodies.specs.Dialects.{BehindRole}
use Rattle.rs_bodies.specs.Trees.{Body, ends, again, binds, acts, offers, Branches, one, more}

-- the labels of a body, in order of text
abbrev mutual
  pub labels_of : (d : Dialect) → Body d → List (List ℕ)
  labels_of d ends = []
  labels_of d (again name) = []
  labels_of d (binds name body) = labels_of d body
  labels_of d (acts p t l sort body) = l ∷ labels_of d body
  labels_of d (offers p t arms) = labels_of_arms d arms

  pub labels_of_arms : (d : Dialect) → Branches d → List (List ℕ)
  labels_of_arms d (one l sort body) = l ∷ labels_of d body
  labels_of_arms d (more l sort body arms) = l ∷ (labels_of d body ++ labels_of_arms d arms)

-- the count of heads
abbrev mutual
  pub acts_in : (d : Dialect) → Body d → ℕ
  acts_in d ends = 0
  acts_in d (again name) = 0
  acts_in d (binds name body) = acts_in d body
  acts_in d (acts p t l sort body) = suc (acts_in d body)
  acts_in d (offers p t arms) = suc (acts_in_arms d arms)

  pub acts_in_arms : (d : Dialect) → Branches d → ℕ
  acts_in_arms d (one l sort body) = acts_in d body
  acts_in_arms d (more l sort body arms) = acts_in d body + acts_in_arms d arms

-- whether an end stands in it
abbrev mutual
  pub has_end : (d : Dialect) → Body d → Bool
  has_end d ends = true
  has_end d (again name) = false
  has_end d (binds name body) = has_end d body
  has_end d (acts p t l sort body) = has_end d body
  has_end d (offers p t arms) = has_end_arms d arms

  pub has_end_arms : (d : Dialect) → Branches d → Bool
  has_end_arms d (one l sort body) = has_end d body
  has_end_arms d (more l sort body arms) = has_end d body || has_end_arms d arms

-- the first place of a body with `count` heads before it, `bound` the recursion names round it, each with the number of
-- the first head of its body, and `last` the number of the end, which stands behind all heads
abbrev pub first_of : (d : Dialect) → Body d → BoundNames → (count last : ℕ) → ℕ
first_of d ends bound count last = last
first_of d (again name) bound count last = number_or (nearest_binding name bound)
first_of d (binds name body) bound count last = first_of d body ((name, count) ∷ bound) count last
first_of d (acts p t l sort body) bound count last = count
first_of d (offers p t arms) bound count last = count

-- the names that count, and the number of the end
pub record Numbering : Type 0 where
  pub names : Names_data
  pub last : ℕ

-- the role with that name
abbrev pub role_by_name : Numbering → List ℕ → Role
role_by_name n name = record { 0 = number_or (place_of name n.names.roles) }

-- the label with that name
abbrev pub label_by_name : Numbering → List ℕ → Label
label_by_name n name = record { 0 = number_or (place_of name n.names.labels) }

-- the arm with that label and sort, to that state
abbrev pub arm_spelt : Numbering → List ℕ → Option Sort → ℕ → Arm
arm_spelt n l sort next = record { label = label_by_name n l; sort = sort_or_unit sort; next = next }

-- the arms in braces, with `count` acts before the first one's body
abbrev pub arms_of : (d : Dialect) → Numbering → Branches d → BoundNames → ℕ → List Arm
arms_of d n (one l sort body) bound count = arm_spelt n l sort (first_of d body bound count n.last) ∷ []
arms_of d n (more l sort body arms) bound count = arm_spelt n l sort (first_of d body bound count n.last) ∷ arms_of d n arms bound (count + acts_in d body)

-- what is made of the heads of a body, in order of text, each of its first word, its turn and its arms
abbrev mutual
  pub heads_of : {X : Type 0} (d : Dialect) → (made : List ℕ → BehindRole d → List Arm → X) → Numbering → Body d → BoundNames → ℕ → List X
  heads_of d made n ends bound count = []
  heads_of d made n (again name) bound count = []
  heads_of d made n (binds name body) bound count = heads_of d made n body ((name, count) ∷ bound) count
  heads_of d made n (acts p t l sort body) bound count = made p t (arm_spelt n l sort (first_of d body bound (suc count) n.last) ∷ []) ∷ heads_of d made n body bound (suc count)
  heads_of d made n (offers p t arms) bound count = made p t (arms_of d n arms bound (suc count)) ∷ heads_in d made n arms bound (suc count)

  pub heads_in : {X : Type 0} (d : Dialect) → (made : List ℕ → BehindRole d → List Arm → X) → Numbering → Branches d → BoundNames → ℕ → List X
  heads_in d made n (one l sort body) bound count = heads_of d made n body bound count
  heads_in d made n (more l sort body arms) bound count = heads_of d made n body bound count ++ heads_in d made n arms bound (count + acts_in d body)
