-- Public: the body of a canonical text, and which graphs have one.
use Rattle.std.specs.Prelude.{◌≡◌, ℕ, ◌<◌, ◌≤◌, ◌+◌, List, [], ◌∷◌, length, Option, Some, slice_get}
use Rattle.rs_model.specs.Data.{Names_data}
use Rattle.rs_model.specs.declared.graph.Arm.{Arm}
use Rattle.rs_model.specs.declared.values.Sort.{Sort}
use Rattle.rs_text.specs.Shown.{shown_sort}
use Rattle.rs_bodies.specs.declared.dialects.Dialect.{Dialect}
use Rattle.rs_bodies.specs.declared.dialects.Dialect.TheVariants.{Talks, Acts}
use Rattle.rs_bodies.specs.declared.dialects.Head.{Head}
use Rattle.rs_bodies.specs.declared.dialects.Head.TheVariants as head
use Rattle.rs_bodies.specs.declared.places.Place.{Place}
use Rattle.rs_bodies.specs.declared.places.Place.TheVariants as place
use Rattle.rs_bodies.specs.Data.{Spelling_data}
use Rattle.rs_bodies.specs.Dialects.{BehindRole, sends_to, with_mark}
use Rattle.rs_bodies.specs.Places.{choice, places_spelt, name_of_place, IsGoneBackTo}
use Rattle.rs_bodies.specs.Spellings.{Spells}
use Rattle.rs_bodies.specs.Trees.{Body, ends, again, binds, acts, offers, Branches, one, more}

-- some part spells a graph with these places, which begins there
pub record IsSpelt (d : Dialect) (places : List Place) (root : ℕ) : Type 0 where
  pub bytes : List ℕ
  pub at : ℕ
  pub old : Names_data
  pub new : Names_data
  pub spelling : Spelling_data
  pub until : ℕ
  pub spells : Spells d bytes at old new spelling until
  pub places_are : places ≡ places_spelt spelling
  pub root_is : root ≡ spelling.start

-- the word and the turn are those of the head
abbrev pub IsHeadOf : (d : Dialect) → Names_data → Head → List ℕ → BehindRole d → Type 0
IsHeadOf Talks names (head.Talk sender receiver) p (sends_to r) = (slice_get names.roles sender.0 ≡ Some p) × (slice_get names.roles receiver.0 ≡ Some r)
IsHeadOf Talks names (head.Act peer m) p t = ⊥
IsHeadOf Acts names (head.Talk sender receiver) p t = ⊥
IsHeadOf Acts names (head.Act peer m) p (with_mark w) = (slice_get names.roles peer.0 ≡ Some p) × (m ≡ w)

-- the place n has such a head and these arms
pub record IsPointOf (d : Dialect) (names : Names_data) (places : List Place) (n : ℕ) (p : List ℕ) (t : BehindRole d) (arms : List Arm) : Type 0 where
  pub head : Head
  pub stands : slice_get places n ≡ Some (choice head arms)
  pub named : IsHeadOf d names head p t

-- the label and the sort are those of the arm
abbrev pub IsArmOf : Names_data → List ℕ → Option Sort → Arm → Type 0
IsArmOf names label sort arm = (slice_get names.labels arm.label.0 ≡ Some label) × (sort ≡ shown_sort arm.sort)

-- the only arm of the place n, and what stands behind it
abbrev pub IsOneArm : (d : Dialect) → Names_data → List Place → ℕ → (p : List ℕ) → BehindRole d → (label : List ℕ) → Option Sort → (Behind : ℕ → Type 0) → Type 0
IsOneArm d names places n p t label sort Behind = (arm : Arm) × IsPointOf d names places n p t (arm ∷ []) × IsArmOf names label sort arm × Behind arm.next

-- the arms of the place n, of which there are more than one
abbrev pub AreArms : (d : Dialect) → Names_data → List Place → ℕ → (p : List ℕ) → BehindRole d → (Each : List Arm → Type 0) → Type 0
AreArms d names places n p t Each = (a b : Arm) × (more : List Arm) × IsPointOf d names places n p t (a ∷ b ∷ more) × Each (a ∷ b ∷ more)

-- the body that is written for the place n where the heads below `from` are those round it, and some behind their arms:
-- a head of a lower number by its name, any other place whole. A head that is gone back to has a rec in front; one arm
-- stands right behind the head, more than one in braces.
abbrev mutual
  pub Draws : (d : Dialect) → Names_data → List Place → (from n : ℕ) → Body d → Type 0
  Draws d names places from n ends = slice_get places n ≡ Some place.End
  Draws d names places from n (again name) = (n < from) × (name ≡ name_of_place n)
  Draws d names places from n (binds name body) = (from ≤ n) × (name ≡ name_of_place n) × IsGoneBackTo places n × DrawsHead d names places n body
  Draws d names places from n (acts p t label sort body) = (from ≤ n) × (IsGoneBackTo places n → ⊥) × IsOneArm d names places n p t label sort (λ next. Draws d names places (n + 1) next body)
  Draws d names places from n (offers p t arms) = (from ≤ n) × (IsGoneBackTo places n → ⊥) × AreArms d names places n p t (λ ours. DrawsArms d names places (n + 1) ours arms)

  -- a head without a rec of its own
  pub DrawsHead : (d : Dialect) → Names_data → List Place → (n : ℕ) → Body d → Type 0
  DrawsHead d names places n (acts p t label sort body) = IsOneArm d names places n p t label sort (λ next. Draws d names places (n + 1) next body)
  DrawsHead d names places n (offers p t arms) = AreArms d names places n p t (λ ours. DrawsArms d names places (n + 1) ours arms)
  DrawsHead d names places n _ = ⊥

  pub DrawsArms : (d : Dialect) → Names_data → List Place → (from : ℕ) → List Arm → Branches d → Type 0
  DrawsArms d names places from (a ∷ []) (one label sort body) = IsArmOf names label sort a × Draws d names places from a.next body
  DrawsArms d names places from (a ∷ others) (more label sort body arms) = IsArmOf names label sort a × Draws d names places from a.next body × DrawsArms d names places from others arms
  DrawsArms d names places from _ _ = ⊥

-- the roles of a head have names
abbrev pub HeadHasNames : Names_data → Head → Type 0
HeadHasNames names (head.Talk sender receiver) = (sender.0 < length names.roles) × (receiver.0 < length names.roles)
HeadHasNames names (head.Act peer m) = peer.0 < length names.roles

-- every role and label of the graph has a name
pub record HaveNames (names : Names_data) (places : List Place) : Type 0 where
  pub heads : (n : ℕ) (head : Head) (arms : List Arm) → slice_get places n ≡ Some (choice head arms) → HeadHasNames names head
  pub labels : (n index : ℕ) (head : Head) (arms : List Arm) (arm : Arm) → slice_get places n ≡ Some (choice head arms) → slice_get arms index ≡ Some arm → arm.label.0 < length names.labels
