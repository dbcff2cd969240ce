-- Steps: the test for a clash, as the code makes it.
use Rattle.std.specs.Prelude.{◌≡◌, ℕ, ◌<◌, Bool, true, false, not, ◌&&◌, ◌||◌, ◌==◌, List, [], ◌∷◌, Option, Some, slice_get, if◌then◌else◌}
use Rattle.std.specs.List.{list_any}
use Rattle.rs_model.specs.Data.{Protocol_data}
use Rattle.rs_model.specs.Serving.{sort_number}
use Rattle.rs_model.specs.declared.graph.Arm.{Arm}
use Rattle.rs_model.specs.declared.graph.Node.{Node}
use Rattle.rs_model.specs.declared.graph.Node.TheVariants.{Finished, Talk}
use Rattle.rs_model.specs.declared.graph.Role.{Role}
use Rattle.rs_project.specs.Data.{Front_data}
use Rattle.rs_project.specs.Projection.{Agree}

-- the arms say the same
abbrev pub is_choice : Arm → Arm → Bool
is_choice a b = (a.label.0 == b.label.0) && (sort_number a.sort == sort_number b.sort)

-- they have one label with two sorts
abbrev pub is_other_sort : Arm → Arm → Bool
is_other_sort a b = (a.label.0 == b.label.0) && not (sort_number a.sort == sort_number b.sort)

-- each of our choices is one of theirs
abbrev pub has_all : List Arm → List Arm → Bool
has_all theirs [] = true
has_all theirs (a ∷ ours) = if list_any (λ b. is_choice b a) theirs then has_all theirs ours else false

-- each common label has one sort
abbrev pub same_sorts : List Arm → List Arm → Bool
same_sorts theirs [] = true
same_sorts theirs (a ∷ ours) = if list_any (λ b. is_other_sort b a) theirs then false else same_sorts theirs ours

-- the role sends in both, to one peer and with the same choices
abbrev pub both_send : Role → Node → Node → Bool
both_send role Finished other = false
both_send role (Talk s r arms) Finished = false
both_send role (Talk s r arms) (Talk t q theirs) =
    (s.0 == role.0) && ((t.0 == role.0) && ((r.0 == q.0) && (has_all theirs arms && has_all arms theirs)))

-- the role receives in both, from one peer, and each common label has one sort
abbrev pub both_receive : Role → Node → Node → Bool
both_receive role Finished other = false
both_receive role (Talk s r arms) Finished = false
both_receive role (Talk s r arms) (Talk t q theirs) =
    (r.0 == role.0) && ((q.0 == role.0) && ((s.0 == t.0) && same_sorts theirs arms))

-- the role can do the one where it can't tell it from the other
abbrev pub agree_nodes : Role → Node → Node → Bool
agree_nodes role one other = both_send role one other || both_receive role one other

-- the node is a talk in which the role sends
abbrev pub is_sender_in : Role → Node → Bool
is_sender_in role Finished = false
is_sender_in role (Talk s r arms) = s.0 == role.0

-- the talks at the two places agree
abbrev pub AgreeAt : Protocol_data → Role → List ℕ → ℕ → ℕ → Type 0
AgreeAt protocol role talks h k = (c d : ℕ) → slice_get talks h ≡ Some c → slice_get talks k ≡ Some d → Agree protocol role c d

-- the talk at place k agrees with all those before place `end`
abbrev pub AgreeBefore : Protocol_data → Role → List ℕ → ℕ → ℕ → Type 0
AgreeBefore protocol role talks end k = (h : ℕ) → h < end → AgreeAt protocol role talks h k

-- each of the first n talks agrees with all those before it
abbrev pub AllAgree : Protocol_data → Role → List ℕ → ℕ → Type 0
AllAgree protocol role talks count = (h k : ℕ) → h < k → k < count → AgreeAt protocol role talks h k

-- the talk at place i is the first that clashes with the one at place k
pub record ClashesWith (protocol : Protocol_data) (role : Role) (talks : List ℕ) (i k : ℕ) : Type 0 where
  pub before : i < k
  pub clash : (c d : ℕ) → slice_get talks i ≡ Some c → slice_get talks k ≡ Some d → Agree protocol role c d → ⊥
  pub first : AgreeBefore protocol role talks i k

-- the two are the first talks that clash
pub record TalksClash (protocol : Protocol_data) (role : Role) (talks : List ℕ) (a : ℕ) (b : Option ℕ) : Type 0 where
  pub i : ℕ
  pub k : ℕ
  pub later : ℕ
  pub a_stands : slice_get talks i ≡ Some a
  pub b_stands : slice_get talks k ≡ Some later
  pub b_is : b ≡ Some later
  pub clashes : ClashesWith protocol role talks i k
  pub earlier : AllAgree protocol role talks k

-- where there is the end there is no talk
abbrev pub HasEndAlone : Front_data → Type 0
HasEndAlone front = front.ends ≡ true → front.talks ≡ []
