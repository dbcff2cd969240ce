-- Public: the first failed test of a list, for faults of any kind.
use Rattle.std.specs.Prelude.{ℕ, List, [], ◌∷◌, ◌++◌, map, Bool, not, ◌==◌, nat_lt, if◌then◌else◌, Option, Some, None}
use Rattle.std.specs.List.{list_any}
use Rattle.rs_model.specs.declared.graph.Arm.{Arm}
use Rattle.rs_model.specs.declared.graph.Label.{Label}

-- a test: whether it is passed, and the fault that is told where it isn't
pub record Test (F : Type 0) : Type 0 where
  pub passes : Bool
  pub fault : F

-- the fault of the first test that isn't passed
abbrev pub first_failed : {F : Type 0} → List (Test F) → Option F
first_failed [] = None
first_failed (t ∷ ts) = if t.passes then first_failed ts else Some t.fault

-- the first fault, where there is one, else the later one
abbrev pub or_later : {F : Type 0} → Option F → Option F → Option F
or_later None later = later
or_later (Some f) _ = Some f

-- a label that is found twice, as a fault
abbrev pub label_fault : {F : Type 0} → (Label → F) → Option Label → Option F
label_fault told None = None
label_fault told (Some l) = Some (told l)

-- for each arm, whether its label stands at no earlier arm
abbrev pub label_tests : {F : Type 0} → (Label → F) → List Arm → List Arm → List (Test F)
label_tests told [] earlier = []
label_tests told (a ∷ later) earlier =
    record { passes = not (list_any (λ b. b.label.0 == a.label.0) earlier); fault = told a.label }
    ∷ label_tests told later (earlier ++ a ∷ [])

-- for each arm, whether its next is below this count
abbrev pub next_tests : {F : Type 0} → F → ℕ → List Arm → List (Test F)
next_tests fault count arms = map (λ a. record { passes = nat_lt a.next count; fault = fault }) arms
