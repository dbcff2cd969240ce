-- Public: the first label that stands twice.
use Rattle.std.specs.Prelude.{List, [], ◌∷◌, ◌++◌, ◌==◌, if◌then◌else◌, Option, Some, None}
use Rattle.std.specs.List.{list_any}
use Rattle.rs_model.specs.declared.graph.Arm.{Arm}
use Rattle.rs_model.specs.declared.graph.Label.{Label}

-- the first label of the arms that stands at an arm before it, earlier ones included
abbrev pub first_repeat : List Arm → List Arm → Option Label
first_repeat [] earlier = None
first_repeat (a ∷ later) earlier =
    if list_any (λ b. b.label.0 == a.label.0) earlier then Some a.label else first_repeat later (earlier ++ a ∷ [])
