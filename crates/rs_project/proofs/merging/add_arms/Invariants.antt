use Rattle.std.proofs.Common.{◌≡◌, ◌++◌, map, drop}
use Rattle.rs_project.specs.Projection.{choice_of, first_choices}
use Rattle.rs_project.proofs.merging.add_arms.Given as goal

abbrev pub invariant-loop-arm : goal.invariant-loop-arm
invariant-loop-arm l =
    map choice_of l.merged.items ++ first_choices (map choice_of (drop l.arm-index l.arms)) (map choice_of l.merged.items)
    ≡ map choice_of l.fn.merged.items ++ first_choices (map choice_of l.arms) (map choice_of l.fn.merged.items)
