use Rattle.std.proofs.Common.{◌≡◌, ◌++◌, map, drop, slice_get}
use Rattle.std.specs.List.{flat_map}
use Rattle.rs_project.specs.Projection.{choice_of, choices_of, first_choices, merged_choices}
use Rattle.rs_project.proofs.merging.merged_arms.Given as goal

abbrev pub invariant-loop-talk : goal.invariant-loop-talk
invariant-loop-talk l =
    map choice_of l.merged.items ++ first_choices (flat_map (λ n. choices_of (slice_get l.protocol.nodes n)) (drop l.talk-index l.talks)) (map choice_of l.merged.items)
    ≡ merged_choices l.protocol l.talks
