use Rattle.std.proofs.Common.{◌≡◌, ◌++◌, drop, slice_get}
use Rattle.std.specs.List.{flat_map}
use Rattle.rs_project.specs.Marks.{labelled_nexts_of}
use Rattle.rs_project.proofs.merging.starts_behind.Given as goal

abbrev pub invariant-loop-talk : goal.invariant-loop-talk
invariant-loop-talk l =
    l.starts.items ++ flat_map (λ t. labelled_nexts_of l.label (slice_get l.protocol.nodes t)) (drop l.talk-index l.talks)
    ≡ flat_map (λ t. labelled_nexts_of l.label (slice_get l.protocol.nodes t)) l.talks
