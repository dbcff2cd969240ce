use Rattle.std.proofs.Common.{◌≡◌, ◌≤◌, ◌++◌, ◌∷◌, [], length, drop, slice_get}
use Rattle.std.specs.List.{flat_map}
use Rattle.rs_project.specs.Marks.{labelled_nexts_of}
use Rattle.rs_project.specs.Projection.{choice_of, choices_of, first_choices}
use Rattle.rs_project.proofs.merging.starts_by.Given as goal

abbrev pub invariant-loop-talk : goal.invariant-loop-talk
invariant-loop-talk l = record {
  many : length l.starts.items ≡ l.talk-index;
  room : length l.talks ≤ l.starts.capacity;
  starts : l.starts.items ++ flat_map (λ t. labelled_nexts_of l.arm.label (slice_get l.protocol.nodes t)) (drop l.talk-index l.talks)
      ≡ flat_map (λ t. labelled_nexts_of l.arm.label (slice_get l.protocol.nodes t)) l.talks;
  choices : (choice_of l.arm ∷ []) ++ first_choices (flat_map (λ t. choices_of (slice_get l.protocol.nodes t)) (drop l.talk-index l.talks)) (choice_of l.arm ∷ [])
      ≡ (choice_of l.arm ∷ []) ++ first_choices (flat_map (λ t. choices_of (slice_get l.protocol.nodes t)) l.talks) (choice_of l.arm ∷ []);
}
