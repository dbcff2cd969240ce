use Rattle.std.proofs.Common.{◌≡◌, drop, map}
use Rattle.std.specs.List.{find}
use Rattle.rs_walk_texts.specs.Alike.{is_slip, label_pair}
use Rattle.rs_walk_texts.proofs.alike.nearest_of_own.Given as goal

abbrev pub invariant-loop-arm : goal.invariant-loop-arm
invariant-loop-arm l =
    find (is_slip l.source l.spot l.far) (map (λ b. label_pair b.label l.theirs) (drop l.arm-index l.arms))
    ≡ find (is_slip l.source l.spot l.far) (map (λ b. label_pair b.label l.theirs) l.arms)
