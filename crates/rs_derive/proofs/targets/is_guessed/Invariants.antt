use Rattle.std.proofs.Common.{◌≡◌, drop, map}
use Rattle.rs_derive.specs.Nodes.{names}
use Rattle.rs_derive.specs.Derivations.{spot_of}
use Rattle.rs_derive.specs.Moves.{owing_send}
use Rattle.rs_derive.proofs.targets.is_guessed.Given as goal

abbrev pub invariant-loop-arm : goal.invariant-loop-arm
invariant-loop-arm l =
    names l.next (map (λ b. owing_send (spot_of l.node) l.peer b) (drop l.arm-index l.arms))
    ≡ names l.next (map (λ b. owing_send (spot_of l.node) l.peer b) l.arms)
