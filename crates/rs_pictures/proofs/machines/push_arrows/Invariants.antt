use Rattle.std.proofs.Common.{◌≡◌, ◌++◌, drop}
use Rattle.std.specs.List.{flat_map}
use Rattle.rs_pictures.specs.Machines.{arrow_text}
use Rattle.rs_pictures.proofs.machines.push_arrows.Given as goal

abbrev pub invariant-loop-arm : goal.invariant-loop-arm
invariant-loop-arm l = l.text ++ flat_map (arrow_text l.names l.number l.peer l.mark) (drop l.arm-index l.arms) ≡ l.initial.text ++ flat_map (arrow_text l.names l.number l.peer l.mark) l.arms
