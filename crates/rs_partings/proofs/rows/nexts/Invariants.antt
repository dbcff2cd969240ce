use Rattle.std.proofs.Common.{◌≡◌, take}
use Rattle.rs_project.specs.Numbered.{nexts_of}
use Rattle.rs_partings.proofs.rows.nexts.Given as goal

abbrev pub invariant-loop-arm : goal.invariant-loop-arm
invariant-loop-arm l = l.row ≡ nexts_of (take l.arm-index l.arms)
