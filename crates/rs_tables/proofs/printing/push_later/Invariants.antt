use Rattle.std.proofs.Common.{◌≡◌, ◌++◌, drop}
use Rattle.std.specs.List.{flat_map}
use Rattle.rs_tables.specs.Tables.{later_arm_in_table}
use Rattle.rs_tables.proofs.printing.push_later.Given as goal

abbrev pub invariant-loop-arm : goal.invariant-loop-arm
invariant-loop-arm l = l.text ++ flat_map (later_arm_in_table l.names) (drop l.arm-index l.arms) ≡ l.initial.text ++ flat_map (later_arm_in_table l.names) l.arms
