use Rattle.std.proofs.Common.{take}
use Rattle.rs_graph.specs.Lists.{Among}
use Rattle.rs_model.specs.declared.graph.Arm.{Arm}
use Rattle.rs_improve.specs.Swaps.{LeadsToSends}
use Rattle.rs_improve.proofs.swaps.exchanges.all_lead_to_sends.Given as goal

abbrev pub invariant-loop-i : goal.invariant-loop-i
invariant-loop-i l = (arm : Arm) → Among (take l.i l.takes) arm → LeadsToSends l.machine l.to l.puts arm
