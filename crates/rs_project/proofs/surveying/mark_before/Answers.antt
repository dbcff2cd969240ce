use Rattle.std.proofs.Common.{arith, ◌<◌, ◌≤◌, List, length, subst}
use Rattle.rs_model.specs.declared.graph.Arm.{Arm}
use Rattle.rs_model.specs.declared.values.Sort.TheVariants.{Unit as unit}
use Rattle.rs_project.specs.Awaited.{MarksNode}
use Rattle.rs_project.proofs.Alone.{only_arm}
use Rattle.rs_project.proofs.surveying.mark_before.Goals as goal

pub returns-in-len1-clause-marks : goal.returns-in-len1-clause-marks
returns-in-len1-clause-marks c = λ on.
    let arms = c.args.arms.now in
    let blank : Arm = record { label = record { 0 = 0 }; sort = unit; next = 0 } in
    let some : 1 ≤ length arms = (let h = c.in-len1.len_at_least in omega (arith, h)) in
    let few : length arms < 2 = (let h = c.in-len1.len_below in omega (arith, h)) in
    let new = c.mark_before_one.new in
    let P : List Arm → Type 0 = λ z. MarksNode z c.args.number c.args.by_all c.args.awaited.now c.args.passing.now c.args.ends.now new.awaited new.passing new.ends in
    subst P (only_arm arms blank some few) (c.mark_before_one.ensures.marks on c.args.by_all)
