use Rattle.std.proofs.Common.{map, get_or}
use Rattle.std.proofs.lemmas.Option.{slice_get-get_or}
use Rattle.rs_model.specs.declared.values.Sort.TheVariants.{Unit as unit}
use Rattle.rs_project.specs.Projection.{choice_of}
use Rattle.rs_project.proofs.Merged.{arms_on}
use Rattle.rs_project.proofs.merging.add_arms.Goals as goal

pub loop-arm-preserved : goal.loop-arm-preserved
loop-arm-preserved c =
    arms_on c.args.arms.now c.loop-arm.arm-index (get_or c.args.arms.now c.loop-arm.arm-index record { label = record { 0 = 0 }; sort = unit; next = 0 })
    (map choice_of c.loop-arm.merged.items) (map choice_of c.add_arm.new.merged.items) _
    (slice_get-get_or c.args.arms.now c.loop-arm.arm-index _ c.loop-arm-test.true) c.in_ok-add_arm.ensures c.loop-arm.invariant
