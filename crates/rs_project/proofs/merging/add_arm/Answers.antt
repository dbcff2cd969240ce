use Rattle.std.proofs.Common.{true, false, map, ap, ◌∙◌, List}
use Rattle.rs_model.specs.declared.graph.Arm.{Arm}
use Rattle.rs_project.specs.Projection.{choice_of}
use Rattle.rs_project.proofs.Merged.{any_labelled, add_known, add_new, map_last}
use Rattle.rs_project.proofs.merging.add_arm.Goals as goal

pub returns-then-has_label : goal.returns-then-has_label
returns-then-has_label c =
    add_known c.args.arm (map choice_of c.args.merged.now.items)
    (any_labelled c.args.arm.label c.args.merged.now.items c.as_slice.result.now c.has_label.result true c.as_slice.ensures c.has_label.ensures c.if-has_label.true)

pub returns : goal.returns
returns c =
    add_new c.args.arm (map choice_of c.args.merged.now.items) (map choice_of c.push.new.self.items)
    (any_labelled c.args.arm.label c.args.merged.now.items c.as_slice.result.now c.has_label.result false c.as_slice.ensures c.has_label.ensures c.if-has_label.false)
    (ap (λ (z : List Arm). map choice_of z) c.in_ok-push.ensures.ok ∙ map_last c.args.merged.now.items c.args.arm)
