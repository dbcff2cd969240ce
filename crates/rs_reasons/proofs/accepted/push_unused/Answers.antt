use Rattle.std.proofs.Common.{◌++◌, ◌∙◌, List, ap}
use Rattle.std.proofs.lemmas.Result.{on_ok_weaker}
use Rattle.rs_reasons.specs.Flagged.{flagged_lines}
use Rattle.rs_reasons.specs.Marks.{StateUse_data}
use Rattle.rs_reasons.proofs.Telling.{uses_tell}
use Rattle.rs_reasons.proofs.accepted.push_unused.Goals as goal

pub returns : goal.returns
returns c =
    on_ok_weaker c.push_flagged.result
    (λ e.
    e ∙ ap (λ (z : List StateUse_data). c.args.text.now ++ flagged_lines c.args.names.now c.args.role.now c.args.places.now 0 c.args.states.now z) c.as_slice.ensures.value
    ∙ ap (λ z. c.args.text.now ++ z) (uses_tell c.args.names.now c.args.role.now c.args.places.now c.args.nodes.now c.args.states.now _ c.in_ok-uses.ensures)) c.push_flagged.ensures
