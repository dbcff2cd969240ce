use Rattle.std.proofs.Common.{◌∙◌}
use Rattle.rs_pictures.proofs.Pieces.{participants_behind}
use Rattle.rs_run_pictures.proofs.lines.push_participants.Goals as goal

pub loop-number-preserved : goal.loop-number-preserved
loop-number-preserved c =
    participants_behind c.loop-number.number c.args.roles.now c.index-roles-number.result c.loop-number.text c.push_role.new.text c.loop-number-test.true c.index-roles-number.is c.in_ok-push_role.ensures
    ∙ c.loop-number.invariant
