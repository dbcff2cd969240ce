use Rattle.std.proofs.Common.{min, rules}
use Rattle.rs_model.specs.declared.limits.TheConstants.{MOST_CAPACITY}
use Rattle.rs_safety.specs.Room.{room_of}
use Rattle.uses.specs.declared.TheConstants.{LIMIT, SEED}
use Rattle.uses.proofs.Drawn.{told_as}
use Rattle.uses.proofs.run_drawn.Goals as goal

pub returns : goal.returns
returns c =
    let ran = c.in_ok-run.ensures.ran in
    told_as c.args.session.now.names c.args.session.now.session.machines SEED LIMIT (min (room_of c.args.session.now.session.derivations) MOST_CAPACITY) _ ran.0 c.in_ok-run.field-0
    c.in_ok-told.field-0 (λ role x made. search rules) ran.1 ran.2 c.in_ok-told.ensures
