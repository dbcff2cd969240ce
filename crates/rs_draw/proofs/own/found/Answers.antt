use Rattle.rs_draw.proofs.Accepting.{none_found}
use Rattle.rs_draw.proofs.own.found.Goals as goal

pub returns-in-Err : goal.returns-in-Err
returns-in-Err c = none_found c.args.machine.now c.args.projection.now c.in-Err.fault c.none_searched.result c.in-Err.ensures.err c.none_searched.ensures.none c.none_searched.ensures.cause
