use Rattle.rs_held.proofs.Explained.{faulty_by}
use Rattle.rs_held.proofs.openings.with_reason.Goals as goal

pub returns-in-Err : goal.returns-in-Err
returns-in-Err c = faulty_by _ _ _ _ c.in-Err.fault.at _ c.in-Err.ensures.err c.of_fault.ensures c.requires
