use Rattle.std.proofs.Common.{rules}
use Rattle.rs_held.proofs.Keeping.{read}
use Rattle.rs_held.proofs.endpoints.arm.Goals as goal

pub returns-in-Some : goal.returns-in-Some
returns-in-Some c = read _ _ _ _ _ c.deref.result.now (search rules) (search rules) (c.state.result.now, c.state.ensures, c.arm_at-status.ensures)
