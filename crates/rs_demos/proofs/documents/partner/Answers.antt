use Rattle.std.proofs.Common.{sym}
use Rattle.rs_demos.proofs.Ranges.{not_clear}
use Rattle.rs_demos.proofs.documents.partner.Goals as goal

pub overflow_sub-result : goal.overflow_sub-result
overflow_sub-result c = not_clear c.args.step c.args.role (sym c.if-is_clear.ensures)
