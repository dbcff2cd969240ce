use Rattle.std.proofs.Common.{sym}
use Rattle.rs_prefix.proofs.Right.{is_right}
use Rattle.rs_prefix.proofs.owed.Pending.find.Goals as goal

pub returns-clause-means : goal.returns-clause-means
returns-clause-means c = is_right c.args.self.now c.args.kind c.args.peer c.scan.result (sym c.scan.ensures)
