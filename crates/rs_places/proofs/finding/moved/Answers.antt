use Rattle.std.proofs.Common.{rules}
use Rattle.rs_places.proofs.Positions.{line_within, column_within}
use Rattle.rs_places.proofs.finding.moved.Goals as goal

pub loop-offset-init : goal.loop-offset-init
loop-offset-init c = search (line_within c.args.bytes.now c.args.from, column_within c.args.bytes.now c.args.from, rules)
