use Rattle.std.proofs.Common.{◌∙◌, sym}
use Rattle.rs_explain.proofs.Circling.{least_known, least_one, least_some}
use Rattle.rs_explain.proofs.rounds.nearest.Goals as goal

pub unreachable-requires : goal.unreachable-requires
unreachable-requires c = let s = c.requires.some in least_known c.args.far.now c.args.row.now (sym c.least.ensures ∙ c.in-None.is) s.0 s.1 s.2 s.3 s.4

pub returns-clause-some : goal.returns-clause-some
returns-clause-some c = least_one c.args.far.now c.args.row.now c.in-Some.distance (sym c.least.ensures ∙ c.in-Some.is)

pub returns-clause-least : goal.returns-clause-least
returns-clause-least c = (least_some c.args.far.now c.args.row.now _ c.in-Some.distance (sym c.least.ensures ∙ c.in-Some.is)).each
