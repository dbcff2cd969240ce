use Rattle.benches.proofs.Plays.{cut_own, cut_others, cut_gone}
use Rattle.benches.proofs.ring_players.player_of.Goals as goal

pub returns-clause-at : goal.returns-clause-at
returns-clause-at c = cut_own c.args.rings.now c.args.pass.now c.split.result c.args.role.0 c.args.start 0 c.split.ensures.table.1 c.split.ensures.new c.requires.stands

pub returns-clause-others : goal.returns-clause-others
returns-clause-others c = λ r s n ne at. cut_others c.args.rings.now c.args.pass.now c.split.new.pass c.args.role.0 c.split.ensures.table.0 c.split.ensures.old r s n ne at

pub returns-clause-gone : goal.returns-clause-gone
returns-clause-gone c = cut_gone c.args.pass.now c.split.new.pass c.args.role.0 c.split.ensures.old
