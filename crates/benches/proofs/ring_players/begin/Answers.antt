use Rattle.benches.proofs.Plays.{begun_ok}
use Rattle.benches.proofs.ring_players.begin.Goals as goal

pub returns-clause-stand : goal.returns-clause-stand
returns-clause-stand c = begun_ok c.begin.result c.args.machines.now c.begin.ensures.table c.begin.ensures.pass
