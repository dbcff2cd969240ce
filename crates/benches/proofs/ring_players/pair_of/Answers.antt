use Rattle.std.proofs.Common.{◌≡◌, arith}
use Rattle.benches.proofs.ring_players.pair_of.Goals as goal

pub returns-clause-at : goal.returns-clause-at
returns-clause-at c = (c.player_of-b.ensures.others 0 0 0 (λ (e : 0 ≡ 1). omega arith) c.requires.stand.0, c.player_of-b.ensures.at)
