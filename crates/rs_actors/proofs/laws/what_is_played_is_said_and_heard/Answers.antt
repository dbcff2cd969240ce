use Rattle.rs_actors.proofs.Playing.{talks, talks_keeping}
use Rattle.rs_actors.proofs.laws.what_is_played_is_said_and_heard.Goals as goal

pub returns-clause-from : goal.returns-clause-from
returns-clause-from g c machine s t talker after history p = talks g.T.Talker.conduct machine history s t talker after p

pub returns-clause-plays : goal.returns-clause-plays
returns-clause-plays g c machine talker after history kept p =
    let t = talks_keeping g.T.Talker.conduct machine talker history kept after p in
    (t.before, t.talks, t.has_kept)
