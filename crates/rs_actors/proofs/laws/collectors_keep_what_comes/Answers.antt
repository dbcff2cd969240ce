use Rattle.std.proofs.Common.{refl}
use Rattle.rs_actors.specs.Common.{collector_conduct}
use Rattle.rs_actors.proofs.Keeping.{kept_keeping, silent}
use Rattle.rs_actors.proofs.Playing.{talks_keeping}
use Rattle.rs_actors.proofs.laws.collectors_keep_what_comes.Goals as goal

pub returns-clause-keeps : goal.returns-clause-keeps
returns-clause-keeps c machine values after history kept p = kept_keeping values history kept after (talks_keeping collector_conduct machine values history kept after p)

pub returns-clause-sends : goal.returns-clause-sends
returns-clause-sends c machine values after history kept p =
    let t = talks_keeping collector_conduct machine values history kept after p in
    silent collector_conduct (λ x. refl) history values t.before t.talks
