use Rattle.rs_text.proofs.Naming.{decides_sound}
use Rattle.rs_text.proofs.names.sound.Goals as goal

pub returns-clause-means : goal.returns-clause-means
returns-clause-means c = rw c.passes.ensures (decides_sound c.args.names.now)
