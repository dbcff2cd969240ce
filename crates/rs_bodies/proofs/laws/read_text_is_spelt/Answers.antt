use Rattle.rs_bodies.proofs.SpeltRuns.{sound}
use Rattle.rs_bodies.proofs.laws.read_text_is_spelt.Goals as goal

pub returns : goal.returns
returns c = sound
