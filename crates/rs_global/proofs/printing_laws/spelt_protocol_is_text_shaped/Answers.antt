use Rattle.rs_global.proofs.Canonical.{spelt_shaped}
use Rattle.rs_global.proofs.printing_laws.spelt_protocol_is_text_shaped.Goals as goal

pub returns : goal.returns
returns c = spelt_shaped
