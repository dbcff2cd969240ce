use Rattle.rs_machines.proofs.ShapeWhole.{spelt_shaped}
use Rattle.rs_machines.proofs.printing_laws.spelt_machine_is_text_shaped.Goals as goal

pub returns : goal.returns
returns c = spelt_shaped
