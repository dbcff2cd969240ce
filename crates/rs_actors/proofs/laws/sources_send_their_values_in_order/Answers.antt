use Rattle.rs_actors.specs.Common.{source_conduct}
use Rattle.rs_actors.proofs.Playing.{talks_keeping}
use Rattle.rs_actors.proofs.Sending.{handed_keeping}
use Rattle.rs_actors.proofs.laws.sources_send_their_values_in_order.Goals as goal

pub returns : goal.returns
returns c machine values left history kept p = handed_keeping values history kept left (talks_keeping source_conduct machine values history kept left p)
