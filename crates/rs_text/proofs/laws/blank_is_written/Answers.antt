use Rattle.rs_text.proofs.Written.{blank_written}
use Rattle.rs_text.proofs.laws.blank_is_written.Goals as goal

pub returns : goal.returns
returns c = blank_written
