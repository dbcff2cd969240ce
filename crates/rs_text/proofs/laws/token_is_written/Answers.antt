use Rattle.rs_text.proofs.Written.{token_written}
use Rattle.rs_text.proofs.laws.token_is_written.Goals as goal

pub returns : goal.returns
returns c = token_written
