use Rattle.rs_derivations.proofs.PrintedAgain.{printed_again}
use Rattle.rs_derivations.proofs.laws.canonical_text_is_printed_again.Goals as goal

pub returns : goal.returns
returns c = printed_again
