use Rattle.rs_derivations.proofs.Again.{read_with_older}
use Rattle.rs_derivations.proofs.laws.canonical_text_is_read_with_older_names.Goals as goal

pub returns : goal.returns
returns c = read_with_older
