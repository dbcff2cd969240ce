use Rattle.rs_derivations.proofs.Again.{no_new_labels}
use Rattle.rs_derivations.proofs.laws.canonical_text_has_no_new_labels.Goals as goal

pub returns : goal.returns
returns c = no_new_labels
