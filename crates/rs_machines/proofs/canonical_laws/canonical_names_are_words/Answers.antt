use Rattle.rs_machines.proofs.Canonical.{written}
use Rattle.rs_machines.proofs.canonical_laws.canonical_names_are_words.Goals as goal

pub returns : goal.returns
returns c = λ names machine tree shaped sound enough canonical. (written names machine tree shaped sound enough canonical).words
