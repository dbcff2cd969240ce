use Rattle.rs_demos.proofs.Spelt.{one_spelling}
use Rattle.rs_demos.proofs.laws.bytes_spell_one_list_of_numbers.Goals as goal

pub returns : goal.returns
returns c = one_spelling
