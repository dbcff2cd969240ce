use Rattle.rs_words.proofs.Ranges.{spelt_numbers_are_in_range}
use Rattle.rs_words.proofs.laws.spelt_numbers_are_in_range.Goals as goal

pub returns : goal.returns
returns c = spelt_numbers_are_in_range
