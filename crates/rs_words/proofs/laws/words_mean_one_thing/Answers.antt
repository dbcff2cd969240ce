use Rattle.rs_words.proofs.Exact.{words_mean_one_thing}
use Rattle.rs_words.proofs.laws.words_mean_one_thing.Goals as goal

pub returns : goal.returns
returns c = words_mean_one_thing
