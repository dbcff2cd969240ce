use Rattle.rs_words.proofs.Exact.{words_mean_something}
use Rattle.rs_words.proofs.laws.words_mean_something.Goals as goal

pub returns : goal.returns
returns c = words_mean_something
