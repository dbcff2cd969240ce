use Rattle.rs_words.proofs.Exact.{words_spell_one_task}
use Rattle.rs_words.proofs.laws.words_spell_one_task.Goals as goal

pub returns : goal.returns
returns c = words_spell_one_task
