use Rattle.rs_words.proofs.Spelling.{draw_run_alone, draw_run_of_no_role, draw_run_with_options}
use Rattle.rs_words.proofs.laws.words_spell_a_drawn_run.Goals as goal

pub returns-clause-alone : goal.returns-clause-alone
returns-clause-alone c = draw_run_alone

pub returns-clause-options : goal.returns-clause-options
returns-clause-options c = draw_run_with_options

pub returns-clause-role : goal.returns-clause-role
returns-clause-role c = draw_run_of_no_role
