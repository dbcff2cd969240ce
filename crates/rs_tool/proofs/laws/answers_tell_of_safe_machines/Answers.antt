use Rattle.rs_tool.proofs.Headline.{drawn_answer_is_safe, improved_answer_is_safe, migrated_answer_is_safe, run_answer_is_safe}
use Rattle.rs_tool.proofs.laws.answers_tell_of_safe_machines.Goals as goal

pub returns-clause-migrated : goal.returns-clause-migrated
returns-clause-migrated c = migrated_answer_is_safe

pub returns-clause-run : goal.returns-clause-run
returns-clause-run c = run_answer_is_safe

pub returns-clause-drawn : goal.returns-clause-drawn
returns-clause-drawn c = drawn_answer_is_safe

pub returns-clause-improved : goal.returns-clause-improved
returns-clause-improved c = improved_answer_is_safe
