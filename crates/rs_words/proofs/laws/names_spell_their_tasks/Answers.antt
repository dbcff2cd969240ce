use Rattle.std.proofs.Common.{codes, refl}
use Rattle.rs_words.specs.Grammar.{bare_form, draw_form, explain_form, run_form}
use Rattle.rs_words.proofs.Spelling.{alone}
use Rattle.rs_words.proofs.laws.names_spell_their_tasks.Goals as goal

pub returns-clause-verify : goal.returns-clause-verify
returns-clause-verify c = alone (bare_form (codes "verify")) _ refl refl

pub returns-clause-migrate : goal.returns-clause-migrate
returns-clause-migrate c = alone (bare_form (codes "migrate")) _ refl refl

pub returns-clause-show : goal.returns-clause-show
returns-clause-show c = alone (bare_form (codes "show")) _ refl refl

pub returns-clause-project : goal.returns-clause-project
returns-clause-project c = alone (bare_form (codes "project")) _ refl refl

pub returns-clause-draw : goal.returns-clause-draw
returns-clause-draw c = alone draw_form _ refl refl

pub returns-clause-explain : goal.returns-clause-explain
returns-clause-explain c = alone explain_form _ refl refl

pub returns-clause-run : goal.returns-clause-run
returns-clause-run c = alone run_form _ refl refl
