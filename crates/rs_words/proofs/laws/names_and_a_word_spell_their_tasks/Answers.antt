use Rattle.std.proofs.Common.{codes, refl}
use Rattle.rs_words.specs.Grammar.{demo_form}
use Rattle.rs_words.proofs.Spelling.{draw_of, gen_of, improve_of, with_word}
use Rattle.rs_words.proofs.laws.names_and_a_word_spell_their_tasks.Goals as goal

pub returns-clause-improve : goal.returns-clause-improve
returns-clause-improve c = improve_of

pub returns-clause-draw : goal.returns-clause-draw
returns-clause-draw c = draw_of

pub returns-clause-generate : goal.returns-clause-generate
returns-clause-generate c = gen_of

pub returns-clause-double : goal.returns-clause-double
returns-clause-double c = with_word demo_form (codes "name") (codes "double") _ refl refl refl refl

pub returns-clause-ring : goal.returns-clause-ring
returns-clause-ring c = with_word demo_form (codes "name") (codes "ring") _ refl refl refl refl

pub returns-clause-stream : goal.returns-clause-stream
returns-clause-stream c = with_word demo_form (codes "name") (codes "stream") _ refl refl refl refl

pub returns-clause-butterfly : goal.returns-clause-butterfly
returns-clause-butterfly c = with_word demo_form (codes "name") (codes "butterfly") _ refl refl refl refl
