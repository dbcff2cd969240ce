use Rattle.std.proofs.Common.{codes, refl}
use Rattle.rs_words.proofs.Spelling.{draw_with_option}
use Rattle.rs_words.proofs.laws.draw_without_run_takes_no_option.Goals as goal

pub returns-clause-bound : goal.returns-clause-bound
returns-clause-bound c = λ text. draw_with_option (codes "bound") text refl refl

pub returns-clause-ring : goal.returns-clause-ring
returns-clause-ring c = λ text. draw_with_option (codes "ring") text refl refl

pub returns-clause-limit : goal.returns-clause-limit
returns-clause-limit c = λ text. draw_with_option (codes "limit") text refl refl

pub returns-clause-seed : goal.returns-clause-seed
returns-clause-seed c = λ text. draw_with_option (codes "seed") text refl refl
