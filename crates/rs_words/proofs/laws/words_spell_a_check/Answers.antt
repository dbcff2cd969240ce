use Rattle.std.proofs.Common.{refl}
use Rattle.rs_words.specs.Grammar.{check_form}
use Rattle.rs_words.proofs.Spelling.{alone, bounded_check, check_with_derivations}
use Rattle.rs_words.proofs.laws.words_spell_a_check.Goals as goal

pub returns-clause-alone : goal.returns-clause-alone
returns-clause-alone c = alone check_form _ refl refl

pub returns-clause-bound : goal.returns-clause-bound
returns-clause-bound c = bounded_check

pub returns-clause-derivations : goal.returns-clause-derivations
returns-clause-derivations c = check_with_derivations
