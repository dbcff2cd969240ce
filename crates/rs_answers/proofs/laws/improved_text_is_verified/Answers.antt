use Rattle.rs_answers.proofs.Improvements.{whole_is_verified, behind_is_verified}
use Rattle.rs_answers.proofs.laws.improved_text_is_verified.Goals as goal

pub returns-clause-behind : goal.returns-clause-behind
returns-clause-behind c = behind_is_verified

pub returns-clause-whole : goal.returns-clause-whole
returns-clause-whole c = whole_is_verified
