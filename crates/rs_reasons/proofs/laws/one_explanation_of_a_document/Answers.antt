use Rattle.rs_reasons.proofs.OneExplanation.{explains_as_check, one_explaining, some_explaining}
use Rattle.rs_reasons.proofs.laws.one_explanation_of_a_document.Goals as goal

pub returns-clause-some : goal.returns-clause-some
returns-clause-some c = some_explaining

pub returns-clause-one : goal.returns-clause-one
returns-clause-one c = one_explaining

pub returns-clause-as_check : goal.returns-clause-as_check
returns-clause-as_check c = λ bound bytes d a h. (let k = explains_as_check bound bytes d a h in (k.checked, k.lines, k.checks, k.verdict, k.text))
