use Rattle.rs_reasons.proofs.LeastBound.{enough, least}
use Rattle.rs_reasons.proofs.laws.the_least_bound_is_told.Goals as goal

pub returns-clause-enough : goal.returns-clause-enough
returns-clause-enough c = enough

pub returns-clause-least : goal.returns-clause-least
returns-clause-least c = least
