use Rattle.rs_derive.proofs.Ruled.{fits_some}
use Rattle.rs_derive.proofs.rules.rule_at.Goals as goal

pub returns-clause-fits : goal.returns-clause-fits
returns-clause-fits c = fits_some c.args.pending.now c.args.state.now c.args.there.now c.find_rule.result c.find_rule.ensures
