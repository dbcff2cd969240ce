use Rattle.std.proofs.Common.{sym, ◌∙◌}
use Rattle.rs_derive.specs.Targets.{target_spot}
use Rattle.rs_derive.specs.Derivations.{spot_of}
use Rattle.rs_search.proofs.Same.{not_spot}
use Rattle.rs_search.proofs.table.is_at.Goals as goal

pub returns-clause-other : goal.returns-clause-other
returns-clause-other c = λ f. not_spot (spot_of c.args.node.now) (target_spot c.args.pending.now c.args.target) (sym c.is_target.ensures ∙ f)
