use Rattle.std.proofs.Common.{subst}
use Rattle.rs_model.specs.declared.limits.TheConstants.{DEFAULT_BOUND}
use Rattle.rs_open.specs.Opening.{RefusesToCertify}
use Rattle.rs_held.proofs.Explained.{told_by}
use Rattle.rs_held.proofs.openings.explained.Goals as goal

pub with_reason-requires : goal.with_reason-requires
with_reason-requires c = subst (RefusesToCertify DEFAULT_BOUND c.args.text.now) c.in-Answered.is c.requires

pub returns-in-Answered : goal.returns-in-Answered
returns-in-Answered c = told_by _ _ c.with_reason.result _ c.refusal_of.ensures c.with_reason.ensures
