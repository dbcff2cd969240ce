use Rattle.std.proofs.Common.{sym, ◌∙◌}
use Rattle.rs_derive.proofs.Order.{in_order}
use Rattle.rs_derive.proofs.Whole.{derives, remembers}
use Rattle.rs_derive.proofs.checks.check.Goals as goal

pub returns-in-Some-clause-err : goal.returns-in-Some-clause-err
returns-in-Some-clause-err c =
    in_order c.args.derivation.now c.args.sub.now c.args.above.now ∙ sym c.first_fault.ensures ∙ c.in-Some.is

pub returns-in-None-clause-none : goal.returns-in-None-clause-none
returns-in-None-clause-none c =
    in_order c.args.derivation.now c.args.sub.now c.args.above.now ∙ sym c.first_fault.ensures ∙ c.in-None.is

pub returns-in-None-clause-derivation : goal.returns-in-None-clause-derivation
returns-in-None-clause-derivation c =
    derives c.args.derivation.now c.args.sub.now c.args.above.now (sym c.first_fault.ensures ∙ c.in-None.is)

pub returns-in-None-clause-remembers : goal.returns-in-None-clause-remembers
returns-in-None-clause-remembers c =
    remembers c.args.derivation.now c.args.sub.now c.args.above.now (sym c.first_fault.ensures ∙ c.in-None.is)
