use Rattle.std.proofs.Common.{Bool, subst}
use Rattle.rs_held.proofs.Explained.{searched_by, tested}
use Rattle.rs_held.specs.Refusals.{Tests}
use Rattle.rs_held.proofs.openings.with_reason_of.Goals as goal

pub returns-then-tested : goal.returns-then-tested
returns-then-tested c =
    tested _ _ _ c.args.document.now c.requires.short c.requires.spells (subst (λ (b : Bool). Tests c.args.document.now b) c.if-tested.true c.in_ok-tested.ensures) c.requires.refused

pub returns-else-tested : goal.returns-else-tested
returns-else-tested c =
    searched_by _ _ _ _ c.args.document.now _ c.requires.short c.requires.spells c.standard.ensures c.explain.ensures
    (subst (λ (b : Bool). Tests c.args.document.now b) c.if-tested.false c.in_ok-tested.ensures) c.requires.refused
