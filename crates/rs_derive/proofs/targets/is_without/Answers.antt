use Rattle.std.proofs.Common.{arith, ap, ◌∙◌, ◌++◌, drop, take}
use Rattle.rs_derive.specs.Targets.{same_acts}
use Rattle.rs_derive.proofs.Acts.{drop_one, none_left}
use Rattle.rs_derive.proofs.targets.is_without.Goals as goal

pub returns : goal.returns
returns c =
    c.is_joined.ensures
    ∙ ap (λ x. same_acts c.args.acts.now (x ++ c.split_at-2.result.1.now)) c.split_at.ensures.front
    ∙ ap (λ x. same_acts c.args.acts.now (take c.args.place c.args.pending.now ++ x))
    (c.split_at-2.ensures.back ∙ ap (λ x. drop 1 x) c.split_at.ensures.back ∙ drop_one c.args.place c.args.pending.now)

pub returns-then-pending-eq1 : goal.returns-then-pending-eq1
returns-then-pending-eq1 c =
    none_left c.is_empty.result c.args.acts.now c.args.pending.now c.args.place (grind arith) c.requires (grind (arith, c.is_empty.ensures)) (grind (arith, c.is_empty.ensures))
