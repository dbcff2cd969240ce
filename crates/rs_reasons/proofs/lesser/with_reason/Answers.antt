use Rattle.rs_reasons.proofs.LesserBounds.{refuses}
use Rattle.rs_reasons.proofs.lesser.with_reason.Goals as goal

pub returns-in_ok-text-in-Some : goal.returns-in_ok-text-in-Some
returns-in_ok-text-in-Some c =
    refuses c.args.source.now c.args.bound c.args.fault _ _ _ c.requires.refused c.in_ok-reason.ensures c.in-Some.is c.in_ok-text-in-Some.ensures
