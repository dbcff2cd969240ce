use Rattle.std.proofs.Common.{◌∙◌, List, Option, ap, length}
use Rattle.rs_walk_texts.proofs.Toward.{along_length}
use Rattle.rs_walk_texts.specs.declared.passed.TalkArm.{TalkArm}
use Rattle.rs_walk_texts.proofs.owing.talks_owed.Goals as goal

pub owed_along-requires : goal.owed_along-requires
owed_along-requires c =
    ap (λ (z : List (Option TalkArm)). length z) (c.as_slice.ensures.value ∙ c.in_ok-talks.ensures) ∙ along_length c.args.source.now c.args.first.now c.args.steps.now
