use Rattle.std.proofs.Common.{Some, codes}
use Rattle.std.proofs.lemmas.Result.{on_ok_weaker}
use Rattle.rs_walk_texts.specs.Passed.{talk_arm_text}
use Rattle.rs_walk_texts.proofs.Joins.{three}
use Rattle.rs_walk_texts.proofs.dues.push_due_talk.Goals as goal

pub returns : goal.returns
returns c =
    on_ok_weaker c.push-2.result
    (λ e.
    three c.args.text.now (codes "due: ") (talk_arm_text c.args.source.now (Some c.args.talk)) (codes "\n") c.push.new.self c.push_talk_arm.new.text c.push-2.new.self
    c.in_ok-push.ensures.ok c.in_ok-push_talk_arm.ensures e) c.push-2.ensures.ok
