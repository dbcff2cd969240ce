use Rattle.std.proofs.Common.{codes}
use Rattle.std.proofs.lemmas.Result.{on_ok_weaker}
use Rattle.rs_walk_texts.specs.Heads.{act_text, at_text}
use Rattle.rs_model.specs.declared.machines.Act.TheVariants as act
use Rattle.rs_reasons.proofs.Joins.{five}
use Rattle.rs_reasons.proofs.accepted.push_unused_line.Goals as goal

pub returns : goal.returns
returns c =
    on_ok_weaker c.push-3.result
    (λ e. five c.args.text.now c.push.new.self c.push-2.new.self c.push_act.new.text c.push_at.new.text c.push-3.new.self c.args.role.now (codes ": nothing brings ")
    (act_text c.args.names.now (act.Takes c.args.peer c.args.arm.label c.args.arm.sort)) (at_text c.args.at) (codes "\n") c.in_ok-push.ensures.ok c.in_ok-push-2.ensures.ok c.in_ok-push_act.ensures
    c.in_ok-push_at.ensures e) c.push-3.ensures.ok
