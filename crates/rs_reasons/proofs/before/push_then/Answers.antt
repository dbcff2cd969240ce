use Rattle.std.proofs.Common.{codes}
use Rattle.std.proofs.lemmas.Result.{on_ok_weaker}
use Rattle.rs_reasons.specs.Before.{member_text, message_item}
use Rattle.rs_reasons.proofs.Joins.{four}
use Rattle.rs_reasons.proofs.before.push_then.Goals as goal

pub returns : goal.returns
returns c =
    let clash = c.args.clash.now in
    on_ok_weaker c.push-2.result
    (λ e. four c.args.text.now c.push_message.new.text c.push.new.self c.push_member.new.text c.push-2.new.self (message_item clash c.args.number c.args.sender c.args.receiver c.args.arm) (codes ", and then ") (member_text clash c.args.member) (codes "\n") c.in_ok-push_message.ensures c.in_ok-push.ensures.ok c.in_ok-push_member.ensures e) c.push-2.ensures.ok
