use Rattle.std.proofs.Common.{codes}
use Rattle.std.proofs.lemmas.Result.{on_ok_weaker}
use Rattle.rs_text.specs.NamePlaces.{name_at}
use Rattle.rs_reasons.proofs.Joins.{three}
use Rattle.rs_reasons.proofs.before.push_before_head.Goals as goal

pub returns : goal.returns
returns c =
    let clash = c.args.clash.now in
    on_ok_weaker c.push-2.result
    (λ e. three c.args.text.now c.push.new.self c.push_own_role.new.text c.push-2.new.self (codes "before both ") (name_at clash.names.roles clash.role.0) (codes " has the same messages:\n") c.in_ok-push.ensures.ok c.in_ok-push_own_role.ensures e) c.push-2.ensures.ok
