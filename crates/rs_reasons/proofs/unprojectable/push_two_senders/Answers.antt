use Rattle.std.proofs.Common.{codes}
use Rattle.std.proofs.lemmas.Result.{on_ok_weaker}
use Rattle.rs_text.specs.NamePlaces.{name_at}
use Rattle.rs_reasons.proofs.Joins.{six}
use Rattle.rs_reasons.proofs.unprojectable.push_two_senders.Goals as goal

pub returns : goal.returns
returns c =
    let roles = c.args.names.now.roles in
    on_ok_weaker c.push-3.result
    (λ e. six c.args.text.now c.push_role.new.text c.push.new.self c.push_role-2.new.text c.push-2.new.self c.push_role-3.new.text c.push-3.new.self (name_at roles c.args.role.0) (codes " would wait for ") (name_at roles c.args.one.0) (codes " in the one case and for ") (name_at roles c.args.other.0) (codes " in the other") c.in_ok-push_role.ensures c.in_ok-push.ensures.ok c.in_ok-push_role-2.ensures c.in_ok-push-2.ensures.ok c.in_ok-push_role-3.ensures e) c.push-3.ensures.ok
