use Rattle.std.proofs.Common.{codes}
use Rattle.std.proofs.lemmas.Result.{on_ok_weaker}
use Rattle.rs_text.specs.NamePlaces.{name_at}
use Rattle.rs_reasons.proofs.Joins.{three}
use Rattle.rs_reasons.proofs.unprojectable.push_two_sorts.Goals as goal

pub returns : goal.returns
returns c =
    let roles = c.args.names.now.roles in
    on_ok_weaker c.push-2.result
    (λ e. three c.args.text.now c.push.new.self c.push_role.new.text c.push-2.new.self (codes "a message that comes from ") (name_at roles c.args.sender.0) (codes " in both cases has two sorts") c.in_ok-push.ensures.ok c.in_ok-push_role.ensures e) c.push-2.ensures.ok
