use Rattle.std.proofs.Common.{codes}
use Rattle.std.proofs.lemmas.Result.{on_ok_weaker}
use Rattle.rs_text.specs.NamePlaces.{name_at}
use Rattle.rs_reasons.proofs.Joins.{three}
use Rattle.rs_reasons.proofs.waits.push_cure.Goals as goal

pub returns : goal.returns
returns c =
    let roles = c.args.names.now.roles in
    on_ok_weaker c.push-2.result
    (λ e. three c.args.text.now c.push.new.self c.push_role.new.text c.push-2.new.self (codes "cure: each time round, send ") (name_at roles c.args.role.0) (codes " a message, even one that says there is nothing to do\n") c.in_ok-push.ensures.ok c.in_ok-push_role.ensures e) c.push-2.ensures.ok
