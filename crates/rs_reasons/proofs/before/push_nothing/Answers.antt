use Rattle.std.proofs.Common.{codes}
use Rattle.std.proofs.lemmas.Result.{on_ok_weaker}
use Rattle.rs_text.specs.NamePlaces.{name_at}
use Rattle.rs_reasons.proofs.Joins.{two}
use Rattle.rs_reasons.proofs.before.push_nothing.Goals as goal

pub returns : goal.returns
returns c =
    let clash = c.args.clash.now in
    on_ok_weaker c.push_own_role.result
    (λ e. two c.args.text.now c.push.new.self c.push_own_role.new.text (codes "nothing more for ") (name_at clash.names.roles clash.role.0) c.in_ok-push.ensures.ok e) c.push_own_role.ensures
