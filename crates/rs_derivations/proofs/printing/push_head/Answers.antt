use Rattle.std.proofs.Common.{codes}
use Rattle.std.proofs.lemmas.Result.{on_ok_weaker}
use Rattle.rs_text.specs.NamePlaces.{name_at}
use Rattle.rs_derivations.specs.Texts.{bound_text}
use Rattle.rs_derivations.proofs.Joins.{four}
use Rattle.rs_derivations.proofs.printing.push_head.Goals as goal

pub returns : goal.returns
returns c =
    on_ok_weaker c.push_bound.result
    (λ e. four c.args.text.now c.push.new.self c.push_role.new.text c.push-2.new.self c.push_bound.new.text (codes "derivation ") (name_at c.args.names.now.roles c.args.role.0) (codes " format 2")
    (bound_text c.args.bound) c.in_ok-push.ensures.ok c.in_ok-push_role.ensures c.in_ok-push-2.ensures.ok e) c.push_bound.ensures
