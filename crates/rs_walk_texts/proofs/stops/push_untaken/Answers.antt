use Rattle.std.proofs.Common.{codes}
use Rattle.std.proofs.lemmas.Result.{on_ok_weaker}
use Rattle.rs_walk_texts.specs.Stops.{owed_act, own_head}
use Rattle.rs_walk_texts.proofs.Joins.{three}
use Rattle.rs_walk_texts.proofs.stops.push_untaken.Goals as goal

pub returns : goal.returns
returns c =
    let s = c.args.source.now in
    let p = c.args.spot.now in
    on_ok_weaker c.push_own_head.result
    (λ e. three c.args.text.now (owed_act s p c.args.place) (codes " comes next, and the machine takes ") (own_head s p) c.push_owed_act.new.text c.push.new.self c.push_own_head.new.text c.in_ok-push_owed_act.ensures c.in_ok-push.ensures.ok e) c.push_own_head.ensures
