use Rattle.std.proofs.Common.{codes}
use Rattle.std.proofs.lemmas.Result.{on_ok_weaker}
use Rattle.rs_walk_texts.specs.Stops.{owed_act, owed_here, own_head}
use Rattle.rs_walk_texts.proofs.Joins.{five}
use Rattle.rs_walk_texts.proofs.stops.push_choice_while_owing.Goals as goal

pub returns : goal.returns
returns c =
    let s = c.args.source.now in
    let p = c.args.spot.now in
    on_ok_weaker c.push_owed_here.result
    (λ e. five c.args.text.now (codes "the machine chooses ") (own_head s p) (codes ", and owes ") (owed_act s p c.args.place) (owed_here s p c.args.place) c.push.new.self c.push_own_head.new.text c.push-2.new.self c.push_owed_act.new.text c.push_owed_here.new.text c.in_ok-push.ensures.ok c.in_ok-push_own_head.ensures c.in_ok-push-2.ensures.ok c.in_ok-push_owed_act.ensures e) c.push_owed_here.ensures
