use Rattle.std.proofs.Common.{codes}
use Rattle.std.proofs.lemmas.Result.{on_ok_weaker}
use Rattle.rs_walk_texts.specs.Stops.{own_bare, own_sort}
use Rattle.rs_walk_texts.proofs.Joins.{four}
use Rattle.rs_walk_texts.proofs.stops.push_sends_with.Goals as goal

pub returns : goal.returns
returns c =
    let s = c.args.source.now in
    let p = c.args.spot.now in
    on_ok_weaker c.push_own_sort.result
    (λ e. four c.args.text.now (codes "the machine sends ") (own_bare s p c.args.place) (codes " with ") (own_sort s p c.args.place) c.push.new.self c.push_own_bare.new.text c.push-2.new.self c.push_own_sort.new.text c.in_ok-push.ensures.ok c.in_ok-push_own_bare.ensures c.in_ok-push-2.ensures.ok e) c.push_own_sort.ensures
