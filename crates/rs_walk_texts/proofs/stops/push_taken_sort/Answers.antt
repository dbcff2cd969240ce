use Rattle.std.proofs.Common.{codes}
use Rattle.std.proofs.lemmas.Result.{on_ok_weaker}
use Rattle.rs_walk_texts.specs.Stops.{owed_bare, owed_sort, sort_here}
use Rattle.rs_walk_texts.proofs.Joins.{five}
use Rattle.rs_walk_texts.proofs.stops.push_taken_sort.Goals as goal

pub returns : goal.returns
returns c =
    let s = c.args.source.now in
    let p = c.args.spot.now in
    on_ok_weaker c.push_sort_here.result
    (λ e. five c.args.text.now (owed_bare s p c.args.place) (codes " comes with ") (owed_sort p c.args.place) (codes ", and the machine takes it with ") (sort_here s p c.args.place) c.push_owed_bare.new.text c.push.new.self c.push_owed_sort_name.new.text c.push-2.new.self c.push_sort_here.new.text c.in_ok-push_owed_bare.ensures c.in_ok-push.ensures.ok c.in_ok-push_owed_sort_name.ensures c.in_ok-push-2.ensures.ok e) c.push_sort_here.ensures
