use Rattle.std.proofs.Common.{codes}
use Rattle.std.proofs.lemmas.Result.{on_ok_weaker}
use Rattle.rs_walk_texts.specs.Stops.{sends_with, sort_above}
use Rattle.rs_walk_texts.proofs.Joins.{three}
use Rattle.rs_walk_texts.proofs.stops.push_sent_sort.Goals as goal

pub returns : goal.returns
returns c =
    let s = c.args.source.now in
    let p = c.args.spot.now in
    on_ok_weaker c.push_sort_above.result
    (λ e. three c.args.text.now (sends_with s p c.args.place) (codes ", where the protocol has it with ") (sort_above s p c.args.place) c.push_sends_with.new.text c.push.new.self c.push_sort_above.new.text c.in_ok-push_sends_with.ensures c.in_ok-push.ensures.ok e) c.push_sort_above.ensures
