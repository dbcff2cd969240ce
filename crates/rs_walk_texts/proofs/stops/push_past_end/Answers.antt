use Rattle.std.proofs.Common.{codes}
use Rattle.std.proofs.lemmas.Result.{on_ok_weaker}
use Rattle.rs_walk_texts.specs.Passed.{own_name}
use Rattle.rs_walk_texts.specs.Stops.{doing_text, own_head}
use Rattle.rs_walk_texts.specs.Walks.{state_at}
use Rattle.rs_walk_texts.proofs.Joins.{four}
use Rattle.rs_walk_texts.proofs.stops.push_past_end.Goals as goal

pub returns : goal.returns
returns c =
    let s = c.args.source.now in
    let p = c.args.spot.now in
    on_ok_weaker c.push_own_name.result
    (λ e.
    four c.args.text.now (doing_text (state_at s p)) (own_head s p) (codes ", and the protocol has nothing more for ") (own_name s) c.push_own_doing.new.text c.push_own_head.new.text
    c.push.new.self c.push_own_name.new.text c.in_ok-push_own_doing.ensures c.in_ok-push_own_head.ensures c.in_ok-push.ensures.ok e) c.push_own_name.ensures
