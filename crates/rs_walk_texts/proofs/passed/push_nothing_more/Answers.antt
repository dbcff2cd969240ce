use Rattle.std.proofs.Common.{codes}
use Rattle.std.proofs.lemmas.Result.{on_ok_weaker}
use Rattle.rs_walk_texts.specs.Passed.{own_name}
use Rattle.rs_walk_texts.proofs.Joins.{two}
use Rattle.rs_walk_texts.proofs.passed.push_nothing_more.Goals as goal

pub returns : goal.returns
returns c =
    on_ok_weaker c.push_own_name.result
    (λ e. two c.args.text.now (codes "nothing more for ") (own_name c.args.source.now) c.push.new.self c.push_own_name.new.text c.in_ok-push.ensures.ok e) c.push_own_name.ensures
