use Rattle.std.proofs.Common.{sym}
use Rattle.rs_derive.proofs.Acts.{join_else, join_then, too_short}
use Rattle.rs_derive.proofs.targets.is_joined.Goals as goal

pub returns-then-acts-front : goal.returns-then-acts-front
returns-then-acts-front c = sym (too_short c.args.acts.now c.args.front.now c.args.back.now c.if-acts-front.true)

pub returns-then-same_acts : goal.returns-then-same_acts
returns-then-same_acts c =
    join_then c.args.acts.now c.args.front.now c.args.back.now c.split_at.result.0.now c.split_at.result.1.now c.same_acts.result c.same_acts-then-same_acts.result
    c.split_at.ensures.front c.split_at.ensures.back c.same_acts.ensures c.same_acts-then-same_acts.ensures c.if-same_acts.true

pub returns-else-same_acts : goal.returns-else-same_acts
returns-else-same_acts c =
    join_else c.args.acts.now c.args.front.now c.args.back.now c.split_at.result.0.now c.same_acts.result c.split_at.ensures.front c.same_acts.ensures
    c.if-same_acts.false
