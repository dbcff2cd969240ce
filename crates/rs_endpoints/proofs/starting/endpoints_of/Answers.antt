use Rattle.std.proofs.Common.{rules, ◌∙◌, ap, arith}
use Rattle.rs_endpoints.proofs.Beginning.{but_the_last, one_more}
use Rattle.rs_endpoints.proofs.starting.endpoints_of.Goals as goal

pub loop-stage-preserved : goal.loop-stage-preserved
loop-stage-preserved c = (
  but_the_last _ _ _ _ c.in-Some.ensures.items c.loop-stage.invariant.0,
  one_more c.args.shared.now.value.session _ _ _ c.in-Some.stage c.loop-stage.endpoints.items c.append.new.endpoints.items c.in-Some.ensures.items (search rules) c.loop-stage.invariant.1,
  omega (arith, c.loop-stage.invariant.2, c.in-Some.ensures.len, c.append.ensures.length, c.append.ensures.capacity, c.in-Some.ensures.capacity),
)
