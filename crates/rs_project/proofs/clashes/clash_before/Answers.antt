use Rattle.std.proofs.Common.{arith}
use Rattle.rs_project.proofs.Agreeing.{before_more, before_some, clashes_at}
use Rattle.rs_project.proofs.clashes.clash_before.Goals as goal

pub returns-then-not-agree : goal.returns-then-not-agree
returns-then-not-agree c = record {
  before = (let t = c.loop-earlier-test.true in let m = c.enough_before-enough.ensures.most in omega (arith, t, m));
  clash = clashes_at c.args.protocol.now c.args.role c.args.talks.now c.loop-earlier.earlier c.args.later (c.do_agree-agree.ensures.whole c.if-not-agree.true);
  first = c.loop-earlier.invariant;
}

pub loop-earlier-preserved : goal.loop-earlier-preserved
loop-earlier-preserved c =
    before_more c.args.protocol.now c.args.role c.args.talks.now c.loop-earlier.earlier c.args.later c.loop-earlier.invariant (c.do_agree-agree.ensures.sound c.if-not-agree.false)

pub returns : goal.returns
returns c =
    c.enough_before-enough.ensures.enough
    (before_some c.args.protocol.now c.args.role c.args.talks.now c.loop-earlier.earlier c.enough_before-enough.result c.args.later c.loop-earlier-test.false c.loop-earlier.invariant)
