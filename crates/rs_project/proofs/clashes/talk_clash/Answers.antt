use Rattle.std.proofs.Common.{arith}
use Rattle.rs_project.proofs.Agreeing.{all_more, all_all}
use Rattle.rs_project.proofs.Notes.{noted_none}
use Rattle.rs_project.proofs.clashes.talk_clash.Goals as goal

pub loop-later-init : goal.loop-later-init
loop-later-init c = record { agree = λ h k lt none. absurd (omega (arith, none)); noted = λ _ k t node none. absurd (omega (arith, none)) }

pub loop-later-preserved : goal.loop-later-preserved
loop-later-preserved c = record {
  agree = all_more c.args.protocol.now c.args.role c.args.talks.now c.loop-later.later c.loop-later.invariant.agree (noted_none c.clash_at.result _ _ c.in_default.is c.clash_at.ensures.clash);
  noted = c.clash_at.ensures.noted;
}

pub returns : goal.returns
returns c = all_all c.args.protocol.now c.args.role c.args.talks.now c.loop-later.later c.loop-later-test.false c.loop-later.invariant.agree
