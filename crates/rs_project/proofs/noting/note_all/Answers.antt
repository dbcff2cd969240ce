use Rattle.std.proofs.Common.{arith}
use Rattle.std.proofs.lemmas.Option.{slice_get_within}
use Rattle.rs_project.proofs.Notes.{arms_more}
use Rattle.rs_project.proofs.noting.note_all.Goals as goal

pub loop-arm-preserved : goal.loop-arm-preserved
loop-arm-preserved c = record {
  noted = arms_more c.loop-arm.sorts.items c.note.new.sorts.items c.args.arms.now c.loop-arm.arm-index _ c.loop-arm-test.true c.note.ensures.keeps
      (c.note.ensures.noted c.if-not-note.false) c.loop-arm.invariant.noted;
  keeps = λ label s e. c.note.ensures.keeps label s (c.loop-arm.invariant.keeps label s e);
}

pub returns-clause-noted : goal.returns-clause-noted
returns-clause-noted c = λ _ place a e. c.loop-arm.invariant.noted place a (let w = slice_get_within c.args.arms.now place a e in let f = c.loop-arm-test.false in omega (arith, w, f)) e
