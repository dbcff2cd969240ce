use Rattle.std.proofs.Common.{arith, ◌<◌, length, get_or, refl}
use Rattle.std.proofs.lemmas.Option.{slice_get-get_or}
use Rattle.rs_project.proofs.Agreeing.{clashes_at, pair_agrees}
use Rattle.rs_project.proofs.clashes.pair_clash.Goals as goal

pub returns-then-do_agree : goal.returns-then-do_agree
returns-then-do_agree c = pair_agrees c.args.protocol.now c.args.role c.args.talks.now c.requires.two (c.do_agree.ensures.sound c.if-do_agree.true)

pub returns : goal.returns
returns c =
    let talks = c.args.talks.now in
    let two = c.requires.two in
    let first : 0 < length talks = omega (arith, two) in
    let last : 1 < length talks = omega (arith, two) in
    record {
      i = 0;
      k = 1;
      later = get_or talks 1 0;
      a_stands = slice_get-get_or talks 0 0 first;
      b_stands = slice_get-get_or talks 1 0 last;
      b_is = refl;
      clashes = record {
        before = omega arith;
        clash = clashes_at c.args.protocol.now c.args.role talks 0 1 (c.do_agree.ensures.whole c.if-do_agree.false);
        first = λ h none. absurd (omega (arith, none));
      };
      earlier = λ h k lt none. absurd (omega (arith, lt, none));
    }
