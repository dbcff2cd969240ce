use Rattle.std.proofs.Common.{rules, arith, ◌≡◌, ◌-◌, ◌+◌, ◌<◌, ◌∙◌, ℕ, Bool, List, length, sym, subst}
use Rattle.rs_project.specs.Marks.{AreLeft, IsOn}
use Rattle.rs_project.proofs.Left.{left_flagged, left_more, on_unless, settled_more}
use Rattle.rs_project.proofs.surveying.await_left.Goals as goal

pub loop-number-preserved-in-Known : goal.loop-number-preserved-in-Known
loop-number-preserved-in-Known c =
    let number = c.loop-number.number in
    let k = number - 1 in
    let old = c.loop-number.awaited in
    let new = c.await_one.new.awaited in
    let e : number ≡ k + 1 = (let t = c.loop-number-test.true in omega (arith, t)) in
    let size : length new ≡ length old = c.await_one.ensures.sizes.awaited_size ∙ sym c.loop-number.invariant.sizes.awaited_size in
    let on = on_unless new k (λ off. (let h = c.await_one.ensures.open off in let i = c.in-Known.is in cc (h, i))) in
    let same : new ≡ old = c.await_one.ensures.same (λ h. (let i = c.in-Known.is in cc (h, i))) in
    record {
      bounded = (let f = c.loop-number.invariant.bounded in omega (arith, f));
      sizes = c.await_one.ensures.sizes;
      marked = λ role involved m. c.await_one.ensures.marked role involved (c.loop-number.invariant.marked role involved m);
      left = left_flagged number k c.loop-number.left.first c.loop-number.left.end old new e size c.await_one.ensures.kept on c.loop-number.invariant.left;
      kept = λ n h. c.await_one.ensures.kept n (c.loop-number.invariant.kept n h);
      less = λ h. (let l = c.loop-number.invariant.less h in rw same l);
      same = λ h. same ∙ c.loop-number.invariant.same h;
      settled = λ h some. settled_more c.args.protocol.now number k old new e same (λ node is leads. (let P : List Bool → Type 0 = λ z. IsOn z k in subst P same on)) (c.loop-number.invariant.settled h some);
      rounds = λ all role none. c.await_one.ensures.rounds all role (c.loop-number.invariant.rounds all role none);
    }

pub loop-number-preserved-in-Marked : goal.loop-number-preserved-in-Marked
loop-number-preserved-in-Marked c =
    let number = c.loop-number.number in
    let k = number - 1 in
    let old = c.loop-number.awaited in
    let new = c.await_one.new.awaited in
    let e : number ≡ k + 1 = (let t = c.loop-number-test.true in omega (arith, t)) in
    let size : length new ≡ length old = c.await_one.ensures.sizes.awaited_size ∙ sym c.loop-number.invariant.sizes.awaited_size in
    let on = on_unless new k (λ off. (let h = c.await_one.ensures.open off in let i = c.in-Marked.is in cc (h, i))) in
    record {
      bounded = (let f = c.loop-number.invariant.bounded in omega (arith, f));
      sizes = c.await_one.ensures.sizes;
      marked = λ role involved m. c.await_one.ensures.marked role involved (c.loop-number.invariant.marked role involved m);
      left = left_flagged number k c.loop-number.left.first c.loop-number.left.end old new e size c.await_one.ensures.kept on c.loop-number.invariant.left;
      kept = λ n h. c.await_one.ensures.kept n (c.loop-number.invariant.kept n h);
      less = search rules;
      same = λ h. cc (h);
      settled = λ h. cc (h);
      rounds = λ all role none. c.await_one.ensures.rounds all role (c.loop-number.invariant.rounds all role none);
    }

pub loop-number-preserved : goal.loop-number-preserved
loop-number-preserved c =
    let number = c.loop-number.number in
    let k = number - 1 in
    let old = c.loop-number.awaited in
    let new = c.await_one.new.awaited in
    let e : number ≡ k + 1 = (let t = c.loop-number-test.true in omega (arith, t)) in
    let size : length new ≡ length old = c.await_one.ensures.sizes.awaited_size ∙ sym c.loop-number.invariant.sizes.awaited_size in
    let within : k < length new = (let b = c.loop-number.invariant.bounded in let s = c.await_one.ensures.sizes.awaited_size in omega (arith, b, s, e)) in
    let P : ℕ → Type 0 = λ z. AreLeft z c.loop-number.left.first c.loop-number.left.end new in
    let same : new ≡ old = c.await_one.ensures.same (λ h. (let i = c.in-Open.is in cc (h, i))) in
    record {
      bounded = (let f = c.loop-number.invariant.bounded in omega (arith, f));
      sizes = c.await_one.ensures.sizes;
      marked = λ role involved m. c.await_one.ensures.marked role involved (c.loop-number.invariant.marked role involved m);
      left = c.with-left.ensures new within (subst P e (left_more number c.loop-number.left.first c.loop-number.left.end old new size c.await_one.ensures.kept c.loop-number.invariant.left));
      kept = λ n h. c.await_one.ensures.kept n (c.loop-number.invariant.kept n h);
      less = λ h. (let l = c.loop-number.invariant.less h in rw same l);
      same = λ h. same ∙ c.loop-number.invariant.same h;
      settled = λ h some. settled_more c.args.protocol.now number k old new e same (λ node is leads. absurd (c.await_one.ensures.settled c.in-Open.is some node is leads)) (c.loop-number.invariant.settled h some);
      rounds = λ all role none. c.await_one.ensures.rounds all role (c.loop-number.invariant.rounds all role none);
    }
