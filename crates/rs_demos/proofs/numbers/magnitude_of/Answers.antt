use Rattle.std.proofs.Common.{◌+◌, ◌*◌, ◌≤◌, ℕ, length, ap, ◌∙◌, arith}
use Rattle.rs_demos.proofs.Digits.{longer, digit_at}
use Rattle.rs_demos.proofs.numbers.magnitude_of.Goals as goal

pub returns-then-not-is_ascii_digit-clause-none : goal.returns-then-not-is_ascii_digit-clause-none
returns-then-not-is_ascii_digit-clause-none c d =
    let r = digit_at c.args.digits.now c.loop-digit.digit-index d.0.1 c.loop-digit-test.true in
    let out = c.if-not-is_ascii_digit.ensures.cases in
    grind (arith, r, out)

pub overflow_mul-number : goal.overflow_mul-number
overflow_mul-number c =
    let few : length c.args.digits.now ≤ 20 = omega arith in
    let l = longer c.args.digits.now c.loop-digit.digit-index c.loop-digit.number c.loop-digit-test.true few c.loop-digit.invariant.digits c.loop-digit.invariant.value
    c.if-not-is_ascii_digit.ensures.cases in
    omega (arith, l.small)

pub overflow_add-number : goal.overflow_add-number
overflow_add-number c =
    let few : length c.args.digits.now ≤ 20 = omega arith in
    let l = longer c.args.digits.now c.loop-digit.digit-index c.loop-digit.number c.loop-digit-test.true few c.loop-digit.invariant.digits c.loop-digit.invariant.value
    c.if-not-is_ascii_digit.ensures.cases in
    omega (arith, l.small, c.from.ensures)

pub loop-digit-preserved : goal.loop-digit-preserved
loop-digit-preserved c =
    let few : length c.args.digits.now ≤ 20 = omega arith in
    let l = longer c.args.digits.now c.loop-digit.digit-index c.loop-digit.number c.loop-digit-test.true few c.loop-digit.invariant.digits c.loop-digit.invariant.value
    c.if-not-is_ascii_digit.ensures.cases in
    record {
      value = ap (λ (d : ℕ). c.loop-digit.number * 10 + d) c.from.ensures ∙ l.value;
      digits = l.digits;
    }
