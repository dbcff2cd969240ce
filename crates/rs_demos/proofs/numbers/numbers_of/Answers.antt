use Rattle.std.proofs.Common.{◌≡◌, ◌++◌, ◌∷◌, [], ℕ, ℤ, length, drop, ap, ◌∙◌, arith}
use Rattle.std.proofs.lemmas.Int.{to_z-of_z}
use Rattle.std.proofs.lemmas.List.Sums.{prefix_len-le-length}
use Rattle.std.specs.Int.{w64}
use Rattle.rs_demos.specs.Reading.{behind_blanks, word_len}
use Rattle.rs_demos.proofs.Spelt.{begins, goes_on, is_none, at_end, some_left, none_left, fewer, no_blank}
use Rattle.rs_demos.proofs.numbers.numbers_of.Goals as goal

pub loop-left-init : goal.loop-left-init
loop-left-init c = begins c.args.bytes.now c.behind_blanks-left.result.now c.new-numbers.result.items c.behind_blanks-left.ensures c.new-numbers.ensures.items

pub split_at-requires : goal.split_at-requires
split_at-requires c = omega (arith, c.word_len.ensures, prefix_len-le-length no_blank c.loop-left.left.now)

pub returns-in_default-clause-err : goal.returns-in_default-clause-err
returns-in_default-clause-err c =
    is_none c.args.bytes.now c.loop-left.left.now c.split_at.result.0.now c.loop-left.numbers.items c.word_len.result c.loop-left.invariant
    (some_left (length c.loop-left.left.now) c.loop-left-test.ensures) c.word_len.ensures c.split_at.ensures.front c.in_default.ensures.none

pub loop-left-preserved : goal.loop-left-preserved
loop-left-preserved c =
    goes_on c.args.bytes.now c.loop-left.left.now c.split_at.result.0.now c.split_at.result.1.now c.behind_blanks-left-in-loop-left.result.now
    c.loop-left.numbers.items c.push.new.numbers.items c.in-Some.number c.word_len.result c.loop-left.invariant
    (some_left (length c.loop-left.left.now) c.loop-left-test.ensures) c.word_len.ensures c.split_at.ensures.front c.split_at.ensures.back c.in-Some.ensures.some
    c.behind_blanks-left-in-loop-left.ensures
    (c.in_ok-push.ensures ∙ ap (λ (z : ℤ). c.loop-left.numbers.items ++ (z ∷ [])) (to_z-of_z w64 c.in-Some.number c.in-Some.ensures.some.fits))

pub loop-left-smaller : goal.loop-left-smaller
loop-left-smaller c =
    let f = fewer c.loop-left.left.now c.loop-left.invariant.starts (some_left (length c.loop-left.left.now) c.loop-left-test.ensures) in
    let e : c.behind_blanks-left-in-loop-left.result.now ≡ behind_blanks (drop (word_len c.loop-left.left.now) c.loop-left.left.now) =
    c.behind_blanks-left-in-loop-left.ensures ∙ ap behind_blanks (c.split_at.ensures.back ∙ ap (λ (k : ℕ). drop k c.loop-left.left.now) c.word_len.ensures) in
    omega (arith, ap length e, f)

pub returns-clause-ok : goal.returns-clause-ok
returns-clause-ok c = at_end c.args.bytes.now c.loop-left.left.now c.loop-left.numbers.items c.loop-left.invariant (none_left (length c.loop-left.left.now) c.loop-left-test.ensures)
