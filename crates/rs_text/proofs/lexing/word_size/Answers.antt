use Rattle.std.proofs.Common.{arith, ◌+◌, sym, ap, ◌∙◌}
use Rattle.rs_text.proofs.WordLanes.{run_ends, run_goes_on}
use Rattle.rs_text.proofs.lexing.word_size.Goals as goal

pub returns-then-first-lt4-clause-count : goal.returns-then-first-lt4-clause-count
returns-then-first-lt4-clause-count c = run_ends 4 c.run_of_four-first.result c.args.bytes.now c.run_of_four-first.ensures.count c.if-first-lt4.true

pub returns-then-second-lt4-clause-count : goal.returns-then-second-lt4-clause-count
returns-then-second-lt4-clause-count c =
    let on = run_goes_on 4 c.run_of_four-first.result c.args.bytes.now c.split_at.result.1.now c.run_of_four-first.ensures.count c.if-first-lt4.false c.split_at.ensures.back in
    ap (λ k. 4 + k) (run_ends 4 c.run_of_four-second.result c.split_at.result.1.now c.run_of_four-second.ensures.count c.if-second-lt4.true) ∙ sym on

pub returns-clause-count : goal.returns-clause-count
returns-clause-count c =
    let on = run_goes_on 4 c.run_of_four-first.result c.args.bytes.now c.split_at.result.1.now c.run_of_four-first.ensures.count c.if-first-lt4.false c.split_at.ensures.back in
    let further = run_goes_on 4 c.run_of_four-second.result c.split_at.result.1.now c.split_at-2.result.1.now c.run_of_four-second.ensures.count c.if-second-lt4.false c.split_at-2.ensures.back in
    let last = c.long_word_size.ensures.count in
    omega arith
