use Rattle.std.proofs.Common.{arith}
use Rattle.rs_text.proofs.WordLanes.{run_ends, run_goes_on}
use Rattle.rs_text.proofs.lexing.long_word_size.Goals as goal

pub returns-then-run-lt-LANES-clause-count : goal.returns-then-run-lt-LANES-clause-count
returns-then-run-lt-LANES-clause-count c =
    let ends = run_ends 16 c.word_run-run.result c.loop-rest.rest.now c.word_run-run.ensures c.if-run-lt-LANES.true in
    let before = c.loop-rest.invariant.1 in
    omega arith

pub loop-rest-preserved : goal.loop-rest-preserved
loop-rest-preserved c =
    let on = run_goes_on 16 c.word_run-run.result c.loop-rest.rest.now c.split_at.result.1.now c.word_run-run.ensures c.if-run-lt-LANES.false c.split_at.ensures.back in
    let size = c.split_at.ensures.back_len in
    let within = c.loop-rest.invariant.0 in
    let before = c.loop-rest.invariant.1 in
    (omega arith, omega arith)
