use Rattle.std.proofs.Common.{◌≤◌, length, arith, false}
use Rattle.std.proofs.lemmas.Bool.Decides.{nat_tests}
use Rattle.std.proofs.lemmas.Result.{IfOk-weaker}
use Rattle.rs_model.specs.declared.limits.TheConstants.{MOST_BYTES}
use Rattle.rs_tool.specs.Answers.{IsDocument}
use Rattle.rs_tool.proofs.MadeReady.{of_fault}
use Rattle.rs_words.specs.declared.tasks.DocumentTask.TheVariants.{Check}
use Rattle.rs_tool.proofs.generating.check_text.Goals as goal

pub returns-in-Ok : goal.returns-in-Ok
returns-in-Ok c =
    let told = c.if-bytes-gt-MOST_BYTES.false in
    let short : length c.args.bytes.now ≤ MOST_BYTES = grind (arith, nat_tests) in
    IfOk-weaker c.check.result _ _ (λ a h. IsDocument short c.in-Ok.document c.in-Ok.ensures.ok h) c.check.ensures

pub returns-in-Err : goal.returns-in-Err
returns-in-Err c =
    let told = c.if-bytes-gt-MOST_BYTES.false in
    let short : length c.args.bytes.now ≤ MOST_BYTES = grind (arith, nat_tests) in
    of_fault (Check (record { bound = c.args.bound; derivations = false }))
    c.args.bytes.now c.in-Err.fault c.answer_to_fault.result short c.in-Err.ensures.err c.answer_to_fault.ensures.answer c.answer_to_fault.ensures.memory
