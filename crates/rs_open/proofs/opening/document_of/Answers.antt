use Rattle.std.proofs.Common.{rules, ◌≤◌, length}
use Rattle.rs_model.specs.declared.limits.TheConstants.{MOST_BYTES}
use Rattle.rs_open.proofs.Opened.{fault_unread}
use Rattle.rs_open.proofs.opening.document_of.Goals as goal

pub returns-in-Err-clause-refused : goal.returns-in-Err-clause-refused
returns-in-Err-clause-refused c =
    let short : length c.args.text.now ≤ MOST_BYTES = search rules in
    fault_unread c.args.text.now c.in-Err.fault.kind c.in-Err.fault.at c.answer_to_fault.result c.answered-in-Err.result short c.in-Err.ensures.err c.answered-in-Err.ensures
    c.answer_to_fault.ensures.answer c.answer_to_fault.ensures.memory
