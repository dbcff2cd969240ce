use Rattle.std.proofs.Common.{sym, ◌∙◌}
use Rattle.std.specs.Prelude.{codes}
use Rattle.rs_documents.specs.OwnMachines.{BodyLeaves, LeavesOwn, TableLeaves}
use Rattle.rs_documents.specs.Parts.{InTable, InBody}
use Rattle.rs_documents.proofs.Parts.{word_is, word_isnt}
use Rattle.rs_documents.proofs.ReadParts.{left_by, refused_by}
use Rattle.rs_documents.proofs.documents.read_machine_or_table.Goals as goal

pub returns-then-begins_with-clause-err : goal.returns-then-begins_with-clause-err
returns-then-begins_with-clause-err c =
    refused_by c.read_table.result _ _ c.args.bytes.now (λ k offset f. InTable (word_is (codes "table") _ (sym c.begins_with.ensures ∙ c.if-begins_with.true)) f) c.read_table.ensures.err

pub returns-else-begins_with-clause-err : goal.returns-else-begins_with-clause-err
returns-else-begins_with-clause-err c =
    refused_by c.read_machine.result _ _ c.args.bytes.now (λ k offset f. InBody (word_isnt (codes "table") _ (sym c.begins_with.ensures ∙ c.if-begins_with.false)) f)
    c.read_machine.ensures.err

pub returns-then-begins_with-clause-left : goal.returns-then-begins_with-clause-left
returns-then-begins_with-clause-left c =
    left_by c.read_table.result _ (LeavesOwn c.args.names.now _ c.args.bytes.now c.args.at)
    (λ k offset f. TableLeaves (word_is (codes "table") _ (sym c.begins_with.ensures ∙ c.if-begins_with.true)) f) c.read_table.ensures.left

pub returns-else-begins_with-clause-left : goal.returns-else-begins_with-clause-left
returns-else-begins_with-clause-left c =
    left_by c.read_machine.result _ (LeavesOwn c.args.names.now _ c.args.bytes.now c.args.at)
    (λ k offset f. BodyLeaves (word_isnt (codes "table") _ (sym c.begins_with.ensures ∙ c.if-begins_with.false)) f) c.read_machine.ensures.left
