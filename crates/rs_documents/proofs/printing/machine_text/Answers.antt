use Rattle.rs_documents.proofs.Lines.{line_or_error, table_or_error}
use Rattle.rs_documents.proofs.printing.machine_text.Goals as goal

pub returns-then-machine_text_shaped : goal.returns-then-machine_text_shaped
returns-then-machine_text_shaped c =
    line_or_error c.args.names.now c.args.machine.now c.print_machine.result (c.machine_text_shaped.ensures.0 c.if-machine_text_shaped.true) c.print_machine.ensures.canonical

pub returns-else-machine_text_shaped : goal.returns-else-machine_text_shaped
returns-else-machine_text_shaped c =
    table_or_error c.args.names.now c.args.machine.now c.print_table.result
    (λ shaped. let clash = c.machine_text_shaped.ensures.1 shaped in absurd (cc (clash, c.if-machine_text_shaped.false))) c.print_table.ensures
