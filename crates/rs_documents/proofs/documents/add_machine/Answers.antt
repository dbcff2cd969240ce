use Rattle.std.proofs.Common.{sym, ap, ◌∙◌, Some, slice_set}
use Rattle.rs_model.specs.Data.{Machine_data}
use Rattle.rs_documents.specs.Parts.{machine_parts}
use Rattle.rs_documents.specs.Ready.{IsShort}
use Rattle.rs_documents.proofs.PartKinds.{of_machines}
use Rattle.rs_documents.proofs.Parts.{added_by, fails, repeats_by}
use Rattle.rs_documents.proofs.documents.add_machine.Goals as goal

pub returns-in-Some-clause-err : goal.returns-in-Some-clause-err
returns-in-Some-clause-err c =
    repeats_by machine_parts c.args.bytes.now c.args.at c.args.names.now c.args.machines.now.items c.in-Some.second c.requires.machine (sym (rw c.as_slice.ensures.value at c.in-Some.ensures.twice))

pub returns-in-Ok-clause-ok : goal.returns-in-Ok-clause-ok
returns-in-Ok-clause-ok c =
    added_by machine_parts of_machines IsShort c.args.bytes.now c.args.at c.args.names.now c.read_machine_or_table.new.names c.args.machines.now.items c.put.new.parts.items c.in-Ok.machine c.in-Ok.next
    (c.put.ensures ∙ ap (λ (d : Machine_data). slice_set c.args.machines.now.items d.role.0 (Some c.in-Ok.machine)) c.machine.view_is) c.requires.names c.requires.held c.requires.machine
    (sym (rw c.as_slice.ensures.value at c.in_default.ensures.twice)) c.in-Ok.ensures.ok.spells c.in-Ok.ensures.names c.in-Ok.ensures.kept.roles
    c.in-Ok.ensures.ok.bounded c.in-Ok.ensures.ok.within

pub returns-in-Err-clause-err : goal.returns-in-Err-clause-err
returns-in-Err-clause-err c =
    fails machine_parts c.args.bytes.now c.args.at c.args.names.now c.args.machines.now.items c.in-Err.fault c.requires.machine
    (sym (rw c.as_slice.ensures.value at c.in_default.ensures.twice)) c.in-Err.ensures.err.fault
