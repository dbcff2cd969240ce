use Rattle.std.proofs.Common.{sym, ap, ◌∙◌}
use Rattle.rs_model.specs.Data.{Machine_data, Names_data}
use Rattle.rs_documents.specs.Parts.{machine_parts, no_parts}
use Rattle.rs_documents.specs.Ready.{IsShort}
use Rattle.rs_documents.proofs.PartKinds.{machine_there, no_machine_there}
use Rattle.rs_documents.proofs.Parts.{done, held_by}
use Rattle.rs_documents.proofs.documents.read_machines.Goals as goal

pub loop-alloc-init : goal.loop-alloc-init
loop-alloc-init c = (
  c.requires.within,
  c.requires.names,
  held_by (λ (x : Machine_data). x.role) IsShort c.args.names.now.roles c.in-Ok.machines.items
      (c.in-Ok.ensures ∙ ap no_parts (c.as_slice.ensures.value ∙ ap (λ (n : Names_data). n.roles) c.names.view_is)),
  λ row h. h,
)

pub add_machine-requires-clause-machine : goal.add_machine-requires-clause-machine
add_machine-requires-clause-machine c = machine_there _ (sym c.loop-alloc-test.ensures)

pub returns-clause-ok : goal.returns-clause-ok
returns-clause-ok c =
    done machine_parts c.args.bytes.now c.args.at c.args.names.now c.loop-alloc.names c.in-Ok.machines.items c.loop-alloc.machines.items c.loop-alloc.until
    (c.in-Ok.ensures ∙ ap no_parts (c.as_slice.ensures.value ∙ ap (λ (n : Names_data). n.roles) c.names.view_is))
    c.loop-alloc.invariant.3 (no_machine_there _ (sym c.loop-alloc-test.ensures))
