use Rattle.std.proofs.Common.{sym, ap, ◌∙◌, Some, slice_set}
use Rattle.rs_derive.specs.Data.{Derivation_data}
use Rattle.rs_documents.specs.Parts.{derivation_parts}
use Rattle.rs_documents.specs.Ready.{IsBounded}
use Rattle.rs_documents.proofs.PartKinds.{of_derivations}
use Rattle.rs_documents.proofs.Parts.{added_by, fails, repeats_by}
use Rattle.rs_documents.proofs.documents.add_derivation.Goals as goal

pub returns-in-Some-clause-err : goal.returns-in-Some-clause-err
returns-in-Some-clause-err c =
    repeats_by derivation_parts c.args.bytes.now c.args.at c.args.names.now c.args.derivations.now.items c.in-Some.second c.requires.derivation
    (sym (rw c.as_slice.ensures.value at c.in-Some.ensures.twice))

pub returns-in-Ok-clause-ok : goal.returns-in-Ok-clause-ok
returns-in-Ok-clause-ok c =
    added_by derivation_parts of_derivations IsBounded c.args.bytes.now c.args.at c.args.names.now c.read_derivation.new.names c.args.derivations.now.items c.put.new.parts.items c.in-Ok.derivation
    c.in-Ok.next (c.put.ensures ∙ ap (λ (d : Derivation_data). slice_set c.args.derivations.now.items d.role.0 (Some c.in-Ok.derivation)) c.derivation.view_is) c.requires.names c.requires.held
    c.requires.derivation
    (sym (rw c.as_slice.ensures.value at c.in_default.ensures.twice)) c.in-Ok.ensures.ok.spells c.in-Ok.ensures.names c.in-Ok.ensures.kept.roles
    (record { bound = c.in-Ok.ensures.ok.printable.bound; bounded = c.in-Ok.ensures.ok.printable.nodes }) c.in-Ok.ensures.ok.within

pub returns-in-Err-clause-err : goal.returns-in-Err-clause-err
returns-in-Err-clause-err c =
    fails derivation_parts c.args.bytes.now c.args.at c.args.names.now c.args.derivations.now.items c.in-Err.fault c.requires.derivation
    (sym (rw c.as_slice.ensures.value at c.in_default.ensures.twice)) c.in-Err.ensures.err.fault
