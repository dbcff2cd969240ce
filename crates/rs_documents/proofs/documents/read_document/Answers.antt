use Rattle.std.proofs.Common.{refl, sym}
use Rattle.rs_documents.proofs.CanShow.{role_names, roles_behind}
use Rattle.rs_documents.proofs.ReadParts.{behind_parts, front_by, in_derivations, in_machines, in_protocol, parts_by, ready, whole}
use Rattle.rs_global.proofs.Canonical.{spelt_roles}
use Rattle.rs_documents.proofs.documents.read_document.Goals as goal

pub read_machines-requires-clause-names : goal.read_machines-requires-clause-names
read_machines-requires-clause-names c = record {
  readable = c.in-Ok.ensures.names;
  two = (spelt_roles c.args.bytes.now 0 c.in-Ok.read.0 c.in-Ok.read.1 c.in-Ok.read.2 c.in-Ok.ensures.ok.spells).two;
}

pub returns-in-Err-clause-err : goal.returns-in-Err-clause-err
returns-in-Err-clause-err c = in_protocol c.args.bytes.now c.in-Err.fault c.in-Err.ensures.err.fault

pub returns-in-Err-read_machines-clause-err : goal.returns-in-Err-read_machines-clause-err
returns-in-Err-read_machines-clause-err c =
    in_machines c.args.bytes.now c.in-Ok.read.0 _ c.in-Ok.read.1 c.in-Ok.read.2 c.in-Err-read_machines.fault c.in-Ok.ensures.ok.spells refl c.in-Err-read_machines.ensures.err

pub returns-in-Err-read_derivations-clause-err : goal.returns-in-Err-read_derivations-clause-err
returns-in-Err-read_derivations-clause-err c =
    in_derivations c.args.bytes.now c.in-Ok.read.1 c.read_machines.new.names _ c.in-Ok-read_machines.read.0.items c.in-Ok-read_machines.read.1 c.in-Err-read_derivations.fault
    (front_by c.args.bytes.now c.in-Ok.read.0 _ c.read_machines.new.names c.in-Ok.read.1 c.in-Ok.read.2 c.in-Ok-read_machines.read.1 c.in-Ok-read_machines.read.0.items c.in-Ok.ensures.ok.spells
    refl c.in-Ok-read_machines.ensures.ok) refl
    c.in-Err-read_derivations.ensures.err

pub returns-in-Some-clause-err : goal.returns-in-Some-clause-err
returns-in-Some-clause-err c =
    behind_parts c.args.bytes.now c.in-Ok.read.1 c.read_machines.new.names c.read_derivations.new.names c.in-Ok-read_machines.read.0.items c.in-Ok-read_derivations.read.0.items
    c.in-Ok-read_machines.read.1 c.in-Ok-read_derivations.read.1 c.in-Some.kind
    (parts_by c.args.bytes.now c.in-Ok.read.1 c.read_machines.new.names _ c.read_derivations.new.names c.in-Ok-read_machines.read.0.items c.in-Ok-read_derivations.read.0.items
    c.in-Ok-read_machines.read.1 c.in-Ok-read_derivations.read.1
    (front_by c.args.bytes.now c.in-Ok.read.0 _ c.read_machines.new.names c.in-Ok.read.1 c.in-Ok.read.2 c.in-Ok-read_machines.read.1 c.in-Ok-read_machines.read.0.items c.in-Ok.ensures.ok.spells
    refl c.in-Ok-read_machines.ensures.ok) refl
    c.in-Ok-read_derivations.ensures.ok) (sym (rw c.wanted_behind.ensures at c.in-Some.ensures))

pub returns-in-None-clause-ok : goal.returns-in-None-clause-ok
returns-in-None-clause-ok c =
    whole c.args.bytes.now c.in-Ok.read.1 c.read_machines.new.names c.read_derivations.new.names c.in-Ok-read_machines.read.0.items c.in-Ok-read_derivations.read.0.items
    c.in-Ok-read_machines.read.1 c.in-Ok-read_derivations.read.1
    (parts_by c.args.bytes.now c.in-Ok.read.1 c.read_machines.new.names _ c.read_derivations.new.names c.in-Ok-read_machines.read.0.items c.in-Ok-read_derivations.read.0.items
    c.in-Ok-read_machines.read.1 c.in-Ok-read_derivations.read.1
    (front_by c.args.bytes.now c.in-Ok.read.0 _ c.read_machines.new.names c.in-Ok.read.1 c.in-Ok.read.2 c.in-Ok-read_machines.read.1 c.in-Ok-read_machines.read.0.items c.in-Ok.ensures.ok.spells
    refl c.in-Ok-read_machines.ensures.ok) refl
    c.in-Ok-read_derivations.ensures.ok) (sym (rw c.wanted_behind.ensures at c.in-None.ensures))

pub returns-in-None-clause-ready : goal.returns-in-None-clause-ready
returns-in-None-clause-ready c =
    ready c.in-Ok.read.1 c.read_machines.new.names c.read_derivations.new.names c.in-Ok-read_machines.read.0.items c.in-Ok-read_derivations.read.0.items c.in-Ok-read_machines.ensures.held
    c.in-Ok-read_derivations.ensures.names c.in-Ok-read_derivations.ensures.held
    (roles_behind c.args.bytes.now c.in-Ok-read_machines.read.1 _ c.read_derivations.new.names c.in-Ok-read_derivations.read.0.items c.in-Ok-read_derivations.read.1
    c.in-Ok-read_derivations.ensures.ok) c.in-Ok.ensures.ok.bounded
    (role_names c.args.bytes.now _ (returns-in-None-clause-ok c)).0
