use Rattle.std.proofs.Common.{◌≡◌, ap, rules}
use Rattle.rs_text.specs.declared.faults.TextFault.{TextFault}
use Rattle.rs_text.specs.declared.faults.TextKind.TheVariants as kind
use Rattle.rs_machines.proofs.LeftLabels.{spelt_leaves}
use Rattle.rs_machines.proofs.Spelt.{spells}
use Rattle.rs_machines.proofs.machines.read_machine.Goals as goal

pub returns-in-Ok-clause-ok : goal.returns-in-Ok-clause-ok
returns-in-Ok-clause-ok c = record {
  spells = spells c.args.bytes.now c.args.at c.args.names.now _ _ c.in-Ok.machine _ c.in_ok-spelling.ensures.ok.spells c.in-Ok.ensures.machine;
  bounded = search rules;
  within = c.in_ok-spelling.ensures.ok.within;
}

pub returns-in-Err-clause-left : goal.returns-in-Err-clause-left
returns-in-Err-clause-left c =
    let memory : c.into_fault.result.kind ≡ kind.NoMemory = ap (λ (z : TextFault). z.kind) c.into_fault.ensures in
    spelt_leaves c.args.bytes.now c.args.at c.args.names.now c.read_part.new.names c.in_ok-spelling.spelling c.in_ok-spelling.until c.into_fault.result.kind c.into_fault.result.at memory
    c.in_ok-spelling.ensures.ok.spells
