use Rattle.std.proofs.Common.{rules}
use Rattle.rs_machines.proofs.Canonical.{canonical_is_there}
use Rattle.rs_machines.proofs.Places.{spelt}
use Rattle.rs_machines.proofs.Printed.{canonical_text}
use Rattle.rs_machines.proofs.printing.print_machine.Goals as goal

pub print_body-requires : goal.print_body-requires
print_body-requires c = spelt c.args.machine.now c.requires.shaped

pub returns : goal.returns
returns c =
    let tree = canonical_is_there c.args.names.now c.args.machine.now c.requires.shaped c.requires.enough in
    record {
      canonical = canonical_text c.args.names.now c.args.machine.now tree.0 c.push-2.new.self c.in_ok-text.text c.push-3.new.self tree.1 (search rules)
          (c.in_ok-text.ensures tree.0.body tree.1.body) (search rules);
    }
