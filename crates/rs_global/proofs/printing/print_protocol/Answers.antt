use Rattle.std.proofs.Common.{rules}
use Rattle.rs_global.proofs.Canonical.{canonical_is_there}
use Rattle.rs_global.proofs.Places.{spelt}
use Rattle.rs_global.proofs.Printed.{canonical_text}
use Rattle.rs_global.proofs.printing.print_protocol.Goals as goal

pub print_body-requires : goal.print_body-requires
print_body-requires c = spelt c.args.protocol.now c.requires.shaped

pub returns : goal.returns
returns c =
    let tree = canonical_is_there c.args.names.now c.args.protocol.now c.requires.shaped c.requires.enough.roles c.requires.enough.labels in
    record {
      canonical = canonical_text c.args.names.now c.args.protocol.now tree.0 c.push-2.new.self c.in_ok-text.text c.push-3.new.self tree.1 (search rules)
          (c.in_ok-text.ensures tree.0.body tree.1.body) (search rules);
    }
