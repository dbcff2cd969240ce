use Rattle.std.proofs.Common.{rules}
use Rattle.rs_global.proofs.Spelt.{spells}
use Rattle.rs_global.proofs.protocols.read_protocol.Goals as goal

pub returns-in-Ok-clause-ok : goal.returns-in-Ok-clause-ok
returns-in-Ok-clause-ok c =
    record {
      spells = spells c.args.bytes.now c.args.at _ c.read_part.new.names c.in_ok-spelling.spelling _ c.in-Ok.protocol c.in_ok-spelling.until (search rules) c.in_ok-spelling.ensures.ok.spells
          (search rules) c.in-Ok.ensures.protocol;
      bounded = search rules;
      within = c.in_ok-spelling.ensures.ok.within;
    }
