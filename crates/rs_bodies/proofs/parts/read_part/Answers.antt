use Rattle.std.proofs.Common.{rules, ◌≡◌, subst}
use Rattle.rs_bodies.specs.Feeding.{start_of_part, feeding}
use Rattle.rs_bodies.proofs.Refusals.{begins_with, left, reads_spelt}
use Rattle.rs_bodies.proofs.parts.read_part.Goals as goal
use Rattle.rs_text.proofs.Keeping.{told_within, refused}
use Rattle.rs_bodies.proofs.OneFault.{judges, begins}
use Rattle.rs_bodies.proofs.Placing.{stays_below}
use Rattle.rs_text.specs.Readings.{StopsBy}

pub returns-in-Ok-clause-ok : goal.returns-in-Ok-clause-ok
returns-in-Ok-clause-ok c =
    let first : c.new-reader.result ≡ start_of_part c.args.dialect c.args.names.now
    = begins_with c.args.dialect c.new-reader.result c.args.names.now _ _ c.new-reader.ensures (search rules) (search rules) in
    record {
      spells = reads_spelt c.args.dialect c.args.names.now _ c.args.bytes.now c.args.at c.new-reader.result _ c.in-Ok.read.1 c.in-Ok.read.0 first c.requires.at c.in-Ok.ensures.ok.reads
          (search rules) c.in-Ok.ensures.spelling.0;
      bounded = c.in-Ok.ensures.spelling.1;
      within = c.in-Ok.ensures.ok.within;
    }

pub returns-clause-err : goal.returns-clause-err
returns-clause-err c =
    let first : c.new-reader.result ≡ start_of_part c.args.dialect c.args.names.now
    = begins_with c.args.dialect c.new-reader.result c.args.names.now _ _ c.new-reader.ensures (search rules) (search rules) in
    record {
      fault = refused (judges c.args.dialect c.args.names.now) (start_of_part c.args.dialect c.args.names.now)
          (begins c.args.dialect c.args.names.now) c.in-Err.stop c.args.bytes.now c.args.at c.into_fault.result c.into_fault.ensures c.requires.at
          (subst (λ z. StopsBy (feeding c.args.dialect) c.in-Err.stop z c.args.bytes.now c.args.at) first c.in-Err.ensures.err.stops);
      within = told_within (feeding c.args.dialect)
          (stays_below c.args.dialect) c.in-Err.stop c.new-reader.result c.args.bytes.now c.args.at c.into_fault.result c.into_fault.ensures c.requires.at c.in-Err.ensures.err.stops;
    }

pub returns-clause-left : goal.returns-clause-left
returns-clause-left c =
    let first : c.new-reader.result ≡ start_of_part c.args.dialect c.args.names.now
    = begins_with c.args.dialect c.new-reader.result c.args.names.now _ _ c.new-reader.ensures (search rules) (search rules) in
    left c.args.dialect c.in-Err.stop c.args.names.now _ c.new-reader.result c.read_with-result.new.part.reader c.args.bytes.now c.args.at c.into_fault.result c.into_fault.ensures first c.requires.at
    c.in-Err.ensures.err.stops c.in-Err.ensures.err.leaves (search rules)
    c.requires.first c.in-Err.ensures.kept
