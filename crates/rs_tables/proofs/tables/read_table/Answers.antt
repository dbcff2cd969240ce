use Rattle.std.proofs.Common.{rules, ◌≡◌, subst}
use Rattle.rs_text.specs.Readings.{StopsBy}
use Rattle.rs_text.proofs.Keeping.{refused, told_within}
use Rattle.rs_tables.specs.Feeding.{start_of_table, feeding}
use Rattle.rs_tables.proofs.Judged.{judges, begins}
use Rattle.rs_tables.proofs.Placing.{stays_below}
use Rattle.rs_tables.proofs.Sounding.{keeps_behind, sound_behind}
use Rattle.rs_tables.proofs.Leaving.{leaves}
use Rattle.rs_tables.proofs.Spelt.{begins_with, reads_spelt, spelt_bounded}
use Rattle.rs_tables.proofs.tables.read_table.Goals as goal

pub returns-in-Ok-clause-ok : goal.returns-in-Ok-clause-ok
returns-in-Ok-clause-ok c =
    let first : c.new-reader.result ≡ start_of_table c.args.names.now = begins_with c.new-reader.result c.args.names.now _ _ c.new-reader.ensures (search rules) (search rules) in
    let spells = reads_spelt c.args.names.now _ c.args.bytes.now c.args.at c.new-reader.result _ c.in-Ok.until _ first c.requires.at c.requires.names.labels c.in-Ok.ensures.ok
    (search rules) (keeps_behind c.new-reader.result c.args.bytes.now c.args.at _ (search rules) c.in-Ok.ensures.names)
    (search rules) (search rules) in
    record { spells = spells; bounded = spelt_bounded c.args.names.now _ c.args.bytes.now c.args.at c.in-Ok.until _ spells; within = c.in-Ok.ensures.within }

pub returns-clause-err : goal.returns-clause-err
returns-clause-err c =
    let first : c.new-reader.result ≡ start_of_table c.args.names.now = begins_with c.new-reader.result c.args.names.now _ _ c.new-reader.ensures (search rules) (search rules) in
    record {
      fault = refused (judges c.args.names.now) (start_of_table c.args.names.now)
          (begins c.args.names.now c.requires.names.labels) c.in-Err.stop c.args.bytes.now c.args.at c.into_fault.result c.into_fault.ensures c.requires.at
          (subst (λ z. StopsBy feeding c.in-Err.stop z c.args.bytes.now c.args.at) first c.in-Err.ensures.err);
      within = told_within feeding stays_below c.in-Err.stop c.new-reader.result c.args.bytes.now c.args.at c.into_fault.result c.into_fault.ensures c.requires.at c.in-Err.ensures.err;
    }

pub returns-in-Ok-clause-names : goal.returns-in-Ok-clause-names
returns-in-Ok-clause-names c =
    let sound = sound_behind c.new-reader.result c.args.bytes.now c.args.at _ (search rules) c.in-Ok.ensures.names in
    search (sound, rules)

pub returns-in-Ok-clause-kept : goal.returns-in-Ok-clause-kept
returns-in-Ok-clause-kept c =
    let kept = keeps_behind c.new-reader.result c.args.bytes.now c.args.at _ (search rules) c.in-Ok.ensures.names in
    search (kept, rules)

pub returns-clause-names : goal.returns-clause-names
returns-clause-names c =
    let sound = sound_behind c.new-reader.result c.args.bytes.now c.args.at _ (search rules) c.in-Err.ensures.names in
    search (sound, rules)

pub returns-clause-kept : goal.returns-clause-kept
returns-clause-kept c =
    let kept = keeps_behind c.new-reader.result c.args.bytes.now c.args.at _ (search rules) c.in-Err.ensures.names in
    search (kept, rules)

pub returns-clause-left : goal.returns-clause-left
returns-clause-left c =
    let first : c.new-reader.result ≡ start_of_table c.args.names.now = begins_with c.new-reader.result c.args.names.now _ _ c.new-reader.ensures (search rules) (search rules) in
    leaves c.in-Err.stop c.args.names.now _ _ c.new-reader.result c.args.bytes.now c.args.at c.into_fault.result c.into_fault.ensures first c.requires.names.labels c.requires.at
    c.in-Err.ensures.err c.in-Err.ensures.left c.in-Err.ensures.names (search rules) (search rules)
