-- Steps: the reader of a part, which knows its dialect.
use Rattle.std.specs.Prelude.{Result, Ok, Err}
use Rattle.rs_model.specs.Data.{Names_data}
use Rattle.rs_text.specs.declared.faults.TextFault.{TextFault}
use Rattle.rs_text.specs.Readings.{Automaton}
use Rattle.rs_bodies.specs.declared.dialects.Dialect.{Dialect}
use Rattle.rs_bodies.specs.declared.parts.PartReader.{PartReader}
use Rattle.rs_bodies.specs.Drafts.{names_read}
use Rattle.rs_bodies.specs.Feeding.{Fed, feed_of, is_read}

-- the reader behind a token is one of the same dialect
abbrev pub in_dialect : Dialect → Fed → Result PartReader TextFault
in_dialect d (Err e) = Err e
in_dialect d (Ok r) = Ok (record { dialect = d; reader = r })

-- the reader of a part, in its dialect
abbrev pub feeding_part : Automaton PartReader
feeding_part = record { feed = λ t at next p. in_dialect p.dialect (feed_of p.dialect t at next p.reader); is_read = λ p. is_read p.reader }

-- its names
abbrev pub names_of_part : PartReader → Names_data
names_of_part p = names_read p.reader
