use Rattle.std.proofs.Common.{◌≡◌, ◌++◌, take}
use Rattle.std.specs.List.{flat_map}
use Rattle.rs_runs.specs.TranscriptTexts.{entry_text}
use Rattle.rs_runs.proofs.transcript_texts.push_entries.Given as goal

abbrev pub invariant-loop-entry : goal.invariant-loop-entry
invariant-loop-entry l = l.text ≡ l.fn.text ++ flat_map (entry_text l.names) (take l.entry-index l.entries)
