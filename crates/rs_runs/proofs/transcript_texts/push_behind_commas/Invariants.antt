use Rattle.std.proofs.Common.{◌≡◌, ◌++◌, take}
use Rattle.std.specs.List.{flat_map}
use Rattle.rs_runs.specs.TranscriptTexts.{number_behind}
use Rattle.rs_runs.proofs.transcript_texts.push_behind_commas.Given as goal

abbrev pub invariant-loop-number : goal.invariant-loop-number
invariant-loop-number l = l.text ≡ l.fn.text ++ flat_map number_behind (take l.number-index l.numbers)
