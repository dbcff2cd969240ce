use Rattle.std.proofs.Common.{◌≡◌, ◌++◌, take}
use Rattle.std.specs.List.{flat_map}
use Rattle.rs_runs.specs.TranscriptTexts.{hex_text}
use Rattle.rs_runs.proofs.transcript_texts.push_octets.Given as goal

abbrev pub invariant-loop-octet : goal.invariant-loop-octet
invariant-loop-octet l = l.text ≡ l.fn.text ++ flat_map hex_text (take l.octet-index l.octets)
