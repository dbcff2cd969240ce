use Rattle.std.proofs.Common.{◌≡◌, false, drop}
use Rattle.rs_words.specs.Words.{bytes_of_words}
use Rattle.rs_words.specs.Clap as spec
use Rattle.rs_words.proofs.dashes.dashes_are_allowed.Given as goal

abbrev pub invariant-loop-word : goal.invariant-loop-word
invariant-loop-word l = spec.dashes_are_allowed (bytes_of_words (drop l.word-index l.words)) l.behind ≡ spec.dashes_are_allowed (bytes_of_words l.words) false
