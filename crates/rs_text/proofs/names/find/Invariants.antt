use Rattle.std.proofs.Common.{◌≡◌, drop}
use Rattle.rs_text.specs.Names.{place_from}
use Rattle.rs_text.proofs.names.find.Given as goal

abbrev pub invariant-loop-place : goal.invariant-loop-place
invariant-loop-place l = place_from l.place l.word (drop l.place l.names) ≡ place_from 0 l.word l.names
