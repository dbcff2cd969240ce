use Rattle.std.proofs.Common.{◌≡◌, length, map, take}
use Rattle.rs_run_pictures.proofs.scenes.counts_of.Given as goal

abbrev pub invariant-loop-list : goal.invariant-loop-list
invariant-loop-list l = l.counts.items ≡ map (λ list. length list) (take l.list-index l.acts)
