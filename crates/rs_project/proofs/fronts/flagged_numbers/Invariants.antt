use Rattle.std.proofs.Common.{◌≡◌, false, get_or, take}
use Rattle.std.specs.List.{filter}
use Rattle.rs_project.proofs.fronts.flagged_numbers.Given as goal

abbrev pub invariant-loop-number : goal.invariant-loop-number
invariant-loop-number l = l.those.items ≡ filter (λ n. get_or l.flags n false) (take l.number-index l.numbers)
