use Rattle.std.proofs.Common.{◌≡◌, false, not, get_or, drop}
use Rattle.std.specs.List.{list_any}
use Rattle.rs_project.proofs.fronts.has_unflagged.Given as goal

abbrev pub invariant-loop-number : goal.invariant-loop-number
invariant-loop-number l = list_any (λ n. not (get_or l.flags n false)) (drop l.number-index l.numbers) ≡ list_any (λ n. not (get_or l.flags n false)) l.numbers
