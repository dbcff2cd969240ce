-- Public: the earliest pending act, as the code looks for it.
use Rattle.std.specs.Prelude.{ℕ, ◌+◌, List, [], ◌∷◌, if◌then◌else◌}
use Rattle.rs_model.specs.declared.graph.Role.{Role}
use Rattle.rs_model.specs.declared.machines.Act.{Act}
use Rattle.rs_prefix.specs.Earliest.{has, may_overtake}
use Rattle.rs_prefix.specs.declared.earliest.Found.{Found}
use Rattle.rs_prefix.specs.declared.earliest.Found.TheVariants.{At, Blocked, Absent}
use Rattle.rs_prefix.specs.declared.earliest.ActKind.{ActKind}

-- among the acts from the place on
abbrev pub earliest_from : List Act → ActKind → Role → ℕ → Found
earliest_from [] kind q place = Absent
earliest_from (a ∷ later) kind q place =
    if has kind q a then At place else (if may_overtake kind q a then earliest_from later kind q (place + 1) else Blocked place)

-- among all pending acts
abbrev pub earliest : List Act → ActKind → Role → Found
earliest pending kind q = earliest_from pending kind q 0
