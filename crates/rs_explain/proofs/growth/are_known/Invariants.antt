use Rattle.std.proofs.Common.{◌≡◌, drop}
use Rattle.std.specs.List.{list_all}
use Rattle.rs_explain.specs.Growth.{is_known}
use Rattle.rs_explain.proofs.growth.are_known.Given as goal

abbrev pub invariant-loop-act : goal.invariant-loop-act
invariant-loop-act l = list_all (is_known l.needed l.acts) (drop l.act-index l.pending) ≡ list_all (is_known l.needed l.acts) l.pending
