use Rattle.std.proofs.Common.{Bool, List, length, subst, ℕ}
use Rattle.rs_explain.proofs.Mending.{cut_helped}
use Rattle.rs_explain.specs.Helping.{is_on_twice}
use Rattle.rs_explain.specs.OnWay.{AreFlags}
use Rattle.rs_explain.proofs.helping.helped_cuts.Goals as goal

pub returns : goal.returns
returns c =
    cut_helped c.args.sub.now c.args.above.now c.args.bound c.args.greater c.args.found.now.table.spots c.args.helped.now c.in_ok-meets.meets.items c.in_ok-ends.ends.items c.requires.helped c.in_ok-meets.ensures
    (subst (λ (z : List Bool). AreFlags (λ (n : ℕ). is_on_twice c.args.helped.now z n) (length c.args.helped.now) c.in_ok-ends.ends.items) c.as_slice.ensures.value c.in_ok-ends.ensures)
