use Rattle.std.proofs.Common.{rules}
use Rattle.std.proofs.lemmas.Slice.Eq.{slice_eq-Decides}
use Rattle.rs_model.proofs.graph.Arms.same.Goals as goal

pub returns : goal.returns
returns c =
    rw (← c.as_slice.ensures, ← c.as_slice-2.ensures)
    (slice_eq-Decides (λ a b. search rules) c.as_slice.result.now c.as_slice-2.result.now c.eq.result c.eq.ensures)
