-- Stages of which each is its role's first are stages of their session.
use Rattle.std.proofs.Common.{◌<◌, length, List, Some, slice_get, sym, ◌∙◌, subst, arith}
use Rattle.std.proofs.lemmas.Option.{slice_get_within}
use Rattle.rs_rings.specs.Passes.{Rings_data}
use Rattle.rs_session.specs.Ends.{AreOf}
use Rattle.rs_session.specs.Stages.{AreFirst, IsOf}
use Rattle.rs_session.specs.declared.stages.Stage.{Stage}

pub are_of : (session : Rings_data) (stages : List Stage) → AreFirst session stages → AreOf session stages
are_of session stages first place stage is =
    let within : place < length stages = slice_get_within stages place stage is in
    let at = first.each place (omega (arith, within, first.count)) in
    subst (IsOf session) (cc (sym at.1 ∙ is)) at.2
