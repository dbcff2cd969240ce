use Rattle.std.proofs.Common.{List, Bool, length, subst, ◌∙◌}
use Rattle.rs_project.specs.Graph.{Involves}
use Rattle.rs_project.specs.Marks.{IsAwaited}
use Rattle.rs_partings.specs.Flags.{AreBut}
use Rattle.rs_partings.proofs.Flags.{but_flags, involved_are}
use Rattle.rs_partings.proofs.Ways.{passing_are}
use Rattle.rs_partings.proofs.surveying.survey_of.Goals as goal

pub awaited_nodes-requires-clause-involved : goal.awaited_nodes-requires-clause-involved
awaited_nodes-requires-clause-involved c = involved_are c.args.protocol.now c.args.role c.deref.result.now (c.deref.ensures.value ∙ c.in_ok-involved.ensures)

pub returns-clause-involved : goal.returns-clause-involved
returns-clause-involved c = involved_are c.args.protocol.now c.args.role c.in_ok-involved.involved.items c.in_ok-involved.ensures

pub returns-clause-passing : goal.returns-clause-passing
returns-clause-passing c =
    let pr = c.args.protocol.now in
    let role = c.args.role in
    let count = length pr.nodes in
    let involved = c.in_ok-involved.involved.items in
    let awaited = c.in_ok-awaited.awaited.items in
    let passing = c.in_ok-passing.passing.items in
    let A : List Bool → Type 0 = λ z. AreBut z c.deref-3.result.now passing in
    let B : List Bool → Type 0 = λ z. AreBut awaited z passing in
    let but = subst B c.deref-3.ensures.value (subst A c.deref-2.ensures.value c.in_ok-passing.ensures) in
    passing_are pr role count awaited passing c.in_ok-awaited.ensures
    (but_flags count (λ n. IsAwaited pr role n) (λ n. Involves pr role n) awaited involved passing c.in_ok-awaited.ensures
    (involved_are pr role involved c.in_ok-involved.ensures) but)
