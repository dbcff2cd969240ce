use Rattle.std.proofs.Common.{Bool, List, Some, ap, length, subst, sym, ◌∙◌}
use Rattle.rs_project.specs.Graph.{Involves, IsReached}
use Rattle.rs_partings.specs.Flags.{AreFlags}
use Rattle.rs_partings.specs.Partings.{MeetsMember}
use Rattle.rs_partings.proofs.Places.{is_first}
use Rattle.rs_partings.proofs.partings.parting.Goals as goal

pub first_parting-requires-clause-here : goal.first_parting-requires-clause-here
first_parting-requires-clause-here c =
    let I : List Bool → Type 0 = λ z. AreFlags (length c.args.protocol.now.nodes) (λ n. Involves c.args.protocol.now c.args.role n) z in
    let are = c.in_ok-here.ensures c.args.role (subst I (sym c.deref.ensures.value) c.in_ok-survey.ensures.involved) in
    ap (λ (z : List Bool). length z) c.deref-2.ensures.value ∙ are.size

pub returns : goal.returns
returns c =
    let pr = c.args.protocol.now in
    let role = c.args.role in
    let count = length pr.nodes in
    let I : List Bool → Type 0 = λ z. AreFlags count (λ n. Involves pr role n) z in
    let H : List Bool → Type 0 = λ z. AreFlags count (λ n. IsReached pr n × (Involves pr role n → ⊥)) z in
    let A : List Bool → Type 0 = λ z. AreFlags count (λ n. MeetsMember pr role n (Some c.args.a)) z in
    let B : List Bool → Type 0 = λ z. AreFlags count (λ n. MeetsMember pr role n c.args.b) z in
    let are = c.in_ok-here.ensures role (subst I (sym c.deref.ensures.value) c.in_ok-survey.ensures.involved) in
    is_first pr role c.args.a c.args.b c.deref-2.result.now c.deref-3.result.now c.deref-4.result.now c.first_parting.result c.requires.well_formed
    (subst H (sym c.deref-2.ensures.value) are) (subst A (sym c.deref-3.ensures.value) c.in_ok-ones.ensures) (subst B (sym c.deref-4.ensures.value) c.in_ok-others.ensures)
    c.first_parting.ensures
