use Rattle.std.proofs.Common.{Bool, List, ap, length, subst, sym, ◌∙◌}
use Rattle.std.proofs.lemmas.Result.{IfOk-weaker}
use Rattle.rs_project.specs.Graph.{PassesBy}
use Rattle.rs_partings.specs.Flags.{AreFlags, IsMemberNode, ReachesThrough}
use Rattle.rs_partings.specs.Partings.{MeetsMember}
use Rattle.rs_partings.proofs.Ways.{meeting_are}
use Rattle.rs_partings.proofs.partings.meeting.Goals as goal

pub reaching_through-requires-clause-targets : goal.reaching_through-requires-clause-targets
reaching_through-requires-clause-targets c =
    let are = c.in_ok-targets.ensures c.args.protocol.now c.args.role (length c.args.protocol.now.nodes) c.requires.involved c.requires.awaited in
    ap (λ (z : List Bool). length z) c.deref-2.ensures.value ∙ are.size

pub returns : goal.returns
returns c =
    let pr = c.args.protocol.now in
    let role = c.args.role in
    let count = length pr.nodes in
    let passing = c.deref.result.now in
    let targets = c.deref-2.result.now in
    let P : List Bool → Type 0 = λ z. AreFlags count (λ n. PassesBy pr role n) z in
    let M : List Bool → Type 0 = λ z. AreFlags count (λ n. IsMemberNode pr role c.args.member n) z in
    let are = c.in_ok-targets.ensures pr role count c.requires.involved c.requires.awaited in
    IfOk-weaker c.reaching_through.result (λ v. AreFlags count (λ n. ReachesThrough pr passing targets n) v.items)
    (λ v. AreFlags count (λ n. MeetsMember pr role n c.args.member) v.items)
    (λ v is. meeting_are pr role c.args.member passing targets v.items c.requires.well_formed (subst P (sym c.deref.ensures.value) c.requires.passing)
    (subst M (sym c.deref-2.ensures.value) are) is) c.reaching_through.ensures
