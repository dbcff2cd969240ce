use Rattle.std.proofs.Common.{ℕ, ◌<◌, ◌≤◌, List, Bool, MatchOption, length, sym, subst}
use Rattle.std.proofs.lemmas.Result.{IfOk-weaker}
use Rattle.rs_graph.specs.Ranks.{Edge}
use Rattle.rs_graph.specs.Walks.{IsLeastOnCycle, IsOnCycle}
use Rattle.rs_project.specs.Graph.{IsUnreached}
use Rattle.rs_project.specs.Marks.{AreRows, IsTrueSurvey, Survey_data}
use Rattle.rs_project.specs.Refusals.{NoneUnreached}
use Rattle.rs_project.proofs.Rows.{edges_within, least_unreached}
use Rattle.rs_project.proofs.rounds.first_unreached.Goals as goal

pub least_on_cycle-requires-clause-within : goal.least_on_cycle-requires-clause-within
least_on_cycle-requires-clause-within c =
    let live = c.in_ok-live.live.items in
    let rows = c.in_ok-rows.rows.items in
    let D : Survey_data → Type 0 = λ z. AreRows z.protocol live (length z.protocol.nodes) rows in
    let F : List Bool → Type 0 = λ z. AreRows c.survey.inside.protocol.now z (length c.survey.inside.protocol.now.nodes) rows in
    let are = subst D c.survey.view_is (subst F c.deref.ensures.value c.in_ok-rows.ensures) in
    let W : List (List ℕ) → Type 0 = λ z. (x y : ℕ) → Edge z x y → y < length z in
    subst W (sym c.deref-2.ensures.value) (edges_within c.args.survey.now.protocol live rows (subst IsTrueSurvey c.survey.view_is c.survey.invariant).well_formed are)

pub returns-then-is_none : goal.returns-then-is_none
returns-then-is_none c = c.requires.none c.if-is_none.true

pub returns : goal.returns
returns c =
    let live = c.in_ok-live.live.items in
    let rows = c.in_ok-rows.rows.items in
    let D : Survey_data → Type 0 = λ z. AreRows z.protocol live (length z.protocol.nodes) rows in
    let F : List Bool → Type 0 = λ z. AreRows c.survey.inside.protocol.now z (length c.survey.inside.protocol.now.nodes) rows in
    let G : List (List ℕ) → Type 0 = λ z. AreRows c.args.survey.now.protocol live (length c.args.survey.now.protocol.nodes) z in
    let are = subst G (sym c.deref-2.ensures.value) (subst D c.survey.view_is (subst F c.deref.ensures.value c.in_ok-rows.ensures)) in
    IfOk-weaker c.least_on_cycle.result (λ o. MatchOption o ((k : ℕ) → IsOnCycle (Edge c.deref-2.result.now) k → ⊥) (λ v. IsLeastOnCycle (Edge c.deref-2.result.now) v))
    (λ o. MatchOption o (NoneUnreached c.args.survey.now.protocol c.args.survey.now.role)
    (λ node. IsUnreached c.args.survey.now.protocol c.args.survey.now.role node × ((n : ℕ) → IsUnreached c.args.survey.now.protocol c.args.survey.now.role n → node ≤ n)))
    (λ o is. least_unreached c.args.survey.now.protocol c.args.survey.now.role live c.deref-2.result.now c.in_ok-live.ensures are o is) c.least_on_cycle.ensures
