use Rattle.std.proofs.Common.{rules, ◌≡◌, ◌<◌, ◌&&◌, ℕ, List, [], ◌∷◌, Bool, true, false, length, replicate, get_or, ap, subst, ◌∙◌}
use Rattle.rs_model.specs.Data.{Protocol_data}
use Rattle.rs_project.specs.Marks.{IsTrueSurvey, IsSpread, Survey_data}
use Rattle.rs_project.proofs.Cycles.{is_live}
use Rattle.rs_project.proofs.rounds.live_nodes.Goals as goal

pub returns : goal.returns
returns c =
    let reached = c.in_ok-reached.reached.items in
    let live = c.in_ok-live.live.items in
    let every : c.deref.result.now ≡ replicate (length c.args.survey.now.protocol.nodes) true = search rules in
    let passing : c.deref-3.result.now ≡ c.args.survey.now.passing = c.deref-3.ensures.value ∙ ap (λ (z : Survey_data). z.passing) c.survey.view_is in
    let R1 : List Bool → Type 0 = λ z. (n : ℕ) → n < length z → get_or live n false ≡ (get_or z n false && get_or c.deref-3.result.now n false) in
    let R2 : List Bool → Type 0 = λ z. (n : ℕ) → n < length reached → get_or live n false ≡ (get_or reached n false && get_or z n false) in
    let S : ℕ → Type 0 = λ z. IsSpread c.survey.inside.protocol.now c.deref.result.now (z ∷ []) reached in
    let D : Survey_data → Type 0 = λ z. IsSpread z.protocol c.deref.result.now (z.protocol.root ∷ []) reached in
    is_live c.args.survey.now.protocol c.args.survey.now.role c.args.survey.now c.deref.result.now reached live (subst IsTrueSurvey c.survey.view_is c.survey.invariant).survey every
    (subst D c.survey.view_is (subst S (ap (λ (z : Protocol_data). z.root) c.protocol.view_is) c.in_ok-reached.ensures))
    (c.in_ok-live.ensures.size ∙ ap (λ (z : List Bool). length z) c.deref-2.ensures.value)
    (subst R2 passing (subst R1 c.deref-2.ensures.value c.in_ok-live.ensures.each))
