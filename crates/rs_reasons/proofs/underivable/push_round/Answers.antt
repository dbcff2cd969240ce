use Rattle.std.proofs.Common.{◌≡◌, ◌++◌, ◌∙◌, ℕ, List, Option, codes, slice_get, ap, ap₂}
use Rattle.std.proofs.lemmas.Result.{on_ok_weaker}
use Rattle.rs_derive.specs.Moves.{Spot}
use Rattle.rs_explain.specs.Forgetting.{Forgetting_data}
use Rattle.rs_explain.specs.Walks.{WalkStep_data}
use Rattle.rs_model.specs.Data.{Machine_data, Names_data}
use Rattle.rs_model.specs.declared.machines.Act.{Act}
use Rattle.rs_text.specs.NamePlaces.{name_at}
use Rattle.rs_walk_texts.specs.Data.{WalkSource_data}
use Rattle.rs_walk_texts.specs.Dues.{act_dues}
use Rattle.rs_walk_texts.specs.Heads.{owed_line}
use Rattle.rs_walk_texts.specs.Walks.{steps_text}
use Rattle.rs_reasons.specs.Underivable.{never_line}
use Rattle.rs_reasons.proofs.Joins.{six}
use Rattle.rs_reasons.proofs.underivable.push_round.Goals as goal

pub returns : goal.returns
returns c =
    let s = c.args.source.now in
    let f = c.args.forgetting.now in
    let names : c.source.inside.names.now ≡ s.names = ap (λ (x : WalkSource_data). x.names) c.source.view_is in
    let roles : c.as_slice.result.now ≡ s.names.roles =
    c.as_slice.ensures.value ∙ ap (λ (x : Names_data). x.roles) c.names.view_is ∙ ap (λ (x : WalkSource_data). x.names.roles) c.source.view_is in
    let role : c.from.result ≡ s.machine.role.0 =
    c.from.ensures ∙ ap (λ (x : Machine_data). x.role.0) c.machine.view_is ∙ ap (λ (x : WalkSource_data). x.machine.role.0) c.source.view_is in
    let spot = ap (λ (x : Forgetting_data). x.spot) c.forgetting.view_is in
    let steps : c.as_slice-2.result.now ≡ f.steps = c.as_slice-2.ensures.value ∙ ap (λ (x : Forgetting_data). x.steps) c.forgetting.view_is in
    let owed : c.as_slice-3.result.now ≡ f.spot.pending = c.as_slice-3.ensures ∙ ap (λ (x : Forgetting_data). x.spot.pending) c.forgetting.view_is in
    let still : c.as_slice-4.result.now ≡ f.spot.pending = c.as_slice-4.ensures ∙ ap (λ (x : Forgetting_data). x.spot.pending) c.forgetting.view_is in
    let again : c.as_slice-5.result.now ≡ f.spot.pending = c.as_slice-5.ensures ∙ ap (λ (x : Forgetting_data). x.spot.pending) c.forgetting.view_is in
    let act : c.oldest.result ≡ slice_get f.spot.pending 0 = c.oldest.ensures ∙ ap (λ (x : List Act). slice_get x 0) again in
    on_ok_weaker c.push_dues.result
    (λ e.
    six c.args.text.now c.push_name.new.text c.push.new.self c.push_steps.new.text c.push_owed_line.new.text c.push_never.new.text c.push_dues.new.text (name_at s.names.roles s.machine.role.0)
    (codes ", round and round:\n") (steps_text s f.spot f.steps) (owed_line s.names f.spot.pending) (never_line s.names f.spot.pending) (act_dues s (slice_get f.spot.pending 0))
    (c.in_ok-push_name.ensures ∙ ap₂ (λ (x : List (List ℕ)) (n : ℕ). c.args.text.now ++ name_at x n) roles role) c.in_ok-push.ensures.ok
    (c.in_ok-push_steps.ensures ∙ ap₂ (λ (x : Spot) (y : List WalkStep_data). c.push.new.self ++ steps_text s x y) spot steps)
    (c.in_ok-push_owed_line.ensures ∙ ap₂ (λ (x : Names_data) (y : List Act). c.push_steps.new.text ++ owed_line x y) names owed)
    (c.in_ok-push_never.ensures ∙ ap₂ (λ (x : Names_data) (y : List Act). c.push_owed_line.new.text ++ never_line x y) names still)
    (e ∙ ap (λ (z : Option Act). c.push_never.new.text ++ act_dues s z) act)) c.push_dues.ensures
