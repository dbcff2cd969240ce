use Rattle.std.proofs.Common.{◌≡◌, ◌++◌, ◌∙◌, ℕ, List, codes, ap, slice_get}
use Rattle.std.proofs.lemmas.Result.{on_ok_weaker}
use Rattle.rs_model.specs.Data.{Protocol_data}
use Rattle.rs_model.specs.declared.graph.Node.{Node}
use Rattle.rs_walk_texts.specs.Heads.{placed_talk_text}
use Rattle.rs_reasons.specs.Unprojectable.{label_at}
use Rattle.rs_reasons.proofs.Joins.{seven}
use Rattle.rs_reasons.proofs.unprojectable.push_parting.Goals as goal

pub returns : goal.returns
returns c =
    let p = c.args.parting in
    let names = c.args.names.now in
    let nodes : c.as_slice-nodes.result.now ≡ c.args.protocol.now.nodes = c.as_slice-nodes.ensures.value ∙ ap (λ (x : Protocol_data). x.nodes) c.protocol.view_is in
    let talk : List Node → List ℕ = λ (x : List Node). placed_talk_text names x c.args.talks.now p.talk in
    let label : ℕ → List Node → List ℕ = λ (place : ℕ) (x : List Node). label_at names (slice_get x p.talk) place in
    on_ok_weaker c.push-4.result
    (λ e.
    seven c.args.text.now c.push.new.self c.push_placed_talk.new.text c.push-2.new.self c.push_label_at.new.text c.push-3.new.self c.push_label_at-2.new.text c.push-4.new.self
    (codes "they part at ") (talk c.args.protocol.now.nodes) (codes ", by ") (label p.one c.args.protocol.now.nodes) (codes " and ") (label p.other c.args.protocol.now.nodes) (codes "\n")
    c.in_ok-push.ensures.ok (c.in_ok-push_placed_talk.ensures ∙ ap (λ (x : List Node). c.push.new.self ++ talk x) nodes) c.in_ok-push-2.ensures.ok
    (c.in_ok-push_label_at.ensures ∙ ap (λ (x : List Node). c.push-2.new.self ++ label p.one x) nodes) c.in_ok-push-3.ensures.ok
    (c.in_ok-push_label_at-2.ensures ∙ ap (λ (x : List Node). c.push-3.new.self ++ label p.other x) nodes) e) c.push-4.ensures.ok
