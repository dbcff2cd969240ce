use Rattle.std.proofs.Common.{◌≡◌, ◌++◌, ◌∙◌, ℕ, List, codes, ap, length}
use Rattle.std.specs.Fmt.{decimal}
use Rattle.std.proofs.lemmas.Result.{on_ok_weaker}
use Rattle.rs_model.specs.Data.{Machine_data}
use Rattle.rs_model.specs.declared.machines.Act.{Act}
use Rattle.rs_model.specs.declared.machines.State.{State}
use Rattle.rs_walk_texts.specs.Heads.{acts_text, placed_head_text}
use Rattle.rs_reasons.specs.Ahead.{Standing_data}
use Rattle.rs_reasons.proofs.Joins.{six}
use Rattle.rs_reasons.proofs.accepted.push_standing.Goals as goal

pub returns : goal.returns
returns c =
    let names = c.args.names.now in
    let s = c.args.standing.now in
    let owed : c.as_slice-owed.result.now ≡ s.owed = c.as_slice-owed.ensures ∙ ap (λ (x : Standing_data). x.owed) c.standing.view_is in
    let states : c.as_slice.result.now ≡ c.args.machine.now.states = c.as_slice.ensures.value ∙ ap (λ (x : Machine_data). x.states) c.machine.view_is in
    let state : c.standing.inside.state ≡ s.state = ap (λ (x : Standing_data). x.state) c.standing.view_is in
    let head : List State → ℕ → List ℕ = λ (x : List State) (n : ℕ). placed_head_text names x c.args.places.now n in
    on_ok_weaker c.push_acts.result
    (λ e.
    six c.args.text.now c.push.new.self c.push_number.new.self c.push-2.new.self c.push_placed_head.new.text c.push-3.new.self c.push_acts.new.text (codes " is ahead by ")
    (decimal (length s.owed)) (codes ": at ") (head c.args.machine.now.states s.state) (codes " it still owes ") (acts_text names s.owed) c.in_ok-push.ensures.ok
    (c.in_ok-push_number.ensures.ok ∙ ap (λ (x : List Act). c.push.new.self ++ decimal (length x)) owed) c.in_ok-push-2.ensures.ok
    (c.in_ok-push_placed_head.ensures ∙ ap (λ (x : List State). c.push-2.new.self ++ head x c.standing.inside.state) states
    ∙ ap (λ (n : ℕ). c.push-2.new.self ++ head c.args.machine.now.states n) state) c.in_ok-push-3.ensures.ok
    (e ∙ ap (λ (x : List Act). c.push-3.new.self ++ acts_text names x) owed)) c.push_acts.ensures
