use Rattle.std.proofs.Common.{ℕ, List, ap, subst, ◌∙◌}
use Rattle.std.specs.Prelude.{IfOk}
use Rattle.rs_model.specs.Data.{Machine_data}
use Rattle.rs_core.specs.Runs.{IsGiven}
use Rattle.rs_runs.specs.Runs.{capacity_of}
use Rattle.rs_run_pictures.specs.Draws.{DrawsPlain}
use Rattle.rs_run_pictures.proofs.Drawn.{drawn_refusal, drawn_session}
use Rattle.rs_run_pictures.proofs.drawing.draw_run.Goals as goal

pub returns-in-Err : goal.returns-in-Err
returns-in-Err c = drawn_refusal c.args.options c.args.document c.in-Err.refused c.answer.result c.in-Err.ensures.refused c.answer.ensures.answer c.answer.ensures.memory

pub returns : goal.returns
returns c =
    let drawn = subst (λ (ms : List Machine_data). IfOk c.draw_session.result (λ a. (given : ℕ → ℕ) → IsGiven given c.in_ok-actors.actors.items
    → DrawsPlain c.in-Ok.accepted.names ms given c.args.options.limit c.messages.result a)) c.machines-machines.ensures.machines c.draw_session.ensures in
    drawn_session c.args.options c.args.document c.in-Ok.accepted c.messages.result c.in_ok-actors.actors.items c.draw_session.result c.in-Ok.ensures.accepted
    (c.messages.ensures.messages ∙ c.capacity_of-capacity.ensures ∙ ap (capacity_of c.args.options.ring) c.room.ensures) c.in_ok-actors.ensures.each drawn
