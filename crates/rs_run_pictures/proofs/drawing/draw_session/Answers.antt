use Rattle.std.proofs.Common.{ℕ, List, Some, map, sym, ap, subst, ◌∙◌}
use Rattle.rs_model.specs.Data.{Machine_data}
use Rattle.rs_core.specs.Draws.{by_draws}
use Rattle.rs_core.specs.Runs.{HasPlayed}
use Rattle.rs_core.specs.declared.players.Player.{Player}
use Rattle.rs_answers.specs.declared.verdicts.Verdict.{Verdict}
use Rattle.rs_run_pictures.specs.Draws.{DrawsPlain}
use Rattle.rs_run_pictures.specs.Lines.{run_picture}
use Rattle.rs_run_pictures.proofs.Drawn.{drawn_plain}
use Rattle.rs_run_pictures.proofs.drawing.draw_session.Goals as goal

pub returns : goal.returns
returns c = λ given here.
    let e = c.in_ok-played.played.end in
    let played = subst (λ (z : List Machine_data). HasPlayed by_draws z c.args.limit (Some c.args.capacity) c.args.actors.items c.play.new.queues.core e c.in_ok-played.played.players.items)
    (c.in_ok-core.ensures.machines ∙ c.in_ok-copies_of.ensures) c.in_ok-played.ensures.played in
    let text = c.in_ok-run_picture.ensures
    ∙ ap (λ (z : List (Player ℕ)). run_picture c.args.names.now c.args.machines.now c.args.capacity (map (λ (x : Player ℕ). x.transcript) z) e) c.deref.ensures.value in
    subst (λ (v : Verdict). DrawsPlain c.args.names.now c.args.machines.now given c.args.limit c.args.capacity (record { text = c.in_ok-run_picture.field-0; verdict = v })) (sym c.verdict_of.ensures)
    (drawn_plain c.args.names.now c.args.machines.now c.args.limit c.args.capacity c.args.actors.items c.play.new.queues.core e c.in_ok-played.played.players.items c.in_ok-run_picture.field-0 played
    text given here)
