use Rattle.std.proofs.Common.{ℕ, List, Some, length, subst}
use Rattle.rs_model.specs.Data.{Machine_data}
use Rattle.rs_core.specs.Plain.{Ending, IsPlain}
use Rattle.rs_core.specs.Runs.{EndingShows, FaultShows, FaultTells, HasPlayed, IsGiven, RunShows}
use Rattle.rs_core.specs.declared.runs.Run.{Run}
use Rattle.rs_core.specs.declared.runs.RunFault.{RunFault}
use Rattle.rs_core.proofs.Shown.{on_err, on_ok, show_fault, show_plain}
use Rattle.rs_core.proofs.runs.run_bounded.Goals as goal

pub returns-clause-plain : goal.returns-clause-plain
returns-clause-plain g c =
    let H : List Machine_data → Type 0 = λ z. HasPlayed g.A.Actor.behaviour z c.args.limit (Some c.args.capacity)
    c.args.actors.items c.play.new.queues.core c.in_ok-played.played.end c.in_ok-played.played.players.items in
    let h = subst H c.in_ok-begin.ensures.machines c.in_ok-played.ensures.played in
    on_ok (λ (r : Run g.row.A.Denot). RunShows c.in_ok-played.played.end c.in_ok-played.played.players.items r.outcome r.actors.items)
    (λ (r : Run g.row.A.Denot). (given : ℕ → g.row.A.Denot) → IsGiven given c.args.actors.items
    → (o : Ending g.row.A.Denot) × IsPlain c.args.machines.items g.A.Actor.behaviour given c.args.limit (Some c.args.capacity) o
    × EndingShows (length c.args.machines.items) o r.outcome r.actors.items)
    (λ r shows. show_plain g.A.Actor.behaviour c.args.machines.items c.args.limit (Some c.args.capacity)
    c.args.actors.items c.play.new.queues.core c.in_ok-played.played.end c.in_ok-played.played.players.items r.outcome r.actors.items h shows)
    c.run_of.result c.run_of.ensures.run

pub returns-clause-full : goal.returns-clause-full
returns-clause-full g c =
    let H : List Machine_data → Type 0 = λ z. HasPlayed g.A.Actor.behaviour z c.args.limit (Some c.args.capacity)
    c.args.actors.items c.play.new.queues.core c.in_ok-played.played.end c.in_ok-played.played.players.items in
    let h = subst H c.in_ok-begin.ensures.machines c.in_ok-played.ensures.played in
    on_err (λ (e : RunFault). FaultShows c.in_ok-played.played.end c.in_ok-played.played.players.items e)
    (λ (e : RunFault). (given : ℕ → g.row.A.Denot) → IsGiven given c.args.actors.items → FaultTells c.args.machines.items g.A.Actor.behaviour given c.args.limit c.args.capacity e)
    (λ e shows given is. show_fault g.A.Actor.behaviour c.args.machines.items given c.args.limit c.args.capacity c.args.actors.items c.play.new.queues.core c.in_ok-played.played.end
    c.in_ok-played.played.players.items e c.requires.well_formed h is shows)
    c.run_of.result c.run_of.ensures.full
