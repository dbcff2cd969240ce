use Rattle.std.proofs.Common.{◌≡◌, ◌∙◌, List, None, subst}
use Rattle.rs_model.specs.Data.{Machine_data}
use Rattle.rs_core.specs.Runs.{FaultShows, HasPlayed}
use Rattle.rs_core.specs.declared.runs.RunFault.{RunFault}
use Rattle.rs_core.proofs.Shown.{never_full, show_plain}
use Rattle.rs_core.proofs.runs.run_plain.Goals as goal

pub returns-in-Ok : goal.returns-in-Ok
returns-in-Ok g c =
    let H : List Machine_data → Type 0 = λ z. HasPlayed g.A.Actor.behaviour z c.args.limit None c.args.actors.items c.play.new.queues.core c.in_ok-played.played.end
    c.in_ok-played.played.players.items in
    let h = subst H c.in_ok-begin.ensures.machines c.in_ok-played.ensures.played in
    record {
      plain = show_plain g.A.Actor.behaviour c.args.machines.items c.args.limit None c.args.actors.items c.play.new.queues.core c.in_ok-played.played.end c.in_ok-played.played.players.items
          c.in-Ok.run'.outcome c.in-Ok.run'.actors.items h c.in-Ok.ensures.run;
    }

pub unreachable-requires : goal.unreachable-requires
unreachable-requires g c =
    let H : List Machine_data → Type 0 = λ z. HasPlayed g.A.Actor.behaviour z c.args.limit None c.args.actors.items c.play.new.queues.core c.in_ok-played.played.end
    c.in_ok-played.played.players.items in
    let h = subst H c.in_ok-begin.ensures.machines c.in_ok-played.ensures.played in
    let F : RunFault → Type 0 = λ z. FaultShows c.in_ok-played.played.end c.in_ok-played.played.players.items z in
    never_full g.A.Actor.behaviour c.args.machines.items c.args.limit c.args.actors.items c.play.new.queues.core c.in_ok-played.played.end c.in_ok-played.played.players.items
    c.in-Err-Full.field-0-0 c.in-Err-Full.field-0-1 c.in-Err-Full.field-0-2 c.in-Err-Full.field-0-3
    c.requires.actors h (subst F c.in-Err-Full.field-0-is c.in-Err-Full.ensures.full)
