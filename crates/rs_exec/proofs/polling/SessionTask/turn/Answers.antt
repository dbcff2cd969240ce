use Rattle.std.proofs.Common.{subst}
use Rattle.rs_exec.specs.Tasks.{IsTaskOf, TaskTurnTells}
use Rattle.rs_rings.specs.Passes.{Rings_data}
use Rattle.rs_exec.proofs.Stayed.{still_from}
use Rattle.rs_exec.proofs.polling.SessionTask.turn.Goals as goal

pub invariant_of-self : goal.invariant_of-self
invariant_of-self g c =
    let b = g.A.Actor.behaviour in let old = c.self.inside.task in let new = c.turn.new.self in
    still_from b g.N.TaskName.begun c.turn.result old new c.self.invariant (subst (λ (s : Rings_data). IsTaskOf s new) c.requires.session c.turn.ensures.of)
    (subst (λ (s : Rings_data). TaskTurnTells s b old new c.turn.result) c.requires.session c.turn.ensures.tells)
