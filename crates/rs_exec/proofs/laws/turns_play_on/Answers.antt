use Rattle.std.proofs.Common.{◌∙◌, ap, slice_get}
use Rattle.rs_model.specs.declared.graph.Role.{Role}
use Rattle.rs_exec.proofs.PlayedOn.{plays_history, plays_nothing_yet, plays_on, task_up_to, up_to_task}
use Rattle.rs_exec.proofs.Stayed.{same_role}
use Rattle.rs_exec.proofs.laws.turns_play_on.Goals as goal

pub returns-clause-turns : goal.returns-clause-turns
returns-clause-turns g c = plays_on g.A.Actor.behaviour

pub returns-clause-first : goal.returns-clause-first
returns-clause-first g c = plays_nothing_yet g.A.Actor.behaviour

pub returns-clause-plays : goal.returns-clause-plays
returns-clause-plays g c = plays_history g.A.Actor.behaviour

pub returns-clause-goes_on : goal.returns-clause-goes_on
returns-clause-goes_on g c session machine x old new t ne tells runs so =
    let b = g.A.Actor.behaviour in
    let still = ap (λ (k : Role). slice_get session.machines k.0) (same_role b session old new t tells) ∙ runs in
    (still, up_to_task b session machine x new still (plays_on b session x old new t ne tells (task_up_to b session machine x old runs so)))
