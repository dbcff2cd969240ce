use Rattle.std.proofs.Common.{◌≡◌, ◌∙◌, ℕ, List, sym, subst}
use Rattle.std.proofs.lemmas.Result.{IfOk-weaker}
use Rattle.rs_core.specs.Actors.{ChoosesWell}
use Rattle.rs_core.specs.Runs.{IsGiven}
use Rattle.rs_exec.specs.Runs.{IsSessionOfRun}
use Rattle.rs_exec.specs.declared.runs.Ran.{Ran}
use Rattle.rs_model.specs.Data.{Machine_data}
use Rattle.rs_pool.specs.Pool.{AgreesWithPlain, AreNeverHeldUp}
use Rattle.rs_room.proofs.Enough.{can_go_on}
use Rattle.rs_safety.proofs.Walked.{of_accepted}
use Rattle.rs_pool.proofs.Endings.{agrees}
use Rattle.rs_pool.proofs.pool.run_pool.Goals as goal

pub returns-in-Ok-clause-plain : goal.returns-in-Ok-clause-plain
returns-in-Ok-clause-plain g c =
    let b = g.A.Actor.behaviour in let well : ChoosesWell b = (g.met.A.Actor g.world.𝓛 g.world.𝓜 g.world.𝓡
    ((λ s z. z), (λ z. z), (λ z. z), (λ z. z))).chooses_well in let ms = c.args.accepted.now.machines in let actors = c.args.actors.items in let accepted = c.machines-roles.ensures.session in
    IfOk-weaker c.play.result
    (λ (ran : Ran g.row.A.Denot). IsSessionOfRun c.in-Ok.session.machines b actors c.args.limit ran.closed ran.run.outcome ran.run.actors.items)
    (λ (ran : Ran g.row.A.Denot). (given : ℕ → g.row.A.Denot) → IsGiven given actors → AgreesWithPlain ms b given c.args.limit ran.run.outcome ran.run.actors.items)
    (λ (ran : Ran g.row.A.Denot) s given is. agrees b well ms accepted.safe accepted.is_session.machines_fit actors ran.run.actors.items c.args.limit ran.closed ran.run.outcome
    (subst (λ (l : List Machine_data). IsSessionOfRun l b actors c.args.limit ran.closed ran.run.outcome ran.run.actors.items) c.in-Ok.ensures.machines s) c.requires.actors given is)
    c.play.ensures.session

pub returns-in-Ok-clause-enough : goal.returns-in-Ok-clause-enough
returns-in-Ok-clause-enough g c =
    let a = c.args.accepted.now in
    let enough : AreNeverHeldUp a.machines c.args.capacity = λ at reached. can_go_on a.protocol a.projections a.machines a.derivations (of_accepted a c.machines-roles.ensures.session) c.args.capacity
    c.requires.room at reached in
    IfOk-weaker c.play.result (λ (ran : Ran g.row.A.Denot). ran.closed.capacity ≡ c.in-Ok.session.capacity) (λ (ran : Ran g.row.A.Denot). AreNeverHeldUp a.machines ran.closed.capacity)
    (λ (ran : Ran g.row.A.Denot) same. subst (λ (n : ℕ). AreNeverHeldUp a.machines n) (sym (same ∙ c.in-Ok.ensures.capacity)) enough) c.play.ensures.rings
