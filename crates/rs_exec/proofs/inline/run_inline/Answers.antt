use Rattle.std.proofs.Common.{◌≡◌, ℕ, List, Some, IfErr, IfOk, length, ap, subst, sym, arith}
use Rattle.rs_model.specs.Data.{Machine_data}
use Rattle.rs_core.specs.Plain.{Ending, IsPlain}
use Rattle.rs_core.specs.Choices.{AreWellFormed}
use Rattle.rs_core.specs.Runs.{EndingShows, FaultTells, IsGiven}
use Rattle.rs_core.specs.Safety.{IsSafe}
use Rattle.rs_exec.proofs.NeverFull.{only_memory}
use Rattle.rs_exec.proofs.inline.run_inline.Goals as goal

pub run_over-requires-clause-safe : goal.run_over-requires-clause-safe
run_over-requires-clause-safe g c = subst IsSafe (sym c.in_ok-hand.ensures.machines) c.in_ok-hand.ensures.accepted.safe

pub run_over-requires-clause-well_formed : goal.run_over-requires-clause-well_formed
run_over-requires-clause-well_formed g c = subst AreWellFormed (sym c.in_ok-hand.ensures.machines) c.in_ok-hand.ensures.accepted.is_session.machines_fit

pub run_over-requires-clause-some : goal.run_over-requires-clause-some
run_over-requires-clause-some g c =
    let same = ap length c.in_ok-hand.ensures.machines in
    let each = c.in_ok-hand.ensures.accepted.is_session.a_machine_each in
    let two = c.in_ok-hand.ensures.accepted.is_session.roles.0 in
    omega (arith, same, each, two)

pub returns-clause-plain : goal.returns-clause-plain
returns-clause-plain g c =
    let e = c.in_ok-hand.ensures in
    subst (λ (z : List Machine_data × ℕ). IfOk c.run_over.result
    (λ r. (given : ℕ → g.row.A.Denot) → IsGiven given c.args.actors.items
    → (o : Ending g.row.A.Denot) × IsPlain z.0 g.A.Actor.behaviour given c.args.limit (Some z.1) o × EndingShows (length z.0) o r.run.outcome r.run.actors.items))
    (λ i. (e.machines i, e.capacity i)) c.run_over.ensures.plain

pub returns-clause-enough : goal.returns-clause-enough
returns-clause-enough g c room =
    let e = c.in_ok-hand.ensures in
    only_memory g.A.Actor.behaviour c.args.accepted.now c.args.actors.items c.args.limit c.args.capacity c.run_over.result e.accepted c.requires.actors room
    (subst (λ (z : List Machine_data × ℕ). IfErr c.run_over.result (λ f. (given : ℕ → g.row.A.Denot) → IsGiven given c.args.actors.items → FaultTells z.0 g.A.Actor.behaviour given c.args.limit z.1 f))
    (λ i. (e.machines i, e.capacity i)) c.run_over.ensures.full)

pub returns-clause-rings : goal.returns-clause-rings
returns-clause-rings g c = subst (λ (z : ℕ). IfOk c.run_over.result (λ r. r.closed.capacity ≡ z)) c.in_ok-hand.ensures.capacity c.run_over.ensures.rings
