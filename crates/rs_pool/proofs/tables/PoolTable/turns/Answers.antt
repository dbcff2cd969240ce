use Rattle.std.proofs.Common.{◌≡◌, true, true≢false, [], refl, sym, subst, arith}
use Rattle.rs_exec.specs.declared.tasks.Turn.{Turn}
use Rattle.rs_pool.specs.Turns.{is_waiting}
use Rattle.rs_pool.proofs.TurnsMade.{all_made, last_one, one_more}
use Rattle.rs_pool.proofs.tables.PoolTable.turns.Goals as goal

pub loop-init : goal.loop-init
loop-init g c = record { fits = c.requires.fits; led = record { turns = []; count = refl; lead = refl; idle = λ e. refl } }

pub loop-preserved : goal.loop-preserved
loop-preserved g c = record {
  fits = c.turn.ensures.fits;
  led = one_more c.args.session.now g.A.Actor.behaviour c.args.job.now.task c.loop.job.task c.turn.new.job.task c.loop.counter c.loop.moved c.turn.result c.loop.invariant.led c.turn.ensures.tells;
}

pub returns-in-Waits-clause-turns : goal.returns-in-Waits-clause-turns
returns-in-Waits-clause-turns g c =
    last_one c.args.session.now g.A.Actor.behaviour c.args.job.now.task c.loop.job.task c.turn.new.job.task c.loop.counter c.loop.moved c.turn.result c.loop.moved c.loop.invariant.led c.turn.ensures.tells
    (λ e. subst (λ (t : Turn). is_waiting t ≡ true) (sym c.in-Waits.is) refl)

pub returns-in_default-clause-turns : goal.returns-in_default-clause-turns
returns-in_default-clause-turns g c =
    last_one c.args.session.now g.A.Actor.behaviour c.args.job.now.task c.loop.job.task c.turn.new.job.task c.loop.counter c.loop.moved c.turn.result true c.loop.invariant.led c.turn.ensures.tells
    (λ e. absurd (true≢false e))

pub returns-clause-turns : goal.returns-clause-turns
returns-clause-turns g c =
    let over = c.loop-test.false in
    all_made c.args.session.now g.A.Actor.behaviour c.args.job.now.task c.loop.job.task c.loop.job.task c.loop.counter c.loop.moved c.loop.invariant.led (omega (arith, over))
