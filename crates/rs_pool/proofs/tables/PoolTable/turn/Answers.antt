use Rattle.std.proofs.Common.{subst}
use Rattle.rs_exec.specs.Tasks.{IsTaskOf, TaskTurnTells}
use Rattle.rs_rings.specs.Passes.{Rings_data}
use Rattle.rs_pool.proofs.Turned.{turned}
use Rattle.rs_pool.proofs.tables.PoolTable.turn.Goals as goal

pub returns : goal.returns
returns g c =
    let b = g.A.Actor.behaviour in let old = c.args.job.now in let new = c.turn-turn.new.self in let t = c.turn-turn.result in
    record {
      fits = turned b g.N.StartName.start c.args.role t old new c.requires.fits (subst (λ (s : Rings_data). IsTaskOf s new.task) c.requires.session c.turn-turn.ensures.of)
          (subst (λ (s : Rings_data). TaskTurnTells s b old.task new.task t) c.requires.session c.turn-turn.ensures.tells) c.turn-turn.ensures.progress;
      tells = c.turn-turn.ensures.tells;
    }
