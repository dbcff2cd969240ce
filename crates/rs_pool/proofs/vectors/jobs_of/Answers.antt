use Rattle.std.proofs.Common.{rules, All, Some, ap, refl, sym, subst}
use Rattle.std.proofs.lemmas.List.Elements.{All-pop, All-push}
use Rattle.rs_exec.specs.Data.{Task_data}
use Rattle.rs_pool.specs.Jobs.{HasDoneNothing, JobIsNew}
use Rattle.rs_pool.specs.declared.jobs.Job.{Job}
use Rattle.rs_pool.specs.declared.jobs.Progress.TheVariants.{Underway}
use Rattle.rs_pool.proofs.Lists.{all_reverse, moves_back}
use Rattle.rs_pool.proofs.vectors.jobs_of.Goals as goal

pub loop-stage-preserved : goal.loop-stage-preserved
loop-stage-preserved g c =
    let e = c.in-Ok-new.ensures.task in let job : Job g.row.A.Denot = record { task = c.in-Ok-new.task; progress = Underway } in let old = c.loop-stage.jobs.items in (
      moves_back (λ (j : Job g.row.A.Denot). j.task.stage) c.loop-stage.stages.items c.pop.new.self.items old c.put.new.list.items job c.in-Some.stage c.args.stages.items c.loop-stage.invariant.0
          c.in-Some.ensures.items
          (sym (ap (λ (t : Task_data g.row.A.Denot). t.stage) e)) c.put.ensures.items,
      moves_back (λ (j : Job g.row.A.Denot). j.task.actor) c.loop-stage.actors.items c.pop-in-Some.new.self.items old c.put.new.list.items job c.in-Some-pop.actor c.args.actors.items
          c.loop-stage.invariant.1 c.in-Some-pop.ensures.items
          (sym (ap (λ (t : Task_data g.row.A.Denot). t.actor) e)) c.put.ensures.items,
      search rules,
      search rules,
      search rules,
      search rules,
      search rules,
      (All-pop HasDoneNothing c.loop-stage.stages.items c.pop.new.self.items (Some c.in-Some.stage) c.in-Some.ensures.items c.loop-stage.invariant.7).0,
      subst (All (JobIsNew c.args.limit)) (sym c.put.ensures.items) (All-push (JobIsNew c.args.limit) old job c.loop-stage.invariant.8
          (record {
            progress = refl;
            limit = ap (λ (t : Task_data g.row.A.Denot). t.limit) e;
            kept = ap (λ (t : Task_data g.row.A.Denot). t.kept) e;
            transcript = ap (λ (t : Task_data g.row.A.Denot). t.transcript) e;
          })),
    )

pub returns-clause-jobs : goal.returns-clause-jobs
returns-clause-jobs g c = subst (All (JobIsNew c.args.limit)) (sym c.reverse.ensures.items) (all_reverse (JobIsNew c.args.limit) c.loop-stage.jobs.items c.loop-stage.invariant.8)
