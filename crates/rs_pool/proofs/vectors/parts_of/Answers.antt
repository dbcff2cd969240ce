use Rattle.std.proofs.Common.{rules, ◌≡◌, ◌∙◌, All, length, reverse, ap, sym, subst}
use Rattle.std.proofs.lemmas.List.{reverse-reverse}
use Rattle.std.proofs.lemmas.List.Elements.{All-cons}
use Rattle.rs_pool.specs.Jobs.{HasItsTranscript}
use Rattle.rs_pool.specs.declared.jobs.Job.{Job}
use Rattle.rs_pool.proofs.Lists.{all_none, all_reverse, back_last, begins_map, goes_on_map}
use Rattle.rs_pool.proofs.vectors.parts_of.Goals as goal

pub loop-job-init : goal.loop-job-init
loop-job-init g c = let twice : reverse c.reverse.new.self.items ≡ c.args.jobs.items = ap reverse c.reverse.ensures.items ∙ reverse-reverse c.args.jobs.items in (
  begins_map (λ (j : Job g.row.A.Denot). j.task.stage) c.args.parts.stages.items c.reverse.new.self.items c.args.jobs.items c.requires.empty.0 twice,
  begins_map (λ (j : Job g.row.A.Denot). j.task.actor) c.args.parts.actors.items c.reverse.new.self.items c.args.jobs.items c.requires.empty.1 twice,
  begins_map (λ (j : Job g.row.A.Denot). j.task.transcript) c.args.parts.transcripts.items c.reverse.new.self.items c.args.jobs.items c.requires.empty.2 twice,
  search rules,
  search rules,
  search rules,
  (λ h. subst (All HasItsTranscript) twice h),
)

pub loop-job-preserved : goal.loop-job-preserved
loop-job-preserved g c =
    let old = c.loop-job.parts in let ins = c.loop-job.jobs.items in let ins' = c.pop.new.self.items in let job = c.in-Some.job in let r = c.into_parts-stage.result in let is =
    c.into_parts-stage.ensures.parts in (
      goes_on_map (λ (j : Job g.row.A.Denot). j.task.stage) old.stages.items c.put.new.list.items ins ins' job r.0 _ c.loop-job.invariant.0 c.in-Some.ensures.items is.0 c.put.ensures.items,
      goes_on_map (λ (j : Job g.row.A.Denot). j.task.actor) old.actors.items c.put-in-Some.new.list.items ins ins' job r.1 _ c.loop-job.invariant.1 c.in-Some.ensures.items is.1
          c.put-in-Some.ensures.items,
      goes_on_map (λ (j : Job g.row.A.Denot). j.task.transcript)
          old.transcripts.items c.put-in-Some-2.new.list.items ins ins' job r.2 _ c.loop-job.invariant.2 c.in-Some.ensures.items is.2 c.put-in-Some-2.ensures.items,
      search rules,
      search rules,
      search rules,
      (λ h. c.loop-job.invariant.6
          (subst (All HasItsTranscript) (sym (back_last ins ins' job c.in-Some.ensures.items)) (All-cons HasItsTranscript job (reverse ins') c.into_parts-stage.ensures.transcript h))),
    )

pub returns-clause-same : goal.returns-clause-same
returns-clause-same g c =
    let none : length c.loop-job.jobs.items ≡ 0 = search rules in c.loop-job.invariant.6 (all_reverse HasItsTranscript c.loop-job.jobs.items (all_none HasItsTranscript c.loop-job.jobs.items none))
