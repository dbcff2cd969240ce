use Rattle.std.proofs.Common.{◌≡◌, ◌≤◌, ◌<◌, ℕ, length, ap, refl, sym, subst, ◌∙◌}
use Rattle.std.specs.Prelude.{IfOk}
use Rattle.rs_runs.specs.Ready.{Warrants}
use Rattle.rs_answers.specs.RefusalTexts.{too_small}
use Rattle.rs_runs.specs.RunSessions.{GivesRun}
use Rattle.rs_runs.specs.Runs.{capacity_of}
use Rattle.rs_runs.proofs.Drawn.{ready_for, refused_alone, run_leads, small_alone}
use Rattle.rs_runs.proofs.Leading.{made_leads, told_refusal}
use Rattle.rs_model.specs.declared.runs.Workers.{Workers}
use Rattle.rs_model.specs.declared.runs.Workers.TheVariants.{Several}
use Rattle.rs_runs.proofs.runs.ready_run.Goals as goal

pub returns-in-Err : goal.returns-in-Err
returns-in-Err c =
    made_leads c.args.workers _ (GivesRun c.args.workers c.args.options c.args.document) c.answer.result c.answered.result c.answered.ensures
    (told_refusal c.args.options.bound c.args.document c.in-Err.refused c.answer.result c.in-Err.ensures.refused c.answer.ensures.answer c.answer.ensures.memory)
    (λ a h. refused_alone c.args.options c.args.document c.args.workers c.in-Err.refused.refusal a h)

pub returns-in-Err-capacity_by : goal.returns-in-Err-capacity_by
returns-in-Err-capacity_by c =
    let accepted = c.in-Ok.accepted in
    let capacity = c.in-Err-capacity_by.capacity in
    let crew = c.in-Err-capacity_by.ensures.several in
    let small = subst (λ (n : ℕ). (capacity ≡ capacity_of c.args.options.ring n) × (capacity < n)) c.room-room.ensures c.in-Err-capacity_by.ensures.err in
    subst (λ (w : Workers). IfOk c.answered-in-Err-capacity_by.result (λ p. Warrants w p (GivesRun w c.args.options c.args.document))) (sym crew.1)
    (made_leads (Several crew.0) _ (GivesRun (Several crew.0) c.args.options c.args.document)
    c.too_small.result c.answered-in-Err-capacity_by.result c.answered-in-Err-capacity_by.ensures c.too_small.ensures
    (λ a e. small_alone c.args.options c.args.document crew.0 accepted capacity a c.in-Ok.ensures.accepted small
    (e ∙ ap (λ (n : ℕ). too_small n c.room-room.result) c.messages.ensures.messages ∙ ap (λ (n : ℕ). too_small capacity n) c.room-room.ensures)))

pub returns : goal.returns
returns c =
    let is = c.in-Ok.ensures.accepted in
    let ok = c.in-Ok-capacity_by.ensures.ok in
    run_leads c.args.options c.args.document _ (record {
      names = is.names;
      has = is.has;
      canonical = is.canonical;
      given = c.in_ok-actors.ensures.each;
      capacity = ok.0 ∙ ap (capacity_of c.args.options.ring) c.room-room.ensures;
      limit = refl;
    }) c.args.workers (ready_for c.args.workers _ (c.in_ok-actors.ensures.many ∙ ap length c.machines.ensures.machines)
    (λ crew several. subst (λ (n : ℕ). n ≤ c.in-Ok-capacity_by.capacity) c.room-room.ensures (ok.1 crew several)))
