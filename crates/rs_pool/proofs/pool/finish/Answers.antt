use Rattle.std.proofs.Common.{◌∙◌, All, List, length, map, ap, sym, subst}
use Rattle.rs_core.specs.declared.runs.Outcome.TheVariants as outcome
use Rattle.rs_exec.specs.Runs.{IsSessionOfRun}
use Rattle.rs_exec.specs.Tasks.{HasEnded}
use Rattle.rs_rings.specs.Passes.{Rings_data}
use Rattle.rs_session.specs.Data.{Stage_data}
use Rattle.rs_session.specs.Ends.{AreAll, AreAllThere, AreOf, KnowsFrom}
use Rattle.rs_session.specs.Stages.{IsEnded, sight_of_stage}
use Rattle.rs_session.specs.declared.stages.Stage.{Stage}
use Rattle.rs_core.specs.declared.transcripts.Entry.{Entry}
use Rattle.rs_pool.specs.Jobs.{actors_of, first_with, stages_of}
use Rattle.rs_pool.specs.declared.jobs.Progress.TheVariants as progress
use Rattle.rs_pool.proofs.Endings.{all_there, are_all_ended, are_of, session_ended, session_stopped}
use Rattle.rs_pool.proofs.Looks.{all_ended, first_at, fits_at, none_at}
use Rattle.rs_pool.proofs.pool.finish.Goals as goal

pub abandon-requires-clause-of : goal.abandon-requires-clause-of
abandon-requires-clause-of g c =
    let b = g.A.Actor.behaviour in let start = g.N.StartName.start in let n = length c.args.session.machines in let jobs = c.args.jobs.items in
    let all = are_of b start n jobs c.requires.collected.count (fits_at b start n jobs c.requires.collected) (ap (λ (s : Rings_data). length s.machines) c.requires.session) in
    subst (AreOf c.args.session) (sym c.parts_of-stages.ensures.stages) (subst (λ (s : Rings_data). AreOf s (stages_of jobs)) (sym c.requires.session) all)

pub abandon-closed-requires-clause-of : goal.abandon-closed-requires-clause-of
abandon-closed-requires-clause-of g c =
    let b = g.A.Actor.behaviour in let start = g.N.StartName.start in let n = length c.args.session.machines in let jobs = c.args.jobs.items in
    let all = are_of b start n jobs c.requires.collected.count (fits_at b start n jobs c.requires.collected) (ap (λ (s : Rings_data). length s.machines) c.requires.session) in
    subst (AreOf c.args.session) (sym c.parts_of-stages.ensures.stages) (subst (λ (s : Rings_data). AreOf s (stages_of jobs)) (sym c.requires.session) all)

pub abandon-requires-clause-each : goal.abandon-requires-clause-each
abandon-requires-clause-each g c =
    let b = g.A.Actor.behaviour in let start = g.N.StartName.start in let n = length c.args.session.machines in let jobs = c.args.jobs.items in
    subst (λ (l : List Stage). AreAllThere n (map sight_of_stage l)) (sym c.parts_of-stages.ensures.stages)
    (all_there b start n jobs c.requires.collected.count (fits_at b start n jobs c.requires.collected) (ap (λ (s : Rings_data). length s.machines) c.requires.session))

pub abandon-closed-requires-clause-each : goal.abandon-closed-requires-clause-each
abandon-closed-requires-clause-each g c =
    let b = g.A.Actor.behaviour in let start = g.N.StartName.start in let n = length c.args.session.machines in let jobs = c.args.jobs.items in
    subst (λ (l : List Stage). AreAllThere n (map sight_of_stage l)) (sym c.parts_of-stages.ensures.stages)
    (all_there b start n jobs c.requires.collected.count (fits_at b start n jobs c.requires.collected) (ap (λ (s : Rings_data). length s.machines) c.requires.session))

pub ended_of-requires-clause-ended : goal.ended_of-requires-clause-ended
ended_of-requires-clause-ended g c =
    let b = g.A.Actor.behaviour in let start = g.N.StartName.start in let n = length c.args.session.machines in let jobs = c.args.jobs.items in
    subst (All HasEnded) (sym c.parts_of-stages.ensures.stages) (all_ended b start n jobs c.requires.collected
    (ap (first_with progress.Refused 0) (sym c.as_slice.ensures.value) ∙ sym c.first_with-refused.ensures ∙ c.in-None-None.is-0)
    (ap (first_with progress.AtLimit 0) (sym c.as_slice-2.ensures.value) ∙ sym c.first_with-stopped.ensures ∙ c.in-None-None.is-1))

pub close-closed-requires-clause-of : goal.close-closed-requires-clause-of
close-closed-requires-clause-of g c =
    let b = g.A.Actor.behaviour in let start = g.N.StartName.start in let n = length c.args.session.machines in let jobs = c.args.jobs.items in
    let over = all_ended b start n jobs c.requires.collected
    (ap (first_with progress.Refused 0) (sym c.as_slice.ensures.value) ∙ sym c.first_with-refused.ensures ∙ c.in-None-None.is-0)
    (ap (first_with progress.AtLimit 0) (sym c.as_slice-2.ensures.value) ∙ sym c.first_with-stopped.ensures ∙ c.in-None-None.is-1) in
    let all = are_all_ended b start n jobs c.requires.collected.count (fits_at b start n jobs c.requires.collected) (ap (λ (s : Rings_data). length s.machines) c.requires.session) over in
    subst (AreAll (IsEnded c.args.session)) (sym (c.ended_of.ensures ∙ ap (map sight_of_stage) c.parts_of-stages.ensures.stages))
    (subst (λ (s : Rings_data). AreAll (IsEnded s) (map sight_of_stage (stages_of jobs))) (sym c.requires.session) all)

pub close-closed-requires-clause-present : goal.close-closed-requires-clause-present
close-closed-requires-clause-present g c =
    let b = g.A.Actor.behaviour in let start = g.N.StartName.start in let n = length c.args.session.machines in let jobs = c.args.jobs.items in
    subst (AreAllThere n) (sym (c.ended_of.ensures ∙ ap (map sight_of_stage) c.parts_of-stages.ensures.stages))
    (all_there b start n jobs c.requires.collected.count (fits_at b start n jobs c.requires.collected) (ap (λ (s : Rings_data). length s.machines) c.requires.session))

pub returns-in-None-Some-clause-session : goal.returns-in-None-Some-clause-session
returns-in-None-Some-clause-session g c =
    let b = g.A.Actor.behaviour in let start = g.N.StartName.start in let n = length c.args.session.machines in let jobs = c.args.jobs.items in
    let closed = c.abandon-closed.result in let parts = c.parts_of-stages.ensures in
    let one = first_at progress.AtLimit jobs c.in-None-Some.role (ap (first_with progress.AtLimit 0) (sym c.as_slice-2.ensures.value) ∙ sym c.first_with-stopped.ensures ∙ c.in-None-Some.is-1) in
    let none = none_at progress.Refused jobs (ap (first_with progress.Refused 0) (sym c.as_slice.ensures.value) ∙ sym c.first_with-refused.ensures ∙ c.in-None-Some.is-0) in
    let knows = subst (λ (l : List Stage). KnowsFrom (map sight_of_stage l) closed) parts.stages c.abandon-closed.ensures.knows in
    let so = session_stopped b start n jobs c.requires.collected.count (fits_at b start n jobs c.requires.collected) (ap (λ (s : Rings_data). length s.machines) c.requires.session)
    closed (c.abandon-closed.ensures.machines ∙ ap (λ (s : Rings_data). s.machines) c.requires.session) knows
    (record { 0 = c.in-None-Some.role }) one.0 one.1 one.2 none parts.same c.abandon-closed.ensures.left in
    subst (λ (l : List g.row.A.Denot). IsSessionOfRun start.session.machines b start.given start.limit closed (outcome.Stopped (record { 0 = c.in-None-Some.role })) l) (sym parts.actors) so

pub returns-in-None-None-clause-session : goal.returns-in-None-None-clause-session
returns-in-None-None-clause-session g c =
    let b = g.A.Actor.behaviour in let start = g.N.StartName.start in let n = length c.args.session.machines in let jobs = c.args.jobs.items in
    let closed = c.close-closed.result in let parts = c.parts_of-stages.ensures in
    let none = none_at progress.Refused jobs (ap (first_with progress.Refused 0) (sym c.as_slice.ensures.value) ∙ sym c.first_with-refused.ensures ∙ c.in-None-None.is-0) in
    let knows = subst (λ (l : List Stage_data). KnowsFrom l closed) (c.ended_of.ensures ∙ ap (map sight_of_stage) parts.stages) c.close-closed.ensures.knows in
    let so = session_ended b start n jobs c.requires.collected.count (fits_at b start n jobs c.requires.collected) (ap (λ (s : Rings_data). length s.machines) c.requires.session)
    closed (c.close-closed.ensures.machines ∙ ap (λ (s : Rings_data). s.machines) c.requires.session) knows none parts.same c.close-closed.ensures.over in
    subst (λ (l : List g.row.A.Denot). IsSessionOfRun start.session.machines b start.given start.limit closed (outcome.Ended c.of.result) l) (sym parts.actors)
    (subst (λ (ts : List (List Entry)). IsSessionOfRun start.session.machines b start.given start.limit closed (outcome.Ended ts) (actors_of jobs)) (sym (c.of.ensures ∙ parts.transcripts)) so)
