use Rattle.std.proofs.Common.{◌∙◌, ◌++◌, List, length, map, reverse, ap, sym, subst}
use Rattle.rs_rings.specs.Passes.{Rings_data}
use Rattle.rs_session.specs.Ends.{AreAllThere, AreOf}
use Rattle.rs_session.specs.Stages.{sight_of_stage}
use Rattle.rs_session.specs.declared.stages.Stage.{Stage}
use Rattle.rs_pool.specs.Jobs.{JobFits, stages_of}
use Rattle.rs_pool.proofs.Beginnings.{begun_count, begun_fits}
use Rattle.rs_pool.proofs.Endings.{all_there, are_of}
use Rattle.rs_pool.proofs.pool.give_up.Goals as goal

pub abandon-requires-clause-of : goal.abandon-requires-clause-of
abandon-requires-clause-of g c =
    let b = g.A.Actor.behaviour in let start = g.N.StartName.start in let js = reverse c.unseated.result.items in let n = length c.args.session.machines in
    let count = begun_count (JobFits b start) n c.args.slots.items js c.requires.begun c.unseated.ensures in
    let fits = begun_fits (JobFits b start) n c.args.slots.items js c.requires.begun c.unseated.ensures in
    let all = are_of b start n js count fits (ap (λ (s : Rings_data). length s.machines) c.requires.session) in
    subst (AreOf c.args.session) (sym (c.stages_back-stages.ensures ∙ ap (λ (l : List Stage). l ++ stages_of js) c.requires.empty.1))
    (subst (λ (s : Rings_data). AreOf s (stages_of js)) (sym c.requires.session) all)

pub abandon-requires-clause-each : goal.abandon-requires-clause-each
abandon-requires-clause-each g c =
    let b = g.A.Actor.behaviour in let start = g.N.StartName.start in let js = reverse c.unseated.result.items in let n = length c.args.session.machines in
    let count = begun_count (JobFits b start) n c.args.slots.items js c.requires.begun c.unseated.ensures in
    let fits = begun_fits (JobFits b start) n c.args.slots.items js c.requires.begun c.unseated.ensures in
    subst (λ (l : List Stage). AreAllThere n (map sight_of_stage l)) (sym (c.stages_back-stages.ensures ∙ ap (λ (l : List Stage). l ++ stages_of js) c.requires.empty.1))
    (all_there b start n js count fits (ap (λ (s : Rings_data). length s.machines) c.requires.session))
