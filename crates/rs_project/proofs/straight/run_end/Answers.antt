use Rattle.std.proofs.Common.{◌≡◌, subst, arith, ◌<◌, ℕ, length, get_or, ap}
use Rattle.rs_project.specs.Marks.{IsTrueSurvey, StandsFor, Survey_data}
use Rattle.rs_project.proofs.Lists.{at_read, read_via}
use Rattle.rs_project.proofs.Runs.{stands_via}
use Rattle.rs_project.proofs.straight.run_end.Goals as goal

pub loop-preserved : goal.loop-preserved
loop-preserved c =
    let runs = (subst IsTrueSurvey c.survey.view_is c.survey.invariant).runs in
    let ends = c.args.survey.now.run_ends in
    let w : c.loop.node < length ends = (let i = c.loop.invariant.within in let s = runs.size in omega arith) in
    let e : get_or ends c.loop.node 0 ≡ c.index-end.result.now
    = at_read ends c.loop.node c.index-end.result.now 0
    (read_via ends c.survey.inside.run_ends.items c.loop.node c.index-end.result.now (ap (λ (z : Survey_data). z.run_ends) c.survey.view_is) w c.index-end.ensures) in
    let P : ℕ → Type 0 = λ z. z < length c.args.survey.now.protocol.nodes in
    let Q : ℕ → Type 0 = λ z. StandsFor c.args.survey.now.protocol c.args.survey.now.role c.loop.node z in
    record {
      within = subst P e (runs.within c.loop.node (omega arith) c.loop.invariant.within);
      stands = stands_via c.args.survey.now.protocol c.args.survey.now.role c.args.start c.loop.node c.index-end.result.now c.loop.invariant.stands
          (subst Q e (runs.stands c.loop.node (omega arith) c.loop.invariant.within));
    }
