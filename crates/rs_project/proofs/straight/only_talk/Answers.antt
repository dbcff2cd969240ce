use Rattle.std.proofs.Common.{subst, arith, ◌<◌, length, ap}
use Rattle.rs_project.specs.Marks.{IsTrueSurvey, IsOn, Survey_data}
use Rattle.rs_project.proofs.Lone.{flag_at, meets_only}
use Rattle.rs_project.proofs.straight.only_talk.Goals as goal

pub returns-then-index : goal.returns-then-index
returns-then-index c =
    let end = c.run_end-end.result in
    let w : end < length c.args.survey.now.involved = (let i = c.run_end-end.ensures.within in let s = (subst IsTrueSurvey c.survey.view_is c.survey.invariant).survey.involved_size in omega arith) in
    let on : IsOn c.args.survey.now.involved end
    = flag_at c.survey.inside.involved.items c.args.survey.now.involved end c.index.result.now _ (ap (λ (z : Survey_data). z.involved) c.survey.view_is) w c.index.ensures c.if-index.true in
    meets_only c.args.survey.now.protocol c.args.survey.now.role c.args.start end (((subst IsTrueSurvey c.survey.view_is c.survey.invariant).survey.involved end).0 on) c.run_end-end.ensures.stands
