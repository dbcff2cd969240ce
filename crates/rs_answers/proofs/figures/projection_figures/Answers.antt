use Rattle.rs_answers.proofs.Figuring.{own_are}
use Rattle.rs_answers.proofs.figures.projection_figures.Goals as goal

pub returns-in-Some-clause-ok : goal.returns-in-Some-clause-ok
returns-in-Some-clause-ok c = λ bound some.
    own_are c.args.projection.now bound c.in-Some.figures c.from.result c.from-in-Some.result c.from.ensures c.from-in-Some.ensures (c.in-Some.ensures.some bound some)
