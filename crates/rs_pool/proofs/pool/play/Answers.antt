use Rattle.std.proofs.Common.{All, List, ℕ, length, map, sym, subst}
use Rattle.rs_session.specs.Ends.{AreAllThere, AreOf}
use Rattle.rs_session.specs.Stages.{sight_of_stage}
use Rattle.rs_session.specs.declared.stages.Stage.{Stage}
use Rattle.rs_pool.specs.Jobs.{JobIsNew}
use Rattle.rs_pool.proofs.Beginnings.{begun, first_nothing, first_of, first_there}
use Rattle.rs_pool.proofs.pool.play.Goals as goal

pub jobs_of-requires-clause-nothing : goal.jobs_of-requires-clause-nothing
jobs_of-requires-clause-nothing g c = first_nothing c.args.session c.args.stages.items c.requires.first

pub abandon-requires-clause-of : goal.abandon-requires-clause-of
abandon-requires-clause-of g c = subst (AreOf c.args.session) (sym c.in-Err.ensures.back) (first_of c.args.session c.args.stages.items c.requires.first)

pub abandon-requires-clause-each : goal.abandon-requires-clause-each
abandon-requires-clause-each g c =
    subst (λ (l : List Stage). AreAllThere (length c.args.session.machines) (map sight_of_stage l)) (sym c.in-Err.ensures.back) (first_there c.args.session c.args.stages.items c.requires.first)

pub run_as-requires-clause-begun : goal.run_as-requires-clause-begun
run_as-requires-clause-begun g c κs within =
    begun g.A.Actor.behaviour c.args.session c.args.stages.items c.in-Ok.made.limit c.in-Ok.made.jobs.items c.requires.first c.in-Ok.ensures.stages
    (subst (λ (m : ℕ). All (JobIsNew m) c.in-Ok.made.jobs.items) (sym c.in-Ok.ensures.limit) c.in-Ok.ensures.jobs)
