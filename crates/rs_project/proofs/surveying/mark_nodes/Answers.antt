use Rattle.rs_project.proofs.surveying.mark_nodes.Goals as goal

pub returns-clause-marked : goal.returns-clause-marked
returns-clause-marked c = c.await_all-by_all.ensures.marked c.args.role c.mark_talks-found.new.involved c.mark_talks-found.ensures.marked

pub returns-clause-rounds : goal.returns-clause-rounds
returns-clause-rounds c = λ all. c.await_all-by_all.ensures.rounds all c.args.role c.mark_talks-found.ensures.reached
