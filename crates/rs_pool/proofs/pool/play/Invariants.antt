use Rattle.rs_pool.specs.Jobs.{actors_of}
use Rattle.rs_pool.proofs.pool.play.Given as goal

abbrev pub ghosts-run_as : goal.ghosts-run_as
ghosts-run_as g a = record { start = record { session = a.session; limit = a.made.limit; given = actors_of a.made.jobs.items } }
