use Rattle.rs_exec.proofs.NeverFull.{never_stuck_shown}
use Rattle.rs_pool.proofs.Alike.{alone_agrees, alone_is_alike}
use Rattle.rs_pool.proofs.laws.one_thread_is_as_good_as_workers.Goals as goal

pub returns-clause-agrees : goal.returns-clause-agrees
returns-clause-agrees g c = alone_agrees g.A.Actor.behaviour g.met.A.Actor.chooses_well

pub returns-clause-alike : goal.returns-clause-alike
returns-clause-alike g c = alone_is_alike g.A.Actor.behaviour g.met.A.Actor.chooses_well

pub returns-clause-never_stuck : goal.returns-clause-never_stuck
returns-clause-never_stuck g c session given limit capacity end accepted room is = never_stuck_shown g.A.Actor.behaviour session given limit capacity end accepted room is
