use Rattle.std.proofs.Common.{map, vec_len}
use Rattle.rs_session.proofs.HandedIn.{IsJoined}
use Rattle.rs_session.proofs.gathering.gather.Given as goal

abbrev pub invariant-loop-stage : goal.invariant-loop-stage
invariant-loop-stage g l = IsJoined l.rings.table (map g.S.Stands.stage l.fn.stages.items) (map g.S.Stands.stage l.stages.items) l.pass

abbrev pub decreases-loop-stage : goal.decreases-loop-stage
decreases-loop-stage g l = vec_len l.stages
