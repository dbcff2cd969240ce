use Rattle.std.proofs.Common.{◌≡◌, ◌≤◌, ◌+◌, vec_capacity, vec_len, map, reverse, ◌++◌}
use Rattle.rs_session.specs.Ends.{AreOf}
use Rattle.rs_endpoints.specs.Endpoints.{endpoint_at}
use Rattle.rs_endpoints.proofs.starting.endpoints_of.Given as goal

abbrev pub invariant-loop-stage : goal.invariant-loop-stage
invariant-loop-stage l = AreOf l.shared.value.session l.stages.items
    × (map (endpoint_at l.shared.value.session) l.initial.stages.items ≡ map (endpoint_at l.shared.value.session) l.stages.items ++ reverse l.endpoints.items)
    × (vec_len l.endpoints + vec_len l.stages ≤ vec_capacity l.endpoints)

abbrev pub decreases-loop-stage : goal.decreases-loop-stage
decreases-loop-stage l = vec_len l.stages
