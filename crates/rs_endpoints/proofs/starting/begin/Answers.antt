use Rattle.std.proofs.Common.{rules, ap}
use Rattle.rs_endpoints.proofs.Beginning.{all_of, begun}
use Rattle.rs_endpoints.proofs.starting.begin.Goals as goal

pub endpoints_of-requires : goal.endpoints_of-requires
endpoints_of-requires c = record { of = all_of _ _ _ (search rules) c.in_ok-session.ensures.stages }

pub returns-in-Ok-new : goal.returns-in-Ok-new
returns-in-Ok-new c = begun _ _ _ _ _ _ (search rules) c.in_ok-session.ensures.machines (search rules) c.in_ok-session.ensures.stages c.in_ok-endpoints-in-Ok-new.ensures
