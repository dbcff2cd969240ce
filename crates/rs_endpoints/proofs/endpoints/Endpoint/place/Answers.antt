use Rattle.std.proofs.Common.{rules}
use Rattle.rs_endpoints.specs.Endpoints.{HasArmFor}
use Rattle.rs_endpoints.proofs.Places.{has_at_hand, not_below}
use Rattle.rs_endpoints.proofs.endpoints.Endpoint.place.Goals as goal

pub returns-in_ok-place-in-Puts-clause-none : goal.returns-in_ok-place-in-Puts-clause-none
returns-in_ok-place-in-Puts-clause-none c = not_below _ c.in_ok-place-in-Puts.place (λ at. HasArmFor c.args.self.now at c.args.label) c.small_place.ensures.none
    (λ earlier below has. c.in_ok-place-in-Puts.ensures.first earlier below (has_at_hand c.args.self.now c.in-Puts.peer c.as_slice.result.now earlier c.args.label (search rules) has))
