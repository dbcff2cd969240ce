use Rattle.std.proofs.Common.{rules, ◌≡◌, ◌∷◌, [], ◌∙◌, List, length, ap}
use Rattle.rs_model.specs.Data.{Machine_data}
use Rattle.rs_derive.specs.Data.{DNode_data}
use Rattle.rs_search.proofs.Alike.{first_spot}
use Rattle.rs_search.specs.Itself.{even}
use Rattle.rs_search.specs.Spots.{spots_of}
use Rattle.rs_search.proofs.itself.first_lists.Goals as goal

pub returns-clause-found : goal.returns-clause-found
returns-clause-found c =
    let e = c.in_ok-come_to.ensures in
    first_spot (spots_of c.in_ok-nodes.nodes.items) (spots_of c.come_to.new.nodes.items) (even c.machine.inside.start) c.in_ok-come_to.field-0
    (ap (λ (z : List DNode_data). spots_of z) c.in_ok-nodes.ensures.items) e.named.adds e.named.at
    ∙ ap (λ (z : Machine_data). even z.start ∷ []) c.machine.view_is

pub returns-clause-positions : goal.returns-clause-positions
returns-clause-positions c =
    let l : length c.in_ok-places.places.items ≡ length c.machine.inside.states.items = search (rules, c.in_ok-places.ensures.len, c.len.ensures) in
    let p = c.in_ok-come_to.ensures.positions in
    record { bounded = p.bounded; placed = p.placed; size = p.size ∙ l ∙ ap (λ (z : Machine_data). length z.states) c.machine.view_is }
