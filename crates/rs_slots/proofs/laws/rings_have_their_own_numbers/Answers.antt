use Rattle.rs_slots.proofs.Places.{one_ring, ring_below}
use Rattle.rs_slots.proofs.laws.rings_have_their_own_numbers.Goals as goal

pub returns-clause-one : goal.returns-clause-one
returns-clause-one c = one_ring

pub returns-clause-below : goal.returns-clause-below
returns-clause-below c = ring_below
