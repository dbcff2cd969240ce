use Rattle.rs_slots.proofs.Places.{slots_apart, counts_apart, slot_below, next_turn}
use Rattle.rs_slots.proofs.laws.rings_share_no_slot.Goals as goal

pub returns-clause-rings : goal.returns-clause-rings
returns-clause-rings c = λ cap i j k m pos e. (slots_apart cap i j k m pos e).0

pub returns-clause-counts : goal.returns-clause-counts
returns-clause-counts c = counts_apart

pub returns-clause-below : goal.returns-clause-below
returns-clause-below c = slot_below

pub returns-clause-again : goal.returns-clause-again
returns-clause-again c = next_turn
