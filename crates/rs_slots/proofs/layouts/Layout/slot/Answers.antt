use Rattle.rs_slots.proofs.Places.{slot_below}
use Rattle.rs_slots.proofs.layouts.Layout.slot.Goals as goal

pub returns-clause-below : goal.returns-clause-below
returns-clause-below c = slot_below c.args.self.now.roles c.args.self.now.capacity c.args.ring c.args.count c.args.self.now.roomy c.requires.present
