use Rattle.rs_safety.proofs.Accepts.{all_owe_few_shown}
use Rattle.rs_safety.proofs.accepting.Accepted.room.Goals as goal

pub room-requires : goal.room-requires
room-requires c = rw c.as_slice.ensures.value (all_owe_few_shown (record {
  protocol = c.self.inside.protocol;
  projections = c.self.inside.projections.items;
  derivations = c.self.inside.derivations.items;
  machines = c.self.inside.machines.items;
}) c.self.invariant)
