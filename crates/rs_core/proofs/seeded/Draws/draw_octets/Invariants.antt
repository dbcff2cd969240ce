use Rattle.std.proofs.Common.{◌≡◌, ◌-◌, ◌++◌}
use Rattle.rs_core.specs.Draws.{after_many, draw_octets}
use Rattle.rs_core.proofs.seeded.Draws.draw_octets.Given as goal

abbrev pub invariant-loop : goal.invariant-loop
invariant-loop l = record {
  drawn : l.bytes.items ++ draw_octets (l.many - l.counter) l.self.number ≡ draw_octets l.many l.initial.self.number;
  left : after_many (l.many - l.counter) l.self.number ≡ after_many l.many l.initial.self.number;
}
