use Rattle.std.proofs.Common.{◌≡◌, ◌-◌, ◌++◌}
use Rattle.rs_core.specs.Draws.{after_many, draw_numbers}
use Rattle.rs_core.proofs.seeded.Draws.draw_numbers.Given as goal

abbrev pub invariant-loop : goal.invariant-loop
invariant-loop l = record {
  drawn : l.items.items ++ draw_numbers (l.many - l.counter) l.self.number ≡ draw_numbers l.many l.initial.self.number;
  left : after_many (l.many - l.counter) l.self.number ≡ after_many l.many l.initial.self.number;
}
