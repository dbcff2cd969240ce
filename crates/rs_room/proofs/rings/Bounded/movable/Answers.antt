use Rattle.std.proofs.Common.{rules}
use Rattle.rs_room.proofs.Moving.{least, none_moves, then_ended}
use Rattle.rs_room.proofs.rings.Bounded.movable.Goals as goal

pub returns-then-can_move-clause-least : goal.returns-then-can_move-clause-least
returns-then-can_move-clause-least c =
    least c.args.self.now c.roles-number-end.ensures.session c.loop-number.number (search rules) (search rules) c.loop-number.invariant

pub returns-clause-none : goal.returns-clause-none
returns-clause-none c = none_moves c.args.self.now (λ q hq. c.loop-number.invariant q (search rules))

pub returns-clause-ended : goal.returns-clause-ended
returns-clause-ended c = then_ended c.args.self.now c.roles-number-end.ensures.session (λ q hq. c.loop-number.invariant q (search rules))
