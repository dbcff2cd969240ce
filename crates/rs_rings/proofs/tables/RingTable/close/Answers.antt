use Rattle.std.proofs.Common.{◌<◌, ℕ, subst}
use Rattle.rs_rings.specs.Rule.{machines_in_key}
use Rattle.rs_rings.specs.Told.{IsLegalEnd}
use Rattle.rs_rings.proofs.Seats.{ends}
use Rattle.rs_rings.proofs.tables.RingTable.close.Goals as goal

pub returns-clause-ends : goal.returns-clause-ends
returns-clause-ends c = let f = c.close_with-closed.ensures.values.2 in let key = c.args.self.board.shared.key in
    subst (λ (n : ℕ). IsLegalEnd (machines_in_key key) n c.args.seat.me.0) c.args.self.keyed.0
    (ends key c.args.seat.id c.args.seat.me.0 f.0 (λ r l. c.requires.all r (subst (λ (n : ℕ). r < n) c.args.self.keyed.0 l)) f.1)
