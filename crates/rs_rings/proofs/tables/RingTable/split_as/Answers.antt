use Rattle.std.proofs.Common.{rules, ◌≡◌, ℕ, true, sym, subst}
use Rattle.rs_rings.specs.Views.{speaks}
use Rattle.rs_rings.proofs.Seats.{splits}
use Rattle.rs_rings.proofs.tables.RingTable.split_as.Goals as goal

pub split_seat-requires : goal.split_seat-requires
split_seat-requires g c = (
  search rules,
  search rules,
  splits c.args.self.now.board.shared.key _ c.args.seat.now.me.0 g.N.RoleName.role
      (subst (λ (r : ℕ). speaks r c.args.seat.now.me.0.parts ≡ true) (sym c.requires.name) c.requires.speaks),
)
