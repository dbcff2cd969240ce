use Rattle.std.proofs.Common.{◌<◌, ℕ, List, map, refl, arith}
use Rattle.rs_demos.proofs.Ranges.{one_more}
use Rattle.rs_demos.specs.Sessions.{next_in_ring}
use Rattle.rs_demos.specs.Writing.{exchange_text, exchanges_text}
use Rattle.rs_demos.proofs.documents.push_ring_round.Goals as goal

pub loop-role-preserved : goal.loop-role-preserved
loop-role-preserved c =
    let lt : c.loop-role.role < c.args.roles = omega arith in
    one_more (λ (xs : List ℕ). exchanges_text (map (λ (i : ℕ). (i, next_in_ring c.args.roles i)) xs)) (λ (i : ℕ). exchange_text (i, next_in_ring c.args.roles i)) (λ i xs. refl)
    c.loop-role.role c.args.roles c.loop-role.text c.push_exchange.new.text lt c.in_ok-push_exchange.ensures c.loop-role.invariant
