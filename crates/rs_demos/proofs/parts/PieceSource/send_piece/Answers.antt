use Rattle.std.proofs.Common.{◌≡◌, ◌+◌, List, ℕ, length, take, drop, ap, sym, ◌∙◌, arith}
use Rattle.rs_demos.proofs.Pieces.{send_on, within}
use Rattle.rs_demos.proofs.parts.PieceSource.send_piece.Goals as goal

pub invariant_of-self : goal.invariant_of-self
invariant_of-self c =
    let left : c.args.self.now ≡ drop c.self.inside.sent c.self.inside.bytes.items = sym c.self.view_is in
    let piece : c.first_piece-piece.result.now ≡ take 4096 c.args.self.now = c.first_piece-piece.ensures ∙ ap (λ (z : List ℕ). take 4096 z) c.left.ensures in
    let whole : c.first_piece-piece.result.now ≡ take 4096 (drop c.self.inside.sent c.self.inside.bytes.items) = piece ∙ ap (λ (z : List ℕ). take 4096 z) left in
    omega (arith, ap length whole, within c.self.inside.sent 4096 c.self.inside.bytes.items c.self.invariant)

pub returns-clause-left : goal.returns-clause-left
returns-clause-left c =
    let piece : c.first_piece-piece.result.now ≡ take 4096 c.args.self.now = c.first_piece-piece.ensures ∙ ap (λ (z : List ℕ). take 4096 z) c.left.ensures in
    let left : c.args.self.now ≡ drop c.self.inside.sent c.self.inside.bytes.items = sym c.self.view_is in
    ap (λ (z : List ℕ). drop (c.self.inside.sent + length z) c.self.inside.bytes.items) piece ∙ send_on c.self.inside.sent 4096 c.self.inside.bytes.items c.args.self.now left
