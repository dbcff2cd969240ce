use Rattle.std.proofs.Common.{◌≡◌, ◌∷◌, drop, rules}
use Rattle.rs_bodies.proofs.MarksFed.{brace_stands, passes_by}
use Rattle.rs_bodies.proofs.reading.Reader.take_open_brace.Goals as goal

pub returns-in_ok-open-in-123-clause-passes : goal.returns-in_ok-open-in-123-clause-passes
returns-in_ok-open-in-123-clause-passes c =
    let front : drop c.args.at c.args.bytes.now ≡ 123 ∷ drop 1 (drop c.args.at c.args.bytes.now) = search rules in
    passes_by c.args.dialect c.args.bytes.now c.args.at c.args.self.now c.open.new.self _
    (brace_stands c.args.dialect c.args.bytes.now (drop 1 (drop c.args.at c.args.bytes.now)) c.args.at c.args.act c.args.self.now front c.requires.mode)
    c.in_ok-open-in-123.ensures
