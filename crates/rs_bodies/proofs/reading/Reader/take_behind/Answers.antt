use Rattle.std.proofs.Common.{◌≡◌, ◌∷◌, drop, arith, rules}
use Rattle.std.proofs.lemmas.Grind.{common_steps}
use Rattle.rs_bodies.proofs.MarksFed.{close_stands, comma_stands, passes_by}
use Rattle.rs_bodies.proofs.reading.Reader.take_behind.Goals as goal

pub returns-in-44-clause-passes : goal.returns-in-44-clause-passes
returns-in-44-clause-passes c =
    let outer : c.args.self.now.frames ≡ c.in-Some.frame ∷ drop 1 c.args.self.now.frames = grind (arith, common_steps) in
    let front : drop c.args.at c.args.bytes.now ≡ 44 ∷ drop 1 (drop c.args.at c.args.bytes.now) = search rules in
    passes_by c.args.dialect c.args.bytes.now c.args.at c.args.self.now c.next_arm.new.self _
    (comma_stands c.args.dialect c.args.bytes.now (drop 1 (drop c.args.at c.args.bytes.now)) c.args.at c.in-Some.frame (drop 1 c.args.self.now.frames) c.args.self.now front c.requires.mode outer)
    (c.next_arm.ensures (drop 1 c.args.self.now.frames) outer c.args.at)

pub returns-in-125-clause-passes : goal.returns-in-125-clause-passes
returns-in-125-clause-passes c =
    let outer : c.args.self.now.frames ≡ c.in-Some.frame ∷ drop 1 c.args.self.now.frames = grind (arith, common_steps) in
    let front : drop c.args.at c.args.bytes.now ≡ 125 ∷ drop 1 (drop c.args.at c.args.bytes.now) = search rules in
    passes_by c.args.dialect c.args.bytes.now c.args.at c.args.self.now c.close.new.self _
    (close_stands c.args.dialect c.args.bytes.now (drop 1 (drop c.args.at c.args.bytes.now)) c.args.at c.in-Some.frame (drop 1 c.args.self.now.frames) c.args.self.now front c.requires.mode outer)
    (c.close.ensures (drop 1 c.args.self.now.frames) outer c.args.at)
