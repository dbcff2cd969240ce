use Rattle.std.proofs.Common.{◌≡◌, ◌∷◌, drop, arith, rules, ap, ◌∙◌}
use Rattle.std.proofs.lemmas.Grind.{common_steps}
use Rattle.rs_text.specs.Signs.{Sign, close_brace, comma}
use Rattle.rs_bodies.specs.Feeding.{feed_behind}
use Rattle.rs_bodies.proofs.reading.Reader.next.Goals as goal

pub returns-in-Comma : goal.returns-in-Comma
returns-in-Comma c =
    let outer : c.args.self.now.frames ≡ c.in-Some.frame ∷ drop 1 c.args.self.now.frames = grind (arith, common_steps) in
    let is_comma : c.args.token.now.sign ≡ comma = search rules in
    ap (λ (z : Sign). feed_behind z c.args.token.now.from c.args.self.now) is_comma ∙ c.next_arm.ensures (drop 1 c.args.self.now.frames) outer c.args.token.now.from

pub returns-in-CloseBrace : goal.returns-in-CloseBrace
returns-in-CloseBrace c =
    let outer : c.args.self.now.frames ≡ c.in-Some.frame ∷ drop 1 c.args.self.now.frames = grind (arith, common_steps) in
    let is_brace : c.args.token.now.sign ≡ close_brace = search rules in
    ap (λ (z : Sign). feed_behind z c.args.token.now.from c.args.self.now) is_brace ∙ c.close.ensures (drop 1 c.args.self.now.frames) outer c.args.token.now.from
