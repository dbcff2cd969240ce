use Rattle.std.proofs.Common.{rules, ◌≡◌, ◌∙◌, ◌+◌, ◌-◌, ◌<◌, ◌%◌, ◌++◌, ◌∷◌, [], ap, sym}
use Rattle.rs_core.specs.Draws.{after, draw, draw_octets}
use Rattle.rs_core.proofs.Drawing.{octets_on, after_on, drawn_on}
use Rattle.rs_core.proofs.seeded.Draws.draw_octets.Goals as goal

pub loop-preserved : goal.loop-preserved
loop-preserved c =
    let h : c.loop.counter < c.draw-many.result % 5 = c.loop-test.true in
    let e : c.push.new.self.items ≡ c.loop.bytes.items ++ (draw c.loop.self.number % 256 ∷ []) = search rules in
    record {
      drawn = rw c.draw.ensures.after (drawn_on c.push.new.self.items c.loop.bytes.items (draw_octets (c.draw-many.result % 5 - (c.loop.counter + 1)) (after c.loop.self.number))
          (draw_octets (c.draw-many.result % 5) c.draw-many.new.self.number) (draw c.loop.self.number % 256) e
          (ap (λ z. c.loop.bytes.items ++ z) (sym (octets_on (c.draw-many.result % 5) c.loop.counter c.loop.self.number h)) ∙ c.loop.invariant.drawn));
      left = rw c.draw.ensures.after (sym (after_on (c.draw-many.result % 5) c.loop.counter c.loop.self.number h) ∙ c.loop.invariant.left);
    }
