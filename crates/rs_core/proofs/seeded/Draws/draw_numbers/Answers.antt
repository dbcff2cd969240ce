use Rattle.std.proofs.Common.{rules, ◌≡◌, ◌∙◌, ◌+◌, ◌-◌, ◌<◌, ◌%◌, ◌++◌, ◌∷◌, [], ap, sym}
use Rattle.rs_core.specs.Draws.{after, draw_whole, draw_numbers}
use Rattle.rs_core.proofs.Drawing.{numbers_on, after_on, drawn_on}
use Rattle.rs_core.proofs.seeded.Draws.draw_numbers.Goals as goal

pub loop-preserved : goal.loop-preserved
loop-preserved c =
    let h : c.loop.counter < c.draw-many.result % 5 = c.loop-test.true in
    let e : c.push.new.self.items ≡ c.loop.items.items ++ (draw_whole c.loop.self.number ∷ []) = search rules in
    record {
      drawn = rw c.draw_whole.ensures.after (drawn_on c.push.new.self.items c.loop.items.items (draw_numbers (c.draw-many.result % 5 - (c.loop.counter + 1)) (after c.loop.self.number))
          (draw_numbers (c.draw-many.result % 5) c.draw-many.new.self.number) (draw_whole c.loop.self.number) e
          (ap (λ z. c.loop.items.items ++ z) (sym (numbers_on (c.draw-many.result % 5) c.loop.counter c.loop.self.number h)) ∙ c.loop.invariant.drawn));
      left = rw c.draw_whole.ensures.after (sym (after_on (c.draw-many.result % 5) c.loop.counter c.loop.self.number h) ∙ c.loop.invariant.left);
    }
