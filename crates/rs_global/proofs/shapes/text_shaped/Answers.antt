use Rattle.std.proofs.Common.{ap}
use Rattle.rs_global.proofs.ShapeWhole.{shaped_exactly, not_shaped}
use Rattle.rs_global.proofs.shapes.text_shaped.Goals as goal

pub returns-then-fit_a_line : goal.returns-then-fit_a_line
returns-then-fit_a_line c =
    shaped_exactly c.args.protocol.now c.protocol.inside.roles c.from.result c.fit_a_line.result c.has_body.result
    (ap (λ z. z.roles) c.protocol.view_is) c.from.ensures c.fit_a_line.ensures c.if-fit_a_line.true c.has_body.ensures

pub returns-else-fit_a_line : goal.returns-else-fit_a_line
returns-else-fit_a_line c = (
  (λ h. absurd (cc h)),
  (λ s. absurd
      (not_shaped c.args.protocol.now c.protocol.inside.roles c.fit_a_line.result (ap (λ z. z.roles) c.protocol.view_is) c.fit_a_line.ensures c.if-fit_a_line.false s)),
)
