use Rattle.std.proofs.Common.{ap}
use Rattle.rs_machines.proofs.ShapeWhole.{shaped_exactly, not_shaped}
use Rattle.rs_machines.proofs.shapes.machine_text_shaped.Goals as goal

pub returns-then-can_be_named : goal.returns-then-can_be_named
returns-then-can_be_named c =
    shaped_exactly c.args.machine.now c.machine.inside.role c.can_be_named.result c.has_body.result
    (ap (λ z. z.role) c.machine.view_is) c.can_be_named.ensures c.if-can_be_named.true c.has_body.ensures

pub returns-else-can_be_named : goal.returns-else-can_be_named
returns-else-can_be_named c = (
  (λ h. absurd (cc h)),
  (λ s. absurd
      (not_shaped c.args.machine.now c.machine.inside.role c.can_be_named.result (ap (λ z. z.role) c.machine.view_is) c.can_be_named.ensures c.if-can_be_named.false s)),
)
