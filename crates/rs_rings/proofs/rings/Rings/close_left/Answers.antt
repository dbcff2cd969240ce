use Rattle.std.proofs.Common.{◌≡◌, ℕ, List, length, sym, ap, ◌∙◌, subst}
use Rattle.rs_model.specs.Data.{Machine_data}
use Rattle.rs_rings.specs.Told.{IsLegalEnd}
use Rattle.rs_rings.specs.declared.views.View.{View}
use Rattle.rs_rings.proofs.Over.{is_left}
use Rattle.rs_rings.proofs.rings.Rings.close_left.Goals as goal

pub returns-clause-left : goal.returns-clause-left
returns-clause-left c = let f = c.self.inside.inner in let r = c.close_left-closed.result in let e = c.close_left-closed.ensures in
    let long : f.layout.roles ≡ length r.machines = sym f.machine_count ∙ ap length (sym f.same) ∙ ap length (sym e.closed.machines_are) in
    is_left r (subst (λ (z : List Machine_data × ℕ × View). IsLegalEnd z.0 z.1 z.2) (λ i. (sym e.closed.machines_are i, long i, sym e.closed.last_is i)) e.ends)
