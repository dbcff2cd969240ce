use Rattle.std.proofs.Common.{◌≡◌, ◌<◌, ℕ, List, Some, length, slice_get, sym, ap, ◌∙◌, subst}
use Rattle.rs_model.specs.Data.{Machine_data}
use Rattle.rs_model.specs.declared.machines.State.TheVariants.{Done}
use Rattle.rs_core.specs.Configurations.{state_of}
use Rattle.rs_rings.specs.Told.{IsLegalEnd}
use Rattle.rs_rings.specs.Views.{the_part}
use Rattle.rs_rings.specs.declared.views.View.{View}
use Rattle.rs_rings.proofs.Over.{is_over}
use Rattle.rs_rings.proofs.rings.Rings.close.Goals as goal

pub returns-clause-over : goal.returns-clause-over
returns-clause-over c = let f = c.self.inside.inner in let r = c.close.result in let e = c.close.ensures in
    let long : f.layout.roles ≡ length r.machines = sym f.machine_count ∙ ap length (sym f.same) ∙ ap length (sym e.closed.machines_are) in
    let ms : r.machines ≡ c.args.self.machines = e.closed.machines_are ∙ ap (λ z. z.machines) c.self.view_is in
    let n : c.args.self.roles ≡ length r.machines = sym (ap (λ z. z.roles) c.self.view_is) ∙ long in
    let v : r.last ≡ c.args.pass.view = e.closed.last_is ∙ ap (λ z. z.view) c.pass.view_is in
    is_over r (subst (λ (z : List Machine_data × ℕ × View). IsLegalEnd z.0 z.1 z.2) (λ i. (sym e.closed.machines_are i, long i, sym e.closed.last_is i)) e.ends)
    (subst (λ (z : List Machine_data × ℕ × View). (k : ℕ) → k < z.1 → state_of (slice_get z.0 k) (the_part k z.2.parts).state ≡ Some Done) (λ i. (sym ms i, n i, sym v i)) c.requires.ended)
