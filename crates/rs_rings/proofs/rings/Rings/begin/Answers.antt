use Rattle.std.proofs.Common.{◌≡◌, List, [], length, sym, ap, ◌∙◌, subst}
use Rattle.rs_model.specs.Data.{Machine_data}
use Rattle.rs_rings.specs.Rows.{IsBetweenCalls}
use Rattle.rs_rings.specs.Rule.{machines_in_key, first_view}
use Rattle.rs_rings.specs.Views.{starting, first_parts}
use Rattle.rs_rings.proofs.PassRows.{M, kept_first}
use Rattle.rs_rings.proofs.rings.Rings.begin.Goals as goal

pub invariant_of-result-2 : goal.invariant_of-result-2
invariant_of-result-2 c = let f = c.in_ok-inner.inner in let e = c.in_ok-inner.ensures in let items = c.in_ok-rows.rows.items in let ms : List Machine_data = c.args.machines.now in
    let same : machines_in_key f.board.shared.key ≡ ms = e.key.2 ∙ c.in_ok-copies.ensures in
    let n : f.board.shared.key.roles ≡ length ms = f.keyed.0 ∙ sym f.machine_count ∙ ap length (sym f.same ∙ same) in
    let view : first_view f.board.shared.key ≡ starting ms = λ i. record { parts = first_parts (same i) (n i) } in
    subst (λ (m : M). IsBetweenCalls m items) (sym (e.first ∙ (λ i. (view i, [])))) (kept_first ms items c.requires.roles.1 c.in_ok-rows.ensures.some c.in_ok-rows.ensures.none)
