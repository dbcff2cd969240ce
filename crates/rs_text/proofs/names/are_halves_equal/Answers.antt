use Rattle.std.proofs.Common.{rules, arith, sym, ap, ◌∙◌, eqb-true, eq-eqb}
use Rattle.rs_text.specs.Eights.{half_at}
use Rattle.rs_text.proofs.Eights.{four_all}
use Rattle.rs_text.proofs.names.are_halves_equal.Goals as goal

pub returns-then-half_at : goal.returns-then-half_at
returns-then-half_at c =
    let last = sym c.half_at.ensures ∙ c.if-half_at.true ∙ c.half_at-2.ensures in
    let first = c.half_at-then-half_at in
    let second = c.half_at-then-half_at-2 in (
      (λ e. four_all c.args.one.now c.args.other.now _ (omega arith) (omega arith) c.requires.size (search rules) (search rules) last
          (sym first.ensures ∙ eqb-true first.result second.result e ∙ second.ensures)),
      (λ e. eq-eqb first.result second.result (first.ensures ∙ ap (λ z. half_at z 0) e ∙ sym second.ensures)),
    )
