use Rattle.std.proofs.Common.{◌≡◌, ◌<◌, inl, inr, ℕ, length, get_or, arith, ap, subst, sym, ◌∙◌}
use Rattle.std.proofs.lemmas.Bool.{cases_lt}
use Rattle.std.proofs.lemmas.List.{get_or_default}
use Rattle.rs_project.specs.Marks.{StandsFor}
use Rattle.rs_project.proofs.searching.one_end.Goals as goal

pub loop-start-preserved : goal.loop-start-preserved
loop-start-preserved c = λ k d h.
    let starts = c.args.starts.now in
    let i = c.loop-start.start-index in
    let end = c.run_end-end.result in
    let P : ℕ → Type 0 = λ z. StandsFor c.args.survey.now.protocol c.args.survey.now.role z end in
    let Q : ℕ → Type 0 = λ z. StandsFor c.args.survey.now.protocol c.args.survey.now.role (get_or starts i 0) z in
    let same : c.run_end.result ≡ end = (let f = c.if-run_end-end.false in omega (arith, f)) in
    elim (cases_lt k i) [
      | inl lt ↦ c.loop-start.invariant k d lt
      | inr ge ↦ (let e : k ≡ i = omega (arith, ge, h) in
          let short : i < length starts = (let t = c.loop-start-test.true in omega (arith, t)) in
          subst P (get_or_default starts i 0 d short ∙ sym (ap (λ (z : ℕ). get_or starts z d) e)) (subst Q same c.run_end.ensures.stands))
    ]

pub returns-clause-stand : goal.returns-clause-stand
returns-clause-stand c = λ k d h. c.loop-start.invariant k d (let f = c.loop-start-test.false in omega (arith, f, h))
