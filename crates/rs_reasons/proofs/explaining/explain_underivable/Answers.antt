use Rattle.std.proofs.Common.{◌∙◌, inl, inr, ap}
use Rattle.rs_documents.specs.Data.{Document_data}
use Rattle.rs_answers.specs.Refusals.{refusal_answer}
use Rattle.rs_answers.specs.declared.refusals.Refusal.TheVariants.{Underivable}
use Rattle.rs_reasons.proofs.Reasons.{mapped, tells_underivable}
use Rattle.rs_reasons.proofs.explaining.explain_underivable.Goals as goal

pub returns : goal.returns
returns c = elim c.requires.refused [
  | inl memory ↦ absurd (c.in_default.not-NoMemory memory)
  | inr h ↦
      mapped _ _ c.with_lines.result
      (λ a e.
      tells_underivable c.args.places.now c.args.bound c.args.document.now c.args.session.now.projections.items c.args.session.now.machines.items c.args.underivable c.in_ok-answer.answer c.in_ok-lines.lines
      c.requires.has h c.in_ok-lines.ensures
      (c.in_ok-answer.ensures.answer ∙ ap (λ (x : Document_data). refusal_answer x.names (Underivable c.args.underivable)) c.document.view_is) a e) c.with_lines.ensures
]
