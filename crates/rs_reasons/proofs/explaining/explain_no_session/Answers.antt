use Rattle.std.proofs.Common.{◌∙◌, ap}
use Rattle.rs_documents.specs.Data.{Document_data}
use Rattle.rs_answers.specs.Refusals.{refusal_answer}
use Rattle.rs_reasons.proofs.Reasons.{mapped, tells_no_session}
use Rattle.rs_reasons.proofs.explaining.explain_no_session.Goals as goal

pub returns : goal.returns
returns c =
    mapped _ _ c.with_lines.result
    (λ a e bound.
    tells_no_session c.args.places.now bound c.args.document.now c.args.refusal c.in_ok-answer.answer c.in_ok-lines.lines c.requires.none c.in_ok-answer.ensures.memory (c.in_ok-lines.ensures bound)
    (c.in_ok-answer.ensures.answer ∙ ap (λ (x : Document_data). refusal_answer x.names c.args.refusal) c.document.view_is) a e) c.with_lines.ensures
