use Rattle.rs_answers.proofs.refusal_texts.text_at_place.Goals as goal

pub returns : goal.returns
returns c = rw c.place-line.ensures.line at (rw c.place-line.ensures.column at c.malformed_answer.ensures)
