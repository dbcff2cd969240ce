use Rattle.rs_answers.proofs.refusal_texts.wf_answer.Goals as goal

pub returns-in-TwiceLabel : goal.returns-in-TwiceLabel
returns-in-TwiceLabel c = rw c.in-TwiceLabel.is (rw c.from-in-TwiceLabel.ensures at (rw c.label_name.ensures at c.malformed_answer-in-TwiceLabel.ensures))
