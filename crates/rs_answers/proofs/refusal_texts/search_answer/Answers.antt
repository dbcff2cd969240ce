use Rattle.rs_answers.proofs.refusal_texts.search_answer.Goals as goal

pub returns-in_ok-what-in-Forgets-clause-answer : goal.returns-in_ok-what-in-Forgets-clause-answer
returns-in_ok-what-in-Forgets-clause-answer c =
    rw c.in-Forgets.is (rw c.role_name-in-Forgets.ensures at (rw c.from.ensures at (rw c.in_ok-what-in-Forgets.ensures at (rw c.as_slice.ensures at c.refused_answer-in-Forgets.ensures))))
