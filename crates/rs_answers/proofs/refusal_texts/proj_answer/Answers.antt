use Rattle.rs_answers.proofs.refusal_texts.proj_answer.Goals as goal

pub returns-in_ok-what-in-Unreached-clause-answer : goal.returns-in_ok-what-in-Unreached-clause-answer
returns-in_ok-what-in-Unreached-clause-answer c =
    rw c.in-Unreached.is (rw c.role_name-in-Unreached.ensures at
    (rw c.from.ensures at (rw c.in_ok-what-in-Unreached.ensures at (rw c.as_slice-in-Unreached.ensures at c.unprojectable_answer-in-Unreached.ensures))))
