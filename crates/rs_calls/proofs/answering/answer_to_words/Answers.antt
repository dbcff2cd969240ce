use Rattle.std.proofs.Common.{rules, ◌≡◌, ℕ, List, refl, subst}
use Rattle.rs_tool.specs.Headline.{SpellsSafeMachines}
use Rattle.rs_words.specs.Words.{bytes_of_words}
use Rattle.rs_calls.specs.Calls.{IsAnswerTo}
use Rattle.rs_calls.proofs.Ending.{whole}
use Rattle.rs_calls.proofs.answering.answer_to_words.Goals as goal

pub returns-then-is_answered-clause-answer : goal.returns-then-is_answered-clause-answer
returns-then-is_answered-clause-answer c =
    subst (λ (bytes : List ℕ). IsAnswerTo (bytes_of_words c.args.words.now) bytes record { status = c.in-Answered.reply.status; text = c.into_bytes.result }) c.in_ok-source.ensures
    (whole _ c.in_ok-source.source c.command_serial.new.sink.written _ c.in-Answered.reply _ c.in-Answered.ensures.ends.0.answer.told (search rules) refl c.into_bytes.ensures refl (search rules))

pub returns-then-is_answered-clause-checked : goal.returns-then-is_answered-clause-checked
returns-then-is_answered-clause-checked c = λ bound spells fine. subst SpellsSafeMachines c.in_ok-source.ensures (c.in-Answered.ensures.headline bound spells fine)

pub returns-then-is_answered-clause-explained : goal.returns-then-is_answered-clause-explained
returns-then-is_answered-clause-explained c = λ bound spells fine. subst SpellsSafeMachines c.in_ok-source.ensures (c.in-Answered.ensures.explained bound spells fine)

pub returns-then-is_answered-clause-verified : goal.returns-then-is_answered-clause-verified
returns-then-is_answered-clause-verified c = λ spells fine. subst SpellsSafeMachines c.in_ok-source.ensures (c.in-Answered.ensures.verified spells fine)
