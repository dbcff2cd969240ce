use Rattle.std.proofs.Common.{rules, ◌≡◌, ℕ, List, subst, IfOk}
use Rattle.rs_tool.specs.Headline.{SpellsSafeMachines}
use Rattle.rs_tool.specs.Tasks.{SpellsCheck, SpellsExplain, SpellsVerify}
use Rattle.rs_tool.specs.declared.statuses.Status.TheVariants.{Fine}
use Rattle.rs_calls.proofs.answering.answer_to.Goals as goal

pub returns-in-Some-clause-checked : goal.returns-in-Some-clause-checked
returns-in-Some-clause-checked c =
    subst (λ (ws : List (List ℕ)). IfOk c.answer_to_words.result (λ a. (bound : ℕ) → SpellsCheck ws bound → a.status ≡ Fine → SpellsSafeMachines c.args.text.now)) (search rules) c.answer_to_words.ensures.checked

pub returns-in-Some-clause-explained : goal.returns-in-Some-clause-explained
returns-in-Some-clause-explained c =
    subst (λ (ws : List (List ℕ)). IfOk c.answer_to_words.result (λ a. (bound : ℕ) → SpellsExplain ws bound → a.status ≡ Fine → SpellsSafeMachines c.args.text.now)) (search rules) c.answer_to_words.ensures.explained

pub returns-in-Some-clause-verified : goal.returns-in-Some-clause-verified
returns-in-Some-clause-verified c =
    subst (λ (ws : List (List ℕ)). IfOk c.answer_to_words.result (λ a. SpellsVerify ws → a.status ≡ Fine → SpellsSafeMachines c.args.text.now)) (search rules) c.answer_to_words.ensures.verified
