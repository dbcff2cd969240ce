-- What is made ready leads to what is due.
use Rattle.std.proofs.Common.{◌≡◌, ◌⊎◌, inl, inr, ℕ, None, Result, Ok, Err, sym, ap, subst, ◌∙◌}
use Rattle.std.specs.Prelude.{IfOk}
use Rattle.rs_answers.specs.Accepting.{IsRefusedDocument}
use Rattle.rs_answers.specs.Data.{Answer_data}
use Rattle.rs_runs.specs.Ready.{Warrants}
use Rattle.rs_answers.specs.Refusals.{HasNoDerivations, refusal_answer}
use Rattle.rs_answers.specs.declared.accepting.RefusedDocument.{RefusedDocument}
use Rattle.rs_runs.specs.declared.answers.AnswerWithSession.{AnswerWithSession}
use Rattle.rs_runs.specs.declared.ready.Prepared.{Prepared}
use Rattle.rs_runs.specs.declared.ready.Prepared.TheVariants.{Answered}
use Rattle.rs_answers.specs.declared.refusals.Refusal.TheVariants as refusal
use Rattle.rs_documents.specs.Data.{Document_data}
use Rattle.rs_model.specs.declared.memory.NoMemory.{NoMemory}
use Rattle.rs_model.specs.declared.runs.Workers.{Workers}
use Rattle.rs_model.specs.declared.runs.Workers.TheVariants.{Several}

-- what holds of an answer to which no session is given holds of all that comes of it
abbrev pub HoldsAlone : (AnswerWithSession → Type 0) → Answer_data → Type 0
HoldsAlone fact a = (given : AnswerWithSession) → given.answer ≡ a → given.closed ≡ None → fact given

pub answer_leads : (workers : Workers) (p : Prepared) (a : Answer_data) (fact : AnswerWithSession → Type 0) → p ≡ Answered a → HoldsAlone fact a → Warrants workers p fact
answer_leads workers p a fact is h =
    subst (λ (z : Prepared). Warrants workers z fact) (sym is) (record { ready = tt; given = λ g comes. h g comes.0 comes.1 })

-- an answer that was made leads there where each such answer does
pub made_leads : (workers : Workers) (P : Answer_data → Type 0) (fact : AnswerWithSession → Type 0) (r : Result Answer_data NoMemory) (s : Result Prepared NoMemory)
    → IfOk s (λ p. (a : Answer_data) × (r ≡ Ok a) × (p ≡ Answered a)) → IfOk r P
    → ((a : Answer_data) → P a → HoldsAlone fact a) → IfOk s (λ p. Warrants workers p fact)
made_leads workers P fact r (Err e) made h next = tt
made_leads workers P fact r (Ok p) made h next =
    answer_leads workers p made.0 fact made.2 (next made.0 (subst (λ (z : Result Answer_data NoMemory). IfOk z P) made.1 h))

-- however many workers make the turns
pub made_leads_crew : (P : Answer_data → Type 0) (fact : AnswerWithSession → Type 0) (r : Result Answer_data NoMemory) (s : Result Prepared NoMemory)
    → IfOk s (λ p. (a : Answer_data) × (r ≡ Ok a) × (p ≡ Answered a)) → IfOk r P
    → ((a : Answer_data) → P a → HoldsAlone fact a) → IfOk s (λ p. (crew : ℕ) → Warrants (Several crew) p fact)
made_leads_crew P fact r (Err e) made h next = tt
made_leads_crew P fact r (Ok p) made h next = λ crew. made_leads (Several crew) P fact r (Ok p) made h next

-- what is answered to a refused document is so for a reason that it has
pub told_refusal : (bound : ℕ) (d : Document_data) (x : RefusedDocument) (r : Result Answer_data NoMemory) → IsRefusedDocument bound d x → IfOk r (λ a. a ≡ refusal_answer x.names x.refusal)
    → IfOk r (λ a. x.refusal ≡ refusal.NoMemory → ⊥)
    → IfOk r (λ a. HasNoDerivations bound d x.refusal × (a ≡ refusal_answer d.names x.refusal))
told_refusal bound d x (Err e) is told never = tt
told_refusal bound d x (Ok a) is told never = (reason is.why, told ∙ ap (λ n. refusal_answer n x.refusal) is.names)
  where
    reason : (x.refusal ≡ refusal.NoMemory) ⊎ HasNoDerivations bound d x.refusal → HasNoDerivations bound d x.refusal
    reason (inl memory) = absurd (never memory)
    reason (inr h) = h
