-- What a call over a source that never fails and a sink that keeps all ends with.
use Rattle.std.proofs.Common.{◌≡◌, ℕ, List, [], ◌++◌, Option, Some, refl, sym, ap, ◌∙◌, subst}
use Rattle.rs_answers.specs.Data.{Answer_data}
use Rattle.rs_tool.specs.Answers.{Answers}
use Rattle.rs_tool.specs.Calls.{Tells, TellsAll, TellsPart, TellsReadFault, TellsNoMemory}
use Rattle.rs_tool.specs.Data.{CallOutput}
use Rattle.rs_tool.specs.Statuses.{status_of}
use Rattle.rs_tool.specs.declared.statuses.Reply.{Reply}
use Rattle.rs_tool.specs.declared.statuses.Status.{Status}
use Rattle.rs_tool.specs.declared.statuses.Status.TheVariants.{ReadFault, WriteFault, NoMemory}
use Rattle.rs_calls.specs.Calls.{IsAnswerTo}
use Rattle.rs_calls.specs.declared.answering.CallAnswer.{CallAnswer}

-- who wasn't told of a fault, or of refused memory, has the whole answer
pub whole : {K : Type 0} (words : List (List ℕ)) (bytes kept : List ℕ) (output : CallOutput K) (reply : Reply) (told : CallAnswer)
    → Tells words bytes output reply → output.written ≡ Some [] → output.later ≡ Some kept → told.text.items ≡ kept → told.status ≡ reply.status
    → (reply.status ≡ WriteFault → ⊥) × (reply.status ≡ ReadFault → ⊥) × (reply.status ≡ NoMemory → ⊥) → IsAnswerTo words bytes told
whole words bytes kept output reply told (TellsAll answer answers out appends status) old new is-text is-status none = record {
  answer = answer;
  answers = answers;
  text = is-text ∙ subst (λ (o : Option (List ℕ)). Rattle.std.specs.Io.KnownBytes.Appends (Some []) o answer.text) new (subst (λ (o : Option (List ℕ)). Rattle.std.specs.Io.KnownBytes.Appends o output.later answer.text) old appends);
  status = is-status ∙ status;
}
whole words bytes kept output reply told (TellsPart answer answers out appends status) old new is-text is-status none = absurd (none.0 status)
whole words bytes kept output reply told (TellsReadFault keeps status closed) old new is-text is-status none = absurd (none.1 status)
whole words bytes kept output reply told (TellsNoMemory keeps status closed) old new is-text is-status none = absurd (none.2 status)
