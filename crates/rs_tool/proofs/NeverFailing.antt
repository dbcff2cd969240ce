-- What a `check` without options answers whose source and sink never fail.
use Rattle.std.proofs.Common.{◌≡◌, ◌⊎◌, ℕ, ◌≤◌, List, [], ◌∷◌, length, Option, Some, false, refl, subst, inl, inr, codes, arith}
use Rattle.std.specs.Prelude.{IfSome}
use Rattle.std.specs.Io.KnownBytes.{IsAtEnd}
use Rattle.rs_io.specs.Faults.{Rose}
use Rattle.rs_model.specs.declared.limits.TheConstants.{DEFAULT_BOUND, MOST_BYTES}
use Rattle.rs_tool.specs.Calls.{Ends, Tells, TellsAll, TellsPart, TellsReadFault, TellsNoMemory}
use Rattle.rs_tool.specs.Data.{CallInput, CallOutput, call_of}
use Rattle.rs_tool.specs.Never.{IsStatusOfAnswer}
use Rattle.rs_tool.specs.Tasks.{AskForWorkers}
use Rattle.rs_tool.specs.declared.statuses.Reply.{Reply}
use Rattle.rs_tool.specs.declared.statuses.Status.TheVariants as status
use Rattle.rs_tool.proofs.MadeReady.{not_asked}
use Rattle.rs_tool.proofs.Unique.{one_answer}
use Rattle.rs_words.specs.Grammar.{check_form, nothing}
use Rattle.rs_words.specs.Meaning.{SpellsTask}
use Rattle.rs_words.specs.declared.tasks.DocumentTask.TheVariants as on_document
use Rattle.rs_words.specs.declared.tasks.Task.{Task}
use Rattle.rs_words.specs.declared.tasks.Task.TheVariants as task

-- what the word `check` asks for
abbrev plain_check : Task
plain_check = task.OnDocument (on_document.Check (record { bound = DEFAULT_BOUND; derivations = false }))

pub check_is_spelt : (words : List (List ℕ)) → words ≡ codes "check" ∷ [] → SpellsTask words plain_check
check_is_spelt words is = record {
  form = check_form;
  rest = [];
  uses = [];
  is_command = refl;
  words_are = is;
  rest_spells = record { pieces = []; ending = nothing; words_are = refl; pieces_stand = tt; ending_stands = tt; uses_are = refl; all_new = tt };
  task_is = refl;
}

pub check_needs_no_workers : (words : List (List ℕ)) → words ≡ codes "check" ∷ [] → AskForWorkers words → ⊥
check_needs_no_workers words is = not_asked words plain_check (check_is_spelt words is) refl

-- a count that stays at 0 doesn't rise
pub never_rises : Rose 0 0 ⊥ → ⊥
never_rises (inl more) = absurd (omega arith)
never_rises (inr last) = last

module _ {S K : Type 0} (words : List (List ℕ)) (input : CallInput S) (output : CallOutput K) (reply : Reply) (is : words ≡ codes "check" ∷ []) (ends : Ends (call_of words input output) reply)
    (unread : input.rose → ⊥) (unwritten : output.rose → ⊥) where
  pub no_fault : (reply.status ≡ status.ReadFault → ⊥) × (reply.status ≡ status.WriteFault → ⊥)
  no_fault = (λ e. unread (ends.read_fault e), λ e. unwritten (ends.write_fault e))

  pub answer_of : (bytes : List ℕ) → input.left ≡ Some bytes → (reply.status ≡ status.NoMemory) ⊎ IsStatusOfAnswer words bytes reply.status
  answer_of bytes left = by_telling (subst (λ (o : Option (List ℕ)). IfSome o (λ b. Tells words b output reply)) left ends.answer.told)
    where
      by_telling : Tells words bytes output reply → (reply.status ≡ status.NoMemory) ⊎ IsStatusOfAnswer words bytes reply.status
      by_telling (TellsAll a h session text told) =
          inr (record { answer = a; answers = h; one = λ other k. one_answer words bytes other a (check_needs_no_workers words is) k h; status_is = told })
      by_telling (TellsPart a h session text told) = absurd (no_fault.1 told)
      by_telling (TellsReadFault keeps told none) = absurd (no_fault.0 told)
      by_telling (TellsNoMemory keeps told none) = inl told

  pub left_at_end : (bytes : List ℕ) → input.left ≡ Some bytes → length bytes ≤ MOST_BYTES → (reply.status ≡ status.NoMemory → ⊥) → IsAtEnd input.later
  left_at_end bytes left short given =
      subst (λ (o : Option (List ℕ)). IfSome o (λ b. length b ≤ MOST_BYTES → ((reply.status ≡ status.ReadFault) ⊎ (reply.status ≡ status.NoMemory) → ⊥) → IsAtEnd input.later)) left
      (ends.end (plain_check, check_is_spelt words is, tt)) short (λ stop. elim stop [ inl e ↦ no_fault.0 e | inr e ↦ given e ])
