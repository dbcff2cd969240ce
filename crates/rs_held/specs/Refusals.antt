-- Public: what is answered to texts that aren't opened, with the reason.
use Rattle.std.specs.Prelude.{◌≡◌, ◌⊎◌, ℕ, ◌≤◌, Bool, true, false, List, length}
use Rattle.rs_answers.specs.Data.{Answer_data}
use Rattle.rs_answers.specs.Refusals.{HasNoDerivations, HasNoSession, refusal_answer}
use Rattle.rs_answers.specs.Verifying.{IsUnverified}
use Rattle.rs_answers.specs.declared.refusals.Refusal.{Refusal}
use Rattle.rs_answers.specs.declared.refusals.Refusal.TheVariants as refusal
use Rattle.rs_answers.specs.declared.verifying.Blame.{Blame}
use Rattle.rs_documents.specs.Data.{Document_data}
use Rattle.rs_documents.specs.Documents.{SpellsDocument}
use Rattle.rs_model.specs.declared.graph.Role.{Role}
use Rattle.rs_model.specs.declared.limits.TheConstants.{MOST_BYTES}
use Rattle.rs_open.specs.Opening.{HasAllDerivations, IsUncertified, IsUnreadable}
use Rattle.rs_open.specs.declared.opening.OpenRefused.{OpenRefused}
use Rattle.rs_open.specs.declared.opening.OpenRefused.TheVariants as why
use Rattle.rs_reasons.specs.Explains.{Explains}

-- whether the document's own derivations decide: each role has one, and there is a session
abbrev pub Tests : Document_data → Bool → Type 0
Tests d true = (HasAllDerivations d ≡ true) × ((none : Refusal) → HasNoSession d none → ⊥)
Tests d false = (HasAllDerivations d ≡ false) ⊎ ((none : Refusal) × HasNoSession d none)

-- the text isn't accepted, and this is answered to it: one of these applies
pub data IsExplained (bound : ℕ) (bytes : List ℕ) (answer : Answer_data) : Type 0 where
  -- no document is read: the answer of each word
  ReadsNone : IsUnreadable bytes answer → IsExplained bound bytes answer
  -- each role of its document has its own derivation, and one of these is at fault: the answer of `verify`
  IsTestedFor : length bytes ≤ MOST_BYTES → (d : Document_data) → SpellsDocument bytes d → HasAllDerivations d ≡ true
      → (role : Role) (blame : Blame) → IsUnverified d (refusal.Blamed role blame) → answer ≡ refusal_answer d.names (refusal.Blamed role blame)
      → IsExplained bound bytes answer
  -- there is no session, or some role has no derivation of its own and the search doesn't find all: the answer of `explain`
  IsSearchedFor : length bytes ≤ MOST_BYTES → (d : Document_data) → SpellsDocument bytes d → (none : Refusal) → IsUncertified bound d none → HasNoDerivations bound d none
      → Explains bound bytes d answer → IsExplained bound bytes answer

-- why a text isn't opened: this is answered, with the reason; or memory was refused
abbrev pub RefusesWithReason : ℕ → List ℕ → OpenRefused → Type 0
RefusesWithReason bound bytes (why.Answered text verdict) = IsExplained bound bytes (record { text = text; verdict = verdict })
RefusesWithReason bound bytes why.NoMemory = Unit {0}
