-- Public: which texts are opened, and what is answered to those that are refused.
use Rattle.std.specs.Prelude.{◌≡◌, ℕ, ◌<◌, ◌≤◌, Bool, true, false, List, length, codes, Result, Ok, Err}
use Rattle.std.specs.List.{list_all}
use Rattle.std.specs.Option.{is_some}
use Rattle.rs_answers.specs.Accepting.{IsAcceptedDocument}
use Rattle.rs_answers.specs.Data.{Answer_data}
use Rattle.rs_answers.specs.RefusalTexts.{fault_answer, too_large}
use Rattle.rs_answers.specs.Refusals.{HasNoDerivations, refusal_answer}
use Rattle.rs_answers.specs.Verified.{IsVerifiedDocument}
use Rattle.rs_answers.specs.Verifying.{IsUnverified}
use Rattle.rs_answers.specs.declared.accepting.AcceptedDocument.{AcceptedDocument}
use Rattle.rs_answers.specs.declared.accepting.RefusedDocument.{RefusedDocument}
use Rattle.rs_answers.specs.declared.refusals.Refusal.{Refusal}
use Rattle.rs_answers.specs.declared.refusals.Refusal.TheVariants as refusal
use Rattle.rs_documents.specs.Data.{Document_data}
use Rattle.rs_documents.specs.Documents.{FirstFault, SpellsDocument}
use Rattle.rs_model.specs.declared.limits.TheConstants.{MOST_BYTES, MOST_LABELS, MOST_ROLES}
use Rattle.rs_model.specs.declared.memory.NoMemory.{NoMemory}
use Rattle.rs_text.specs.Sound.{IsSound}
use Rattle.rs_text.specs.declared.faults.TextKind.{TextKind}
use Rattle.rs_open.specs.declared.opening.OpenRefused.{OpenRefused}
use Rattle.rs_open.specs.declared.opening.OpenRefused.TheVariants as why

-- the text isn't longer than a text may be and spells a document, and this is its session, which this accepts
pub record IsOpenedBy (Accepts : Document_data → AcceptedDocument → Type 0) (bytes : List ℕ) (opened : AcceptedDocument) : Type 0 where
  pub short : length bytes ≤ MOST_BYTES
  pub document : Document_data
  pub spells : SpellsDocument bytes document
  pub accepted : Accepts document opened

-- no document is read, and this is answered: the first of these that applies
pub data IsUnreadable (bytes : List ℕ) (answer : Answer_data) : Type 0 where
  -- the text is longer than a text may be
  IsTooLong : MOST_BYTES < length bytes → answer ≡ too_large (codes "text") → IsUnreadable bytes answer
  -- it is at fault
  IsFaulty : length bytes ≤ MOST_BYTES → (kind : TextKind) (at : ℕ) → FirstFault bytes kind at → answer ≡ fault_answer bytes kind at → IsUnreadable bytes answer

-- the text is refused, and this is answered
pub data IsRefusedBy (Refuses : Document_data → Refusal → Type 0) (bytes : List ℕ) (answer : Answer_data) : Type 0 where
  -- no document is read
  SpellsNone : IsUnreadable bytes answer → IsRefusedBy Refuses bytes answer
  -- it spells a document that this refuses
  SpellsRefused : length bytes ≤ MOST_BYTES → (d : Document_data) → SpellsDocument bytes d → (refusal : Refusal) → Refuses d refusal
      → answer ≡ refusal_answer d.names refusal → IsRefusedBy Refuses bytes answer

-- why a text isn't opened: it is refused, with this answer; or memory was refused
abbrev pub RefusesBy : (Document_data → Refusal → Type 0) → List ℕ → OpenRefused → Type 0
RefusesBy Refuses bytes (why.Answered text verdict) = IsRefusedBy Refuses bytes (record { text = text; verdict = verdict })
RefusesBy Refuses bytes why.NoMemory = Unit {0}

-- the text's session is accepted by the search, with canonical derivations within the bound
abbrev pub IsOpenedText : ℕ → List ℕ → AcceptedDocument → Type 0
IsOpenedText bound = IsOpenedBy (IsAcceptedDocument bound)

-- the search finds no derivations within the bound, or there is no session
abbrev pub IsRefusedText : ℕ → List ℕ → Answer_data → Type 0
IsRefusedText bound = IsRefusedBy (HasNoDerivations bound)

-- why the text isn't opened by a search: it is refused, as `IsRefusedText` says; or memory ran out
abbrev pub RefusesToOpen : ℕ → List ℕ → OpenRefused → Type 0
RefusesToOpen bound = RefusesBy (HasNoDerivations bound)

-- the text's session is accepted by the text's own derivations: nothing is searched
abbrev pub IsVerifiedText : List ℕ → AcceptedDocument → Type 0
IsVerifiedText = IsOpenedBy IsVerifiedDocument

-- some role's own derivation is missing or at fault, or there is no session
abbrev pub IsUnverifiedText : List ℕ → Answer_data → Type 0
IsUnverifiedText = IsRefusedBy IsUnverified

-- why the text isn't opened by the derivations in it: it is refused, as `IsUnverifiedText` says; or memory ran out
abbrev pub RefusesToVerify : List ℕ → OpenRefused → Type 0
RefusesToVerify = RefusesBy IsUnverified

-- each role of the document has its own derivation
abbrev pub HasAllDerivations : Document_data → Bool
HasAllDerivations d = list_all is_some d.derivations

-- the document is accepted by the derivations in it if each role has one, and by the search within the bound if not
pub data IsCertifiedDocument (bound : ℕ) (d : Document_data) (accepted : AcceptedDocument) : Type 0 where
  IsTested : HasAllDerivations d ≡ true → IsVerifiedDocument d accepted → IsCertifiedDocument bound d accepted
  IsSearched : HasAllDerivations d ≡ false → IsAcceptedDocument bound d accepted → IsCertifiedDocument bound d accepted

-- why it is refused: by the derivations in it if each role has one, and by the search within the bound if not
pub data IsUncertified (bound : ℕ) (d : Document_data) (refusal : Refusal) : Type 0 where
  FailsTest : HasAllDerivations d ≡ true → IsUnverified d refusal → IsUncertified bound d refusal
  FailsSearch : HasAllDerivations d ≡ false → HasNoDerivations bound d refusal → IsUncertified bound d refusal

-- the text's session is accepted by the derivations in the text if it has one of each role, and by the search if not
abbrev pub IsCertifiedText : ℕ → List ℕ → AcceptedDocument → Type 0
IsCertifiedText bound = IsOpenedBy (IsCertifiedDocument bound)

-- why the text isn't opened by the derivations in it if it has one of each role, nor by a search if not: it is refused, as `IsUncertified` says; or memory ran out
abbrev pub RefusesToCertify : ℕ → List ℕ → OpenRefused → Type 0
RefusesToCertify bound = RefusesBy (IsUncertified bound)

-- why no document is read: this is answered; or memory was refused
abbrev pub RefusesToRead : List ℕ → OpenRefused → Type 0
RefusesToRead bytes (why.Answered text verdict) = IsUnreadable bytes (record { text = text; verdict = verdict })
RefusesToRead bytes why.NoMemory = Unit {0}

-- the answer as a refusal, if it was made
abbrev pub IsRefusal : Result Answer_data NoMemory → OpenRefused → Type 0
IsRefusal (Ok answer) refused = refused ≡ why.Answered answer.text answer.verdict
IsRefusal (Err e) refused = refused ≡ why.NoMemory

-- the session of an accepted document, or what is answered to a refused one
abbrev pub Opens : Result AcceptedDocument RefusedDocument → Result AcceptedDocument OpenRefused → Type 0
Opens (Ok accepted) made = made ≡ Ok accepted
Opens (Err refused) (Ok opened) = ⊥
Opens (Err refused) (Err (why.Answered text verdict)) =
    (refused.refusal ≡ refusal.NoMemory → ⊥) × (record { text = text; verdict = verdict } ≡ refusal_answer refused.names refused.refusal)
Opens (Err refused) (Err why.NoMemory) = Unit {0}

-- what is said of it: the answer, or that there was no memory
abbrev pub text_of_refusal : OpenRefused → List ℕ
text_of_refusal (why.Answered text verdict) = text
text_of_refusal why.NoMemory = codes "no memory\n"

-- the names of an accepted document: they differ and are words, there is one for each machine, and there are no more roles and labels
-- than there may be
pub record HasNames (opened : AcceptedDocument) : Type 0 where
  pub sound : IsSound opened.names
  pub one_each : length opened.names.roles ≡ length opened.session.machines
  pub roles : length opened.names.roles ≤ MOST_ROLES
  pub labels : length opened.names.labels ≤ MOST_LABELS
