-- What is answered to a refused text, with the reason.
use Rattle.std.proofs.Common.{◌≡◌, ◌⊎◌, inl, inr, ℕ, ◌<◌, ◌≤◌, Bool, true, false, List, length, arith, ap, refl, sym, subst, ◌∙◌, Result, Ok, Err}
use Rattle.std.specs.Prelude.{IfOk}
use Rattle.rs_answers.proofs.OneReason.{has_a_session, not_refused, not_unverified}
use Rattle.rs_answers.specs.Data.{Answer_data}
use Rattle.rs_answers.specs.Refusals.{HasIllMachine, HasNoDerivation, HasNoDerivations, HasNoProjection, HasNoSession, IsIllFormed, IsWithoutSession, refusal_answer}
use Rattle.rs_answers.specs.Sessions.{HasMachines}
use Rattle.rs_answers.specs.Verifying.{HasNone, IsUnverified, Verifies}
use Rattle.rs_answers.specs.Verifying as verifying
use Rattle.rs_answers.specs.declared.accepting.AcceptedDocument.{AcceptedDocument}
use Rattle.rs_answers.specs.declared.derivations.Underivable.{Underivable}
use Rattle.rs_answers.specs.declared.refusals.Refusal.{Refusal}
use Rattle.rs_answers.specs.declared.refusals.Refusal.TheVariants as refusal
use Rattle.rs_answers.specs.declared.verifying.Blame.{Blame}
use Rattle.rs_documents.proofs.OneDocument.{no_fault, one_document}
use Rattle.rs_documents.specs.Data.{Document_data}
use Rattle.rs_documents.specs.Documents.{FirstFault, SpellsDocument}
use Rattle.rs_model.specs.Data.{Machine_data}
use Rattle.rs_model.specs.declared.graph.Role.{Role}
use Rattle.rs_model.specs.declared.limits.TheConstants.{MOST_BYTES}
use Rattle.rs_model.specs.declared.memory.NoMemory.{NoMemory}
use Rattle.rs_open.specs.Opening.{FailsSearch, FailsTest, HasAllDerivations, IsCertifiedDocument, IsCertifiedText, IsFaulty, IsRefusal, IsRefusedBy, IsSearched, IsTested, IsTooLong, IsUncertified, IsUnreadable, SpellsNone, SpellsRefused}
use Rattle.rs_open.specs.declared.opening.OpenRefused.{OpenRefused}
use Rattle.rs_project.specs.Data.{Projection_data}
use Rattle.rs_reasons.specs.Explains.{Explains}
use Rattle.rs_text.specs.declared.faults.TextKind.{TextKind}
use Rattle.rs_text.specs.declared.faults.TextKind.TheVariants as kind
use Rattle.rs_held.specs.Refusals.{IsExplained, IsSearchedFor, IsTestedFor, ReadsNone, RefusesWithReason, Tests}

-- a text of which no document is read spells none
never_unread : (bytes : List ℕ) (d : Document_data) (answer : Answer_data) → length bytes ≤ MOST_BYTES → SpellsDocument bytes d → IsUnreadable bytes answer → ⊥
never_unread bytes d answer short spells (IsTooLong long is) = omega (arith, short, long)
never_unread bytes d answer short spells (IsFaulty few what at fault is) = no_fault bytes d what at spells fault

module _ (bound : ℕ) (bytes : List ℕ) (answer : Answer_data) where
  abbrev Refused : Type 0
  Refused = IsRefusedBy (IsUncertified bound) bytes answer

  pub long : MOST_BYTES < length bytes → Refused → IsExplained bound bytes answer
  long far (SpellsNone unread) = ReadsNone unread
  long far (SpellsRefused short d spells why is told) = absurd (omega (arith, far, short))

  pub faulty : (what : TextKind) (at : ℕ) → (what ≡ kind.NoMemory) ⊎ FirstFault bytes what at → (what ≡ kind.NoMemory → ⊥) → Refused → IsExplained bound bytes answer
  faulty what at fault never (SpellsNone unread) = ReadsNone unread
  faulty what at (inl memory) never (SpellsRefused short d spells why is told) = absurd (never memory)
  faulty what at (inr fault) never (SpellsRefused short d spells why is told) = absurd (no_fault bytes d what at spells fault)

  -- the reason why a document is refused that its own derivations decide
  blamed : (d : Document_data) → length bytes ≤ MOST_BYTES → SpellsDocument bytes d → Tests d true → (why : Refusal) → IsUncertified bound d why → answer ≡ refusal_answer d.names why
      → IsExplained bound bytes answer
  blamed d few spelt tests why (FailsTest has (HasNone r none)) told = absurd (tests.1 r none)
  blamed d few spelt tests why (FailsTest has (verifying.IsBlamed ps ms session b first)) told = IsTestedFor few d spelt has b.role b.blame (verifying.IsBlamed ps ms session b first) told
  blamed d few spelt tests why (FailsSearch lacks none) told = let has = tests.0 in absurd (cc (lacks, has))

  pub tested : (d : Document_data) → length bytes ≤ MOST_BYTES → SpellsDocument bytes d → Tests d true → Refused → IsExplained bound bytes answer
  tested d few spelt tests (SpellsNone unread) = absurd (never_unread bytes d answer few spelt unread)
  tested d few spelt tests (SpellsRefused short e spells why is told) =
      let same = one_document bytes e d spells spelt in
      blamed d few spelt tests why (subst (λ (x : Document_data). IsUncertified bound x why) same is) (told ∙ ap (λ (x : Document_data). refusal_answer x.names why) same)

  module _ (told : Answer_data) (d : Document_data) (few : length bytes ≤ MOST_BYTES) (spelt : SpellsDocument bytes d) (explains : Explains bound bytes d told) where
    -- the same of one that the search decides
    reason : (HasAllDerivations d ≡ false) ⊎ ((none : Refusal) × HasNoSession d none) → (why : Refusal) → IsUncertified bound d why → IsExplained bound bytes told
    reason tests why (FailsSearch lacks none) = IsSearchedFor few d spelt why (FailsSearch lacks none) none explains
    reason (inl lacks) why (FailsTest has fails) = absurd (cc (lacks, has))
    reason (inr none) why (FailsTest has fails) = IsSearchedFor few d spelt none.0 (FailsTest has (HasNone none.0 none.1)) (IsWithoutSession none.0 none.1) explains

    pub searched : Tests d false → Refused → IsExplained bound bytes told
    searched tests (SpellsNone unread) = absurd (never_unread bytes d answer few spelt unread)
    searched tests (SpellsRefused short e spells why is answered) = reason tests why (subst (λ (x : Document_data). IsUncertified bound x why) (one_document bytes e d spells spelt) is)

-- whether a document is tested
pub has_one : (d : Document_data) (ps : List Projection_data) (ms : List Machine_data) → HasAllDerivations d ≡ true → HasMachines d ps ms → Tests d true
has_one d ps ms all has = (all, λ none lacks. has_a_session d ps ms none has lacks)

pub lacks_one : (d : Document_data) (r : Refusal) (made : Result Bool NoMemory) → (r ≡ refusal.NoMemory) ⊎ HasNoSession d r → IfOk made (λ b. (b ≡ false) × (r ≡ refusal.NoMemory → ⊥))
    → IfOk made (Tests d)
lacks_one d r (Ok false) (inl memory) told = absurd (told.1 memory)
lacks_one d r (Ok false) (inr none) told = inr (r, none)
lacks_one d r (Ok true) why told = let wrong = told.0 in absurd (cc (wrong))
lacks_one d r (Err e) why told = tt

-- the same facts of what is made
pub searched_by : (bound n : ℕ) (bytes : List ℕ) (answer : Answer_data) (d : Document_data) (made : Result Answer_data NoMemory) → length bytes ≤ MOST_BYTES → SpellsDocument bytes d
    → n ≡ bound → IfOk made (Explains n bytes d) → Tests d false → IsRefusedBy (IsUncertified bound) bytes answer → IfOk made (IsExplained bound bytes)
searched_by bound n bytes answer d (Ok told) few spelt same explains tests refused =
    searched bound bytes answer told d few spelt (subst (λ (m : ℕ). Explains m bytes d told) same explains) tests refused
searched_by bound n bytes answer d (Err e) few spelt same explains tests refused = tt

pub faulty_by : (bound : ℕ) (bytes : List ℕ) (answer : Answer_data) (what : TextKind) (at : ℕ) (made : Result Answer_data NoMemory) → (what ≡ kind.NoMemory) ⊎ FirstFault bytes what at
    → IfOk made (λ a. (a ≡ answer) × (what ≡ kind.NoMemory → ⊥)) → IsRefusedBy (IsUncertified bound) bytes answer → IfOk made (IsExplained bound bytes)
faulty_by bound bytes answer what at (Ok told) fault is refused = subst (IsExplained bound bytes) (sym is.0) (faulty bound bytes answer what at fault is.1 refused)
faulty_by bound bytes answer what at (Err e) fault is refused = tt

pub told_by : (bound : ℕ) (bytes : List ℕ) (made : Result Answer_data NoMemory) (refused : OpenRefused) → IsRefusal made refused → IfOk made (IsExplained bound bytes)
    → RefusesWithReason bound bytes refused
told_by bound bytes (Ok answer) refused is explains = subst (RefusesWithReason bound bytes) (sym is) explains
told_by bound bytes (Err e) refused is explains = subst (RefusesWithReason bound bytes) (sym is) tt

-- no document is accepted and refused
never_both : (bound : ℕ) (d : Document_data) (x : AcceptedDocument) (r : Refusal) → IsCertifiedDocument bound d x → IsUncertified bound d r → ⊥
never_both bound d x r (IsTested has is) (FailsTest all fails) = not_unverified d x.session.projections x.session.machines r is.verified fails
never_both bound d x r (IsTested has is) (FailsSearch lacks fails) = absurd (cc (has, lacks))
never_both bound d x r (IsSearched lacks is) (FailsTest has fails) = absurd (cc (has, lacks))
never_both bound d x r (IsSearched lacks is) (FailsSearch none fails) = not_refused bound d x.session.projections x.session.machines x.session.derivations r is.has is.canonical fails

never_opened : (bound : ℕ) (bytes : List ℕ) (opened : AcceptedDocument) (d : Document_data) (r : Refusal) → IsCertifiedText bound bytes opened → SpellsDocument bytes d → IsUncertified bound d r → ⊥
never_opened bound bytes opened d r o spells fails =
    never_both bound o.document opened r o.accepted (subst (λ (x : Document_data). IsUncertified bound x r) (one_document bytes d o.document spells o.spells) fails)

pub not_opened : (bound : ℕ) (bytes : List ℕ) (opened : AcceptedDocument) (answer : Answer_data) → IsCertifiedText bound bytes opened → IsExplained bound bytes answer → ⊥
not_opened bound bytes opened answer o (ReadsNone unread) = never_unread bytes o.document answer o.short o.spells unread
not_opened bound bytes opened answer o (IsTestedFor few d spells has role blame fails told) = never_opened bound bytes opened d (refusal.Blamed role blame) o spells (FailsTest has fails)
not_opened bound bytes opened answer o (IsSearchedFor few d spells none fails search explains) = never_opened bound bytes opened d none o spells fails

-- that a document has no session is no derivation's fault
no_blame : (d : Document_data) (r : Refusal) (role : Role) (blame : Blame) → HasNoSession d r → r ≡ refusal.Blamed role blame → ⊥
no_blame d r role blame (IsIllFormed fault e) is = cc (is)
no_blame d r role blame (HasNoProjection e place fault u) is = cc (is)
no_blame d r role blame (HasIllMachine ps h ill e) is = cc (is)

-- a document without a session isn't refused for a derivation
not_blamed : (d : Document_data) (r none : Refusal) (role : Role) (blame : Blame) → HasNoSession d none → IsUnverified d r → r ≡ refusal.Blamed role blame → ⊥
not_blamed d r none role blame lacks (HasNone s k) is = no_blame d s role blame k is
not_blamed d r none role blame lacks (verifying.IsBlamed ps ms session b first) is = has_a_session d ps ms none session lacks

-- a document with a session whose roles have derivations isn't refused by the search
not_underived : (d : Document_data) (r : Refusal) (u : Underivable) → Tests d true → IsUnverified d r → r ≡ refusal.Underivable u → ⊥
not_underived d r u tests (HasNone s k) is = tests.1 s k
not_underived d r u tests (verifying.IsBlamed ps ms session b first) is = cc (is)

not_searched : (bound : ℕ) (d : Document_data) (r s : Refusal) → Tests d true → r ≡ s → IsUncertified bound d r → HasNoDerivations bound d s → ⊥
not_searched bound d r s tests same fails (IsWithoutSession q k) = tests.1 q k
not_searched bound d r s tests same (FailsTest has fails) (HasNoDerivation ps ms h role fault u) = not_underived d r (record { role = role; fault = fault }) tests fails same
not_searched bound d r s tests same (FailsSearch lacks fails) (HasNoDerivation ps ms h role fault u) = let has = tests.0 in absurd (cc (has, lacks))

pub verified : (bound : ℕ) (bytes : List ℕ) (d : Document_data) (answer : Answer_data) → length bytes ≤ MOST_BYTES → SpellsDocument bytes d → Tests d true → IsExplained bound bytes answer → Verifies d answer
verified bound bytes d answer few spelt tests (ReadsNone unread) = absurd (never_unread bytes d answer few spelt unread)
verified bound bytes d answer few spelt tests (IsTestedFor short e spells has role blame fails told) =
    let same = one_document bytes e d spells spelt in
    verifying.IsRefused (refusal.Blamed role blame) (subst (λ (x : Document_data). IsUnverified x (refusal.Blamed role blame)) same fails)
    (told ∙ ap (λ (x : Document_data). refusal_answer x.names (refusal.Blamed role blame)) same)
verified bound bytes d answer few spelt tests (IsSearchedFor short e spells none fails search explains) =
    let same = one_document bytes e d spells spelt in
    absurd (not_searched bound d none none tests refl (subst (λ (x : Document_data). IsUncertified bound x none) same fails) (subst (λ (x : Document_data). HasNoDerivations bound x none) same search))

never_tested : (d : Document_data) (role : Role) (blame : Blame) → Tests d false → HasAllDerivations d ≡ true → IsUnverified d (refusal.Blamed role blame) → ⊥
never_tested d role blame (inl lacks) has fails = absurd (cc (has, lacks))
never_tested d role blame (inr none) has fails = not_blamed d (refusal.Blamed role blame) none.0 role blame none.1 fails refl

pub explained : (bound : ℕ) (bytes : List ℕ) (d : Document_data) (answer : Answer_data) → length bytes ≤ MOST_BYTES → SpellsDocument bytes d → Tests d false → IsExplained bound bytes answer
    → Explains bound bytes d answer
explained bound bytes d answer few spelt tests (ReadsNone unread) = absurd (never_unread bytes d answer few spelt unread)
explained bound bytes d answer few spelt tests (IsTestedFor short e spells has role blame fails told) =
    let same = one_document bytes e d spells spelt in
    absurd (never_tested d role blame tests (subst (λ (x : Document_data). HasAllDerivations x ≡ true) same has) (subst (λ (x : Document_data). IsUnverified x (refusal.Blamed role blame)) same fails))
explained bound bytes d answer few spelt tests (IsSearchedFor short e spells none fails search explains) =
    subst (λ (x : Document_data). Explains bound bytes x answer) (one_document bytes e d spells spelt) explains
