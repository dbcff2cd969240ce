-- Texts that are opened, and those that are refused.
use Rattle.std.proofs.Common.{◌≡◌, ◌⊎◌, inl, inr, ◌<◌, ◌≤◌, ℕ, List, Result, Ok, Err, codes, true, false, length, arith, sym, subst, ap, ◌∙◌}
use Rattle.std.specs.Prelude.{IfErr, IfOk, IsErrAnd}
use Rattle.rs_answers.proofs.Derivings.{session_has}
use Rattle.rs_answers.proofs.OneReason.{not_refused, not_unverified}
use Rattle.rs_answers.specs.Accepting.{IsAcceptedDocument, IsRefusedDocument}
use Rattle.rs_answers.specs.Checks.{Checks}
use Rattle.rs_answers.specs.Checks as checks
use Rattle.rs_answers.specs.Data.{Answer_data}
use Rattle.rs_answers.specs.RefusalTexts.{fault_answer, too_large}
use Rattle.rs_answers.specs.Refusals.{HasNoDerivations, refusal_answer}
use Rattle.rs_answers.specs.Verified.{IsUnverifiedDocument, IsVerifiedDocument}
use Rattle.rs_answers.specs.Verifying.{IsUnverified, Verifies}
use Rattle.rs_answers.specs.Verifying as verifying
use Rattle.rs_answers.specs.declared.accepting.AcceptedDocument.{AcceptedDocument}
use Rattle.rs_answers.specs.declared.accepting.RefusedDocument.{RefusedDocument}
use Rattle.rs_answers.specs.declared.refusals.Refusal.{Refusal}
use Rattle.rs_answers.specs.declared.refusals.Refusal.TheVariants as refusal
use Rattle.rs_documents.proofs.OneDocument.{no_fault, one_document}
use Rattle.rs_documents.specs.Data.{Document_data}
use Rattle.rs_documents.specs.Documents.{FirstFault, SpellsDocument}
use Rattle.rs_documents.specs.Ready.{DocumentIsReady}
use Rattle.rs_model.specs.Data.{Names_data, Protocol_data}
use Rattle.rs_model.specs.declared.limits.TheConstants.{MOST_BYTES, MOST_LABELS, MOST_ROLES}
use Rattle.rs_model.specs.declared.memory.NoMemory.{NoMemory}
use Rattle.rs_text.specs.Sound.{IsSound}
use Rattle.rs_text.specs.declared.faults.TextKind.{TextKind}
use Rattle.rs_text.specs.declared.faults.TextKind.TheVariants as kind
use Rattle.rs_open.specs.Opening.{HasNames, IsOpenedBy, IsOpenedText, IsRefusal, IsRefusedBy, IsRefusedText, IsUnreadable, IsTooLong, IsFaulty, SpellsNone, SpellsRefused, IsVerifiedText, IsUnverifiedText, HasAllDerivations, IsCertifiedDocument, IsTested, IsSearched, IsUncertified, FailsTest, FailsSearch, Opens, RefusesBy, RefusesToRead}
use Rattle.rs_open.specs.declared.opening.OpenRefused.{OpenRefused}
use Rattle.rs_open.specs.declared.opening.OpenRefused.TheVariants as why

-- an accepted document that was read has its names
pub has_names : (bound : ℕ) (d : Document_data) (accepted : AcceptedDocument) → DocumentIsReady d → IsAcceptedDocument bound d accepted → HasNames accepted
has_names bound d accepted ready is = record {
  sound = subst IsSound (sym is.names) ready.sound;
  one_each =
      ap (λ (n : Names_data). length n.roles) is.names ∙ ready.a_name_each ∙ ap (λ (p : Protocol_data). p.roles) (sym is.protocol) ∙ sym is.session.is_session.a_machine_each;
  roles = subst (λ (n : Names_data). length n.roles ≤ MOST_ROLES) (sym is.names) ready.roles;
  labels = subst (λ (n : Names_data). length n.labels ≤ MOST_LABELS) (sym is.names) ready.labels;
}

-- a document that was read and verified has its names
pub verified_has_names : (d : Document_data) (accepted : AcceptedDocument) → DocumentIsReady d → IsVerifiedDocument d accepted → HasNames accepted
verified_has_names d accepted ready is =
    let session = session_has d accepted.session.projections accepted.session.machines ready is.verified.has in
    record {
      sound = subst IsSound (sym is.names) ready.sound;
      one_each = ap (λ (n : Names_data). length n.roles) is.names ∙ ready.a_name_each ∙ sym session.a_machine_each;
      roles = subst (λ (n : Names_data). length n.roles ≤ MOST_ROLES) (sym is.names) ready.roles;
      labels = subst (λ (n : Names_data). length n.labels ≤ MOST_LABELS) (sym is.names) ready.labels;
    }

-- what was made as an answer refuses the text
unread : (bytes : List ℕ) (made : Result Answer_data NoMemory) (refused : OpenRefused) → IsRefusal made refused → IfOk made (IsUnreadable bytes) → RefusesToRead bytes refused
unread bytes (Ok answer) refused is said = subst (RefusesToRead bytes) (sym is) said
unread bytes (Err e) refused is said = subst (RefusesToRead bytes) (sym is) tt

-- two facts of what was made
both_ok : {X Y : Type 0} (r : Result X Y) (P Q R : X → Type 0) → ((x : X) → P x → Q x → R x) → IfOk r P → IfOk r Q → IfOk r R
both_ok (Ok x) P Q R next p q = next x p q
both_ok (Err e) P Q R next p q = tt

pub long_unread : (bytes what : List ℕ) (made : Result Answer_data NoMemory) (refused : OpenRefused) → MOST_BYTES < length bytes → what ≡ codes "text" → IsRefusal made refused
    → IfOk made (λ a. a ≡ too_large what) → RefusesToRead bytes refused
long_unread bytes what made refused long words is said = unread bytes made refused is (both_ok made _ _ _ (λ a e f. IsTooLong long (e ∙ ap too_large words)) said said)

pub fault_unread : (bytes : List ℕ) (what : TextKind) (at : ℕ) (made : Result Answer_data NoMemory) (refused : OpenRefused) → length bytes ≤ MOST_BYTES
    → (what ≡ kind.NoMemory) ⊎ FirstFault bytes what at → IsRefusal made refused → IfOk made (λ a. a ≡ fault_answer bytes what at) → IfOk made (λ a. what ≡ kind.NoMemory → ⊥)
    → RefusesToRead bytes refused
fault_unread bytes what at made refused short why is said never = unread bytes made refused is (both_ok made _ _ _ (λ a e f. by why a e f) said never)
  where
    by : (what ≡ kind.NoMemory) ⊎ FirstFault bytes what at → (a : Answer_data) → a ≡ fault_answer bytes what at → (what ≡ kind.NoMemory → ⊥) → IsUnreadable bytes a
    by (inl memory) a e f = absurd (f memory)
    by (inr fault) a e f = IsFaulty short what at fault e

-- a text of which no document is read is refused by whatever refuses documents
pub none_refused : (Refuses : Document_data → Refusal → Type 0) (bytes : List ℕ) (refused : OpenRefused) → RefusesToRead bytes refused → RefusesBy Refuses bytes refused
none_refused Refuses bytes (why.Answered text verdict) unread = SpellsNone unread
none_refused Refuses bytes why.NoMemory unread = tt

pub unread_refused : {A : Type 0} (Refuses : Document_data → Refusal → Type 0) (bytes : List ℕ) (why : OpenRefused) (r : Result A OpenRefused) → IsErrAnd r (λ e. e ≡ why)
    → RefusesToRead bytes why → IfErr r (RefusesBy Refuses bytes)
unread_refused Refuses bytes why (Ok a) is unread = tt
unread_refused Refuses bytes why (Err e) is unread = subst (RefusesBy Refuses bytes) (sym is) (none_refused Refuses bytes why unread)

-- what is made of a refused document is its answer
pub answered : (x : RefusedDocument) (made : Result Answer_data NoMemory) (refused : OpenRefused) → IsRefusal made refused
    → IfOk made (λ a. a ≡ refusal_answer x.names x.refusal) → IfOk made (λ a. x.refusal ≡ refusal.NoMemory → ⊥) → Opens (Err x) (Err refused)
answered x (Ok answer) refused is said never = subst (λ (r : OpenRefused). Opens (Err x) (Err r)) (sym is) (never, said)
answered x (Err e) refused is said never = subst (λ (r : OpenRefused). Opens (Err x) (Err r)) (sym is) tt

-- the document is refused for this reason, unless that is that memory was refused
abbrev pub IsRefusedFor : (Document_data → Refusal → Type 0) → Document_data → RefusedDocument → Type 0
IsRefusedFor Refuses d x = (x.names ≡ d.names) × ((x.refusal ≡ refusal.NoMemory) ⊎ Refuses d x.refusal)

-- a text whose document is accepted is opened
pub opens_text : (Accepts : Document_data → AcceptedDocument → Type 0) (bytes : List ℕ) (d : Document_data) (accepted : Result AcceptedDocument RefusedDocument)
    (made : Result AcceptedDocument OpenRefused) → length bytes ≤ MOST_BYTES → SpellsDocument bytes d → IfOk accepted (Accepts d) → Opens accepted made
    → IfOk made (IsOpenedBy Accepts bytes)
opens_text Accepts bytes d (Ok accepted) made short spells is opens =
    subst (λ (m : Result AcceptedDocument OpenRefused). IfOk m (IsOpenedBy Accepts bytes)) (sym opens) (record { short = short; document = d; spells = spells; accepted = is })
opens_text Accepts bytes d (Err refused) (Ok opened) short spells is opens = absurd opens
opens_text Accepts bytes d (Err refused) (Err why) short spells is opens = tt

-- a text whose document is refused is refused
pub refuses_text : (Refuses : Document_data → Refusal → Type 0) (bytes : List ℕ) (d : Document_data) (accepted : Result AcceptedDocument RefusedDocument)
    (made : Result AcceptedDocument OpenRefused) → length bytes ≤ MOST_BYTES → SpellsDocument bytes d → IfErr accepted (IsRefusedFor Refuses d) → Opens accepted made
    → IfErr made (RefusesBy Refuses bytes)
refuses_text Refuses bytes d (Ok accepted) made short spells is opens =
    subst (λ (m : Result AcceptedDocument OpenRefused). IfErr m (RefusesBy Refuses bytes)) (sym opens) tt
refuses_text Refuses bytes d (Err x) (Ok opened) short spells is opens = absurd opens
refuses_text Refuses bytes d (Err x) (Err why.NoMemory) short spells is opens = tt
refuses_text Refuses bytes d (Err x) (Err (why.Answered text verdict)) short spells is opens =
    SpellsRefused short d spells x.refusal (reason is.1) (opens.1 ∙ ap (λ n. refusal_answer n x.refusal) is.0)
  where
    reason : (x.refusal ≡ refusal.NoMemory) ⊎ Refuses d x.refusal → Refuses d x.refusal
    reason (inl memory) = absurd (opens.0 memory)
    reason (inr h) = h

-- how documents are refused, for the three ways to accept them
pub search_refuses : (bound : ℕ) (d : Document_data) (accepted : Result AcceptedDocument RefusedDocument) → IfErr accepted (IsRefusedDocument bound d)
    → IfErr accepted (IsRefusedFor (HasNoDerivations bound) d)
search_refuses bound d (Ok x) is = tt
search_refuses bound d (Err x) is = (is.names, is.why)

pub test_refuses : (d : Document_data) (accepted : Result AcceptedDocument RefusedDocument) → IfErr accepted (IsUnverifiedDocument d) → IfErr accepted (IsRefusedFor IsUnverified d)
test_refuses d (Ok x) is = tt
test_refuses d (Err x) is = (is.names, is.why)

either : (P Q : Refusal → Type 0) (r : Refusal) → ((s : Refusal) → P s → Q s) → (r ≡ refusal.NoMemory) ⊎ P r → (r ≡ refusal.NoMemory) ⊎ Q r
either P Q r next (inl memory) = inl memory
either P Q r next (inr p) = inr (next r p)

pub search_refuses_uncertified : (bound : ℕ) (d : Document_data) (accepted : Result AcceptedDocument RefusedDocument) → HasAllDerivations d ≡ false
    → IfErr accepted (IsRefusedDocument bound d) → IfErr accepted (IsRefusedFor (IsUncertified bound) d)
search_refuses_uncertified bound d (Ok x) lacks is = tt
search_refuses_uncertified bound d (Err x) lacks is = (is.names, either (HasNoDerivations bound d) (IsUncertified bound d) x.refusal (λ r h. FailsSearch lacks h) is.why)

pub test_refuses_uncertified : (bound : ℕ) (d : Document_data) (accepted : Result AcceptedDocument RefusedDocument) → HasAllDerivations d ≡ true
    → IfErr accepted (IsUnverifiedDocument d) → IfErr accepted (IsRefusedFor (IsUncertified bound) d)
test_refuses_uncertified bound d (Ok x) has is = tt
test_refuses_uncertified bound d (Err x) has is = (is.names, either (IsUnverified d) (IsUncertified bound d) x.refusal (λ r h. FailsTest has h) is.why)

pub search_certifies : (bound : ℕ) (d : Document_data) (accepted : Result AcceptedDocument RefusedDocument) → HasAllDerivations d ≡ false
    → IfOk accepted (IsAcceptedDocument bound d) → IfOk accepted (IsCertifiedDocument bound d)
search_certifies bound d (Ok x) lacks is = IsSearched lacks is
search_certifies bound d (Err x) lacks is = tt

pub test_certifies : (bound : ℕ) (d : Document_data) (accepted : Result AcceptedDocument RefusedDocument) → HasAllDerivations d ≡ true
    → IfOk accepted (IsVerifiedDocument d) → IfOk accepted (IsCertifiedDocument bound d)
test_certifies bound d (Ok x) has is = IsTested has is
test_certifies bound d (Err x) has is = tt

-- accepted documents have their names
pub searched_are_named : (bound : ℕ) (d : Document_data) (accepted : Result AcceptedDocument RefusedDocument) → DocumentIsReady d → IfOk accepted (IsAcceptedDocument bound d)
    → IfOk accepted HasNames
searched_are_named bound d (Ok x) ready is = has_names bound d x ready is
searched_are_named bound d (Err x) ready is = tt

pub tested_are_named : (d : Document_data) (accepted : Result AcceptedDocument RefusedDocument) → DocumentIsReady d → IfOk accepted (IsVerifiedDocument d) → IfOk accepted HasNames
tested_are_named d (Ok x) ready is = verified_has_names d x ready is
tested_are_named d (Err x) ready is = tt

-- a text of which no document is read spells none
never_unread : (bytes : List ℕ) (d : Document_data) (answer : Answer_data) → length bytes ≤ MOST_BYTES → SpellsDocument bytes d → IsUnreadable bytes answer → ⊥
never_unread bytes d answer short spells (IsTooLong long is) = omega (arith, short, long)
never_unread bytes d answer short spells (IsFaulty few what at fault is) = no_fault bytes d what at spells fault

-- no text is opened and refused, where no document is accepted and refused
never_both : (Accepts : Document_data → AcceptedDocument → Type 0) (Refuses : Document_data → Refusal → Type 0)
    → ((d : Document_data) (x : AcceptedDocument) (r : Refusal) → Accepts d x → Refuses d r → ⊥)
    → (bytes : List ℕ) (opened : AcceptedDocument) (answer : Answer_data) → IsOpenedBy Accepts bytes opened → IsRefusedBy Refuses bytes answer → ⊥
never_both Accepts Refuses never bytes opened answer o (SpellsNone unread) = never_unread bytes o.document answer o.short o.spells unread
never_both Accepts Refuses never bytes opened answer o (SpellsRefused short d spells r refuses is) =
    never o.document opened r o.accepted (subst (λ (x : Document_data). Refuses x r) (one_document bytes d o.document spells o.spells) refuses)

pub not_both : (bound : ℕ) (bytes : List ℕ) (opened : AcceptedDocument) (answer : Answer_data) → IsOpenedText bound bytes opened → IsRefusedText bound bytes answer → ⊥
not_both bound = never_both (IsAcceptedDocument bound) (HasNoDerivations bound)
    (λ d x r is why. not_refused bound d x.session.projections x.session.machines x.session.derivations r is.has is.canonical why)

pub not_verified_and_refused : (bytes : List ℕ) (opened : AcceptedDocument) (answer : Answer_data) → IsVerifiedText bytes opened → IsUnverifiedText bytes answer → ⊥
not_verified_and_refused = never_both IsVerifiedDocument IsUnverified (λ d x r is why. not_unverified d x.session.projections x.session.machines r is.verified why)

-- what refuses a text that spells a document is what `check` answers to the document
pub checked : (bound : ℕ) (bytes : List ℕ) (d : Document_data) (answer : Answer_data) → length bytes ≤ MOST_BYTES → SpellsDocument bytes d → IsRefusedText bound bytes answer
    → Checks bound false d answer
checked bound bytes d answer few spelt (SpellsNone unread) = absurd (never_unread bytes d answer few spelt unread)
checked bound bytes d answer few spelt (SpellsRefused short e spells why none is) =
    let same = one_document bytes e d spells spelt in
    checks.IsRefused why (subst (λ (x : Document_data). HasNoDerivations bound x why) same none) (is ∙ ap (λ (x : Document_data). refusal_answer x.names why) same)

-- what its own derivations refuse is what `verify` answers to the document
pub verified : (bytes : List ℕ) (d : Document_data) (answer : Answer_data) → length bytes ≤ MOST_BYTES → SpellsDocument bytes d → IsUnverifiedText bytes answer → Verifies d answer
verified bytes d answer few spelt (SpellsNone unread) = absurd (never_unread bytes d answer few spelt unread)
verified bytes d answer few spelt (SpellsRefused short e spells why none is) =
    let same = one_document bytes e d spells spelt in
    verifying.IsRefused why (subst (λ (x : Document_data). IsUnverified x why) same none) (is ∙ ap (λ (x : Document_data). refusal_answer x.names why) same)
