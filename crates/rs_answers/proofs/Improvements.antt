-- What `improve` answers: it refuses as `check` does, and what it shows is verified.
use Rattle.std.proofs.Common.{◌≡◌, ◌↔◌, ◌⊎◌, inl, inr, ℕ, ◌<◌, ◌++◌, Bool, true, false, List, length, Some, None, slice_set, refl, sym, ap, ◌∙◌, subst, arith}
use Rattle.rs_derive.specs.Data.{Derivation_data}
use Rattle.rs_documents.proofs.GapsInFront.{gap_in_front}
use Rattle.rs_documents.proofs.SpeltAgain.{spelt_again}
use Rattle.rs_documents.proofs.SpeltSessions.{spelt_session}
use Rattle.rs_documents.specs.Data.{Document_data}
use Rattle.rs_documents.specs.Documents.{SpellsDocument}
use Rattle.rs_improve.specs.Data.{Improved_data}
use Rattle.rs_model.specs.Data.{Names_data}
use Rattle.rs_model.specs.Limits.{IsBound}
use Rattle.rs_text.proofs.Numbers.{place_below}
use Rattle.rs_text.specs.Names.{place_of}
use Rattle.rs_text.specs.Sound.{IsSound}
use Rattle.rs_text.specs.Tokens.{blank, comment, nothing}
use Rattle.rs_answers.specs.Checks as checks
use Rattle.rs_answers.specs.Checks.{Checks, TellsAccepted}
use Rattle.rs_answers.specs.Data.{Answer_data}
use Rattle.rs_answers.specs.Improves.{HasNoRole, Improves, IsImprovedSession, IsRefused, IsShown, ShowsBehind, SpellsVerified, improved_document, machine_if_swapped, swaps_line, unknown_role, with_own}
use Rattle.rs_answers.specs.Refusals.{HasNoDerivations, refusal_answer}
use Rattle.rs_answers.specs.declared.verdicts.Verdict.TheVariants.{Fine}
use Rattle.rs_answers.proofs.ImprovedSessions.{canonical_with, few_with, has_with, read_again_with, spelt_again_with}
use Rattle.rs_answers.proofs.Migrated.{refused_isnt_fine}
use Rattle.rs_answers.proofs.OneReason.{not_refused, one_refusal}
use Rattle.rs_answers.proofs.ReadAgain.{found_is_verified}
use Rattle.rs_answers.proofs.SwapLines.{held_has_no_end, held_in_line, line_is}

-- ---- it refuses as `check` does

same_place : (role : List ℕ) (roles : List (List ℕ)) (p q : ℕ) → place_of role roles ≡ Some p → place_of role roles ≡ Some q → p ≡ q
same_place role roles p q e f = let same : Some p ≡ Some q = sym e ∙ f in cc

-- both answers are fine, or both are one refusal
abbrev AreAlike : Answer_data → Answer_data → Type 0
AreAlike improved told = ((improved.verdict ≡ Fine) × (told.verdict ≡ Fine)) ⊎ ((improved ≡ told) × (told.verdict ≡ Fine → ⊥))

accepted_is_fine : (asked : Bool) (d : Document_data) (ds : List Derivation_data) (a : Answer_data) → TellsAccepted asked d ds a → a.verdict ≡ Fine
accepted_is_fine true d ds a shows = shows.fine
accepted_is_fine false d ds a is = ap (λ (z : Answer_data). z.verdict) is

-- the answer of `improve`, where the role is known, beside that of `check` to the document without the role's own machine
alike : (role : List ℕ) (bound swaps p : ℕ) (asked : Bool) (d : Document_data) (a b : Answer_data) → place_of role d.names.roles ≡ Some p → Improves role bound swaps d a
    → Checks bound asked (with_own d p None) b → AreAlike a b
alike role bound swaps p asked d a b known (HasNoRole none x) k = let clash : Some p ≡ None = sym known ∙ none in absurd cc
alike role bound swaps p asked d a b known (IsRefused q found r h x) k = refused (same_place role d.names.roles q p found known) h k
  where
    refused : q ≡ p → HasNoDerivations bound (with_own d q None) r → Checks bound asked (with_own d p None) b → AreAlike a b
    refused same h (checks.IsRefused s g y) =
        let here = subst (λ (n : ℕ). HasNoDerivations bound (with_own d n None) r) same h in
        inr (x ∙ ap (refusal_answer d.names) (one_refusal bound (with_own d p None) r s here g) ∙ sym y, refused_isnt_fine (with_own d p None) s b y)
    refused same h (checks.IsAccepted ps ms ds g f y) =
        let here = subst (λ (n : ℕ). HasNoDerivations bound (with_own d n None) r) same h in
        absurd (not_refused bound (with_own d p None) ps ms ds r g f here)
alike role bound swaps p asked d a b known (IsShown q found es i session shows) k = shown (same_place role d.names.roles q p found known) session k
  where
    shown : q ≡ p → IsImprovedSession bound swaps d q es i → Checks bound asked (with_own d p None) b → AreAlike a b
    shown same s (checks.IsRefused r g y) =
        let here = subst (λ (n : ℕ). IsImprovedSession bound swaps d n es i) same s in
        absurd (not_refused bound (with_own d p None) here.projections here.machines es r here.has here.canonical g)
    shown same s (checks.IsAccepted ps ms ds g f y) = inl (shows.fine, accepted_is_fine asked (with_own d p None) ds b y)

pub both_fine : (role : List ℕ) (bound swaps p : ℕ) (asked : Bool) (d : Document_data) (a b : Answer_data) → place_of role d.names.roles ≡ Some p → Improves role bound swaps d a
    → Checks bound asked (with_own d p None) b → (a.verdict ≡ Fine) ↔ (b.verdict ≡ Fine)
both_fine role bound swaps p asked d a b known h k = elim (alike role bound swaps p asked d a b known h k) [
  | inl fine ↦ (λ _. fine.1, λ _. fine.0)
  | inr same ↦ (λ e. absurd (same.1 (sym (ap (λ (z : Answer_data). z.verdict) same.0) ∙ e)), λ e. absurd (same.1 e))
]

pub both_refuse : (role : List ℕ) (bound swaps p : ℕ) (asked : Bool) (d : Document_data) (a b : Answer_data) → place_of role d.names.roles ≡ Some p → Improves role bound swaps d a
    → Checks bound asked (with_own d p None) b → (b.verdict ≡ Fine → ⊥) → a ≡ b
both_refuse role bound swaps p asked d a b known h k not = elim (alike role bound swaps p asked d a b known h k) [ inl fine ↦ absurd (not fine.1) | inr same ↦ same.0 ]

-- ---- what it shows is verified

-- what was shown
pub record WasImproved (role : List ℕ) (bound asked : ℕ) (d : Document_data) (a : Answer_data) : Type 0 where
  pub place : ℕ
  pub known : place_of role d.names.roles ≡ Some place
  pub derivations : List Derivation_data
  pub improved : Improved_data
  pub session : IsImprovedSession bound asked d place derivations improved
  pub shows : ShowsBehind (swaps_line role improved) (improved_document d place derivations improved) a

unknown_isnt_fine : (a : Answer_data) → a ≡ unknown_role → a.verdict ≡ Fine → ⊥
unknown_isnt_fine a is fine = let clash = sym (ap (λ (z : Answer_data). z.verdict) is) ∙ fine in cc

pub was_improved : (role : List ℕ) (bound asked : ℕ) (d : Document_data) (a : Answer_data) → Improves role bound asked d a → a.verdict ≡ Fine → WasImproved role bound asked d a
was_improved role bound asked d a (HasNoRole none x) fine = absurd (unknown_isnt_fine a x fine)
was_improved role bound asked d a (IsRefused p known r h x) fine = absurd (refused_isnt_fine d r a x fine)
was_improved role bound asked d a (IsShown p known ds i session shows) fine = record { place = p; known = known; derivations = ds; improved = i; session = session; shows = shows }

module _ (role : List ℕ) (bound asked : ℕ) (bytes : List ℕ) (d : Document_data) (a : Answer_data) (within : IsBound bound) (doc : SpellsDocument bytes d) (was : WasImproved role bound asked d a) where
  abbrev s : IsImprovedSession bound asked d was.place was.derivations was.improved
  s = was.session

  place : was.place < length d.machines
  place =
      let spelt = spelt_session bytes d doc in
      let low = place_below d.names.roles role was.place was.known in
      let one = spelt.one_each in
      omega (arith, low, one)

  pub shown_is_verified : SpellsVerified was.shows.shown
  shown_is_verified =
      let spelt = spelt_session bytes d doc in
      let again = spelt_again bytes d doc in
      let i = was.improved in
      let p = was.place in
      let ds = was.derivations in
      let e = with_own d p (machine_if_swapped i) in
      let v = found_is_verified bound e s.projections (slice_set s.machines p i.machine) (slice_set ds p i.derivation) within
      (read_again_with bound d p s.projections s.machines ds s.projection spelt place s.has s.canonical s.projects asked i s.is_improved again)
      (spelt_again_with bound d p s.projections s.machines ds s.projection spelt place s.has s.canonical s.projects asked i s.is_improved)
      (few_with bound d p s.projections s.machines ds s.projection spelt place s.has s.canonical s.projects asked i s.is_improved again.shown)
      (has_with bound d p s.projections s.machines ds s.projection spelt place s.has s.canonical s.projects asked i s.is_improved)
      (canonical_with bound d p s.projections s.machines ds s.projection spelt place s.has s.canonical s.projects asked i s.is_improved)
      was.shows.shown was.shows.canonical in
      record { document = _; spells = v.0; projections = s.projections; machines = v.1.0; verified = v.1.1 }

-- after the line stands a document that is verified
pub behind_is_verified : (role : List ℕ) (bound asked : ℕ) (bytes : List ℕ) (d : Document_data) (a : Answer_data) → IsBound bound → SpellsDocument bytes d → Improves role bound asked d a → a.verdict ≡ Fine
    → (improved : Improved_data) × (shown : List ℕ) × (a.text ≡ swaps_line role improved ++ shown) × SpellsVerified shown
behind_is_verified role bound asked bytes d a within doc h fine =
    let was = was_improved role bound asked d a h fine in
    (was.improved, was.shows.shown, was.shows.text, shown_is_verified role bound asked bytes d a within doc was)

-- the line is a comment
line_in_front : (names : Names_data) (role : List ℕ) (place : ℕ) (improved : Improved_data) (text : List ℕ) (e : Document_data) → IsSound names → place_of role names.roles ≡ Some place
    → SpellsDocument text e → SpellsDocument (swaps_line role improved ++ text) e
line_in_front names role at improved text e sound known spells =
    let held = held_in_line role improved in
    let front = gap_in_front (comment held (blank 10 nothing)) text e (held_has_no_end names role at improved sound known, refl, (refl, tt)) spells in
    subst (λ (z : List ℕ). SpellsDocument (z ++ text) e) (sym (line_is role improved)) front

pub whole_is_verified : (role : List ℕ) (bound asked : ℕ) (bytes : List ℕ) (d : Document_data) (a : Answer_data) → IsBound bound → SpellsDocument bytes d → Improves role bound asked d a → a.verdict ≡ Fine
    → SpellsVerified a.text
whole_is_verified role bound asked bytes d a within doc h fine =
    let was = was_improved role bound asked d a h fine in
    let v = shown_is_verified role bound asked bytes d a within doc was in
    let line = line_in_front d.names role was.place was.improved was.shows.shown v.document (spelt_again bytes d doc).shown.sound was.known v.spells in
    record { document = v.document; spells = subst (λ (z : List ℕ). SpellsDocument z v.document) (sym was.shows.text) line; projections = v.projections; machines = v.machines; verified = v.verified }
