-- There is one answer of `improve` to a document, and no other.
use Rattle.std.proofs.Common.{◌≡◌, ℕ, ◌<◌, ◌++◌, List, length, Option, Some, None, slice_get, refl, sym, ap, ◌∙◌, subst, arith}
use Rattle.rs_derive.specs.Data.{Derivation_data}
use Rattle.rs_documents.proofs.OneCanonical.{one_text_each, some_lines}
use Rattle.rs_documents.proofs.SpeltAgain.{spelt_again}
use Rattle.rs_documents.proofs.SpeltSessions.{IsSpeltSession, spelt_session}
use Rattle.rs_documents.specs.Canonical.{AreShown, IsCanonicalDocument, derivations_text}
use Rattle.rs_documents.specs.Data.{Document_data}
use Rattle.rs_documents.specs.Documents.{SpellsDocument}
use Rattle.rs_global.proofs.Canonical.{canonical_is_there, canonical_text_is_one}
use Rattle.rs_global.specs.Canonical.{IsTextShaped}
use Rattle.rs_global.specs.Enough.{AreEnough}
use Rattle.rs_global.specs.Texts.{protocol_text}
use Rattle.rs_improve.specs.Data.{Improved_data}
use Rattle.rs_improve.specs.Improved.{IsImproved}
use Rattle.rs_model.proofs.Lists.{item_at}
use Rattle.rs_model.specs.Data.{Machine_data}
use Rattle.rs_project.specs.Data.{Projection_data}
use Rattle.rs_search.specs.Canonical.{IsCanonical}
use Rattle.rs_text.proofs.Numbers.{place_below}
use Rattle.rs_text.specs.Names.{place_of}
use Rattle.rs_wellformed.specs.Faults.{first_fault}
use Rattle.std.proofs.lemmas.Option.{same_Some, slice_get_within}
use Rattle.rs_answers.specs.Data.{Answer_data}
use Rattle.rs_answers.specs.Derivations.{AreCanonical}
use Rattle.rs_answers.specs.Improves.{HasNoRole, Improves, IsImprovedSession, IsRefused, IsShown, ShowsBehind, improved_document, swaps_line, unknown_role, with_own}
use Rattle.rs_answers.specs.Refusals.{HasNoDerivations, refusal_answer}
use Rattle.rs_answers.specs.Sessions.{HasMachines}
use Rattle.rs_answers.specs.declared.verdicts.Verdict.TheVariants.{Fine}
use Rattle.rs_answers.proofs.ImprovedSessions.{above_fits, runs_its_projection, shown_as_improved, spelt_without}
use Rattle.rs_answers.proofs.OneReason.{not_refused, one_refusal, one_session_derived, same_session}
use Rattle.rs_answers.proofs.SomeSession.{Derived, NotSo, Prepared, prepared_session}
use Rattle.rs_improve.proofs.Once.{one_improvement}
use Rattle.rs_improve.proofs.Existing.{some_improved}

-- ---- one at most

one_canonical : (d : Document_data) (text other : List ℕ) → IsTextShaped d.protocol → AreShown d.names d.machines → IsCanonicalDocument d text → IsCanonicalDocument d other → text ≡ other
one_canonical d text other shaped there h k =
    let front = canonical_text_is_one d.names d.protocol h.front k.front shaped h.protocol k.protocol in
    let back = one_text_each d.names d.machines h.back k.back there h.machines k.machines in
    let last = derivations_text d.names d.derivations in
    h.whole ∙ ap (λ z. z ++ (h.back ++ last)) front ∙ ap (λ z. k.front ++ (z ++ last)) back ∙ sym k.whole

one_behind : (line : List ℕ) (d : Document_data) (a b : Answer_data) → IsTextShaped d.protocol → AreShown d.names d.machines → ShowsBehind line d a → ShowsBehind line d b → a ≡ b
one_behind line d a b shaped there h k =
    let text : a.text ≡ b.text = h.text ∙ ap (λ z. line ++ z) (one_canonical d h.shown k.shown shaped there h.canonical k.canonical) ∙ sym k.text in
    ap (λ z. record { text = z; verdict = a.verdict }) text ∙ ap (λ z. record { text = b.text; verdict = z }) (h.fine ∙ sym k.fine)

known_twice : (role : List ℕ) (roles : List (List ℕ)) (p q : ℕ) → place_of role roles ≡ Some p → place_of role roles ≡ Some q → q ≡ p
known_twice role roles p q e f = let same : Some q ≡ Some p = sym f ∙ e in cc

place_there : (role : List ℕ) (d : Document_data) (p : ℕ) → IsSpeltSession d → place_of role d.names.roles ≡ Some p → p < length d.machines
place_there role d p spelt known = let below = place_below d.names.roles role p known in let one = spelt.one_each in omega (arith, below, one)

-- of one document and role there is one session, and it is improved to one
same_improved : (bound asked p : ℕ) (d : Document_data) (ds es : List Derivation_data) (i j : Improved_data) → IsImprovedSession bound asked d p ds i → IsImprovedSession bound asked d p es j
    → (ds ≡ es) × (i ≡ j)
same_improved bound asked p d ds es i j h k =
    let x = with_own d p None in
    let same = same_session x h.projections k.projections h.machines k.machines h.has k.has in
    let there : slice_get k.projections p ≡ Some h.projection = subst (λ (z : List Projection_data). slice_get z p ≡ Some h.projection) same.0 h.projects in
    let projection : h.projection ≡ k.projection = same_Some h.projection k.projection (sym there ∙ k.projects) in
    let again : IsImproved k.projection.machine bound asked i = subst (λ (z : Projection_data). IsImproved z.machine bound asked i) projection h.is_improved in (
      one_session_derived bound x h.projections k.projections h.machines k.machines ds es h.has k.has h.canonical k.canonical,
      one_improvement k.projection.machine bound asked i j again k.is_improved,
    )

one_shown : (role : List ℕ) (bound asked p : ℕ) (bytes : List ℕ) (d : Document_data) (a b : Answer_data) (ds es : List Derivation_data) (i j : Improved_data) → SpellsDocument bytes d
    → place_of role d.names.roles ≡ Some p → IsImprovedSession bound asked d p ds i → IsImprovedSession bound asked d p es j
    → ShowsBehind (swaps_line role i) (improved_document d p ds i) a → ShowsBehind (swaps_line role j) (improved_document d p es j) b → a ≡ b
one_shown role bound asked p bytes d a b ds es i j doc known h k x y =
    let spelt = spelt_session bytes d doc in
    let again = spelt_again bytes d doc in
    let same = same_improved bound asked p d ds es i j h k in
    let shown = shown_as_improved bound d p k.projections k.machines es k.projection spelt (place_there role d p spelt known) k.has k.canonical k.projects asked j k.is_improved again.bounded again.shown in
    let z : ShowsBehind (swaps_line role j) (improved_document d p es j) a =
    subst (λ (v : Improved_data). ShowsBehind (swaps_line role v) (improved_document d p es v) a) same.1
    (subst (λ (v : List Derivation_data). ShowsBehind (swaps_line role i) (improved_document d p v i) a) same.0 x) in
    one_behind (swaps_line role j) (improved_document d p es j) a b shown.shaped shown.machines z y

pub one_improving : (role : List ℕ) (bound asked : ℕ) (bytes : List ℕ) (d : Document_data) (a b : Answer_data) → SpellsDocument bytes d → Improves role bound asked d a → Improves role bound asked d b → a ≡ b
one_improving role bound asked bytes d a b doc (HasNoRole none x) (HasNoRole never y) = x ∙ sym y
one_improving role bound asked bytes d a b doc (HasNoRole none x) (IsRefused q known s k y) = let clash : None ≡ Some q = sym none ∙ known in absurd cc
one_improving role bound asked bytes d a b doc (HasNoRole none x) (IsShown q known es j k y) = let clash : None ≡ Some q = sym none ∙ known in absurd cc
one_improving role bound asked bytes d a b doc (IsRefused p known r h x) (HasNoRole none y) = let clash : None ≡ Some p = sym none ∙ known in absurd cc
one_improving role bound asked bytes d a b doc (IsRefused p known r h x) (IsRefused q other s k y) =
    let here = subst (λ (n : ℕ). HasNoDerivations bound (with_own d n None) s) (known_twice role d.names.roles p q known other) k in
    x ∙ ap (refusal_answer d.names) (one_refusal bound (with_own d p None) r s h here) ∙ sym y
one_improving role bound asked bytes d a b doc (IsRefused p known r h x) (IsShown q other es j k y) =
    let here = subst (λ (n : ℕ). IsImprovedSession bound asked d n es j) (known_twice role d.names.roles p q known other) k in
    absurd (not_refused bound (with_own d p None) here.projections here.machines es r here.has here.canonical h)
one_improving role bound asked bytes d a b doc (IsShown p known ds i h x) (HasNoRole none y) = let clash : None ≡ Some p = sym none ∙ known in absurd cc
one_improving role bound asked bytes d a b doc (IsShown p known ds i h x) (IsRefused q other s k y) =
    let here = subst (λ (n : ℕ). HasNoDerivations bound (with_own d n None) s) (known_twice role d.names.roles p q known other) k in
    absurd (not_refused bound (with_own d p None) h.projections h.machines ds s h.has h.canonical here)
one_improving role bound asked bytes d a b doc (IsShown p known ds i h x) (IsShown q other es j k y) =
    let same = known_twice role d.names.roles p q known other in
    one_shown role bound asked p bytes d a b ds es i j doc known h (subst (λ (n : ℕ). IsImprovedSession bound asked d n es j) same k) x
    (subst (λ (n : ℕ). ShowsBehind (swaps_line role j) (improved_document d n es j) b) same y)

-- ---- there is one

some_canonical : (d : Document_data) → IsTextShaped d.protocol → AreEnough d.names d.protocol → AreShown d.names d.machines → (text : List ℕ) × IsCanonicalDocument d text
some_canonical d shaped enough there =
    let c = canonical_is_there d.names d.protocol shaped enough.roles enough.labels in
    let l = some_lines d.names d.machines there in (
      protocol_text c.0 ++ (l.0 ++ derivations_text d.names d.derivations),
      record { front = protocol_text c.0; back = l.0; protocol = record { tree = c.0; canonical = c.1; whole = refl }; machines = l.1; whole = refl },
    )

module _ (role : List ℕ) (bound asked : ℕ) (bytes : List ℕ) (d : Document_data) (doc : SpellsDocument bytes d) (p : ℕ) (known : place_of role d.names.roles ≡ Some p) where
  spelt : IsSpeltSession d
  spelt = spelt_session bytes d doc

  place : p < length d.machines
  place = place_there role d p spelt known

  shown_by : (ps : List Projection_data) (ms : List Machine_data) (ds : List Derivation_data) (j : Projection_data) (i : Improved_data) → HasMachines (with_own d p None) ps ms → AreCanonical bound ms ps ds
      → slice_get ps p ≡ Some j → IsImproved j.machine bound asked i → (a : Answer_data) × Improves role bound asked d a
  shown_by ps ms ds j i has found projects improved =
      let again = spelt_again bytes d doc in
      let shown = shown_as_improved bound d p ps ms ds j spelt place has found projects asked i improved again.bounded again.shown in
      let text = some_canonical (improved_document d p ds i) shown.shaped shown.enough shown.machines in (
        record { text = swaps_line role i ++ text.0; verdict = Fine },
        IsShown p known ds i (record { projections = ps; machines = ms; has = has; canonical = found; projection = j; projects = projects; is_improved = improved })
            (record { shown = text.0; canonical = text.1; text = refl; fine = refl }),
      )

  derived : (ps : List Projection_data) (ms : List Machine_data) (ds : List Derivation_data) → HasMachines (with_own d p None) ps ms → AreCanonical bound ms ps ds → (a : Answer_data) × Improves role bound asked d a
  derived ps ms ds has found =
      let one = spelt.one_each in
      let roles = spelt.roles in
      let many = has.projections_are.projected.many in
      let j = item_at ps p (omega (arith, place, one, roles, many)) in
      let runs = runs_its_projection bound d p ps ms ds j.0 spelt place has found j.1 in
      let size = found.many in
      let less = slice_get_within ms p j.0.machine runs in
      let x = item_at ds p (omega (arith, size, less)) in
      let canonical : IsCanonical j.0.machine j.0.machine bound x.0 = found.each p j.0.machine j.0 x.0 runs j.1 x.1 in
      let i = some_improved j.0.machine bound asked x.0 (d.protocol.roles, above_fits bound d p ps ms ds j.0 spelt place has found j.1) canonical in
      shown_by ps ms ds j.0 i.0 has found j.1 i.1

  of_prepared : Prepared bound (with_own d p None) → (a : Answer_data) × Improves role bound asked d a
  of_prepared (NotSo why h) = (refusal_answer d.names why, IsRefused p known why h refl)
  of_prepared (Derived ps ms ds has found) = derived ps ms ds has found

  of_known : (a : Answer_data) × Improves role bound asked d a
  of_known = of_prepared (prepared_session bound (with_own d p None) (spelt_without d p spelt) (first_fault d.protocol) refl)

pub some_improving : (role : List ℕ) (bound asked : ℕ) (bytes : List ℕ) (d : Document_data) → SpellsDocument bytes d → (a : Answer_data) × Improves role bound asked d a
some_improving role bound asked bytes d doc = go (place_of role d.names.roles) refl
  where
    go : (o : Option ℕ) → place_of role d.names.roles ≡ o → (a : Answer_data) × Improves role bound asked d a
    go None e = (unknown_role, HasNoRole e refl)
    go (Some p) e = of_known role bound asked bytes d doc p e
