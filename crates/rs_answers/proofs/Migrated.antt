-- What `migrate` prints, beside what `verify` reports.
use Rattle.std.proofs.Common.{◌≡◌, ◌↔◌, ◌⊎◌, inl, inr, ℕ, List, length, sym, ap, subst, ◌∙◌}
use Rattle.rs_documents.proofs.Again.{as_itself, read_again}
use Rattle.rs_documents.proofs.OneDocument.{one_document}
use Rattle.rs_documents.proofs.SpeltAgain.{spelt_again}
use Rattle.rs_documents.proofs.SpeltSessions.{spelt_session}
use Rattle.rs_documents.specs.Again.{document_by_labels, labels_of_text}
use Rattle.rs_documents.specs.Canonical.{IsCanonicalDocument}
use Rattle.rs_documents.specs.Data.{Document_data}
use Rattle.rs_documents.specs.Documents.{SpellsDocument}
use Rattle.rs_model.specs.Data.{Machine_data}
use Rattle.rs_project.specs.Data.{Projection_data}
use Rattle.rs_safety.specs.Sessions.{IsSession}
use Rattle.rs_answers.specs.Data.{Answer_data}
use Rattle.rs_answers.specs.Migrates as migrating
use Rattle.rs_answers.specs.Migrates.{Migrates}
use Rattle.rs_answers.specs.Refusals.{refusal_answer}
use Rattle.rs_answers.specs.Shown.{Shows}
use Rattle.rs_answers.specs.Verifying as verifying
use Rattle.rs_answers.specs.Verifying.{IsVerified, Verifies}
use Rattle.rs_answers.specs.declared.refusals.Refusal.{Refusal}
use Rattle.rs_answers.specs.declared.verdicts.Verdict.TheVariants.{Fine}
use Rattle.rs_answers.proofs.Derivings.{session_of}
use Rattle.rs_answers.proofs.OneReason.{not_unverified, one_unverified}
use Rattle.rs_answers.proofs.ReadAgain.{spelt_verified, verified_again}
use Rattle.rs_answers.proofs.Refusing.{IsRefusing, refusal_refuses}

-- ---- both refuse the same

pub refused_isnt_fine : (d : Document_data) (r : Refusal) (a : Answer_data) → a ≡ refusal_answer d.names r → a.verdict ≡ Fine → ⊥
refused_isnt_fine d r a is fine = subst IsRefusing (sym (ap (λ (z : Answer_data). z.verdict) is) ∙ fine) (refusal_refuses d.names r)

-- both answers are fine, or both are one refusal
abbrev AreAlike : Answer_data → Answer_data → Type 0
AreAlike migrated told = ((migrated.verdict ≡ Fine) × (told.verdict ≡ Fine)) ⊎ ((migrated ≡ told) × (told.verdict ≡ Fine → ⊥))

alike : (d : Document_data) (migrated told : Answer_data) → Migrates d migrated → Verifies d told → AreAlike migrated told
alike d a b (migrating.IsRefused r h x) (verifying.IsRefused s k y) = inr (x ∙ ap (refusal_answer d.names) (one_unverified d r s h k) ∙ sym y, refused_isnt_fine d s b y)
alike d a b (migrating.IsRefused r h x) (verifying.IsReported ps ms k y) = absurd (not_unverified d ps ms r k h)
alike d a b (migrating.IsMigrated ps ms h x) (verifying.IsRefused s k y) = absurd (not_unverified d ps ms s h k)
alike d a b (migrating.IsMigrated ps ms h x) (verifying.IsReported qs ns k y) = inl (x.fine, ap (λ (z : Answer_data). z.verdict) y)

pub both_fine : (d : Document_data) (migrated told : Answer_data) → Migrates d migrated → Verifies d told → (migrated.verdict ≡ Fine) ↔ (told.verdict ≡ Fine)
both_fine d a b h k = elim (alike d a b h k) [
  | inl fine ↦ (λ _. fine.1, λ _. fine.0)
  | inr same ↦ (λ e. absurd (same.1 (sym (ap (λ (z : Answer_data). z.verdict) same.0) ∙ e)), λ e. absurd (same.1 e))
]

pub both_refuse : (d : Document_data) (migrated told : Answer_data) → Migrates d migrated → Verifies d told → (told.verdict ≡ Fine → ⊥) → migrated ≡ told
both_refuse d a b h k not = elim (alike d a b h k) [ inl fine ↦ absurd (not fine.1) | inr same ↦ same.0 ]

-- ---- what is printed is read again

record WasMigrated (d : Document_data) (printed : Answer_data) : Type 0 where
  pub projections : List Projection_data
  pub machines : List Machine_data
  pub verified : IsVerified d projections machines
  pub shows : Shows d printed

migrated : (d : Document_data) (printed : Answer_data) → Migrates d printed → printed.verdict ≡ Fine → WasMigrated d printed
migrated d a (migrating.IsRefused r h x) fine = absurd (refused_isnt_fine d r a x fine)
migrated d a (migrating.IsMigrated ps ms h x) fine = record { projections = ps; machines = ms; verified = h; shows = x }

module _ (bytes : List ℕ) (d : Document_data) (printed : Answer_data) (doc : SpellsDocument bytes d) (m : Migrates d printed) (fine : printed.verdict ≡ Fine) where
  was : WasMigrated d printed
  was = migrated d printed m fine

  abbrev canonical : IsCanonicalDocument d printed.text
  canonical = was.shows.text

  -- what is read again
  abbrev read : Document_data
  read = document_by_labels d (labels_of_text d printed.text canonical)

  spelt : SpellsDocument printed.text read
  spelt = read_again d printed.text (spelt_again bytes d doc) canonical

  pub reads_again : (c : IsCanonicalDocument d printed.text) × SpellsDocument printed.text (document_by_labels d (labels_of_text d printed.text c))
  reads_again = (canonical, spelt)

  session : IsSession d.protocol was.projections was.machines
  session =
      let h = was.verified.has in
      session_of d was.projections was.machines (spelt_session bytes d doc) h.projections_are.well_formed h.projections_are.projected h.machines_are h.well_formed

  size : length d.derivations ≡ d.protocol.roles
  size = let spelt = spelt_session bytes d doc in spelt.a_derivation_each ∙ spelt.roles

  pub verifies_again : (e : Document_data) (told : Answer_data) → SpellsDocument printed.text e → Verifies d told → Verifies e told
  verifies_again e b again (verifying.IsRefused r k y) = absurd (not_unverified d was.projections was.machines r was.verified k)
  verifies_again e b again (verifying.IsReported qs ns k y) =
      let v = verified_again d was.projections was.machines (spelt_again bytes d doc) session size was.verified printed.text canonical in
      subst (λ (z : Document_data). Verifies z b) (one_document printed.text read e spelt again) (subst (Verifies read) (sym y) v)

  pub prints_again : (e : Document_data) → SpellsDocument printed.text e → Migrates e printed
  prints_again e again =
      let v = spelt_verified d was.projections was.machines (spelt_again bytes d doc) session size was.verified printed.text canonical in
      let ns = v.1.0 in
      migrating.IsMigrated was.projections ns (subst (λ (z : Document_data). IsVerified z was.projections ns) (one_document printed.text read e spelt again) v.1.1)
      (record { text = as_itself d e printed.text (spelt_again bytes d doc) canonical again; fine = was.shows.fine })
