-- A demo has one answer to its input.
use Rattle.std.proofs.Common.{◌≡◌, ℕ, List, length, Option, sym, ap, subst, ◌∙◌}
use Rattle.rs_answers.specs.Data.{Answer_data}
use Rattle.rs_answers.specs.Refusals.{refusal_answer}
use Rattle.rs_answers.proofs.Derivings.{session_of}
use Rattle.rs_answers.proofs.OneReason.{not_refused, one_refusal, one_session_derived, same_session}
use Rattle.rs_runs.specs.Demos.{AnswersDemo, HasBadNumbers, IsDocument, AnswersOwn, IsRefused, IsAccepted, Opens, Performs}
use Rattle.rs_runs.proofs.DemoEndings.{one_performing}
use Rattle.rs_runs.proofs.Opening.{has_session_for}
use Rattle.rs_demos.specs.Texts.{IsDemoText, document_of}
use Rattle.rs_demos.specs.declared.actors.DemoTalker.{DemoTalker}
use Rattle.rs_demos.proofs.Deciding.{not_both_shown, one_start}
use Rattle.rs_demos.proofs.Printable.{printable}
use Rattle.rs_derive.specs.Data.{Derivation_data}
use Rattle.rs_documents.specs.Data.{Document_data}
use Rattle.rs_documents.specs.Documents.{SpellsDocument}
use Rattle.rs_documents.proofs.OneCanonical.{one_text}
use Rattle.rs_documents.proofs.OneDocument.{one_document}
use Rattle.rs_documents.proofs.SpeltSessions.{spelt_session}
use Rattle.rs_model.specs.Data.{Machine_data}
use Rattle.rs_model.specs.declared.demos.Demo.{Demo}
use Rattle.rs_model.specs.declared.limits.TheConstants.{DEFAULT_BOUND}

-- a demo opens in one way
pub record SameOpening (xs ys : List DemoTalker) (text other : List ℕ) : Type 0 where
  pub actors : xs ≡ ys
  pub texts : text ≡ other

pub one_opening : (kind : Demo) (bytes : List ℕ) (xs ys : List DemoTalker) (text other : List ℕ) → Opens kind bytes xs text → Opens kind bytes ys other → SameOpening xs ys text other
one_opening kind bytes xs ys text other o p =
    let same : xs ≡ ys = one_start kind bytes xs ys o.starts p.starts in
    let s = has_session_for kind bytes ys p.starts in
    let shown = printable kind (length ys) s.has in
    let document : IsDemoText kind (length ys) text = subst (λ (z : List DemoTalker). IsDemoText kind (length z) text) same o.document in
    record { actors = same; texts = one_text (document_of kind (length ys)) text other shown document p.document }

one_own : (kind : Demo) (ring : Option ℕ) (actors : List DemoTalker) (text : List ℕ) (d : Document_data) (a b : Answer_data) → SpellsDocument text d → AnswersOwn kind ring actors d a
    → AnswersOwn kind ring actors d b → a ≡ b
one_own kind ring actors text d a b doc (IsRefused r h x) (IsRefused s k y) = x ∙ ap (refusal_answer d.names) (one_refusal DEFAULT_BOUND d r s h k) ∙ sym y
one_own kind ring actors text d a b doc (IsRefused r h x) (IsAccepted ps ms ds k f y) = absurd (not_refused DEFAULT_BOUND d ps ms ds r k f h)
one_own kind ring actors text d a b doc (IsAccepted ps ms ds h f x) (IsRefused s k y) = absurd (not_refused DEFAULT_BOUND d ps ms ds s h f k)
one_own kind ring actors text d a b doc (IsAccepted ps ms ds h f x) (IsAccepted qs ns es k g y) =
    let same = same_session d ps qs ms ns h k in
    let derivations = one_session_derived DEFAULT_BOUND d ps qs ms ns ds es h k f g in
    let session = session_of d qs ns (spelt_session text d doc) k.projections_are.well_formed k.projections_are.projected k.machines_are k.well_formed in
    let P : List Machine_data → Type 0 = λ z. Performs kind ring actors d.names z ds a in
    let Q : List Derivation_data → Type 0 = λ z. Performs kind ring actors d.names ns z a in
    one_performing kind ring actors d.names ns es a b session.machines_fit (subst Q derivations (subst P same.1 x)) y

pub one_demo : (kind : Demo) (ring : Option ℕ) (bytes : List ℕ) (a b : Answer_data) → AnswersDemo kind ring bytes a → AnswersDemo kind ring bytes b → a ≡ b
one_demo kind ring bytes a b (HasBadNumbers n x) (HasBadNumbers m y) = x ∙ sym y
one_demo kind ring bytes a b (HasBadNumbers n x) (IsDocument ys other e p k y) = absurd (not_both_shown kind bytes ys p.starts n)
one_demo kind ring bytes a b (IsDocument xs text d o h x) (HasBadNumbers m y) = absurd (not_both_shown kind bytes xs o.starts m)
one_demo kind ring bytes a b (IsDocument xs text d o h x) (IsDocument ys other e p k y) =
    let s = one_opening kind bytes xs ys text other o p in
    let P : List ℕ → Type 0 = λ z. SpellsDocument z d in
    let same : d ≡ e = one_document other d e (subst P s.texts h) k in
    let Q : Document_data → Type 0 = λ z. AnswersOwn kind ring xs z a in
    let R : List DemoTalker → Type 0 = λ z. AnswersOwn kind ring z e a in
    one_own kind ring ys other e a b k (subst R s.actors (subst Q same x)) y
