-- How many roles a demo has: as many as it has actors.
use Rattle.std.proofs.Common.{◌≡◌, ◌⊎◌, inl, inr, ℕ, suc, ◌+◌, ◌≤◌, Bool, true, false, ◌||◌, ◌==◌, nat_le, List, [], ◌∷◌, length, refl, sym, ap, subst, ◌∙◌, arith}
use Rattle.std.specs.List.{enumerate_from}
use Rattle.std.proofs.lemmas.Bool.{and_parts, false≢true, leb-true}
use Rattle.std.proofs.lemmas.Bool.Decides.{eqb_tells}
use Rattle.std.proofs.lemmas.List.{length-map}
use Rattle.rs_runs.specs.Demos.{Opens}
use Rattle.rs_demos.specs.Numbers.{takes_numbers}
use Rattle.rs_demos.specs.Sessions.{has_session, demo_protocol}
use Rattle.rs_demos.specs.Starts.{StartsWithActors, ring_member, butterfly_member}
use Rattle.rs_demos.specs.declared.actors.DemoTalker.{DemoTalker}
use Rattle.rs_model.specs.declared.demos.Demo.{Demo}
use Rattle.rs_model.specs.declared.demos.Demo.TheVariants as demo
use Rattle.rs_demos.specs.Texts.{document_of}
use Rattle.rs_demos.proofs.Printable.{printable}
use Rattle.rs_demos.proofs.SpeltDocuments.{spelt_document}
use Rattle.rs_documents.proofs.OneCanonical.{some_text}
use Rattle.rs_documents.proofs.OneDocument.{one_document}
use Rattle.rs_documents.specs.Data.{Document_data}
use Rattle.rs_documents.specs.Documents.{SpellsDocument}

-- a demo has a session for so many roles, and its protocol has as many
pub record HasSession (kind : Demo) (count : ℕ) : Type 0 where
  pub has : has_session kind count ≡ true
  pub roles : (demo_protocol kind count).roles ≡ count
  pub bounded : count ≤ 16

-- numbered numbers are as many as the numbers
many_numbered : {X : Type 0} (n : ℕ) (xs : List X) → length (enumerate_from n xs) ≡ length xs
many_numbered n [] = refl
many_numbered n (x ∷ xs) = ap (λ (z : ℕ). suc z) (many_numbered (n + 1) xs)

eq_by : (x y : ℕ) → (x == y) ≡ true → x ≡ y
eq_by x y h = elim (eqb_tells x y) [ inl t ↦ t.1 | inr t ↦ absurd (false≢true (sym t.0 ∙ h)) ]

either : (a b : Bool) → (a || b) ≡ true → (a ≡ true) ⊎ (b ≡ true)
either true b h = inl refl
either false b h = inr h

few_of_ring : (n : ℕ) → takes_numbers demo.Ring n ≡ true → n ≤ 16
few_of_ring n h = leb-true n 16 (and_parts (nat_le 2 n) (nat_le n 16) h).1

few_of_butterfly : (n : ℕ) → takes_numbers demo.Butterfly n ≡ true → n ≤ 16
few_of_butterfly n h = elim (either ((n == 2) || (n == 4)) ((n == 8) || (n == 16)) h) [
  | inl k ↦ elim (either (n == 2) (n == 4) k) [ inl f ↦ let e = eq_by n 2 f in omega (arith, e) | inr f ↦ let e = eq_by n 4 f in omega (arith, e) ]
  | inr k ↦ elim (either (n == 8) (n == 16) k) [ inl f ↦ let e = eq_by n 8 f in omega (arith, e) | inr f ↦ let e = eq_by n 16 f in omega (arith, e) ]
]

pub has_session_for : (kind : Demo) (bytes : List ℕ) (actors : List DemoTalker) → StartsWithActors kind bytes actors → HasSession kind (length actors)
has_session_for demo.Double bytes actors s = subst (λ (xs : List DemoTalker). HasSession demo.Double (length xs)) (sym s) (record { has = refl; roles = refl; bounded = omega arith })
has_session_for demo.Stream bytes actors s = subst (λ (xs : List DemoTalker). HasSession demo.Stream (length xs)) (sym s) (record { has = refl; roles = refl; bounded = omega arith })
has_session_for demo.Ring bytes actors s =
    let many : length actors ≡ length s.0 = ap length s.2 ∙ length-map s.0 ring_member in
    subst (λ (n : ℕ). HasSession demo.Ring n) (sym many) (record { has = s.1.0; roles = refl; bounded = few_of_ring (length s.0) s.1.0 })
has_session_for demo.Butterfly bytes actors s =
    let many : length actors ≡ length s.0 = ap length s.2 ∙ length-map (enumerate_from 0 s.0) butterfly_member ∙ many_numbered 0 s.0 in
    subst (λ (n : ℕ). HasSession demo.Butterfly n) (sym many) (record { has = s.1.0; roles = refl; bounded = few_of_butterfly (length s.0) s.1.0 })

-- the document that a demo's text spells has a role for each actor
pub role_each : (kind : Demo) (bytes : List ℕ) (actors : List DemoTalker) (text : List ℕ) (d : Document_data) → Opens kind bytes actors text → SpellsDocument text d → length actors ≡ d.protocol.roles
role_each kind bytes actors text d o h =
    let s = has_session_for kind bytes actors o.starts in
    sym s.roles ∙ ap (λ (x : Document_data). x.protocol.roles) (one_document text (document_of kind (length actors)) d (spelt_document kind (length actors) text s.has o.document) h)

-- a demo that has actors opens, and its text spells its document
pub record HasOpening (kind : Demo) (bytes : List ℕ) (actors : List DemoTalker) : Type 0 where
  pub text : List ℕ
  pub opens : Opens kind bytes actors text
  pub spells : SpellsDocument text (document_of kind (length actors))

pub some_opening : (kind : Demo) (bytes : List ℕ) (actors : List DemoTalker) → StartsWithActors kind bytes actors → HasOpening kind bytes actors
some_opening kind bytes actors starts =
    let has = (has_session_for kind bytes actors starts).has in
    let t = some_text (document_of kind (length actors)) (printable kind (length actors) has) in
    record { text = t.0; opens = record { starts = starts; document = t.1 }; spells = spelt_document kind (length actors) t.0 has t.1 }
