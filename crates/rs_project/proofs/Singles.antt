-- The fronts of one talk alone, which are found by the talk.
use Rattle.std.proofs.Common.{◌≡◌, inl, inr, ℕ, suc, ◌<◌, List, [], ◌∷◌, ◌++◌, length, Option, Some, None, MatchOption, slice_get, get_or, replicate, sym, ap, ◌∙◌, subst, arith}
use Rattle.std.specs.Prelude.{IfSome}
use Rattle.std.proofs.lemmas.List.{get_or-set_same, get_or-set_other}
use Rattle.std.proofs.lemmas.Bool.Decides.{eqb_tells}
use Rattle.std.proofs.lemmas.Option.{none-some}
use Rattle.rs_project.specs.Data.{Front_data}
use Rattle.rs_project.specs.Filing.{AreLone, lone_front, with_number}
use Rattle.rs_model.proofs.Lists.{either_at, kept_at, new_at, zero_at}

abbrev first_of : List ℕ → ℕ
first_of [] = 0
first_of (x ∷ xs) = x

same_talk : (f : Front_data) (t u : ℕ) → f ≡ lone_front t → f ≡ lone_front u → t ≡ u
same_talk f t u a b = ap (λ (z : Front_data). first_of z.talks) (sym a ∙ b)

pub none_lone : (fs : List Front_data) (numbers : List ℕ) (k : ℕ) → fs ≡ [] → numbers ≡ replicate k 0 → AreLone fs numbers
none_lone fs numbers k ef en = rw (ef, en) record {
  right = λ talk n e. (let z = zero_at k talk in absurd (omega (arith, e, z)));
  whole = λ talk n e z. absurd (none-some (lone_front talk) e);
}

pub lone_same : (fs : List Front_data) (ns ms : List ℕ) → ((n : ℕ) → get_or ms n 0 ≡ get_or ns n 0) → AreLone fs ns → AreLone fs ms
lone_same fs ns ms same a = record {
  right = λ talk n e. a.right talk n (sym (same talk) ∙ e);
  whole = λ talk n e z. a.whole talk n e (sym (same talk) ∙ z);
}

pub lone_on : (fs fs' : List Front_data) (ns ms : List ℕ) (f : Front_data) (o : Option ℕ) (number : ℕ) → MatchOption o ((t : ℕ) → f ≡ lone_front t → ⊥) (λ t. f ≡ lone_front t)
    → IfSome o (λ t. t < length ns)
    → number ≡ suc (length fs) → fs' ≡ fs ++ (f ∷ []) → ms ≡ with_number o number ns → AreLone fs ns → AreLone fs' ms
lone_on fs fs' ns ms f None number is within en ef em a = rw (ef, em) record {
  right = λ talk n e. kept_at fs f n (lone_front talk) (a.right talk n e);
  whole = λ talk n e z. elim (either_at fs f n (lone_front talk) e) [ inl old ↦ a.whole talk n old z | inr new ↦ is talk new.1 ];
}
lone_on fs fs' ns ms f (Some t) number is within en ef em a = rw (ef, em) record {
  right = λ talk n e. elim (eqb_tells talk t) [
    | inl p ↦ (let here : get_or (with_number (Some t) number ns) talk 0 ≡ number = ap (λ (z : ℕ). get_or (with_number (Some t) number ns) z 0) p.1 ∙ get_or-set_same ns t number 0 within in
        let at : n ≡ length fs = omega (arith, e, here, en) in
        subst (λ (z : ℕ). slice_get (fs ++ (f ∷ [])) z ≡ Some (lone_front talk)) (sym at) (new_at fs f ∙ ap (λ (z : Front_data). Some z) (is ∙ ap lone_front (sym p.1))))
    | inr p ↦ kept_at fs f n (lone_front talk) (a.right talk n (sym (get_or-set_other ns t talk number 0 p.1) ∙ e))
  ];
  whole = λ talk n e z. elim (eqb_tells talk t) [
    | inl p ↦ (let here : get_or (with_number (Some t) number ns) talk 0 ≡ number = ap (λ (k : ℕ). get_or (with_number (Some t) number ns) k 0) p.1 ∙ get_or-set_same ns t number 0 within in
        omega (arith, z, here, en))
    | inr p ↦ (let z' = sym (get_or-set_other ns t talk number 0 p.1) ∙ z in elim (either_at fs f n (lone_front talk) e) [
      | inl old ↦ a.whole talk n old z'
      | inr new ↦ p.1 (same_talk f talk t new.1 is)
    ])
  ];
}
