-- For a machine, a bound and a number there is one improved machine: so many swaps lead to one machine, and there is one reason to cease.
use Rattle.std.proofs.Common.{◌≡◌, ◌≢◌, inl, inr, ℕ, ◌+◌, ◌<◌, ◌≤◌, length, refl, sym, ap, ◌∙◌, subst, arith, zero, suc, Some, None, Result, Ok, Err}
use Rattle.std.specs.Prelude.{IfOk}
use Rattle.std.proofs.lemmas.Bool.{cases_lt}
use Rattle.std.proofs.lemmas.Option.{same_Some}
use Rattle.rs_model.specs.Data.{Machine_data}
use Rattle.rs_model.specs.declared.limits.TheConstants.{MOST_STATES}
use Rattle.rs_derive.specs.Data.{Derivation_data}
use Rattle.rs_derive.specs.Derivations.{IsProper}
use Rattle.rs_search.proofs.Determined.{not_both_ways, one_answer, one_refusal}
use Rattle.rs_search.specs.Canonical.{IsCanonical, SearchRefuses}
use Rattle.rs_search.specs.declared.faults.SearchFault.{SearchFault}
use Rattle.rs_search.specs.declared.faults.SearchFault.TheVariants as fault
use Rattle.rs_improve.proofs.SwapLaws.{more_or_not, one_swapped, swaps_or_more, swaps_or_not}
use Rattle.rs_improve.specs.Attempts.{SwapsOnceMore, IsAttempt, IsSearched, IsSwappedSoFar}
use Rattle.rs_improve.specs.Data.{Improved_data}
use Rattle.rs_improve.specs.Improved.{CeasesAt, IsAsked, HasNoSwap, HasTooManyStates, IsRefused, IsImproved, reason_of}
use Rattle.rs_improve.specs.Swaps.{SwapsTo, SwapsToIn, AsItIs, OnceMore}
use Rattle.rs_improve.specs.declared.improving.Attempt.{Attempt}
use Rattle.rs_improve.specs.declared.improving.Attempt.TheVariants.{Ceases, Succeeds}
use Rattle.rs_improve.specs.declared.improving.Ceased.{Ceased}

-- ---- so many swaps lead to one machine

-- how the last swap came about
abbrev Last : ℕ → Machine_data → Machine_data → Type 0
Last zero above machine = machine ≡ above
Last (suc n) above machine = (before : Machine_data) × SwapsToIn n above before × SwapsTo before machine

last : (n : ℕ) (above machine : Machine_data) → SwapsToIn n above machine → Last n above machine
last _ _ _ (AsItIs machine) = refl
last _ _ _ (OnceMore n above before after s t) = (before, s, t)

pub swaps_in_one : (n : ℕ) (above a b : Machine_data) → SwapsToIn n above a → SwapsToIn n above b → a ≡ b
swaps_in_one zero above a b s t = last zero above a s ∙ sym (last zero above b t)
swaps_in_one (suc n) above a b s t =
    let p = last (suc n) above a s in
    let q = last (suc n) above b t in
    let e : p.0 ≡ q.0 = swaps_in_one n above p.0 q.0 p.1 q.1 in
    one_swapped q.0 a b (subst (λ (z : Machine_data). SwapsTo z a) e p.2) q.2

pub swaps_in_none : (n : ℕ) (above machine : Machine_data) → n ≡ 0 → SwapsToIn n above machine → machine ≡ above
swaps_in_none zero above machine e s = last zero above machine s
swaps_in_none (suc n) above machine e s = let bad : ⊥ = omega arith in absurd bad

-- ---- no two reasons to cease

gives_one : (f g : SearchFault) (r q : Ceased) → f ≡ g → reason_of f ≡ Some r → reason_of g ≡ Some q → r ≡ q
gives_one f g r q e ef eg = same_Some r q (sym ef ∙ ap reason_of e ∙ eg)

not_memory : (f : SearchFault) (r : Ceased) → reason_of f ≡ Some r → f ≢ fault.NoMemory
not_memory f r e n = let bad : None ≡ Some r = sym (ap reason_of n) ∙ e in cc

refused_one : (above machine a b : Machine_data) (bound : ℕ) (f g : SearchFault) (r q : Ceased) → SwapsTo machine a → SwapsTo machine b → SearchRefuses a above bound f → SearchRefuses b above bound g
    → reason_of f ≡ Some r → reason_of g ≡ Some q → r ≡ q
refused_one above machine a b bound f g r q s t rf rg ef eg =
    gives_one f g r q
    (one_refusal b above bound f g (not_memory f r ef) (not_memory g q eg) (subst (λ (z : Machine_data). SearchRefuses z above bound f) (one_swapped machine a b s t) rf) rg) ef eg

pub one_reason : (above : Machine_data) (bound asked m : ℕ) (machine : Machine_data) (r q : Ceased) → CeasesAt above bound asked m machine r → CeasesAt above bound asked m machine q → r ≡ q
one_reason above bound asked m machine _ _ (IsAsked e) (IsAsked f) = refl
one_reason above bound asked m machine _ _ (IsAsked e) (HasNoSwap lt none) = let bad : ⊥ = omega arith in absurd bad
one_reason above bound asked m machine _ _ (IsAsked e) (HasTooManyStates lt more) = let bad : ⊥ = omega arith in absurd bad
one_reason above bound asked m machine _ _ (IsAsked e) (IsRefused next why reason lt s few ref gives) = let bad : ⊥ = omega arith in absurd bad
one_reason above bound asked m machine _ _ (HasNoSwap lt none) (IsAsked f) = let bad : ⊥ = omega arith in absurd bad
one_reason above bound asked m machine _ _ (HasNoSwap lt none) (HasNoSwap lt' none') = refl
one_reason above bound asked m machine _ _ (HasNoSwap lt none) (HasTooManyStates lt' more) = absurd (more_or_not machine MOST_STATES more none)
one_reason above bound asked m machine _ _ (HasNoSwap lt none) (IsRefused next why reason lt' s few ref gives) = absurd (swaps_or_not machine next s none)
one_reason above bound asked m machine _ _ (HasTooManyStates lt more) (IsAsked f) = let bad : ⊥ = omega arith in absurd bad
one_reason above bound asked m machine _ _ (HasTooManyStates lt more) (HasNoSwap lt' none) = absurd (more_or_not machine MOST_STATES more none)
one_reason above bound asked m machine _ _ (HasTooManyStates lt more) (HasTooManyStates lt' more') = refl
one_reason above bound asked m machine _ _ (HasTooManyStates lt more) (IsRefused next why reason lt' s few ref gives) = absurd (swaps_or_more machine next MOST_STATES s few more)
one_reason above bound asked m machine _ _ (IsRefused next why reason lt s few ref gives) (IsAsked f) = let bad : ⊥ = omega arith in absurd bad
one_reason above bound asked m machine _ _ (IsRefused next why reason lt s few ref gives) (HasNoSwap lt' none) = absurd (swaps_or_not machine next s none)
one_reason above bound asked m machine _ _ (IsRefused next why reason lt s few ref gives) (HasTooManyStates lt' more) = absurd (swaps_or_more machine next MOST_STATES s few more)
one_reason above bound asked m machine _ _ (IsRefused next why reason lt s few ref gives) (IsRefused next' why' reason' lt' s' few' ref' gives') =
    refused_one above machine next next' bound why why' reason reason' s s' ref ref' gives gives'

-- ---- where it goes on there is no reason to cease

goes_not_ceases : (above : Machine_data) (bound asked m : ℕ) (machine next : Machine_data) (d : Derivation_data) → SwapsOnceMore above bound asked m machine next d → (reason : Ceased)
    → CeasesAt above bound asked m machine reason → ⊥
goes_not_ceases above bound asked m machine next d g _ (IsAsked e) = let k = g.fewer in let bad : ⊥ = omega arith in bad
goes_not_ceases above bound asked m machine next d g _ (HasNoSwap lt none) = swaps_or_not machine next g.swaps none
goes_not_ceases above bound asked m machine next d g _ (HasTooManyStates lt more) = swaps_or_more machine next MOST_STATES g.swaps g.few_states more
goes_not_ceases above bound asked m machine next d g _ (IsRefused other why reason lt s few ref gives) =
    not_memory why reason gives
    (not_both_ways next above bound d why g.derives (subst (λ (z : Machine_data). SearchRefuses z above bound why) (one_swapped machine other next s g.swaps) ref))

-- ---- as far as it came

pub so_far_first : (above : Machine_data) (bound asked : ℕ) (d : Derivation_data) → IsProper above → IsCanonical above above bound d → IsSwappedSoFar above bound asked 0 above d
so_far_first above bound asked d w f = record {
  bounded = f.bounded;
  swapped = AsItIs above;
  derives = f;
  proper = w;
  most = omega arith;
  least = λ k before reason lt s c. (let bad : ⊥ = omega arith in bad);
}

pub so_far_on : (above : Machine_data) (bound asked m n : ℕ) (machine next : Machine_data) (d e : Derivation_data) → n ≡ m + 1 → IsSwappedSoFar above bound asked m machine d
    → SwapsOnceMore above bound asked m machine next e → IsSwappedSoFar above bound asked n next e
so_far_on above bound asked m n machine next d e en s g =
    let more : suc m ≡ n = omega arith in
    record {
      bounded = s.bounded;
      swapped = subst (λ (z : ℕ). SwapsToIn z above next) more (OnceMore m above machine next s.swapped g.swaps);
      derives = g.derives;
      proper = g.proper;
      most = (let k = g.fewer in omega arith);
      least = λ k before reason lt b c. elim (cases_lt k m) [
        | inl less ↦ s.least k before reason less b c
        | inr no_less ↦ (let same : k ≡ m = omega arith in
            let b' : SwapsToIn m above before = subst (λ (z : ℕ). SwapsToIn z above before) same b in
            let c' : CeasesAt above bound asked m before reason = subst (λ (z : ℕ). CeasesAt above bound asked z before reason) same c in
            goes_not_ceases above bound asked m machine next e g reason
            (subst (λ (z : Machine_data). CeasesAt above bound asked m z reason) (swaps_in_one m above before machine b' s.swapped) c'))
      ];
    }

pub so_far_ceased : (above : Machine_data) (bound asked : ℕ) (i : Improved_data) → IsSwappedSoFar above bound asked i.swaps i.machine i.derivation
    → CeasesAt above bound asked i.swaps i.machine i.ceased
    → IsImproved above bound asked i
so_far_ceased above bound asked i s c = record { bounded = s.bounded; swapped = s.swapped; derivation = s.derives; ceases = c; least = s.least }

-- ---- one more swap

searched : (above : Machine_data) (bound asked m : ℕ) (machine next : Machine_data) → m < asked → SwapsTo machine next → length next.states ≤ MOST_STATES → IsProper next → (a : Attempt)
    → IsSearched next above bound a → IsAttempt above bound asked m machine a
searched above bound asked m machine next lt s few w (Ceases reason) h = IsRefused next h.why reason lt s few h.refuses h.gives
searched above bound asked m machine next lt s few w (Succeeds other d) h =
    subst (λ (z : Machine_data). SwapsOnceMore above bound asked m machine z d) (sym h.0) (record { fewer = lt; swaps = s; few_states = few; derives = h.1; proper = w })

pub attempted : {E : Type 0} (above : Machine_data) (bound asked m : ℕ) (machine next : Machine_data) → m < asked → SwapsTo machine next → length next.states ≤ MOST_STATES → IsProper next
    → (r : Result Attempt E) → IfOk r (IsSearched next above bound) → IfOk r (IsAttempt above bound asked m machine)
attempted above bound asked m machine next lt s few w (Ok a) h = searched above bound asked m machine next lt s few w a h
attempted above bound asked m machine next lt s few w (Err e) h = tt

-- ---- the improved machine

same_improved : (a b : Improved_data) → a.machine ≡ b.machine → a.swaps ≡ b.swaps → a.ceased ≡ b.ceased → a.derivation ≡ b.derivation → a ≡ b
same_improved a b em es ec ed = rw (em, es, ec, ed) refl

pub one_improvement : (above : Machine_data) (bound asked : ℕ) (a b : Improved_data) → IsImproved above bound asked a → IsImproved above bound asked b → a ≡ b
one_improvement above bound asked a b f g = elim (cases_lt a.swaps b.swaps) [
  | inl less ↦ absurd (g.least a.swaps a.machine a.ceased less f.swapped f.ceases)
  | inr no_less ↦ elim (cases_lt b.swaps a.swaps) [
    | inl less ↦ absurd (f.least b.swaps b.machine b.ceased less g.swapped g.ceases)
    | inr no_less' ↦ (let es : a.swaps ≡ b.swaps = omega arith in
        let em : a.machine ≡ b.machine = swaps_in_one b.swaps above a.machine b.machine (subst (λ (z : ℕ). SwapsToIn z above a.machine) es f.swapped) g.swapped in
        same_improved a b em es
        (one_reason above bound asked b.swaps b.machine a.ceased b.ceased
        (subst (λ (z : ℕ). CeasesAt above bound asked z b.machine a.ceased) es (subst (λ (z : Machine_data). CeasesAt above bound asked a.swaps z a.ceased) em f.ceases)) g.ceases)
        (one_answer b.machine above bound a.derivation b.derivation (subst (λ (z : Machine_data). IsCanonical z above bound a.derivation) em f.derivation) g.derivation))
  ]
]
