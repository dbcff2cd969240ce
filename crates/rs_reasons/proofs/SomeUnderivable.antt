-- Something is told of each machine of which no derivation is found.
use Rattle.std.proofs.Common.{◌≡◌, ◌≢◌, ◌⊎◌, ◌++◌, ℕ, List, [], ◌∷◌, Bool, true, false, refl, inl, inr, arith}
use Rattle.std.proofs.lemmas.Bool.{cases_lt}
use Rattle.std.proofs.lemmas.Bool.Decides.{leb_tells}
use Rattle.rs_derive.specs.Data.{Derivation_data}
use Rattle.rs_derive.specs.Derivations.{IsProper}
use Rattle.rs_explain.proofs.Existing.{canonical_helps, cut_from_start, none_within, some_explanation}
use Rattle.rs_explain.proofs.Forgetful.{some_forgetting}
use Rattle.rs_explain.specs.Explanations.{AGreaterBoundHelps, Explanation_data, IsExplanation}
use Rattle.rs_explain.specs.declared.explaining.Ending.TheVariants.{Cut}
use Rattle.rs_model.specs.declared.limits.TheConstants.{MOST_BOUND, MOST_CANDIDATES}
use Rattle.rs_search.proofs.Accepted.{derives}
use Rattle.rs_search.proofs.Deciding as searching
use Rattle.rs_search.specs.Candidates.{AreMoreThan}
use Rattle.rs_search.specs.Canonical.{IsCanonical, IsNotFound, SearchRefuses}
use Rattle.rs_search.specs.declared.faults.SearchFault.{SearchFault}
use Rattle.rs_search.specs.declared.faults.SearchFault.TheVariants as search
use Rattle.rs_walk_texts.specs.Data.{WalkSource_data}
use Rattle.rs_reasons.specs.Underivable.{Accepts, Finds, GreatestForgets, GreatestHelps, GreatestRefuses, IsNoLess, IsTooLarge, NoneHelps, Refuses, TellsNotFound, TellsSearch, TellsTooLarge, TellsUnderivable, accepted_line, helped_line, hopeless_line, is_hopeless, lesser_bounds, refused_line, refusing_line, round_text, way_text}

-- where the search finds a derivation within the greatest bound and none within this one, the greatest helps
pub greatest_helps : (source : WalkSource_data) (bound : ℕ) (e : Explanation_data) (d : Derivation_data) → IsProper source.machine → IsProper source.projection.machine
    → IsExplanation source.machine source.projection.machine bound e → IsCanonical source.machine source.projection.machine MOST_BOUND d
    → AGreaterBoundHelps source.machine source.projection.machine bound MOST_BOUND
greatest_helps source bound e d ours theirs h c = elim (leb_tells bound MOST_BOUND) [
  | inl le ↦ canonical_helps source.machine source.projection.machine bound MOST_BOUND d le.1 c
  | inr more ↦ (
      let m = more.1 in
      let b = c.canonical.bound' in
      absurd (none_within source.machine source.projection.machine bound e d h (derives source.machine source.projection.machine MOST_BOUND d ours theirs c.canonical) (omega (arith, m, b))))
]

some_not_found : (source : WalkSource_data) (bound : ℕ) (cut : Bool) → IsProper source.machine → IsProper source.projection.machine → IsNotFound source.machine source.projection.machine bound cut
    → (lines : List ℕ) × TellsNotFound source bound cut lines
some_not_found source bound cut ours theirs h = by (is_hopeless source cut e.0) refl
  where
    e : (e : Explanation_data) × IsExplanation source.machine source.projection.machine bound e
    e = some_explanation source.machine source.projection.machine bound cut ours theirs h

    refused : is_hopeless source cut e.0 ≡ false → (fault : SearchFault) → fault ≢ search.NoMemory → SearchRefuses source.machine source.projection.machine MOST_BOUND fault
        → (lines : List ℕ) × TellsNotFound source bound cut lines
    refused k (search.NotFound c) n r =
        (way_text source bound e.0.steps e.0.ending ++ refusing_line source (search.NotFound c), GreatestRefuses e.0 e.1 k (search.NotFound c) n refl r refl)
    refused k (search.Forgets node) n r =
        let f = some_forgetting source.machine source.projection.machine MOST_BOUND node r in
        (round_text source f.0 ++ hopeless_line, GreatestForgets e.0 e.1 k node r f.0 f.1 refl)
    refused k search.TooLarge n r =
        (way_text source bound e.0.steps e.0.ending ++ refusing_line source search.TooLarge, GreatestRefuses e.0 e.1 k search.TooLarge n refl r refl)
    refused k search.NoMemory n r = absurd (n refl)

    by : (b : Bool) → is_hopeless source cut e.0 ≡ b → (lines : List ℕ) × TellsNotFound source bound cut lines
    by true k = (way_text source bound e.0.steps e.0.ending ++ hopeless_line, NoneHelps e.0 e.1 k refl)
    by false k = elim (searching.decided source.machine source.projection.machine MOST_BOUND ours theirs) [
      | inl d ↦ (
          let walk = cut_from_start source.machine source.projection.machine bound MOST_BOUND cut h (greatest_helps source bound e.0 d.0 ours theirs e.1 d.1) in
          (way_text source bound walk.0 Cut ++ helped_line source d.0, GreatestHelps e.0 e.1 k d.0 d.1 walk.0 walk.1 refl))
      | inr f ↦ refused k f.0 f.1 f.2
    ]

-- there are too many candidates within the bound, or something is told of the search
some_search : (source : WalkSource_data) (bound : ℕ) → IsProper source.machine → IsProper source.projection.machine
    → AreMoreThan source.machine source.projection.machine bound MOST_CANDIDATES ⊎ ((lines : List ℕ) × TellsSearch source bound lines)
some_search source bound ours theirs = elim (searching.decided source.machine source.projection.machine bound ours theirs) [
  | inl d ↦ inr (accepted_line source bound, Accepts d.0 d.1 refl)
  | inr f ↦ by f.0 f.1 f.2
]
  where
    by : (fault : SearchFault) → fault ≢ search.NoMemory → SearchRefuses source.machine source.projection.machine bound fault
        → AreMoreThan source.machine source.projection.machine bound MOST_CANDIDATES ⊎ ((lines : List ℕ) × TellsSearch source bound lines)
    by (search.NotFound cut) n r =
        let t = some_not_found source bound cut ours theirs r in inr (refused_line source bound ++ t.0, Refuses (search.NotFound cut) r t.0 t.1 refl)
    by (search.Forgets node) n r =
        let f = some_forgetting source.machine source.projection.machine bound node r in
        let reason = round_text source f.0 ++ hopeless_line in
        inr (refused_line source bound ++ reason, Refuses (search.Forgets node) r reason (record { forgetting = f.0; is_forgetting = f.1; text = refl }) refl)
    by search.TooLarge n r = inl r
    by search.NoMemory n r = absurd (n refl)

some_too_large : (source : WalkSource_data) (bound : ℕ) (bounds : List ℕ) → IsProper source.machine → IsProper source.projection.machine → (lines : List ℕ) × TellsTooLarge source bound bounds lines
some_too_large source bound [] ours theirs = ([], refl)
some_too_large source bound (b ∷ later) ours theirs =
    let on = some_too_large source bound later ours theirs in
    elim (cases_lt b bound) [
      | inl lt ↦ elim (some_search source b ours theirs) [ inl m ↦ (on.0, IsTooLarge lt m on.1) | inr s ↦ (s.0, Finds lt s.1) ]
      | inr le ↦ (on.0, IsNoLess le on.1)
    ]

pub some_underivable : (source : WalkSource_data) (bound : ℕ) (fault : SearchFault) → IsProper source.machine → IsProper source.projection.machine
    → SearchRefuses source.machine source.projection.machine bound fault → (lines : List ℕ) × TellsUnderivable source bound fault lines
some_underivable source bound (search.NotFound cut) ours theirs h = some_not_found source bound cut ours theirs h
some_underivable source bound (search.Forgets node) ours theirs h =
    let f = some_forgetting source.machine source.projection.machine bound node h in
    (round_text source f.0 ++ hopeless_line, record { forgetting = f.0; is_forgetting = f.1; text = refl })
some_underivable source bound search.TooLarge ours theirs h = some_too_large source bound lesser_bounds ours theirs
some_underivable source bound search.NoMemory ours theirs h = ([], refl)
