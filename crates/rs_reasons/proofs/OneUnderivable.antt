-- One is told of a machine of which no derivation is found.
use Rattle.std.proofs.Common.{◌≡◌, ◌≢◌, ◌++◌, ◌∙◌, ℕ, List, [], ◌∷◌, Bool, true, false, Some, sym, ap, subst, arith}
use Rattle.rs_explain.proofs.Existing.{one_explanation}
use Rattle.rs_explain.proofs.Firsts.{one_cut_walk}
use Rattle.rs_explain.proofs.Forgetful.{one_forgetting}
use Rattle.rs_explain.specs.Explanations.{Explanation_data, IsExplanation}
use Rattle.rs_explain.specs.Forgetting.{Forgetting_data, IsForgetting}
use Rattle.rs_explain.specs.Walks.{WalkStep_data}
use Rattle.rs_explain.specs.declared.explaining.Ending.TheVariants.{Cut}
use Rattle.rs_model.specs.declared.limits.TheConstants.{MOST_BOUND, MOST_CANDIDATES}
use Rattle.rs_search.proofs.Determined.{not_both_ways}
use Rattle.rs_search.proofs.Determined as searched
use Rattle.rs_derive.specs.Data.{Derivation_data}
use Rattle.rs_search.specs.Candidates.{AreMoreThan, start_spot}
use Rattle.rs_search.specs.Canonical.{IsCanonical, IsForgets, SearchRefuses}
use Rattle.rs_search.specs.declared.faults.SearchFault.{SearchFault}
use Rattle.rs_search.specs.declared.faults.SearchFault.TheVariants as search
use Rattle.rs_walk_texts.specs.Data.{WalkSource_data}
use Rattle.rs_reasons.specs.Underivable.{Accepts, Finds, GreatestForgets, GreatestHelps, GreatestRefuses, IsNoLess, IsTooLarge, NoneHelps, Refuses, TellsForgets, TellsNotFound, TellsReason, TellsSearch, TellsTooLarge, TellsUnderivable, helped_line, hopeless_line, is_forgetting, is_hopeless, lesser_bounds, refused_line, refusing_line, round_text, way_text}

-- one explanation is hopeless or isn't
both : (source : WalkSource_data) (bound : ℕ) (cut : Bool) (e f : Explanation_data) → IsExplanation source.machine source.projection.machine bound e
    → IsExplanation source.machine source.projection.machine bound f → is_hopeless source cut e ≡ true → is_hopeless source cut f ≡ false → ⊥
both source bound cut e f h k x y =
    let same : e ≡ f = one_explanation source.machine source.projection.machine bound e f h k in
    let bad : true ≡ false = sym x ∙ ap (is_hopeless source cut) same ∙ y in
    cc bad

-- a fault doesn't forget and forget
not_both : (source : WalkSource_data) (fault : SearchFault) (node : ℕ) → fault ≢ search.NoMemory → is_forgetting fault ≡ false
    → SearchRefuses source.machine source.projection.machine MOST_BOUND fault → IsForgets source.machine source.projection.machine MOST_BOUND node → ⊥
not_both source fault node n calm r f =
    let same : fault ≡ search.Forgets node = searched.one_refusal source.machine source.projection.machine MOST_BOUND fault (search.Forgets node) n (λ e. cc e) r f in
    let bad : false ≡ true = sym calm ∙ ap is_forgetting same in
    cc bad

-- a derivation is found, or forgets
helps_or_forgets : (source : WalkSource_data) (d : Derivation_data) (node : ℕ) → IsCanonical source.machine source.projection.machine MOST_BOUND d
    → IsForgets source.machine source.projection.machine MOST_BOUND node → ⊥
helps_or_forgets source d node c f =
    let bad : search.Forgets node ≡ search.NoMemory = not_both_ways source.machine source.projection.machine MOST_BOUND d (search.Forgets node) c f in
    cc bad

-- the greatest bound has one way round
one_round : (source : WalkSource_data) (node other : ℕ) (f g : Forgetting_data) → IsForgets source.machine source.projection.machine MOST_BOUND node
    → IsForgets source.machine source.projection.machine MOST_BOUND other → IsForgetting source.machine source.projection.machine MOST_BOUND node f
    → IsForgetting source.machine source.projection.machine MOST_BOUND other g → f ≡ g
one_round source node other f g a b h k =
    let same : search.Forgets node ≡ search.Forgets other =
    searched.one_refusal source.machine source.projection.machine MOST_BOUND (search.Forgets node) (search.Forgets other) (λ e. cc e) (λ e. cc e) a b in
    let number : node ≡ other = cc (same) in
    one_forgetting source.machine source.projection.machine MOST_BOUND other f g
    (subst (λ (z : ℕ). IsForgetting source.machine source.projection.machine MOST_BOUND z f) number h) k

one_not_found : (source : WalkSource_data) (bound : ℕ) (cut : Bool) (lines others : List ℕ) → TellsNotFound source bound cut lines → TellsNotFound source bound cut others → lines ≡ others
one_not_found source bound cut lines others (NoneHelps e h x p) (NoneHelps f k y q) =
    p ∙ ap (λ (z : Explanation_data). way_text source bound z.steps z.ending ++ hopeless_line) (one_explanation source.machine source.projection.machine bound e f h k) ∙ sym q
one_not_found source bound cut lines others (NoneHelps e h x p) (GreatestRefuses f k y fault n calm r q) = absurd (both source bound cut e f h k x y)
one_not_found source bound cut lines others (NoneHelps e h x p) (GreatestHelps f k y d c steps w q) = absurd (both source bound cut e f h k x y)
one_not_found source bound cut lines others (GreatestRefuses e h x fault n calm r p) (NoneHelps f k y q) = absurd (both source bound cut f e k h y x)
one_not_found source bound cut lines others (GreatestRefuses e h x fault n calm r p) (GreatestRefuses f k y other m still s q) =
    p ∙ ap (λ (z : Explanation_data). way_text source bound z.steps z.ending ++ refusing_line source fault) (one_explanation source.machine source.projection.machine bound e f h k)
    ∙ ap (λ (z : SearchFault). way_text source bound f.steps f.ending ++ refusing_line source z) (searched.one_refusal source.machine source.projection.machine MOST_BOUND fault other n m r s) ∙ sym q
one_not_found source bound cut lines others (GreatestRefuses e h x fault n calm r p) (GreatestHelps f k y d c steps w q) =
    absurd (n (not_both_ways source.machine source.projection.machine MOST_BOUND d fault c r))
one_not_found source bound cut lines others (GreatestHelps e h x d c steps w p) (NoneHelps f k y q) = absurd (both source bound cut f e k h y x)
one_not_found source bound cut lines others (GreatestHelps e h x d c steps w p) (GreatestRefuses f k y fault n calm r q) =
    absurd (n (not_both_ways source.machine source.projection.machine MOST_BOUND d fault c r))
one_not_found source bound cut lines others (GreatestHelps e h x d c steps w p) (GreatestHelps f k y g b ways v q) =
    p ∙ ap (λ (z : List WalkStep_data). way_text source bound z Cut ++ helped_line source d) (one_cut_walk source.machine source.projection.machine bound MOST_BOUND (start_spot source.machine source.projection.machine) steps ways w v)
    ∙ ap (λ (z : Derivation_data). way_text source bound ways Cut ++ helped_line source z) (searched.one_answer source.machine source.projection.machine MOST_BOUND d g c b) ∙ sym q
one_not_found source bound cut lines others (NoneHelps e h x p) (GreatestForgets f k y node r g w q) = absurd (both source bound cut e f h k x y)
one_not_found source bound cut lines others (GreatestForgets e h x node r g w p) (NoneHelps f k y q) = absurd (both source bound cut f e k h y x)
one_not_found source bound cut lines others (GreatestForgets e h x node r g w p) (GreatestRefuses f k y fault n calm s q) = absurd (not_both source fault node n calm s r)
one_not_found source bound cut lines others (GreatestRefuses e h x fault n calm s p) (GreatestForgets f k y node r g w q) = absurd (not_both source fault node n calm s r)
one_not_found source bound cut lines others (GreatestForgets e h x node r g w p) (GreatestHelps f k y d c steps v q) = absurd (helps_or_forgets source d node c r)
one_not_found source bound cut lines others (GreatestHelps e h x d c steps v p) (GreatestForgets f k y node r g w q) = absurd (helps_or_forgets source d node c r)
one_not_found source bound cut lines others (GreatestForgets e h x node r g w p) (GreatestForgets f k y other s j v q) =
    p ∙ ap (λ (z : Forgetting_data). round_text source z ++ hopeless_line) (one_round source node other g j r s w v) ∙ sym q

one_forgets : (source : WalkSource_data) (bound node : ℕ) (lines others : List ℕ) → TellsForgets source bound node lines → TellsForgets source bound node others → lines ≡ others
one_forgets source bound node lines others h k =
    h.text
    ∙ ap (λ (z : Forgetting_data). round_text source z ++ hopeless_line) (one_forgetting source.machine source.projection.machine bound node h.forgetting k.forgetting h.is_forgetting k.is_forgetting) ∙ sym k.text

-- one is told of too many candidates

-- what is told of a search isn't told where there are too many candidates, nor where memory is refused
not_large : (source : WalkSource_data) (bound : ℕ) (lines : List ℕ) → TellsSearch source bound lines → AreMoreThan source.machine source.projection.machine bound MOST_CANDIDATES → ⊥
not_large source bound lines (Accepts d c e) m = c.bounded m
not_large source bound lines (Refuses (search.NotFound cut) r reason t e) m = r.bounded m
not_large source bound lines (Refuses (search.Forgets node) r reason t e) m = r.bounded m
not_large source bound lines (Refuses search.TooLarge r reason t e) m = t
not_large source bound lines (Refuses search.NoMemory r reason t e) m = t

not_memory : (source : WalkSource_data) (bound : ℕ) (fault : SearchFault) (reason : List ℕ) → TellsReason source bound fault (Some reason) → fault ≡ search.NoMemory → ⊥
not_memory source bound fault reason t e = subst (λ (z : SearchFault). TellsReason source bound z (Some reason)) e t

one_reason : (source : WalkSource_data) (bound : ℕ) (fault : SearchFault) (reason other : List ℕ) → TellsReason source bound fault (Some reason) → TellsReason source bound fault (Some other) → reason ≡ other
one_reason source bound (search.NotFound cut) reason other h k = one_not_found source bound cut reason other h k
one_reason source bound (search.Forgets node) reason other h k = one_forgets source bound node reason other h k
one_reason source bound search.TooLarge reason other h k = absurd h
one_reason source bound search.NoMemory reason other h k = absurd h

one_search : (source : WalkSource_data) (bound : ℕ) (lines others : List ℕ) → TellsSearch source bound lines → TellsSearch source bound others → lines ≡ others
one_search source bound lines others (Accepts d c p) (Accepts g k q) = p ∙ sym q
one_search source bound lines others (Accepts d c p) (Refuses fault r reason t q) =
    absurd (not_memory source bound fault reason t (not_both_ways source.machine source.projection.machine bound d fault c r))
one_search source bound lines others (Refuses fault r reason t q) (Accepts d c p) =
    absurd (not_memory source bound fault reason t (not_both_ways source.machine source.projection.machine bound d fault c r))
one_search source bound lines others (Refuses fault r reason t p) (Refuses fault' r' other u q) =
    let same : fault ≡ fault' = searched.one_refusal source.machine source.projection.machine bound fault fault' (not_memory source bound fault reason t) (not_memory source bound fault' other u) r r' in
    p
    ∙ ap (λ (z : List ℕ). refused_line source bound ++ z) (one_reason source bound fault' reason other (subst (λ (z : SearchFault). TellsReason source bound z (Some reason)) same t) u) ∙ sym q

one_too_large : (source : WalkSource_data) (bound : ℕ) (bounds lines others : List ℕ) → TellsTooLarge source bound bounds lines → TellsTooLarge source bound bounds others → lines ≡ others
one_too_large source bound [] lines others h k = h ∙ sym k
one_too_large source bound (b ∷ later) lines others (IsNoLess l h) (IsNoLess m k) = one_too_large source bound later lines others h k
one_too_large source bound (b ∷ later) lines others (IsNoLess l h) (IsTooLarge m w k) = absurd (omega arith)
one_too_large source bound (b ∷ later) lines others (IsNoLess l h) (Finds m s) = absurd (omega arith)
one_too_large source bound (b ∷ later) lines others (IsTooLarge m w h) (IsNoLess l k) = absurd (omega arith)
one_too_large source bound (b ∷ later) lines others (IsTooLarge m w h) (IsTooLarge l x k) = one_too_large source bound later lines others h k
one_too_large source bound (b ∷ later) lines others (IsTooLarge m w h) (Finds l s) = absurd (not_large source b others s w)
one_too_large source bound (b ∷ later) lines others (Finds m s) (IsNoLess l k) = absurd (omega arith)
one_too_large source bound (b ∷ later) lines others (Finds m s) (IsTooLarge l w k) = absurd (not_large source b lines s w)
one_too_large source bound (b ∷ later) lines others (Finds m s) (Finds l u) = one_search source b lines others s u

pub one_underivable : (source : WalkSource_data) (bound : ℕ) (fault : SearchFault) (lines others : List ℕ) → TellsUnderivable source bound fault lines → TellsUnderivable source bound fault others
    → lines ≡ others
one_underivable source bound (search.NotFound cut) lines others h k = one_not_found source bound cut lines others h k
one_underivable source bound (search.Forgets node) lines others h k = one_forgets source bound node lines others h k
one_underivable source bound search.TooLarge lines others h k = one_too_large source bound lesser_bounds lines others h k
one_underivable source bound search.NoMemory lines others h k = h ∙ sym k
