-- Bodies with a rec where it is gone back to, and with braces round more than one arm.
use Rattle.std.proofs.Common.{◌≡◌, ℕ, suc, ◌<◌, ◌≤◌, ◌^◌, List, ◌∷◌, Bool, true, false, nat_lt, refl, sym, ap, ◌∙◌, arith}
use Rattle.std.specs.Fmt.{decimal}
use Rattle.std.proofs.lemmas.Bool.{lt-ltb}
use Rattle.rs_model.specs.declared.limits.TheConstants.{MOST_NESTING, MOST_TALKS}
use Rattle.rs_text.specs.Lexemes.{value_of}
use Rattle.rs_text.specs.Names.{BoundNames}
use Rattle.rs_text.proofs.Basics.{two_true}
use Rattle.rs_text.proofs.PlainNames.{numbered_word}
use Rattle.rs_text.proofs.Values.{decimal_reads}
use Rattle.rs_bodies.specs.declared.dialects.Dialect.{Dialect}
use Rattle.rs_bodies.specs.Dialects.{BehindRole}
use Rattle.rs_bodies.specs.Fits.{body_fits}
use Rattle.rs_bodies.specs.Graph.{labels_of, labels_of_arms, acts_in, acts_in_arms, has_end, has_end_arms, Numbering, first_of}
use Rattle.rs_bodies.specs.Places.{name_of_place}
use Rattle.rs_bodies.specs.Shapes.{deeper}
use Rattle.rs_bodies.specs.Trees.{Body, binds, acts, offers, Branches, one, more}
use Rattle.rs_bodies.specs.Writable.{AreWordsIn}
use Rattle.rs_bodies.specs.Scenes.{Scene}
use Rattle.rs_bodies.proofs.PlacesIn.{places_in}

abbrev pub scene : List (List ℕ) → BoundNames → (depth count : ℕ) → List (List ℕ) → Scene
scene roles bound depth count labels = record { roles = roles; bound = bound; depth = depth; acts = count; labels = labels }

tails : (a b : ℕ) (xs ys : List ℕ) → a ∷ xs ≡ b ∷ ys → xs ≡ ys
tails a b xs ys h = cc

pub place_name_is : (n k : ℕ) → n < 2 ^ 64 → k < 2 ^ 64 → name_of_place n ≡ name_of_place k → n ≡ k
place_name_is n k a b h = sym (decimal_reads n a).0 ∙ ap value_of (tails 88 88 (decimal n) (decimal k) h) ∙ (decimal_reads k b).0

-- rec Xk where an arm goes back to k
abbrev pub wrapped : {dia : Dialect} → Bool → ℕ → Body dia → Body dia
wrapped true k b = binds (name_of_place k) b
wrapped false k b = b

-- one arm right behind the head, more in braces
abbrev pub offered : {dia : Dialect} → (s : List ℕ) → BehindRole dia → Branches dia → Body dia
offered s r (one l sort b) = acts s r l sort b
offered s r (more l sort b arms) = offers s r (more l sort b arms)

-- behind the head k
abbrev pub opened_for : Bool → ℕ → BoundNames → BoundNames
opened_for true k named = (name_of_place k, k) ∷ named
opened_for false k named = named

pub wrapped_fits : {dia : Dialect} (c : Bool) (k : ℕ) (b : Body dia) (roles : List (List ℕ)) (named : BoundNames) (d : ℕ) (ls : List (List ℕ)) → (c ≡ true → d < MOST_NESTING)
    → body_fits dia b (scene roles (opened_for c k named) (deeper c d) k ls) ≡ true → body_fits dia (wrapped c k b) (scene roles named d k ls) ≡ true
wrapped_fits {dia} true k b roles named d ls lt h = two_true (nat_lt d MOST_NESTING) (body_fits dia b (scene roles ((name_of_place k, k) ∷ named) (suc d) k ls)) (lt-ltb d MOST_NESTING (lt refl)) h
wrapped_fits {dia} false k b roles named d ls lt h = h

pub wrapped_acts : {dia : Dialect} (c : Bool) (k : ℕ) (b : Body dia) → acts_in dia (wrapped c k b) ≡ acts_in dia b
wrapped_acts {dia} true k b = refl
wrapped_acts {dia} false k b = refl

pub offered_acts : {dia : Dialect} (s : List ℕ) (r : BehindRole dia) (arms : Branches dia) → acts_in dia (offered s r arms) ≡ suc (acts_in_arms dia arms)
offered_acts {dia} s r (one l sort b) = refl
offered_acts {dia} s r (more l sort b arms) = refl

pub wrapped_end : {dia : Dialect} (c : Bool) (k : ℕ) (b : Body dia) → has_end dia (wrapped c k b) ≡ has_end dia b
wrapped_end {dia} true k b = refl
wrapped_end {dia} false k b = refl

pub offered_end : {dia : Dialect} (s : List ℕ) (r : BehindRole dia) (arms : Branches dia) → has_end dia (offered s r arms) ≡ has_end_arms dia arms
offered_end {dia} s r (one l sort b) = refl
offered_end {dia} s r (more l sort b arms) = refl

pub wrapped_labels : {dia : Dialect} (c : Bool) (k : ℕ) (b : Body dia) → labels_of dia (wrapped c k b) ≡ labels_of dia b
wrapped_labels {dia} true k b = refl
wrapped_labels {dia} false k b = refl

pub offered_labels : {dia : Dialect} (s : List ℕ) (r : BehindRole dia) (arms : Branches dia) → labels_of dia (offered s r arms) ≡ labels_of_arms dia arms
offered_labels {dia} s r (one l sort b) = refl
offered_labels {dia} s r (more l sort b arms) = refl

pub wrapped_places : {dia : Dialect} (m : Numbering) (c : Bool) (k : ℕ) (b : Body dia) (named : BoundNames) → places_in m (wrapped c k b) named k ≡ places_in m b (opened_for c k named) k
wrapped_places {dia} m true k b named = refl
wrapped_places {dia} m false k b named = refl

pub wrapped_first : {dia : Dialect} (last : ℕ) (c : Bool) (k : ℕ) (b : Body dia) (named : BoundNames) → first_of dia (wrapped c k b) named k last ≡ first_of dia b (opened_for c k named) k last
wrapped_first {dia} last true k b named = refl
wrapped_first {dia} last false k b named = refl

pub offered_places : {dia : Dialect} (m : Numbering) (s : List ℕ) (r : BehindRole dia) (arms : Branches dia) (named : BoundNames) (k : ℕ)
    → places_in m (offered s r arms) named k ≡ places_in m (offers s r arms) named k
offered_places {dia} m s r (one l sort b) named k = refl
offered_places {dia} m s r (more l sort b arms) named k = refl

pub offered_first : {dia : Dialect} (last : ℕ) (s : List ℕ) (r : BehindRole dia) (arms : Branches dia) (named : BoundNames) (k : ℕ) → first_of dia (offered s r arms) named k last ≡ k
offered_first {dia} last s r (one l sort b) named k = refl
offered_first {dia} last s r (more l sort b arms) named k = refl

pub one_words : {dia : Dialect} (c : Bool) (k : ℕ) (b : Body dia) → k ≤ MOST_TALKS → AreWordsIn dia b → AreWordsIn dia (wrapped c k b)
one_words {dia} true k b small h = (numbered_word k (omega arith), h)
one_words {dia} false k b small h = h
