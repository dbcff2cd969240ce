-- What the canonical form of a body that spells a graph is: it is the graph's canonical body, of the same places, and its
-- names can be written.
use Rattle.std.proofs.Common.{◌≡◌, ℕ, suc, ◌+◌, ◌<◌, ◌≤◌, List, [], ◌∷◌, ◌++◌, true, false, Option, Some, None, refl, sym, ap, ◌∙◌, subst, arith, slice_get}
use Rattle.rs_model.specs.Data.{Names_data}
use Rattle.rs_model.specs.declared.limits.TheConstants.{MOST_TALKS}
use Rattle.rs_text.proofs.PlainNames.{numbered_word}
use Rattle.rs_text.specs.Names.{BoundNames, nearest_binding, number_or}
use Rattle.rs_text.specs.Words.{is_word, is_role_word}
use Rattle.rs_bodies.specs.declared.dialects.Dialect.{Dialect}
use Rattle.rs_bodies.specs.declared.dialects.Dialect.TheVariants.{Talks, Acts}
use Rattle.rs_bodies.specs.declared.places.Place.{Place}
use Rattle.rs_bodies.specs.declared.places.Place.TheVariants as place
use Rattle.rs_bodies.specs.Canonical.{IsSpelt, Draws, HaveNames}
use Rattle.rs_bodies.specs.Dialects.{BehindRole, sends_to, with_mark, most}
use Rattle.rs_bodies.specs.Fits.{body_fits}
use Rattle.rs_bodies.specs.Graph.{acts_in, acts_in_arms, has_end, Numbering, first_of}
use Rattle.rs_bodies.specs.Openings.{roles_in}
use Rattle.rs_bodies.specs.Places.{end_of, places_spelt, name_of_place}
use Rattle.rs_bodies.specs.Scenes.{first_scene}
use Rattle.rs_bodies.specs.Spells.{numbering}
use Rattle.rs_bodies.specs.Trees.{Body, ends, again, binds, acts, offers, Branches, one, more}
use Rattle.rs_bodies.specs.Writable.{IsWordInTurn, AreWordsIn, AreWordsInArms}
use Rattle.rs_bodies.proofs.BackFlags.{goes_back}
use Rattle.rs_bodies.proofs.CanonDraws.{draws, has_names}
use Rattle.rs_bodies.proofs.CanonForms.{Writing, role_as, label_as, turn_as, sort_as, canon, canon_arms, HasRole, HasLabel, HasTurn, HasNames, HasNamesArms}
use Rattle.rs_bodies.proofs.CanonNest.{RolesKnown, Carries, canon_fits}
use Rattle.rs_bodies.proofs.Recs.{tree_recs}
use Rattle.rs_bodies.proofs.CanonOne.{drawn_once}
use Rattle.rs_bodies.proofs.CanonSame.{fine, Same, same, SameNumbers, canon_end}
use Rattle.rs_bodies.proofs.Fitting.{Named, fits_named, fits_heads, Fine}
use Rattle.rs_bodies.proofs.NamesLead.{Low, low_rec, low_up}
use Rattle.rs_bodies.proofs.Wrapped.{one_words}
use Rattle.rs_bodies.proofs.PlacesIn.{places_in, places_are, places_length, at_seam}

-- ---- a body that spells a graph

-- by these numbers, with these names before it
pub record IsTreeOf (dia : Dialect) (roles labels : List (List ℕ)) (m : Numbering) (p : List Place) (root : ℕ) (t : Body dia) : Type 0 where
  pub places : p ≡ places_in m t [] 0 ++ end_of (has_end dia t)
  pub begins : root ≡ first_of dia t [] 0 m.last
  pub last : m.last ≡ acts_in dia t
  pub fits : body_fits dia t (first_scene roles labels) ≡ true

pub spelt_tree : (dia : Dialect) (p : List Place) (root : ℕ) (s : IsSpelt dia p root)
    → IsTreeOf dia (roles_in dia s.old s.spells.tree.opening) s.old.labels (numbering dia s.old s.spells.tree) p root s.spells.tree.body
spelt_tree dia p root s =
    let t = s.spells.tree in
    let m = numbering dia s.old t in
    record {
      places = s.places_are ∙ ap places_spelt s.spells.meaning_is ∙ ap (λ z. z ++ end_of (has_end dia t.body)) (places_are m t.body [] 0);
      begins = s.root_is ∙ ap (λ z. z.start) s.spells.meaning_is;
      last = refl;
      fits = s.spells.fits.body;
    }

-- its writing by other names
abbrev pub writing : Numbering → Names_data → List Place → Writing
writing m names p = record { numbers = m; names = names; places = p }

abbrev pub canon_of : {dia : Dialect} → Numbering → Names_data → List Place → Body dia → Body dia
canon_of m names p t = canon (writing m names p) t [] 0

named : {dia : Dialect} (roles labels : List (List ℕ)) (t : Body dia) → body_fits dia t (first_scene roles labels) ≡ true → Named dia t [] 0
named {dia} roles labels t h = fits_named dia t (first_scene roles labels) h

pub few_heads : {dia : Dialect} (roles labels : List (List ℕ)) (t : Body dia) → body_fits dia t (first_scene roles labels) ≡ true → 0 + acts_in dia t ≤ most dia
few_heads {dia} roles labels t h = fits_heads dia t (first_scene roles labels) h (omega arith)

end_stands : {dia : Dialect} (roles labels : List (List ℕ)) (m : Numbering) (p : List Place) (root : ℕ) (t : Body dia) → IsTreeOf dia roles labels m p root t → has_end dia t ≡ true
    → slice_get p m.last ≡ Some place.End
end_stands roles labels m p root t g h = at_seam p (places_in m t [] 0) place.End [] m.last (g.places ∙ ap (λ z. places_in m t [] 0 ++ end_of z) h) (places_length m t [] 0 ∙ sym g.last)

pub canon_draws : {dia : Dialect} (roles labels : List (List ℕ)) (m : Numbering) (p : List Place) (root : ℕ) (t : Body dia) (names : Names_data) → IsTreeOf dia roles labels m p root t
    → HaveNames names p → Draws dia names p 0 root (canon_of m names p t)
canon_draws {dia} roles labels m p root t names g have =
    subst (λ (z : ℕ). Draws dia names p 0 z (canon_of m names p t)) (sym g.begins)
    (draws (writing m names p) p t [] 0 0 [] (end_of (has_end dia t)) refl have g.places refl (omega arith) (end_stands roles labels m p root t g) (named roles labels t g.fits)
    (λ x m i. absurd (cc i)) (λ x m i lt. lt))

pub tree_has_names : {dia : Dialect} (roles labels : List (List ℕ)) (m : Numbering) (p : List Place) (root : ℕ) (t : Body dia) (names : Names_data) → IsTreeOf dia roles labels m p root t
    → HaveNames names p → HasNames (writing m names p) (HasLabel (writing m names p)) t
tree_has_names {dia} roles labels m p root t names g have = has_names (writing m names p) p t [] 0 [] (end_of (has_end dia t)) have g.places refl

-- ---- the canonical body

pub canon_there : (dia : Dialect) (names : Names_data) (p : List Place) (root : ℕ) → IsSpelt dia p root → HaveNames names p → (body : Body dia) × Draws dia names p 0 root body
canon_there dia names p root s have =
    let t = s.spells.tree in
    let m = numbering dia s.old t in
    (canon_of m names p t.body, canon_draws (roles_in dia s.old t.opening) s.old.labels m p root t.body names (spelt_tree dia p root s) have)

-- any canonical body is the canonical form of the body that spells the graph
pub canon_is : (dia : Dialect) (names : Names_data) (p : List Place) (root : ℕ) (body : Body dia) (s : IsSpelt dia p root) → HaveNames names p → Draws dia names p 0 root body
    → canon_of (numbering dia s.old s.spells.tree) names p s.spells.tree.body ≡ body
canon_is dia names p root body s have drawn =
    let t = s.spells.tree in
    let m = numbering dia s.old t in
    drawn_once dia names p root (canon_of m names p t.body) body s (canon_draws (roles_in dia s.old t.opening) s.old.labels m p root t.body names (spelt_tree dia p root s) have) drawn

-- ---- it is within the limits, and of the same places

is_fine : {dia : Dialect} (roles labels : List (List ℕ)) (m : Numbering) (p : List Place) (root : ℕ) (t : Body dia) → IsTreeOf dia roles labels m p root t → Fine dia (goes_back p) t [] 0
is_fine {dia} roles labels m p root t g =
    fine m p t [] 0 0 [] (end_of (has_end dia t)) g.places refl (named roles labels t g.fits) (λ x m i. absurd (cc i)) (λ x m i lt. lt) (λ lt. absurd (omega arith))

pub canon_same : {dia : Dialect} (P : List ℕ → Type 0) (roles labels : List (List ℕ)) (m new : Numbering) (p : List Place) (root : ℕ) (t : Body dia) (names : Names_data)
    → IsTreeOf dia roles labels m p root t → HasNames (writing m names p) P t → SameNumbers P (writing m names p) new
    → (p ≡ places_in new (canon_of m names p t) [] 0 ++ end_of (has_end dia (canon_of m names p t))) × (root ≡ first_of dia (canon_of m names p t) [] 0 new.last)
canon_same {dia} P roles labels m new p root t names g has numbers =
    let w = writing m names p in
    let c = canon_of m names p t in
    let i : Same w new t c [] [] 0
    = same P w new t [] [] 0 numbers (few_heads roles labels t g.fits) (is_fine roles labels m p root t g) (λ x m e b lt. absurd (cc e)) (λ x m e. absurd (cc e)) has in (
      g.places ∙ sym (ap (λ z. z ++ end_of (has_end dia c)) i.places ∙ ap (λ z. places_in m t [] 0 ++ end_of z) (canon_end w t [] 0)),
      g.begins ∙ sym i.first,
    )

pub canon_within : {dia : Dialect} (P : List ℕ → Type 0) (R : List (List ℕ) → List (List ℕ) → Type 0) (roles labels known now : List (List ℕ)) (m : Numbering) (p : List Place) (root : ℕ)
    (t : Body dia) (names : Names_data) → IsTreeOf dia roles labels m p root t → HasNames (writing m names p) P t
    → RolesKnown (writing m names p) known → Carries P R (writing m names p) → R labels now → body_fits dia (canon_of m names p t) (first_scene known now) ≡ true
canon_within {dia} P R roles labels known now m p root t names g has rs cs rel =
    canon_fits P R (writing m names p) t [] [] false 0 0 0 roles known labels now rs cs rel has (omega arith) (omega arith) (λ e. absurd (cc e)) g.fits
    (tree_recs m p t (has_end dia t) g.places g.last (named roles labels t g.fits)) (is_fine roles labels m p root t g) (λ x m e b lt. absurd (cc e)) (λ x m e. absurd (cc e))

-- ---- its names are words

pub place_name_law : (n : ℕ) → n ≤ MOST_TALKS → is_role_word (name_of_place n) ≡ true
place_name_law n h = numbered_word n (omega arith)

most_small : (dia : Dialect) → most dia ≤ 1024
most_small Talks = omega arith
most_small Acts = omega arith

below_all : (found : Option ℕ) (n : ℕ) → ((m : ℕ) → found ≡ Some m → m < n + 1) → number_or found ≤ n
below_all None n f = omega arith
below_all (Some m) n f = let lt : m < n + 1 = f m refl in omega arith

abbrev RoleWords : Writing → Type 0
RoleWords w = (s : List ℕ) → HasRole w s → is_role_word (role_as w s) ≡ true

abbrev LabelWords : Writing → Type 0
LabelWords w = (l : List ℕ) → HasLabel w l → is_word (label_as w l) ≡ true

turn_word : (dia : Dialect) (w : Writing) (t : BehindRole dia) → RoleWords w → HasTurn w t → IsWordInTurn dia (turn_as w t)
turn_word Talks w (sends_to r) roles has = roles r has
turn_word Acts w (with_mark m) roles has = tt

mutual
  words : {dia : Dialect} (w : Writing) (t : Body dia) (bound : BoundNames) (k : ℕ) → k + acts_in dia t ≤ 1024 → RoleWords w → LabelWords w → HasNames w (HasLabel w) t → Low bound k
      → AreWordsIn dia (canon w t bound k)
  words w ends bound k few roles labels has low = tt
  words w (again x) bound k few roles labels has low =
      let le : number_or (nearest_binding x bound) ≤ k = below_all (nearest_binding x bound) k (λ m e. low x m e) in place_name_law (number_or (nearest_binding x bound)) (omega arith)
  words w (binds x b) bound k few roles labels has low = words w b ((x, k) ∷ bound) k few roles labels has (low_rec bound k x low)
  words {dia} w (acts s r l sort b) bound k few roles labels has low =
      one_words (goes_back w.places k) k (acts (role_as w s) (turn_as w r) (label_as w l) (sort_as sort) (canon w b bound (suc k))) (omega arith)
      (roles s has.0.0, turn_word dia w r roles has.0.1, labels l has.1, words w b bound (suc k) (omega arith) roles labels has.2 (low_up bound k (suc k) (omega arith) low))
  words {dia} w (offers s r (one l sort b)) bound k few roles labels has low =
      one_words (goes_back w.places k) k (acts (role_as w s) (turn_as w r) (label_as w l) (sort_as sort) (canon w b bound (suc k))) (omega arith)
      (roles s has.0.0, turn_word dia w r roles has.0.1, labels l has.1.0, words w b bound (suc k) (omega arith) roles labels has.1.1 (low_up bound k (suc k) (omega arith) low))
  words {dia} w (offers s r (more l sort b arms)) bound k few roles labels has low =
      one_words (goes_back w.places k) k (offers (role_as w s) (turn_as w r) (canon_arms w (more l sort b arms) bound (suc k))) (omega arith)
      (roles s has.0.0, turn_word dia w r roles has.0.1, arm_words w (more l sort b arms) bound (suc k) (omega arith) roles labels has.1 (low_up bound k (suc k) (omega arith) low))

  arm_words : {dia : Dialect} (w : Writing) (arms : Branches dia) (bound : BoundNames) (k : ℕ) → k + acts_in_arms dia arms ≤ 1024 → RoleWords w → LabelWords w → HasNamesArms w (HasLabel w) arms
      → Low bound k → AreWordsInArms dia (canon_arms w arms bound k)
  arm_words w (one l sort b) bound k few roles labels has low = (labels l has.0, words w b bound k few roles labels has.1 low)
  arm_words {dia} w (more l sort b arms) bound k few roles labels has low = (
    labels l has.0,
    words w b bound k (omega arith) roles labels has.1 low,
    arm_words w arms bound (k + acts_in dia b) (omega arith) roles labels has.2 (low_up bound k (k + acts_in dia b) (omega arith) low),
  )

pub canon_words : {dia : Dialect} (roles labels : List (List ℕ)) (m : Numbering) (p : List Place) (root : ℕ) (t : Body dia) (names : Names_data) → IsTreeOf dia roles labels m p root t
    → HaveNames names p → RoleWords (writing m names p) → LabelWords (writing m names p) → AreWordsIn dia (canon_of m names p t)
canon_words {dia} roles labels m p root t names g have rs ls =
    let few : 0 + acts_in dia t ≤ most dia = few_heads roles labels t g.fits in
    let limit = most_small dia in
    words (writing m names p) t [] 0 (omega arith) rs ls (tree_has_names roles labels m p root t names g have) (λ x m e. absurd (cc e))
