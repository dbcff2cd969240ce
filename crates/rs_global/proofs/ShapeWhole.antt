-- A protocol is text-shaped exactly where a body spells its nodes.
use Rattle.std.proofs.Common.{◌≡◌, ℕ, ◌≤◌, ◌↔◌, List, [], ◌∷◌, length, Bool, true, false, ◌&&◌, nat_le, refl, sym, ap, ◌∙◌, subst, arith}
use Rattle.std.proofs.lemmas.Bool.{le-leb, leb-true}
use Rattle.std.specs.Bool.{IsTrue}
use Rattle.rs_model.specs.Data.{Protocol_data}
use Rattle.rs_model.specs.declared.limits.TheConstants.{MOST_ROLES}
use Rattle.rs_text.proofs.Basics.{both, two_true}
use Rattle.rs_bodies.specs.declared.dialects.Dialect.TheVariants.{Talks}
use Rattle.rs_bodies.specs.Bodied.{SpellsPlaces, HasBody}
use Rattle.rs_bodies.specs.Openings.{roles_in}
use Rattle.rs_bodies.specs.Places.{places_of_protocol}
use Rattle.rs_bodies.specs.Shapes.{is_walked}
use Rattle.rs_bodies.proofs.GraphsAgain.{opening_there, body_spells, tree_places}
use Rattle.rs_bodies.proofs.ShapeWhole.{spelt_is_walked, walked_has_body}
use Rattle.rs_global.specs.Canonical.{IsTextShaped}
use Rattle.rs_global.specs.Graph.{no_names}
use Rattle.rs_global.specs.Kinds.{graph_of, protocols}
use Rattle.rs_global.specs.Shapes.{is_shaped}
use Rattle.rs_global.proofs.Canonical.{HasRoles, spelt_roles, spelt_shaped}
use Rattle.rs_global.proofs.Places.{is_kind}

-- whether so many roles fit a line, and whether the walk over the places meets them all
abbrev fit_line : ℕ → Bool
fit_line roles = nat_le 2 roles && nat_le roles MOST_ROLES

abbrev walked : Protocol_data → Bool
walked p = is_walked Talks (record { roles = p.roles; places = places_of_protocol p }) p.root 0

pub shaped_is_walked : (p : Protocol_data) → IsTextShaped p → is_shaped p ≡ true
shaped_is_walked p s =
    let r : HasRoles s.names p = spelt_roles s.bytes s.at s.names p s.until s.spells in
    let t = s.spells.tree in
    let roles : List (List ℕ) = roles_in Talks no_names t.opening in
    let is : p ≡ graph_of t = s.spells.meaning_is in
    let count : length roles ≡ p.roles = ap (λ z. length z.roles) (sym s.spells.names_are) ∙ sym r.count in
    let two : 2 ≤ length s.names.roles = r.two in
    let few : length s.names.roles ≤ MOST_ROLES = r.bounded in
    let same : p.roles ≡ length s.names.roles = r.count in
    let body : SpellsPlaces Talks (record { roles = roles; labels = [] }) t.body (places_of_protocol p) p.root
    = subst (λ (z : Protocol_data). SpellsPlaces Talks (record { roles = roles; labels = [] }) t.body (places_of_protocol z) z.root) (sym is)
    (tree_places protocols is_kind no_names t s.spells.fits) in
    two_true (fit_line p.roles) (walked p)
    (two_true (nat_le 2 p.roles) (nat_le p.roles MOST_ROLES) (le-leb 2 p.roles (omega arith)) (le-leb p.roles MOST_ROLES (omega arith)))
    (spelt_is_walked Talks (record { roles = roles; labels = [] }) t.body p.roles p.root 0 (places_of_protocol p) (omega arith) (omega arith) (omega arith) body)

no_labels : (labels : List (List ℕ)) → length labels ≡ 0 → [] ≡ labels
no_labels [] h = refl
no_labels (x ∷ xs) h = absurd (omega arith)

body_text : (p : Protocol_data) → 2 ≤ p.roles → p.roles ≤ MOST_ROLES → HasBody Talks p.roles 0 (places_of_protocol p) p.root → IsTextShaped p
body_text p two few h =
    let count : length h.old.roles ≡ p.roles = h.roles_are in
    let o = opening_there Talks h.old p.roles (subst (λ (z : ℕ). 2 ≤ z) (sym count) two) in
    spelt_shaped _ 0 _ p _ (body_spells protocols is_kind p.roles 0 p h no_names o.0 (no_labels h.old.labels h.labels_are) (count, subst (λ (z : ℕ). z ≤ MOST_ROLES) (sym count) few) o.1)

-- where so many roles fit a line, the protocol is text-shaped exactly where a body spells its nodes
fit_roles : (p : Protocol_data) → fit_line p.roles ≡ true → HasBody Talks p.roles 0 (places_of_protocol p) p.root ↔ IsTextShaped p
fit_roles p h =
    let r = both (nat_le 2 p.roles) (nat_le p.roles MOST_ROLES) h in
    let few : p.roles ≤ MOST_ROLES = leb-true p.roles MOST_ROLES r.1 in (
      body_text p (leb-true 2 p.roles r.0) few,
      (λ s. walked_has_body Talks p.roles p.root 0 (places_of_protocol p) few (omega arith) (both (fit_line p.roles) (walked p) (shaped_is_walked p s)).1),
    )

pub walked_is_shaped : (p : Protocol_data) → is_shaped p ≡ true → IsTextShaped p
walked_is_shaped p h =
    let q = both (fit_line p.roles) (walked p) h in
    let few : p.roles ≤ MOST_ROLES = leb-true p.roles MOST_ROLES (both (nat_le 2 p.roles) (nat_le p.roles MOST_ROLES) q.0).1 in
    (fit_roles p q.0).0 (walked_has_body Talks p.roles p.root 0 (places_of_protocol p) few (omega arith) q.1)

-- ---- the test of the roles, and of the body

pub shaped_exactly : (p : Protocol_data) (roles many : ℕ) (fit b : Bool) → roles ≡ p.roles → many ≡ roles → fit ≡ fit_line roles → fit ≡ true
    → IsTrue b ↔ HasBody Talks many 0 (places_of_protocol p) p.root → IsTrue b ↔ IsTextShaped p
shaped_exactly p roles many fit b same as_many e h k =
    let x : HasBody Talks p.roles 0 (places_of_protocol p) p.root ↔ IsTextShaped p = fit_roles p (subst (λ (z : ℕ). fit_line z ≡ true) same (sym e ∙ h)) in (
      (λ t. x.0 (subst (λ (z : ℕ). HasBody Talks z 0 (places_of_protocol p) p.root) (as_many ∙ same) (k.0 t))),
      (λ t. k.1 (subst (λ (z : ℕ). HasBody Talks z 0 (places_of_protocol p) p.root) (sym (as_many ∙ same)) (x.1 t))),
    )

pub not_shaped : (p : Protocol_data) (roles : ℕ) (fit : Bool) → roles ≡ p.roles → fit ≡ fit_line roles → fit ≡ false → IsTextShaped p → ⊥
not_shaped p roles fit same e h s =
    let q : fit_line roles ≡ true = subst (λ (z : ℕ). fit_line z ≡ true) (sym same) (both (fit_line p.roles) (walked p) (shaped_is_walked p s)).0 in
    cc (h, e, q)
