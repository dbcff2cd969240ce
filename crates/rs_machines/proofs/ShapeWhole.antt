-- A machine is text-shaped exactly where a body spells its states.
use Rattle.std.proofs.Common.{◌≡◌, ℕ, ◌<◌, ◌≤◌, ◌↔◌, List, length, Bool, true, false, nat_lt, refl, sym, ◌∙◌, subst, arith}
use Rattle.std.proofs.lemmas.Bool.{lt-ltb, ltb-true}
use Rattle.std.specs.Bool.{IsTrue}
use Rattle.rs_model.specs.Data.{Machine_data, Names_data}
use Rattle.rs_model.specs.declared.graph.Role.{Role}
use Rattle.rs_model.specs.declared.limits.TheConstants.{MOST_LABELS, MOST_ROLES}
use Rattle.rs_text.proofs.Basics.{both, two_true}
use Rattle.rs_bodies.specs.declared.dialects.Dialect.TheVariants.{Acts}
use Rattle.rs_bodies.specs.Bodied.{SpellsPlaces, HasBody}
use Rattle.rs_bodies.specs.Places.{places_of_machine}
use Rattle.rs_bodies.specs.Shapes.{is_walked}
use Rattle.rs_bodies.proofs.GraphsAgain.{opening_there, body_spells, tree_places}
use Rattle.rs_bodies.proofs.ShapeWhole.{spelt_is_walked, walked_has_body}
use Rattle.rs_machines.specs.Canonical.{IsMachineTextShaped}
use Rattle.rs_machines.specs.Kinds.{machines}
use Rattle.rs_machines.specs.Machines.{machine_of_tree}
use Rattle.rs_machines.specs.Shapes.{is_shaped}
use Rattle.rs_machines.specs.Spells.{SpellsMachine}
use Rattle.rs_machines.proofs.Canonical.{spelt_role}
use Rattle.rs_machines.proofs.Places.{is_kind}

-- whether the walk over the places meets them all
abbrev walked : Machine_data → Bool
walked p = is_walked Acts (record { roles = MOST_ROLES; places = places_of_machine p }) p.start MOST_LABELS

spelt_is_shaped : (bytes : List ℕ) (at : ℕ) (old new : Names_data) (p : Machine_data) (until : ℕ) → length old.roles ≤ MOST_ROLES → length old.labels ≤ MOST_LABELS
    → SpellsMachine bytes at old new p until → is_shaped p ≡ true
spelt_is_shaped bytes at old new p until roles labels s =
    let t = s.tree in
    let is : p ≡ machine_of_tree old t = s.meaning_is in
    let known : p.role.0 < length old.roles = spelt_role bytes at old new p until s in
    let body : SpellsPlaces Acts old t.body (places_of_machine p) p.start
    = subst (λ (z : Machine_data). SpellsPlaces Acts old t.body (places_of_machine z) z.start) (sym is) (tree_places machines is_kind old t s.fits) in
    two_true (nat_lt p.role.0 MOST_ROLES) (walked p) (lt-ltb p.role.0 MOST_ROLES (omega arith))
    (spelt_is_walked Acts old t.body MOST_ROLES p.start MOST_LABELS (places_of_machine p) roles labels (omega arith) body)

pub shaped_is_walked : (p : Machine_data) → IsMachineTextShaped p → is_shaped p ≡ true
shaped_is_walked p s = spelt_is_shaped s.bytes s.at s.old s.new p s.until s.few_roles s.few_labels s.spells

body_text : (p : Machine_data) → p.role.0 < MOST_ROLES → HasBody Acts MOST_ROLES MOST_LABELS (places_of_machine p) p.start → IsMachineTextShaped p
body_text p few h =
    let old : Names_data = h.old in
    let roles : length old.roles ≡ MOST_ROLES = h.roles_are in
    let labels : length old.labels ≡ MOST_LABELS = h.labels_are in
    let o = opening_there Acts old p.role.0 (omega arith) in
    record {
      bytes = _;
      at = 0;
      old = old;
      sound = h.sound;
      few_roles = omega arith;
      few_labels = omega arith;
      new = _;
      until = _;
      spells = body_spells machines is_kind MOST_ROLES MOST_LABELS p h old o.0 refl refl o.1;
    }

-- where the role can have a name, the machine is text-shaped exactly where a body spells its states
fit_role : (p : Machine_data) → nat_lt p.role.0 MOST_ROLES ≡ true → HasBody Acts MOST_ROLES MOST_LABELS (places_of_machine p) p.start ↔ IsMachineTextShaped p
fit_role p h = (
  body_text p (ltb-true p.role.0 MOST_ROLES h),
  (λ s. walked_has_body Acts MOST_ROLES p.start MOST_LABELS (places_of_machine p) (omega arith) (omega arith) (both (nat_lt p.role.0 MOST_ROLES) (walked p) (shaped_is_walked p s)).1),
)

pub walked_is_shaped : (p : Machine_data) → is_shaped p ≡ true → IsMachineTextShaped p
walked_is_shaped p h =
    let q = both (nat_lt p.role.0 MOST_ROLES) (walked p) h in
    (fit_role p q.0).0 (walked_has_body Acts MOST_ROLES p.start MOST_LABELS (places_of_machine p) (omega arith) (omega arith) q.1)

-- what a text spells with so few names is text-shaped, since a text spells it with sound ones too
pub spelt_shaped : (bytes : List ℕ) (at : ℕ) (old new : Names_data) (machine : Machine_data) (until : ℕ) → length old.roles ≤ MOST_ROLES → length old.labels ≤ MOST_LABELS
    → SpellsMachine bytes at old new machine until → IsMachineTextShaped machine
spelt_shaped bytes at old new machine until roles labels s = walked_is_shaped machine (spelt_is_shaped bytes at old new machine until roles labels s)

-- ---- the test of the role, and of the body

pub shaped_exactly : (p : Machine_data) (role : Role) (fit b : Bool) → role ≡ p.role → fit ≡ nat_lt role.0 MOST_ROLES → fit ≡ true
    → IsTrue b ↔ HasBody Acts MOST_ROLES MOST_LABELS (places_of_machine p) p.start → IsTrue b ↔ IsMachineTextShaped p
shaped_exactly p role fit b same e h k =
    let x = fit_role p (subst (λ (z : Role). nat_lt z.0 MOST_ROLES ≡ true) same (sym e ∙ h)) in
    ((λ t. x.0 (k.0 t)), (λ t. k.1 (x.1 t)))

pub not_shaped : (p : Machine_data) (role : Role) (fit : Bool) → role ≡ p.role → fit ≡ nat_lt role.0 MOST_ROLES → fit ≡ false → IsMachineTextShaped p → ⊥
not_shaped p role fit same e h s =
    let q : nat_lt role.0 MOST_ROLES ≡ true = subst (λ (z : Role). nat_lt z.0 MOST_ROLES ≡ true) (sym same) (both (nat_lt p.role.0 MOST_ROLES) (walked p) (shaped_is_walked p s)).0 in
    cc (h, e, q)
