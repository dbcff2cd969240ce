-- A text has at most 256 labels, as far as a protocol, a machine or a table goes.
use Rattle.std.proofs.Common.{ℕ, inl, inr, ◌≤◌, List, [], ◌∷◌, ◌++◌, length, Bool, true, false, if◌then◌else◌, sym, subst, arith, length-append}
use Rattle.rs_bodies.proofs.Fitting.{fits_labels}
use Rattle.rs_global.specs.Spells.{SpellsProtocol}
use Rattle.rs_global.specs.Graph.{no_names}
use Rattle.rs_machines.specs.Spells.{SpellsMachine}
use Rattle.rs_documents.specs.Spells.{SpellsOwn}
use Rattle.rs_model.specs.Data.{Names_data, Protocol_data, Machine_data}
use Rattle.rs_model.specs.declared.limits.TheConstants.{MOST_LABELS}
use Rattle.rs_text.specs.Names.{names_with, is_among}
use Rattle.rs_bodies.specs.declared.dialects.Dialect.TheVariants.{Talks, Acts}
use Rattle.rs_bodies.specs.Openings.{roles_in}
use Rattle.rs_bodies.specs.Scenes.{first_scene}

longer_if : (b : Bool) (names : List (List ℕ)) (x : List ℕ) → length names ≤ length (if b then names else names ++ x ∷ [])
longer_if true names x = omega arith
longer_if false names x = let e = length-append names (x ∷ []) in omega (arith, e)

pub longer : (ls names : List (List ℕ)) → length names ≤ length (names_with names ls)
longer [] names = omega arith
longer (x ∷ ls) names =
    let a = longer_if (is_among x names) names x in
    let b = longer ls (if is_among x names then names else names ++ x ∷ []) in
    omega (arith, a, b)

-- a protocol's labels
pub protocol_few : (bytes : List ℕ) (at : ℕ) (names : Names_data) (protocol : Protocol_data) (until : ℕ) → SpellsProtocol bytes at names protocol until → length names.labels ≤ MOST_LABELS
protocol_few bytes at names protocol until s =
    subst (λ (z : Names_data). length z.labels ≤ MOST_LABELS) (sym s.names_are) (fits_labels Talks s.tree.body (first_scene (roles_in Talks no_names s.tree.opening) []) s.fits.body (omega arith))

body_few : (bytes : List ℕ) (at : ℕ) (old new : Names_data) (machine : Machine_data) (until : ℕ) → length old.labels ≤ MOST_LABELS → SpellsMachine bytes at old new machine until
    → length new.labels ≤ MOST_LABELS
body_few bytes at old new machine until few s =
    subst (λ (z : Names_data). length z.labels ≤ MOST_LABELS) (sym s.names_are) (fits_labels Acts s.tree.body (first_scene old.roles old.labels) s.fits.body few)

-- the labels behind a machine, in either form
pub machine_few : (bytes : List ℕ) (at : ℕ) (old new : Names_data) (machine : Machine_data) (until : ℕ) → length old.labels ≤ MOST_LABELS → SpellsOwn bytes at old new machine until
    → length new.labels ≤ MOST_LABELS
machine_few bytes at old new machine until few (inl s) = body_few bytes at old new machine until few s
machine_few bytes at old new machine until few (inr s) = subst (λ (z : Names_data). length z.labels ≤ MOST_LABELS) (sym s.names_are) s.fits.labels
