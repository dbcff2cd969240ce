-- The canonical form of a body, and where names lead.
use Rattle.std.proofs.Common.{◌≡◌, ℕ, suc, ◌+◌, ◌<◌, List, [], ◌∷◌, length, Option, Some, slice_get, ap, sym, ◌∙◌}
use Rattle.std.proofs.lemmas.Option.{slice_get-get_or}
use Rattle.rs_model.specs.Data.{Names_data}
use Rattle.rs_model.specs.declared.values.Sort.{Sort}
use Rattle.rs_text.specs.Arms.{sort_or_unit}
use Rattle.rs_text.specs.Shown.{shown_sort}
use Rattle.rs_text.specs.NamePlaces.{text_or_none}
use Rattle.rs_text.specs.Names.{BoundNames, nearest_binding, number_or}
use Rattle.rs_bodies.specs.declared.dialects.Dialect.{Dialect}
use Rattle.rs_bodies.specs.declared.places.Place.{Place}
use Rattle.rs_bodies.specs.Dialects.{BehindRole, sends_to, with_mark}
use Rattle.rs_bodies.specs.Graph.{acts_in, Numbering, role_by_name, label_by_name}
use Rattle.rs_bodies.specs.Places.{name_of_place}
use Rattle.rs_bodies.specs.Trees.{Body, ends, again, binds, acts, offers, Branches, one, more}
use Rattle.rs_bodies.proofs.BackFlags.{goes_back}
use Rattle.rs_bodies.proofs.Wrapped.{wrapped, offered}

-- ---- the canonical form

-- how a text's names are numbered, the names that are written instead, and the places of its graph
pub record Writing : Type 0 where
  pub numbers : Numbering
  pub names : Names_data
  pub places : List Place

abbrev pub role_as : Writing → List ℕ → List ℕ
role_as w name = text_or_none (slice_get w.names.roles (role_by_name w.numbers name).0)

abbrev pub label_as : Writing → List ℕ → List ℕ
label_as w name = text_or_none (slice_get w.names.labels (label_by_name w.numbers name).0)

abbrev pub turn_as : {dia : Dialect} → Writing → BehindRole dia → BehindRole dia
turn_as w (sends_to r) = sends_to (role_as w r)
turn_as w (with_mark m) = with_mark m

abbrev pub sort_as : Option Sort → Option Sort
sort_as sort = shown_sort (sort_or_unit sort)

-- the canonical form of a body
abbrev mutual
  pub canon : {dia : Dialect} → Writing → Body dia → BoundNames → ℕ → Body dia
  canon w ends bound count = ends
  canon w (again x) bound count = again (name_of_place (number_or (nearest_binding x bound)))
  canon w (binds x b) bound count = canon w b ((x, count) ∷ bound) count
  canon w (acts s r l sort b) bound count = wrapped (goes_back w.places count) count (acts (role_as w s) (turn_as w r) (label_as w l) (sort_as sort) (canon w b bound (suc count)))
  canon w (offers s r arms) bound count = wrapped (goes_back w.places count) count (offered (role_as w s) (turn_as w r) (canon_arms w arms bound (suc count)))

  pub canon_arms : {dia : Dialect} → Writing → Branches dia → BoundNames → ℕ → Branches dia
  canon_arms w (one l sort b) bound count = one (label_as w l) (sort_as sort) (canon w b bound count)
  canon_arms {dia} w (more l sort b arms) bound count = more (label_as w l) (sort_as sort) (canon w b bound count) (canon_arms w arms bound (count + acts_in dia b))

-- ---- names that can be written

-- the number of a role, or of a label, has a name
abbrev pub HasRole : Writing → List ℕ → Type 0
HasRole w s = (role_by_name w.numbers s).0 < length w.names.roles

abbrev pub HasLabel : Writing → List ℕ → Type 0
HasLabel w l = (label_by_name w.numbers l).0 < length w.names.labels

abbrev pub HasTurn : {dia : Dialect} → Writing → BehindRole dia → Type 0
HasTurn w (sends_to r) = HasRole w r
HasTurn w (with_mark m) = Unit {0}

-- and so for all heads of a body, and of its labels that are such
abbrev mutual
  pub HasNames : {dia : Dialect} → Writing → (List ℕ → Type 0) → Body dia → Type 0
  HasNames w P ends = Unit {0}
  HasNames w P (again x) = Unit {0}
  HasNames w P (binds x b) = HasNames w P b
  HasNames w P (acts s r l sort b) = (HasRole w s × HasTurn w r) × P l × HasNames w P b
  HasNames w P (offers s r arms) = (HasRole w s × HasTurn w r) × HasNamesArms w P arms

  pub HasNamesArms : {dia : Dialect} → Writing → (List ℕ → Type 0) → Branches dia → Type 0
  HasNamesArms w P (one l sort b) = P l × HasNames w P b
  HasNamesArms w P (more l sort b arms) = P l × HasNames w P b × HasNamesArms w P arms

pub role_stands : (w : Writing) (s : List ℕ) → HasRole w s → slice_get w.names.roles (role_by_name w.numbers s).0 ≡ Some (role_as w s)
role_stands w s lt =
    let e = slice_get-get_or w.names.roles (role_by_name w.numbers s).0 [] lt in
    e ∙ ap Some (sym (ap text_or_none e))

pub label_stands : (w : Writing) (l : List ℕ) → HasLabel w l → slice_get w.names.labels (label_by_name w.numbers l).0 ≡ Some (label_as w l)
label_stands w l lt =
    let e = slice_get-get_or w.names.labels (label_by_name w.numbers l).0 [] lt in
    e ∙ ap Some (sym (ap text_or_none e))
