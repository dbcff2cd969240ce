-- Public: the graphs that bodies spell.
use Rattle.std.specs.Prelude.{◌≡◌, ℕ, List, [], ◌++◌, length, map, true}
use Rattle.rs_model.specs.Data.{Names_data}
use Rattle.rs_text.specs.Names.{names_with}
use Rattle.rs_text.specs.Sound.{IsSound}
use Rattle.rs_bodies.specs.declared.dialects.Dialect.{Dialect}
use Rattle.rs_bodies.specs.declared.places.Place.{Place}
use Rattle.rs_bodies.specs.declared.places.Place.TheVariants as place
use Rattle.rs_bodies.specs.Fits.{body_fits}
use Rattle.rs_bodies.specs.Graph.{labels_of, acts_in, has_end, first_of, Numbering}
use Rattle.rs_bodies.specs.Places.{end_of}
use Rattle.rs_bodies.specs.Points.{points_of}
use Rattle.rs_bodies.specs.Scenes.{first_scene}
use Rattle.rs_bodies.specs.Trees.{Body}
use Rattle.rs_bodies.specs.Writable.{AreWordsIn}

-- the names that are there behind a body, and the number of its end
abbrev pub numbering_behind : (d : Dialect) → Names_data → Body d → Numbering
numbering_behind d old b = record { names = record { roles = old.roles; labels = names_with old.labels (labels_of d b) }; last = acts_in d b }

-- with these names before it, the body fits, its places are these, and it begins at that number
pub record SpellsPlaces (d : Dialect) (old : Names_data) (b : Body d) (places : List Place) (start : ℕ) : Type 0 where
  pub fits : body_fits d b (first_scene old.roles old.labels) ≡ true
  pub places_are : places ≡ map place.Point (points_of d (numbering_behind d old b) b [] 0) ++ end_of (has_end d b)
  pub start_is : start ≡ first_of d b [] 0 (acts_in d b)

-- a body of words spells the places, with so many roles and so many labels before it
pub record HasBody (d : Dialect) (roles labels : ℕ) (places : List Place) (start : ℕ) : Type 0 where
  pub old : Names_data
  pub sound : IsSound old
  pub roles_are : length old.roles ≡ roles
  pub labels_are : length old.labels ≡ labels
  pub body : Body d
  pub words : AreWordsIn d body
  pub spells : SpellsPlaces d old body places start
