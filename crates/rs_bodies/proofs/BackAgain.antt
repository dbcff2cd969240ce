-- Flags of the places that are gone back to.
use Rattle.std.specs.Prelude.{◌≡◌, ℕ, List, Bool, true, false, get_or}
use Rattle.std.specs.Prelude.{◌↔◌}
use Rattle.rs_bodies.specs.declared.places.Place.{Place}
use Rattle.rs_bodies.specs.Places.{IsGoneBackTo}

-- the flags tell which places are gone back to
abbrev pub AreBack : List Place → List Bool → Type 0
AreBack places flags = (n : ℕ) → (get_or flags n false ≡ true) ↔ IsGoneBackTo places n
