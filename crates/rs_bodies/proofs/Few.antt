-- A graph that a part spells has few places.
use Rattle.std.proofs.Common.{◌≡◌, ℕ, ◌+◌, ◌≤◌, List, [], ◌++◌, length, map, Bool, true, false, ap, ◌∙◌, arith, length-append}
use Rattle.rs_model.specs.declared.limits.TheConstants.{MOST_TALKS}
use Rattle.rs_bodies.specs.declared.dialects.Dialect.{Dialect}
use Rattle.rs_bodies.specs.declared.dialects.Dialect.TheVariants.{Talks, Acts}
use Rattle.rs_bodies.specs.declared.places.Place.{Place}
use Rattle.rs_bodies.specs.declared.places.Place.TheVariants as place
use Rattle.rs_bodies.specs.Canonical.{IsSpelt}
use Rattle.rs_bodies.specs.Dialects.{most}
use Rattle.rs_bodies.specs.Graph.{acts_in, has_end}
use Rattle.rs_bodies.specs.Openings.{roles_in}
use Rattle.rs_bodies.specs.Places.{end_of, places_spelt}
use Rattle.rs_bodies.specs.Points.{points_of}
use Rattle.rs_bodies.specs.Scenes.{first_scene}
use Rattle.rs_bodies.specs.Spells.{numbering}
use Rattle.rs_bodies.proofs.Fitting.{fits_heads}
use Rattle.rs_bodies.proofs.PlacesIn.{places_are, places_length}

end_small : (end : Bool) → length (end_of end) ≤ 1
end_small true = omega arith
end_small false = omega arith

pub most_small : (dia : Dialect) → most dia ≤ MOST_TALKS
most_small Talks = omega arith
most_small Acts = omega arith

pub spelt_few : (dia : Dialect) (p : List Place) (root : ℕ) → IsSpelt dia p root → length p ≤ MOST_TALKS + 1
spelt_few dia p root s =
    let t = s.spells.tree in
    let m = numbering dia s.old t in
    let points = points_of dia m t.body [] 0 in
    let is : p ≡ map place.Point points ++ end_of (has_end dia t.body) = s.places_are ∙ ap places_spelt s.spells.meaning_is in
    let heads : length (map place.Point points) ≡ acts_in dia t.body = ap length (places_are m t.body [] 0) ∙ places_length m t.body [] 0 in
    let few : 0 + acts_in dia t.body ≤ most dia = fits_heads dia t.body (first_scene (roles_in dia s.old t.opening) s.old.labels) s.spells.fits.body (omega arith) in
    let all : length p ≡ length (map place.Point points) + length (end_of (has_end dia t.body)) = ap length is ∙ length-append (map place.Point points) (end_of (has_end dia t.body)) in
    let end = end_small (has_end dia t.body) in
    let limit = most_small dia in
    omega arith
