-- Steps: the test of the text shape, by the walk over the places.
use Rattle.std.specs.Prelude.{Bool, ◌&&◌, nat_le}
use Rattle.rs_model.specs.Data.{Protocol_data}
use Rattle.rs_model.specs.declared.limits.TheConstants.{MOST_ROLES}
use Rattle.rs_bodies.specs.declared.dialects.Dialect.TheVariants.{Talks}
use Rattle.rs_bodies.specs.Places.{places_of_protocol}
use Rattle.rs_bodies.specs.Shapes.{is_walked}

-- two roles or more, and a body that begins with no labels
abbrev pub is_shaped : Protocol_data → Bool
is_shaped p = nat_le 2 p.roles && nat_le p.roles MOST_ROLES && is_walked Talks (record { roles = p.roles; places = places_of_protocol p }) p.root 0
