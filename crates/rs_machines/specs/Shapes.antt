-- Steps: the test of the text shape, by the walk over the places.
use Rattle.std.specs.Prelude.{Bool, ◌&&◌, nat_lt}
use Rattle.rs_model.specs.Data.{Machine_data}
use Rattle.rs_model.specs.declared.limits.TheConstants.{MOST_LABELS, MOST_ROLES}
use Rattle.rs_bodies.specs.declared.dialects.Dialect.TheVariants.{Acts}
use Rattle.rs_bodies.specs.Places.{places_of_machine}
use Rattle.rs_bodies.specs.Shapes.{is_walked}

-- a role that can have a name, and a body that begins with as many labels as there can be
abbrev pub is_shaped : Machine_data → Bool
is_shaped m = nat_lt m.role.0 MOST_ROLES && is_walked Acts (record { roles = MOST_ROLES; places = places_of_machine m }) m.start MOST_LABELS
