-- Public: what a part spells, as its reader gives it.
use Rattle.std.specs.Prelude.{ℕ, List, []}
use Rattle.rs_model.specs.Data.{Names_data}
use Rattle.rs_model.specs.declared.graph.Role.{Role}
use Rattle.rs_bodies.specs.declared.dialects.Dialect.{Dialect}
use Rattle.rs_bodies.specs.declared.dialects.Dialect.TheVariants.{Talks, Acts}
use Rattle.rs_bodies.specs.Data.{Spelling_data}
use Rattle.rs_bodies.specs.Graph.{acts_in, has_end, first_of, Numbering, role_by_name}
use Rattle.rs_bodies.specs.Openings.{Opening, of_roles, of_role}
use Rattle.rs_bodies.specs.Points.{points_of}
use Rattle.rs_bodies.specs.Spells.{Tree, SpellsBy, numbering}

-- the role of a machine; a protocol has none of its own
abbrev pub own_role : (d : Dialect) → Numbering → Opening d → Role
own_role Talks n (of_roles f s xs) = record { 0 = 0 }
own_role Acts n (of_role r) = role_by_name n r

-- what the tree spells
abbrev pub spelling_of : (d : Dialect) → Names_data → Tree d → Spelling_data
spelling_of d old t =
    record { role = own_role d (numbering d old t) t.opening; points = points_of d (numbering d old t) t.body [] 0; ended = has_end d t.body; start = first_of d t.body [] 0 (acts_in d t.body) }

-- the bytes from `at` on, read with the old names, spell this with the new ones, and go on at `until`
abbrev pub Spells : (d : Dialect) → (bytes : List ℕ) → (at : ℕ) → (old new : Names_data) → Spelling_data → (until : ℕ) → Type 0
Spells d bytes at old new spelling until = SpellsBy d (spelling_of d) bytes at old new spelling until
