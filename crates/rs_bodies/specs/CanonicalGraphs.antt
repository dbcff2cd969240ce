-- Public: the canonical text of a graph.
use Rattle.std.specs.Prelude.{◌≡◌, ℕ, List, ◌∷◌, Some, slice_get}
use Rattle.rs_model.specs.Data.{Names_data}
use Rattle.rs_bodies.specs.declared.dialects.Dialect.{Dialect}
use Rattle.rs_bodies.specs.declared.dialects.Dialect.TheVariants.{Talks, Acts}
use Rattle.rs_bodies.specs.Canonical.{Draws}
use Rattle.rs_bodies.specs.Openings.{Opening, of_roles, of_role}
use Rattle.rs_bodies.specs.Spells.{Tree}
use Rattle.rs_bodies.specs.Texts.{part_text}
use Rattle.rs_bodies.specs.GraphKinds.{GraphKind}

-- the opening that is written: all roles, or the name of the graph's own role
abbrev pub IsOpeningOf : (d : Dialect) → (roles : List (List ℕ)) → (own : ℕ) → Opening d → Type 0
IsOpeningOf Talks roles own (of_roles f s xs) = f ∷ s ∷ xs ≡ roles
IsOpeningOf Acts roles own (of_role r) = slice_get roles own ≡ Some r

-- the tree that the canonical text has: this opening, and the body that is written for the places of the graph
pub record IsCanonicalTree {d : Dialect} {G : Type 0} (kind : GraphKind d G) (names : Names_data) (graph : G) (tree : Tree d) : Type 0 where
  pub opening : IsOpeningOf d names.roles (kind.own graph) tree.opening
  pub body : Draws d names (kind.places graph) 0 (kind.root graph) tree.body

-- the canonical text
pub record IsCanonicalGraphText {d : Dialect} {G : Type 0} (kind : GraphKind d G) (names : Names_data) (graph : G) (text : List ℕ) : Type 0 where
  pub tree : Tree d
  pub canonical : IsCanonicalTree kind names graph tree
  pub whole : text ≡ part_text d tree
