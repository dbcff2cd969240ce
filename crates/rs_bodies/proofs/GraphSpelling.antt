-- That bytes spell a graph of a kind.
use Rattle.std.specs.Prelude.{ℕ, List}
use Rattle.rs_model.specs.Data.{Names_data}
use Rattle.rs_bodies.specs.declared.dialects.Dialect.{Dialect}
use Rattle.rs_bodies.specs.Spells.{SpellsBy}
use Rattle.rs_bodies.specs.GraphKinds.{GraphKind}

-- the bytes from `at` on spell this graph of the kind
abbrev pub SpellsOf : {d : Dialect} {G : Type 0} → GraphKind d G → (bytes : List ℕ) → (at : ℕ) → (old new : Names_data) → (graph : G) → (until : ℕ) → Type 0
SpellsOf {d} kind bytes at old new graph until = SpellsBy d kind.graph_of bytes at old new graph until
