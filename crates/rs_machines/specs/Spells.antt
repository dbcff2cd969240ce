-- Headline: what a text spells.
use Rattle.std.specs.Prelude.{ℕ, List}
use Rattle.rs_model.specs.Data.{Machine_data, Names_data}
use Rattle.rs_bodies.specs.declared.dialects.Dialect.TheVariants.{Acts}
use Rattle.rs_bodies.specs.Spells.{SpellsBy}
use Rattle.rs_machines.specs.Machines.{machine_of_tree}

-- the bytes from `at` on, read with the old names, spell this machine with the new ones, and go on at `until`
abbrev pub SpellsMachine : (bytes : List ℕ) → (at : ℕ) → (old new : Names_data) → Machine_data → (until : ℕ) → Type 0
SpellsMachine bytes at old new machine until = SpellsBy Acts machine_of_tree bytes at old new machine until
