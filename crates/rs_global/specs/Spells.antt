-- Headline: what a text spells.
use Rattle.std.specs.Prelude.{ℕ, List}
use Rattle.rs_model.specs.Data.{Protocol_data, Names_data}
use Rattle.rs_bodies.specs.declared.dialects.Dialect.TheVariants.{Talks}
use Rattle.rs_bodies.specs.Spells.{SpellsBy}
use Rattle.rs_global.specs.Graph.{no_names, protocol_of_tree}

-- the bytes from `at` on spell these names and this protocol, and go on at `until`
abbrev pub SpellsProtocol : (bytes : List ℕ) → (at : ℕ) → Names_data → Protocol_data → (until : ℕ) → Type 0
SpellsProtocol bytes at names protocol until = SpellsBy Talks protocol_of_tree bytes at no_names names protocol until
