-- Public: the canonical text of a protocol, and which protocols have one.
use Rattle.std.specs.Prelude.{ℕ, List, take}
use Rattle.rs_model.specs.Data.{Protocol_data, Names_data}
use Rattle.rs_bodies.specs.CanonicalGraphs.{IsCanonicalTree, IsCanonicalGraphText}
use Rattle.rs_global.specs.Kinds.{protocols}
use Rattle.rs_global.specs.Spells.{SpellsProtocol}
use Rattle.rs_global.specs.Trees.{ProtocolTree}

-- some text reads to the protocol
pub record IsTextShaped (protocol : Protocol_data) : Type 0 where
  pub bytes : List ℕ
  pub at : ℕ
  pub names : Names_data
  pub until : ℕ
  pub spells : SpellsProtocol bytes at names protocol until

-- the tree that the canonical text has: all roles, and the body that is written for the places of the protocol
abbrev pub IsCanonicalProtocolTree : Names_data → Protocol_data → ProtocolTree → Type 0
IsCanonicalProtocolTree names protocol tree = IsCanonicalTree protocols names protocol tree

-- the canonical text
abbrev pub IsCanonicalProtocolText : Names_data → Protocol_data → (text : List ℕ) → Type 0
IsCanonicalProtocolText names protocol text = IsCanonicalGraphText protocols names protocol text

-- the names without the labels that the protocol doesn't use: the first n
abbrev pub with_first_labels : ℕ → Names_data → Names_data
with_first_labels n names = record { roles = names.roles; labels = take n names.labels }
