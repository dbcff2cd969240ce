-- Public: what the reader of protocols gives.
use Rattle.std.specs.Prelude.{ℕ, ◌+◌, ◌≤◌, List, length}
use Rattle.rs_model.specs.Data.{Protocol_data, Names_data}
use Rattle.rs_model.specs.declared.limits.TheConstants.{MOST_TALKS}
use Rattle.rs_global.specs.Spells.{SpellsProtocol}

-- the bytes spell it, with no more talks than there may be, up to an offset within them
pub record IsProtocolRead (bytes : List ℕ) (at : ℕ) (names : Names_data) (protocol : Protocol_data) (until : ℕ) : Type 0 where
  pub spells : SpellsProtocol bytes at names protocol until
  pub bounded : length protocol.nodes ≤ MOST_TALKS + 1
  pub within : until ≤ length bytes
