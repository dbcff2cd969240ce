-- Public: what the reader of derivations gives.
use Rattle.std.specs.Prelude.{ℕ, ◌≤◌, List, length}
use Rattle.rs_model.specs.Data.{Names_data}
use Rattle.rs_derive.specs.Data.{Derivation_data}
use Rattle.rs_derivations.specs.Printable.{IsPrintable}
use Rattle.rs_derivations.specs.Spells.{SpellsDerivation}

-- the bytes spell it, it has a text, and it ends at an offset within the bytes
pub record IsDerivationRead (bytes : List ℕ) (at : ℕ) (old new : Names_data) (derivation : Derivation_data) (until : ℕ) : Type 0 where
  pub spells : SpellsDerivation bytes at old new derivation until
  pub printable : IsPrintable new derivation
  pub within : until ≤ length bytes
