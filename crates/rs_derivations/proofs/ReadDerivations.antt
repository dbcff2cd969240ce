-- The derivation that a reader has read.
use Rattle.rs_derive.specs.Data.{Derivation_data}
use Rattle.rs_derivations.specs.Data.{Reader_data}

-- what was read, as a derivation
abbrev pub derivation_read : Reader_data → Derivation_data
derivation_read r = record { role = r.role; bound = r.bound; nodes = r.nodes }
