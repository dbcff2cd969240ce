-- Public: what contracts see of documents.
use Rattle.std.specs.Prelude.{List, Option}
use Rattle.rs_derive.specs.Data.{Derivation_data}
use Rattle.rs_model.specs.Data.{Names_data, Protocol_data, Machine_data}

-- the names, the protocol, and for each role in order the machine and the derivation that the document has for it
pub record Document_data : Type 0 where
  pub names : Names_data
  pub protocol : Protocol_data
  pub machines : List (Option Machine_data)
  pub derivations : List (Option Derivation_data)
