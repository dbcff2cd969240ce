-- Headline: the talks of a protocol.
use Rattle.std.specs.Prelude.{◌≡◌, ℕ, List, Some, slice_get}
use Rattle.rs_model.specs.Data.{Protocol_data}
use Rattle.rs_model.specs.declared.graph.Arm.{Arm}
use Rattle.rs_model.specs.declared.graph.Node.TheVariants.{Talk}
use Rattle.rs_model.specs.declared.graph.Role.{Role}

-- node n is a talk from the sender to the receiver with these arms
abbrev pub Talks : Protocol_data → ℕ → Role → Role → List Arm → Type 0
Talks protocol n sender receiver arms = slice_get protocol.nodes n ≡ Some (Talk sender receiver arms)
