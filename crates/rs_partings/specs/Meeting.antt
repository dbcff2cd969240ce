-- Public: from which nodes a role may meet a member of a front first, as flags of the nodes.
use Rattle.std.specs.Prelude.{◌≡◌, ◌↔◌, ℕ, ◌<◌, Bool, true, false, List, length, slice_index_or, Option}
use Rattle.rs_model.specs.Data.{Protocol_data}
use Rattle.rs_model.specs.declared.graph.Role.{Role}
use Rattle.rs_partings.specs.Partings.{MeetsMember}

-- of each node a flag, which stands where the role may meet the member first from there
pub record AreMeeting (protocol : Protocol_data) (role : Role) (member : Option ℕ) (flags : List Bool) : Type 0 where
  pub size : length flags ≡ length protocol.nodes
  pub each : (n : ℕ) → n < length protocol.nodes → (slice_index_or flags n false ≡ true) ↔ MeetsMember protocol role n member
