-- Headline: what is asked of a protocol.
use Rattle.std.specs.Prelude.{◌≡◌, ◌≢◌, ℕ, ◌<◌, ◌≤◌, List, [], length, slice_get, Some}
use Rattle.rs_model.specs.declared.limits.TheConstants.{MOST_ARMS}
use Rattle.rs_model.specs.Data.{Protocol_data}
use Rattle.rs_model.specs.declared.graph.Arm.{Arm}
use Rattle.rs_model.specs.declared.graph.Node.TheVariants.{Talk}
use Rattle.rs_model.specs.declared.graph.Role.{Role}

-- a talk from the sender to the receiver is right: these differ and are among the roles, it has 1 to 32 arms, no label stands at two arms, and each arm leads to a node
pub record TalkFits (protocol : Protocol_data) (sender receiver : Role) (arms : List Arm) : Type 0 where
  pub others : sender ≢ receiver
  pub puts : sender.0 < protocol.roles
  pub takes : receiver.0 < protocol.roles
  pub some : arms ≢ []
  pub bounded : length arms ≤ MOST_ARMS
  pub once : (i j : ℕ) (a b : Arm) → slice_get arms i ≡ Some a → slice_get arms j ≡ Some b → a.label ≡ b.label → i ≡ j
  pub nexts : (i : ℕ) (a : Arm) → slice_get arms i ≡ Some a → a.next < length protocol.nodes

-- the protocol begins at a node, and each of its talks is right
pub record IsWellFormed (protocol : Protocol_data) : Type 0 where
  pub root : protocol.root < length protocol.nodes
  pub talks : (n : ℕ) (sender receiver : Role) (arms : List Arm) → slice_get protocol.nodes n ≡ Some (Talk sender receiver arms) → TalkFits protocol sender receiver arms
