-- Public: what it means that nothing brings a role a message at a state of its machine.
use Rattle.std.specs.Prelude.{◌≡◌, ◌≢◌, ℕ, List, ◌∷◌}
use Rattle.rs_core.specs.Configurations.{Configuration, IsReachable}
use Rattle.rs_core.specs.declared.messages.Message.{Message}
use Rattle.rs_model.specs.Data.{Machine_data}
use Rattle.rs_model.specs.declared.graph.Label.{Label}
use Rattle.rs_model.specs.declared.graph.Role.{Role}

-- in each configuration that the machines can reach, over unbounded queues: where role p is in that state, the oldest message
-- from the peer, if there is one, has another label
abbrev pub NothingBrings : List Machine_data → ℕ → ℕ → Role → Label → Type 0
NothingBrings machines p state peer label = (c : Configuration) (message : Message) (later : List Message) → IsReachable machines c → c.at p ≡ state
    → c.queue peer.0 p ≡ message ∷ later → message.label ≢ label
