-- Public: round which talks a session can go for ever while a role is left waiting.
use Rattle.std.specs.Prelude.{◌≢◌, ◌↔◌, ℕ, ◌<◌, List, []}
use Rattle.std.specs.List.{AllPairs, Contains}
use Rattle.rs_model.specs.Data.{Protocol_data}
use Rattle.rs_model.specs.declared.graph.Role.{Role}
use Rattle.rs_project.specs.Graph.{PathStep, IsPath, AllPassBy}

-- the talk lies on a cycle through node n whose nodes all pass by the role: one path leads from n to the talk, and another
-- one, which makes a step, from the talk back to n
pub record WaitsRound (protocol : Protocol_data) (role : Role) (n talk : ℕ) : Type 0 where
  pub there : List PathStep
  pub back : List PathStep
  pub leads : IsPath protocol n there talk
  pub returns : IsPath protocol talk back n
  pub some : back ≢ []
  pub passes_there : AllPassBy protocol role there
  pub passes_back : AllPassBy protocol role back

-- these are all such talks, rising and each once
pub record AreWaitingRound (protocol : Protocol_data) (role : Role) (n : ℕ) (those : List ℕ) : Type 0 where
  pub rising : AllPairs (λ (m k : ℕ). m < k) those
  pub talks : (talk : ℕ) → Contains those talk ↔ WaitsRound protocol role n talk
