-- Public: what each role does in a session: histories, transcripts, and which histories the machines can come to.
use Rattle.std.specs.Prelude.{◌≡◌, ℕ, List, [], ◌∷◌, map, ◌==◌, if◌then◌else◌}
use Rattle.rs_model.specs.Data.{Machine_data}
use Rattle.rs_model.specs.declared.graph.Label.{Label}
use Rattle.rs_model.specs.declared.graph.Role.{Role}
use Rattle.rs_model.specs.declared.values.Value.{Value}
use Rattle.rs_core.specs.Configurations.{Configuration, Event, Send, Receive, role_of, Step, Steps, StartsAt}
use Rattle.rs_core.specs.declared.transcripts.Entry.{Entry}
use Rattle.rs_core.specs.declared.transcripts.Entry.TheVariants as entry

-- what a role did: it sent the label and the value to the peer, or it got them from the peer
pub data Action : Type 0 where
  Sent : (peer : Role) (label : Label) (value : Value) → Action
  Got : (peer : Role) (label : Label) (value : Value) → Action

-- a role's history: what it did, in its own order
abbrev pub History : Type 0
History = List Action

-- what that role did by the step
abbrev pub action_of : (machines : List Machine_data) (c : Configuration) (e : Event) (d : Configuration) → Step machines c e d → Action
action_of machines c (Send role arm value) d step = Sent step.peer step.arm.label value
action_of machines c (Receive role) d step = Got step.peer step.message.label step.message.value

-- the history of role p over these steps
abbrev pub history_of : (p : ℕ) (machines : List Machine_data) (c : Configuration) (events : List Event) (d : Configuration) → Steps machines c events d → History
history_of p machines c [] d steps = []
history_of p machines c (e ∷ es) d steps =
    if role_of e == p then action_of machines c e steps.0 steps.1 ∷ history_of p machines steps.0 es d steps.2
    else history_of p machines steps.0 es d steps.2

-- the histories are legal: some events lead from the start to c and give each role its history
pub record IsLegal (machines : List Machine_data) (history : ℕ → History) (c : Configuration) : Type 0 where
  pub first : Configuration
  pub events : List Event
  pub starts : StartsAt machines first
  pub steps : Steps machines first events c
  pub gives : (p : ℕ) → history p ≡ history_of p machines first events c steps

-- an action without the value that was sent
abbrev pub entry_of : Action → Entry
entry_of (Sent peer label value) = entry.Sent peer label
entry_of (Got peer label value) = entry.Got peer label value

-- a history without the values that were sent
abbrev pub transcript_of : History → List Entry
transcript_of h = map entry_of h
