-- Public: what is due of the nexts of a spot, by the rule that applies.
use Rattle.std.specs.Prelude.{◌≡◌, ℕ, List, [], ◌∷◌, map, slice_get, Bool, Option, Some, None}
use Rattle.rs_model.specs.Data.{Machine_data}
use Rattle.rs_model.specs.declared.graph.Arm.{Arm}
use Rattle.rs_model.specs.declared.machines.Act.{Act}
use Rattle.rs_model.specs.declared.machines.State.{State}
use Rattle.rs_prefix.specs.Earliest.{without}
use Rattle.rs_derive.specs.Moves.{Spot, spot, arm_of, owing_send, owing_receive}
use Rattle.rs_derive.specs.Rules.{arms_at, arms_of, keeps_head, rule_at}
use Rattle.rs_derive.specs.declared.rules.Rule.{Rule}
use Rattle.rs_derive.specs.declared.rules.Rule.TheVariants.{Stops, Pays, SendsBoth, Guesses, Follows}

-- what is due of the nexts of a spot: whether its edges keep their head, and for each next, in order, the spots of which it must name one
pub record Due : Type 0 where
  pub keeps : Bool
  pub nexts : List (List Spot)

-- the spot after an arm that both send
abbrev pub both_at : List Act → Arm → Option Arm → List Spot
both_at pending a None = []
both_at pending a (Some b) = spot a.next pending b.next ∷ []

-- the spots that are due by the rule, where these are the arms of the machine and those of the projection
abbrev pub nexts_by : Spot → List Arm → List Arm → Rule → List (List Spot)
nexts_by p arms theirs Stops = []
nexts_by p arms theirs (Pays place a) = (spot a.next (without p.pending place) p.above ∷ []) ∷ []
nexts_by p arms theirs SendsBoth = map (λ a. both_at p.pending a (arm_of theirs a.label)) arms
nexts_by p arms theirs (Guesses r) = map (λ b. owing_send p r b) theirs ∷ []
nexts_by p arms theirs (Follows r) = map (λ b. owing_receive p r b ∷ []) theirs

-- what is due by the rule
abbrev pub due_by : Spot → List Arm → List Arm → Rule → Due
due_by p arms theirs rule = record { keeps = keeps_head p.pending rule; nexts = nexts_by p arms theirs rule }

-- what is due, where a rule applies
abbrev pub due_of : Spot → List Arm → List Arm → Option Rule → Option Due
due_of p arms theirs None = None
due_of p arms theirs (Some rule) = Some (due_by p arms theirs rule)

-- what is due for the machine's state and the projection's
abbrev pub due_at : Spot → Option State → Option State → Option Due
due_at p None t = None
due_at p (Some s) t = due_of p (arms_at s) (arms_of t) (rule_at p.pending s t)

-- what is due of the nexts of a spot, where it has a move
abbrev pub due : Machine_data → Machine_data → Spot → Option Due
due sub above p = due_at p (slice_get sub.states p.state) (slice_get above.states p.above)

-- for each next one of the spots that are due
abbrev pub Chosen : List (List Spot) → List Spot → Type 0
Chosen [] [] = Unit {0}
Chosen [] (r ∷ rs) = ⊥
Chosen (d ∷ ds) [] = ⊥
Chosen (d ∷ ds) (r ∷ rs) = ((i : ℕ) × (slice_get d i ≡ Some r)) × Chosen ds rs
