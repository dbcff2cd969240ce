-- Public: how far ahead of its projection a machine comes.
use Rattle.std.specs.Prelude.{ℕ, List, [], ◌∷◌, length, nat_lt, if◌then◌else◌, slice_get, Option, Some}
use Rattle.rs_derive.specs.Data.{DNode_data}
use Rattle.rs_derive.specs.Rules.{rule_at}
use Rattle.rs_derive.specs.declared.rules.Rule.{Rule}
use Rattle.rs_derive.specs.declared.rules.Rule.TheVariants.{Pays, SendsBoth}
use Rattle.rs_model.specs.Data.{Machine_data}
use Rattle.rs_model.specs.declared.machines.Act.{Act}
use Rattle.rs_model.specs.declared.machines.State.{State}
use Rattle.rs_prefix.specs.Earliest.{without}

-- what is still owed behind the act that the machine makes by the rule; nothing where it makes none
abbrev pub left_by : List Act → Option Rule → List Act
left_by pending (Some (Pays place arm)) = without pending place
left_by pending (Some SendsBoth) = pending
left_by pending _ = []

-- the same by the rule for these states, where there are both
abbrev pub left_between : List Act → Option State → Option State → List Act
left_between pending (Some s) (Some t) = left_by pending (rule_at pending s (Some t))
left_between pending _ _ = []

-- a state of the machine, and what is still owed behind the act that it makes there
pub record Standing_data : Type 0 where
  pub state : ℕ
  pub owed : List Act

-- that of a node
abbrev pub standing_of : Machine_data → Machine_data → DNode_data → Standing_data
standing_of sub above n = record { state = n.state; owed = left_between n.pending (slice_get sub.states n.state) (slice_get above.states n.above) }

-- that of no node
abbrev pub nowhere : Standing_data
nowhere = record { state = 0; owed = [] }

-- of two the later one where it still owes more, else the earlier one
abbrev pub further : Standing_data → Standing_data → Standing_data
further one later = if nat_lt (length one.owed) (length later.owed) then later else one

-- the first of these nodes, and of what came before them, that still owes the most
abbrev pub furthest : Machine_data → Machine_data → Standing_data → List DNode_data → Standing_data
furthest sub above best [] = best
furthest sub above best (n ∷ later) = furthest sub above (further best (standing_of sub above n)) later
