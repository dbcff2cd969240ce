-- Public: what a spot can do within the bound, as it is computed: choose one of some spots, or go on to all of them.
use Rattle.std.specs.Prelude.{ℕ, List, [], length, Bool, true, false, not, ◌==◌, ◌&&◌, nat_lt, nat_le, if◌then◌else◌, Option, None, Some}
use Rattle.std.specs.List.{list_any}
use Rattle.rs_model.specs.Data.{Machine_data}
use Rattle.rs_derive.specs.Due.{Due, due, nexts_by}
use Rattle.rs_derive.specs.Moves.{Spot, owing_receive, owing_send}
use Rattle.rs_derive.specs.Rules.{pushes}
use Rattle.rs_derive.specs.declared.rules.Rule.{Rule}
use Rattle.rs_derive.specs.declared.rules.Rule.TheVariants.{Stops, Pays, SendsBoth, Guesses, Follows}
use Rattle.rs_derive.specs.Within.{HasLabelsOnce}
use Rattle.rs_model.specs.declared.graph.Arm.{Arm}
use Rattle.rs_model.specs.declared.machines.Act.{Act}
use Rattle.rs_graph.specs.Lists.{concat}
use Rattle.rs_model.specs.declared.graph.Role.{Role}
use Rattle.rs_prefix.specs.declared.earliest.ActKind.{ActKind}
use Rattle.rs_prefix.specs.declared.earliest.ActKind.TheVariants.{Send, Receive}
use Rattle.rs_search.specs.declared.turns.SpotMoves.{SpotMoves}

-- no two arms of the machine have the same label, and no two arms of the projection
pub record BothHaveLabelsOnce (arms theirs : List Arm) : Type 0 where
  pub ours : HasLabelsOnce arms
  pub theirs_too : HasLabelsOnce theirs

-- any: each of the spots is a move of its own; otherwise all together are one move. keeps: its edges keep the oldest act that is owed. cut: the bound takes the moves away
pub record Turn_data : Type 0 where
  pub cut : Bool
  pub any : Bool
  pub keeps : Bool
  pub spots : List Spot

-- no move, and whether the bound takes it away
abbrev pub no_turn : Bool → Turn_data
no_turn cut = record { cut = cut; any = true; keeps = false; spots = [] }

-- if one next is due, it may be any of its spots; otherwise there is one spot for each next
abbrev pub turn_of : Option Due → Turn_data
turn_of None = no_turn false
turn_of (Some d) = record { cut = false; any = length d.nexts == 1; keeps = d.keeps; spots = concat d.nexts }

-- one of the spots owes more than n acts
abbrev pub owes_more : ℕ → List Spot → Bool
owes_more bound spots = list_any (λ (r : Spot). nat_lt bound (length r.pending)) spots

-- the bound takes the moves away where a spot owes more
abbrev pub turn_with_cut : ℕ → Turn_data → Turn_data
turn_with_cut bound t = if owes_more bound t.spots then no_turn true else t

-- the turn of a spot within the bound
abbrev pub turn_within : Machine_data → Machine_data → ℕ → Spot → Turn_data
turn_within sub above bound p = turn_with_cut bound (turn_of (due sub above p))

-- what the moves of a spot lead to
abbrev pub nexts_within : Machine_data → Machine_data → ℕ → Spot → List Spot
nexts_within sub above bound p = (turn_within sub above bound p).spots

-- what is asked of each spot: whether it may choose, whether its edges keep the oldest act that is owed, and whether it meets a cut
abbrev pub is_any : Machine_data → Machine_data → ℕ → Spot → Bool
is_any sub above bound p = (turn_within sub above bound p).any

-- whether its edges keep the oldest act that is owed
abbrev pub is_keeping : Machine_data → Machine_data → ℕ → Spot → Bool
is_keeping sub above bound p = (turn_within sub above bound p).keeps

-- whether the bound takes its moves away
abbrev pub is_cut : Machine_data → Machine_data → ℕ → Spot → Bool
is_cut sub above bound p = (turn_within sub above bound p).cut

-- whether a turn chooses: among several spots, or among none
abbrev pub has_choice : Turn_data → Bool
has_choice t = t.any && not (length t.spots == 1)

-- whether the turn of the spot chooses
abbrev pub is_choosing : Machine_data → Machine_data → ℕ → Spot → Bool
is_choosing sub above bound p = has_choice (turn_within sub above bound p)

-- by the rule: whether one next is due, which may be any of its spots; and whether the bound takes the move away
abbrev pub may_choose : List Arm → List Arm → Rule → Bool
may_choose arms theirs Stops = false
may_choose arms theirs (Pays place a) = true
may_choose arms theirs SendsBoth = length arms == 1
may_choose arms theirs (Guesses r) = true
may_choose arms theirs (Follows r) = length theirs == 1

-- whether the bound takes the moves by the rule away: there are some, and they would owe more acts
abbrev pub cuts : ℕ → List Act → List Arm → Rule → Bool
cuts bound pending theirs rule = pushes rule && (nat_le bound (length pending) && nat_lt 0 (length theirs))

-- the spots to which a rule leads, if one applies
abbrev pub spots_by : Spot → List Arm → List Arm → Option Rule → List Spot
spots_by p arms theirs None = []
spots_by p arms theirs (Some rule) = concat (nexts_by p arms theirs rule)

-- the turn of a spot, from what the code returns for it
abbrev pub turn_by_code : Spot → List Arm → List Arm → SpotMoves → Turn_data
turn_by_code p arms theirs t = record { cut = t.cut; any = t.any; keeps = t.keeps; spots = spots_by p arms theirs t.rule }

-- the spot after an arm by which the projection has sent or received
abbrev pub owing_by : ActKind → Spot → Role → Arm → Spot
owing_by Send p r b = owing_send p r b
owing_by Receive p r b = owing_receive p r b
