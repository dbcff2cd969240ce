-- Public: walks that end with a round by which the machine owes more, and rounds that it could repeat for ever.
use Rattle.std.specs.Prelude.{ℕ, zero, suc, ◌+◌, ◌-◌, ◌*◌, ◌/◌, List, [], ◌∷◌, length, take, drop, slice_get, Bool, true, false, ◌==◌, ◌&&◌, ◌||◌, nat_lt, if◌then◌else◌, Option, Some, None}
use Rattle.std.specs.List.{list_all, list_any}
use Rattle.rs_model.specs.Data.{Machine_data}
use Rattle.rs_model.specs.declared.machines.Act.{Act}
use Rattle.rs_model.specs.declared.machines.State.{State}
use Rattle.rs_model.specs.declared.machines.State.TheVariants.{Done, Puts, Takes}
use Rattle.rs_prefix.specs.Earliest.{may_overtake}
use Rattle.rs_prefix.specs.declared.earliest.ActKind.TheVariants.{Send, Receive}
use Rattle.rs_derive.specs.Moves.{Spot}
use Rattle.rs_derive.specs.Targets.{same_act, same_acts}
use Rattle.rs_explain.specs.Walks.{WalkStep_data}
use Rattle.rs_explain.specs.declared.growth.Rounds.{Rounds}

-- the spot behind a step, or p where there is no step
abbrev pub spot_behind : Spot → Option WalkStep_data → Spot
spot_behind p None = p
spot_behind p (Some s) = s.spot

-- the spot behind so many steps of a walk from p
abbrev pub spot_after : Spot → List WalkStep_data → ℕ → Spot
spot_after p steps zero = p
spot_after p steps (suc n) = spot_behind p (slice_get steps n)

-- the first acts are the others
abbrev pub begins_with : List Act → List Act → Bool
begins_with acts others = same_acts others (take (length others) acts)

-- both machines stand at q as they do at p, and at q the same is owed, and more behind it
abbrev pub is_further : Spot → Spot → Bool
is_further p q = (p.state == q.state) && ((p.above == q.above) && (nat_lt (length p.pending) (length q.pending) && begins_with q.pending p.pending))

-- the shortest round with which a walk from p ends: how many of its first n steps lead to where that round begins
abbrev pub round_start : Spot → List WalkStep_data → ℕ → Option ℕ
round_start p steps zero = None
round_start p steps (suc n) = if is_further (spot_after p steps n) (spot_after p steps (length steps)) then Some n else round_start p steps n

-- the machine may go on at the state, whether or not the act is owed
abbrev pub overtakes : Option State → Act → Bool
overtakes None a = false
overtakes (Some Done) a = false
overtakes (Some (Puts q arms)) a = may_overtake Send q a
overtakes (Some (Takes q arms)) a = may_overtake Receive q a

-- the act is b, or one of these
abbrev pub is_known : Act → List Act → Act → Bool
is_known b acts a = same_act a b || list_any (λ c. same_act a c) acts

-- at the state, where this is owed: of the acts the machine needs b alone, and where it needs b, b is owed
abbrev pub needs_only : Act → List Act → Option State → List Act → Bool
needs_only b acts s pending = list_all (λ a. same_act a b || overtakes s a) acts && (overtakes s b || list_any (λ a. same_act b a) pending)

-- so it is at each spot of a walk but the last, from one with that state, where this is owed; and no other acts come to be owed
abbrev pub is_repeatable : Machine_data → Act → List Act → ℕ → List Act → List WalkStep_data → Bool
is_repeatable sub b acts state pending [] = true
is_repeatable sub b acts state pending (s ∷ later) =
    (needs_only b acts (slice_get sub.states state) pending && list_all (is_known b acts) s.spot.pending) && is_repeatable sub b acts s.spot.state s.spot.pending later

-- the steps from the n-th on lead round, and of all that is owed at their end the machine needs one act alone
abbrev pub grows_from : Machine_data → Spot → List WalkStep_data → List Act → Option ℕ → Bool
grows_from sub p steps acts None = false
grows_from sub p steps acts (Some n) = list_any (λ b. is_repeatable sub b acts (spot_after p steps n).state (spot_after p steps n).pending (drop n steps)) acts

-- the walk ends with a round that can be repeated, whatever is owed: each time more is
abbrev pub grows_for_ever : Machine_data → Spot → List WalkStep_data → Bool
grows_for_ever sub p steps = grows_from sub p steps (spot_after p steps (length steps)).pending (round_start p steps (length steps))

-- ---- rounds that are alike

-- the steps at the places go by the same place
abbrev pub go_alike : Option WalkStep_data → Option WalkStep_data → Bool
go_alike (Some s) (Some o) = s.place == o.place
go_alike _ _ = false

-- how many acts more are owed at q than at p
abbrev pub more_owed : Spot → Spot → ℕ
more_owed p q = length q.pending - length p.pending

-- at place n of the walk it is as it is a round of so many steps later, but for so many acts that are owed then
abbrev pub is_alike : Spot → List WalkStep_data → ℕ → ℕ → ℕ → Bool
is_alike p steps size more n =
    go_alike (slice_get steps n) (slice_get steps (n + size))
    && (is_further (spot_after p steps n) (spot_after p steps (n + size)) && (more_owed (spot_after p steps n) (spot_after p steps (n + size)) == more))

-- from which place up to n it is so at each place
abbrev pub alike_from : Spot → List WalkStep_data → ℕ → ℕ → ℕ → ℕ
alike_from p steps size more zero = zero
alike_from p steps size more (suc n) = if is_alike p steps size more n then alike_from p steps size more n else suc n

-- the rounds of so many steps of which the last begins at n, where more than one are alike: by so many first steps the first of
-- them is done, and the others are that many more
abbrev pub rounds_by : Spot → List WalkStep_data → ℕ → ℕ → ℕ → ℕ → Option Rounds
rounds_by p steps n size more count = if nat_lt 0 count then Some (record { shown = length steps - count * size; size = size; more = count; owed = more }) else None

-- the rounds with which a walk from p ends, where the last begins at n
abbrev pub rounds_to : Spot → List WalkStep_data → ℕ → ℕ → ℕ → Option Rounds
rounds_to p steps n size more = rounds_by p steps n size more ((n - alike_from p steps size more n) / size)

-- the rounds with which a walk from p ends, where its shortest last round begins there
abbrev pub rounds_from : Spot → List WalkStep_data → Option ℕ → Option Rounds
rounds_from p steps None = None
rounds_from p steps (Some n) = rounds_to p steps n (length steps - n) (more_owed (spot_after p steps n) (spot_after p steps (length steps)))

-- the rounds that are alike with which a walk from p ends
abbrev pub rounds_of : Spot → List WalkStep_data → Option Rounds
rounds_of p steps = rounds_from p steps (round_start p steps (length steps))
