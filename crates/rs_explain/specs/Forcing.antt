-- Public: walks at whose spots no other way is open.
use Rattle.std.specs.Prelude.{List, [], ◌∷◌, length, slice_get, Bool, true, false, not, ◌==◌, ◌&&◌, Option, Some}
use Rattle.rs_model.specs.Data.{Machine_data}
use Rattle.rs_model.specs.declared.graph.Arm.{Arm}
use Rattle.rs_model.specs.declared.machines.Act.{Act}
use Rattle.rs_model.specs.declared.machines.State.{State}
use Rattle.rs_derive.specs.Moves.{Spot}
use Rattle.rs_derive.specs.Rules.{arms_at, rule_at}
use Rattle.rs_derive.specs.declared.rules.Rule.{Rule}
use Rattle.rs_derive.specs.declared.rules.Rule.TheVariants.{Guesses}
use Rattle.rs_explain.specs.Walks.{WalkStep_data}

-- by the rule one arm of several is guessed
abbrev pub guesses_among : List Arm → Option Rule → Bool
guesses_among theirs (Some (Guesses r)) = not (length theirs == 1)
guesses_among theirs _ = false

-- so it is where so much is owed, and the machine and the projection stand at these states
abbrev pub guesses_between : List Act → Option State → Option State → Bool
guesses_between pending (Some s) (Some t) = guesses_among (arms_at t) (rule_at pending s (Some t))
guesses_between pending _ _ = false

-- at the spot one arm of several is guessed, so another may be
abbrev pub is_guess : Machine_data → Machine_data → Spot → Bool
is_guess sub above p = guesses_between p.pending (slice_get sub.states p.state) (slice_get above.states p.above)

-- no step of the walk from p is one of several guesses
abbrev pub is_forced : Machine_data → Machine_data → Spot → List WalkStep_data → Bool
is_forced sub above p [] = true
is_forced sub above p (s ∷ later) = not (is_guess sub above p) && is_forced sub above s.spot later
