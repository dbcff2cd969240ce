use Rattle.std.proofs.Common.{◌⊎◌, inl, inr, ◌≤◌, length}
use Rattle.rs_model.specs.Data.{Machine_data}
use Rattle.rs_model.specs.declared.limits.TheConstants.{MOST_STATES}
use Rattle.rs_improve.specs.Swaps.{HasNoExchange, SwapsTo, SwapsToMoreThan}
use Rattle.rs_improve.proofs.Existing.{Next, Nowhere, TooFar, To, next_of}
use Rattle.rs_improve.proofs.laws.a_swap_or_a_reason.Goals as goal

told : (machine : Machine_data) → Next machine → HasNoExchange machine ⊎ (SwapsToMoreThan machine MOST_STATES ⊎ ((swapped : Machine_data) × SwapsTo machine swapped × (length swapped.states ≤ MOST_STATES)))
told machine (Nowhere none) = inl none
told machine (TooFar more) = inr (inl more)
told machine (To swapped s few) = inr (inr (swapped, s, few))

pub returns : goal.returns
returns c = λ machine. told machine (next_of machine)
