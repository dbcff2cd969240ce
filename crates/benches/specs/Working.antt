-- Steps: how an actor behaves that works at each act.
use Rattle.std.specs.Prelude.{ℕ, ◌+◌, ◌^◌, ◌-◌, min}
use Rattle.rs_core.specs.Actors.{Behaviour, ChoosesWell}
use Rattle.rs_core.specs.Choosing.{draws_well}
use Rattle.rs_core.specs.Draws.{after_many, by_draws}
use Rattle.benches.specs.declared.worker_actors.WorkingActor.{WorkingActor}

-- one more, up to the greatest number of 64 bits
abbrev pub one_more : ℕ → ℕ
one_more count = min (count + 1) (2 ^ 64 - 1)

-- an actor after one act more, with the draws that are left: its number has gone through its rounds
abbrev pub actor_behind_act : WorkingActor → ℕ → WorkingActor
actor_behind_act x draws = record { draws = draws; number = after_many x.rounds x.number; rounds = x.rounds; acts = one_more x.acts }

-- it chooses by its draws, and works when it is asked and when a message comes
abbrev pub by_working : Behaviour WorkingActor
by_working = record {
  chooses = λ x arms. by_draws.chooses x.draws arms;
  asked = λ x arms. actor_behind_act x (by_draws.asked x.draws arms);
  told = λ x arms place value. actor_behind_act x x.draws;
}

-- so it chooses as well as its draws do
pub works_well : ChoosesWell by_working
works_well x arms some = draws_well x.draws arms some
