-- A machine that has ended, while its projection waits: the empty walk, and why it ends.
use Rattle.std.proofs.Common.{◌≡◌, ℕ, [], refl}
use Rattle.std.proofs.lemmas.Option.{same_Some}
use Rattle.rs_model.specs.declared.machines.State.TheVariants.{Done, Takes}
use Rattle.rs_search.specs.Candidates.{start_spot}
use Rattle.rs_search.specs.Examples.{ended_machine, waiting}
use Rattle.rs_explain.proofs.Blocking.{no_move}
use Rattle.rs_explain.specs.Explanations.{IsExplanation}
use Rattle.rs_explain.specs.Obstacles.{IsObstacle, EndsEarly}
use Rattle.rs_explain.specs.declared.explaining.Ending.TheVariants as ending
use Rattle.rs_explain.specs.declared.obstacles.Obstacle.TheVariants as told

early : IsObstacle ended_machine waiting (start_spot ended_machine waiting) told.EndTooEarly
early = EndsEarly refl refl (λ q. (let k : Takes (record { 0 = 1 }) [] ≡ Done = same_Some (Takes (record { 0 = 1 }) []) Done q in cc k)) refl

pub explained : (bound : ℕ) → IsExplanation ended_machine waiting bound (record { steps = []; ending = ending.Blocked told.EndTooEarly })
explained bound = record {
  walk = λ rs m. no_move ended_machine waiting (start_spot ended_machine waiting) told.EndTooEarly early m.makes rs m.move;
  ending = early;
}
