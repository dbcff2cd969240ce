use Rattle.std.proofs.Common.{◌∙◌, refl}
use Rattle.benches.specs.Sessions.{machines_of_swap}
use Rattle.benches.proofs.Plays.{both_stand_first}
use Rattle.benches.proofs.ring_trials.loose_labels.Goals as goal

pub pair_of-a-requires : goal.pair_of-a-requires
pair_of-a-requires g c = record {
  stand = both_stand_first c.as_slice.result.now machines_of_swap c.in_ok-rings.rings c.in_ok-rings.pass (c.as_slice.ensures.value ∙ c.in_ok-machines.ensures)
      refl c.in_ok-rings.ensures.stand;
}
