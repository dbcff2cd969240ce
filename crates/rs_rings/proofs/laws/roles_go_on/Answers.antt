use Rattle.std.proofs.Common.{refl}
use Rattle.rs_rings.specs.Views.{part_with_room, part_with_parcel}
use Rattle.rs_rings.proofs.OneCall.{goes_on_on, look_goes_on, sent_goes_on, got_goes_on}
use Rattle.rs_rings.proofs.laws.roles_go_on.Goals as goal

pub returns-clause-sent : goal.returns-clause-sent
returns-clause-sent k = sent_goes_on

pub returns-clause-got : goal.returns-clause-got
returns-clause-got k = got_goes_on

pub returns-clause-full : goal.returns-clause-full
returns-clause-full k = λ a q n. look_goes_on a (part_with_room q n a) refl refl refl

pub returns-clause-empty : goal.returns-clause-empty
returns-clause-empty k = λ b p n. look_goes_on b (part_with_parcel p n b) refl refl refl

pub returns-clause-on : goal.returns-clause-on
returns-clause-on k = goes_on_on
