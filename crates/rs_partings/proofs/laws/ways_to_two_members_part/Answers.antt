use Rattle.rs_partings.proofs.Parted.{ways_part}
use Rattle.rs_partings.proofs.laws.ways_to_two_members_part.Goals as goal

pub returns : goal.returns
returns c = λ pr role n a b r m k ne none. ways_part pr role n a b r m k ne none
