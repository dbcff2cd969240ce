use Rattle.std.proofs.Common.{map}
use Rattle.rs_derive.proofs.Greatest.{is}
use Rattle.rs_draw.specs.PutsOff.{left_at}
use Rattle.rs_draw.proofs.laws.most_acts_are_put_off.Goals as goal

pub returns : goal.returns
returns c = λ sub above derivation state. is (map (left_at sub above state) derivation.nodes)
