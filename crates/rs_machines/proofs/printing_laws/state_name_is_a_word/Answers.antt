use Rattle.std.proofs.Common.{arith}
use Rattle.rs_bodies.proofs.CanonWhole.{place_name_law}
use Rattle.rs_machines.proofs.printing_laws.state_name_is_a_word.Goals as goal

pub returns : goal.returns
returns c = λ n h. place_name_law n (omega arith)
