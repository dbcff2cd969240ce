use Rattle.std.proofs.Common.{vec_len}
use Rattle.rs_endpoints.proofs.sharing.give_all_up.Given as goal

abbrev pub decreases-loop-left : goal.decreases-loop-left
decreases-loop-left l = vec_len l.lefts
