use Rattle.rs_improve.proofs.Once.{swaps_in_none}
use Rattle.rs_improve.proofs.laws.machines_without_a_swap_stay.Goals as goal

pub returns : goal.returns
returns c = λ above bound asked i f none. swaps_in_none i.swaps above i.machine none f.swapped
