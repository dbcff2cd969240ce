use Rattle.rs_improve.proofs.SwapLaws.{one_swapped}
use Rattle.rs_improve.proofs.Small.{small_swap}
use Rattle.rs_improve.specs.Examples.{receives_first, sends_first}
use Rattle.rs_improve.proofs.laws.a_receive_then_a_send_is_swapped.Goals as goal

pub returns-clause-swaps : goal.returns-clause-swaps
returns-clause-swaps c = small_swap

pub returns-clause-only : goal.returns-clause-only
returns-clause-only c = λ swapped s. one_swapped receives_first swapped sends_first s small_swap
