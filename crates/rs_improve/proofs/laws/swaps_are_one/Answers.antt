use Rattle.rs_improve.proofs.SwapLaws.{more_or_not, one_swapped, swaps_if_larger, swaps_or_more, swaps_or_not}
use Rattle.rs_improve.proofs.laws.swaps_are_one.Goals as goal

pub returns-clause-one : goal.returns-clause-one
returns-clause-one c = one_swapped

pub returns-clause-some : goal.returns-clause-some
returns-clause-some c = swaps_or_not

pub returns-clause-few : goal.returns-clause-few
returns-clause-few c = swaps_or_more

pub returns-clause-large : goal.returns-clause-large
returns-clause-large c = swaps_if_larger

pub returns-clause-more : goal.returns-clause-more
returns-clause-more c = more_or_not
