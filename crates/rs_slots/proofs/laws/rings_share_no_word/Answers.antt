use Rattle.rs_slots.proofs.Places.{one_head, one_tail, head_no_tail}
use Rattle.rs_slots.proofs.laws.rings_share_no_word.Goals as goal

pub returns-clause-heads : goal.returns-clause-heads
returns-clause-heads c = one_head

pub returns-clause-tails : goal.returns-clause-tails
returns-clause-tails c = one_tail

pub returns-clause-two : goal.returns-clause-two
returns-clause-two c = head_no_tail
