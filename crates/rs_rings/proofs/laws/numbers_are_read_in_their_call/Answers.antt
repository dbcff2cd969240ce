use Rattle.rs_rings.proofs.OneCall.{tail_in_call, head_in_call}
use Rattle.rs_rings.proofs.laws.numbers_are_read_in_their_call.Goals as goal

pub returns-clause-tail : goal.returns-clause-tail
returns-clause-tail k = λ key s t p q a c b d n. tail_in_call key s t p q a c b d n

pub returns-clause-head : goal.returns-clause-head
returns-clause-head k = λ key s t p q a c b d n. head_in_call key s t p q a c b d n
