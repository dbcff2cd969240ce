use Rattle.std.proofs.Common.{length}
use Rattle.rs_rings.proofs.Seats.{first_speaks, first_part_is}
use Rattle.rs_rings.proofs.laws.first_passes.Goals as goal

pub returns-clause-speaks : goal.returns-clause-speaks
returns-clause-speaks c = λ machines r l. first_speaks machines (length machines) r l

pub returns-clause-part : goal.returns-clause-part
returns-clause-part c = λ machines r l. first_part_is machines (length machines) r l
