use Rattle.std.proofs.Common.{rules, inl}
use Rattle.rumpsteak_c.proofs.answers.keep.Goals as goal

pub returns-in-Ok : goal.returns-in-Ok
returns-in-Ok c = inl (c.in-Ok.kept.value, c.put.ensures, search rules, c.status_of.ensures)
