use Rattle.rs_derive.proofs.Rows.{complete, sound}
use Rattle.rs_derive.proofs.laws.moves_are_computed.Goals as goal

pub returns-clause-due : goal.returns-clause-due
returns-clause-due c = λ sub above p makes results m. let t = complete sub above p makes results m in (t.d, t.due_is, t.picks, (t.agrees.from, t.agrees.to))

pub returns-clause-table : goal.returns-clause-table
returns-clause-table c = λ sub above p d results e h. let s = sound sub above p d results e h in (s.makes, s.move, (s.agrees.from, s.agrees.to))
