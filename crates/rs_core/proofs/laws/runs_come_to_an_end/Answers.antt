use Rattle.rs_core.proofs.Ends.{comes_to_an_end}
use Rattle.rs_core.proofs.laws.runs_come_to_an_end.Goals as goal

pub returns : goal.returns
returns g c = λ machines actors limit capacity safe wf. comes_to_an_end g.A.Actor.behaviour machines actors limit capacity record { safe = safe; wf = wf; well = g.met.A.Actor.chooses_well }
