use Rattle.std.proofs.Common.{rules}
use Rattle.rs_held.proofs.sessions.hand_over.Goals as goal

pub returns-in-Ok : goal.returns-in-Ok
returns-in-Ok c = (c.in-Some.own, search rules, search rules, search rules, search rules)
