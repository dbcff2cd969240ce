use Rattle.std.proofs.Common.{◌≡◌, drop}
use Rattle.rs_answers.specs.OwnMachines.{first_own_refusal}
use Rattle.rs_answers.proofs.sessions.first_refusal.Given as goal

abbrev pub invariant-loop-held : goal.invariant-loop-held
invariant-loop-held l = first_own_refusal l.roles (drop l.held-index l.own) ≡ first_own_refusal l.roles l.own
