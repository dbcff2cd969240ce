use Rattle.std.proofs.Common.{rules}
use Rattle.rs_safety.proofs.Accepts.{accepted_safe, accepted_session}
use Rattle.rs_safety.proofs.accepting.accept.Goals as goal

pub invariant_of-result : goal.invariant_of-result
invariant_of-result c =
    accepted_session c.args.protocol c.args.projections.items c.args.machines.items c.args.derivations.items c.requires.session c.requires.derivations (search rules)

pub returns-in-None-clause-session : goal.returns-in-None-clause-session
returns-in-None-clause-session c =
    accepted_session c.args.protocol c.args.projections.items c.args.machines.items c.args.derivations.items c.requires.session c.requires.derivations (search rules)

pub returns-in-None-clause-safe : goal.returns-in-None-clause-safe
returns-in-None-clause-safe c = accepted_safe c.args.protocol c.args.projections.items c.args.machines.items c.args.derivations.items c.requires.session (search rules)
