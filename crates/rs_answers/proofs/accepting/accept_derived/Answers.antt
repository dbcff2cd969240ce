use Rattle.rs_answers.proofs.Derivings.{never_refused, one_each}
use Rattle.rs_answers.proofs.accepting.accept_derived.Goals as goal

pub accept-requires-clause-derivations : goal.accept-requires-clause-derivations
accept-requires-clause-derivations c =
    one_each c.requires.derivations.0 c.requires.derivations.1 c.args.protocol c.args.session.projections.items c.args.session.machines.items c.args.session.derivations.items
    c.requires.session c.requires.derivations.2

pub unreachable-requires : goal.unreachable-requires
unreachable-requires c =
    never_refused c.requires.derivations.0 c.args.protocol c.args.session.projections.items c.args.session.machines.items c.args.session.derivations.items c.in-Err.field-0.role.0
    c.in-Err.field-0.cause
    c.requires.session c.requires.derivations.2 c.in-Err.ensures.refused
