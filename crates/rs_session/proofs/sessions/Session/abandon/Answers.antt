use Rattle.std.proofs.Common.{map}
use Rattle.rs_session.specs.Stages.{sight_of_stage}
use Rattle.rs_session.proofs.HandedIn.{knows_from, same_tables}
use Rattle.rs_session.proofs.sessions.Session.abandon.Goals as goal

pub gather-pass-requires-clause-tables : goal.gather-pass-requires-clause-tables
gather-pass-requires-clause-tables c = same_tables c.args.self c.into_rings-rings.result c.args.stages.items c.into_rings-rings.ensures.rings c.requires.of

pub returns-clause-knows : goal.returns-clause-knows
returns-clause-knows c =
    knows_from (map sight_of_stage c.args.stages.items) c.args.self c.into_rings-rings.result c.gather-pass.result c.abandon.result c.into_rings-rings.ensures.rings c.abandon.ensures.closed.0
    c.abandon.ensures.closed.1 c.requires.each c.gather-pass.ensures.speaks c.gather-pass.ensures.parts
