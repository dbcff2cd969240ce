use Rattle.std.proofs.Common.{length, ap, ◌∙◌}
use Rattle.rs_rings.specs.Passes.{Rings_data}
use Rattle.rs_session.proofs.HandedIn.{each_ended, each_there, ended_tables, itself_speaks, knows_from, unmapped_parts}
use Rattle.rs_session.proofs.sessions.Session.close.Goals as goal

pub gather-pass-requires-clause-tables : goal.gather-pass-requires-clause-tables
gather-pass-requires-clause-tables c = ended_tables c.args.self c.into_rings-rings.result c.args.ended.items c.into_rings-rings.ensures.rings c.requires.of

pub close-requires-clause-ended : goal.close-requires-clause-ended
close-requires-clause-ended c =
    each_ended c.args.ended.items c.args.self c.into_rings-rings.result c.gather-pass.result c.into_rings-rings.ensures.rings
    (ap (λ (z : Rings_data). z.roles) c.into_rings-rings.ensures.rings ∙ c.into_rings-rings.ensures.whole.roles) c.requires.of
    (each_there c.count.result (length c.args.self.machines) c.as_slice.result.now c.args.ended.items c.count.ensures.count c.as_slice.ensures.value c.in-None.ensures.none)
    (itself_speaks c.args.ended.items c.gather-pass.result.view c.gather-pass.ensures.speaks)
    (unmapped_parts c.args.ended.items c.gather-pass.result.view c.gather-pass.ensures.parts)

pub returns-in-None-clause-present : goal.returns-in-None-clause-present
returns-in-None-clause-present c = each_there c.count.result
    (length c.args.self.machines) c.as_slice.result.now c.args.ended.items c.count.ensures.count c.as_slice.ensures.value c.in-None.ensures.none

pub returns-in-None-clause-knows : goal.returns-in-None-clause-knows
returns-in-None-clause-knows c =
    knows_from c.args.ended.items c.args.self c.into_rings-rings.result c.gather-pass.result c.close.result c.into_rings-rings.ensures.rings c.close.ensures.closed.0 c.close.ensures.closed.1
    (each_there c.count.result (length c.args.self.machines) c.as_slice.result.now c.args.ended.items c.count.ensures.count c.as_slice.ensures.value c.in-None.ensures.none)
    (itself_speaks c.args.ended.items c.gather-pass.result.view c.gather-pass.ensures.speaks)
    (unmapped_parts c.args.ended.items c.gather-pass.result.view c.gather-pass.ensures.parts)
