use Rattle.std.proofs.Common.{length, refl, arith}
use Rattle.rs_session.proofs.HandedIn.{each_there, itself_speaks, knows_from, some_there, unmapped_parts}
use Rattle.rs_session.proofs.sessions.Session.close_left.Goals as goal

pub gather-pass-requires-clause-some : goal.gather-pass-requires-clause-some
gather-pass-requires-clause-some c =
    let each = each_there c.count.result (length c.args.self.machines) c.as_slice.result.now c.args.left.items c.count.ensures.count c.as_slice.ensures.value c.in-None.ensures.none in
    omega (arith, some_there (length c.args.self.machines) c.args.left.items c.count.ensures.whole.some each, c.args.left.ok)

pub returns-in-Ok-clause-present : goal.returns-in-Ok-clause-present
returns-in-Ok-clause-present c = each_there c.count.result (length c.args.self.machines) c.as_slice.result.now c.args.left.items c.count.ensures.count c.as_slice.ensures.value c.in-None.ensures.none

pub returns-in-Ok-clause-knows : goal.returns-in-Ok-clause-knows
returns-in-Ok-clause-knows c =
    knows_from c.args.left.items c.args.self c.into_rings-rings.result c.gather-pass.result c.close_left-closed.result.0 c.into_rings-rings.ensures.rings c.close_left-closed.ensures.closed.0
    c.close_left-closed.ensures.closed.1
    (each_there c.count.result (length c.args.self.machines) c.as_slice.result.now c.args.left.items c.count.ensures.count c.as_slice.ensures.value c.in-None.ensures.none)
    (itself_speaks c.args.left.items c.gather-pass.result.view c.gather-pass.ensures.speaks)
    (unmapped_parts c.args.left.items c.gather-pass.result.view c.gather-pass.ensures.parts)

pub returns-in-Err-clause-refused : goal.returns-in-Err-clause-refused
returns-in-Err-clause-refused c =
    (refl, refl, each_there c.count.result (length c.args.self.machines) c.as_slice.result.now c.args.left.items c.count.ensures.count c.as_slice.ensures.value c.in-None.ensures.none)
