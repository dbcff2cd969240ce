use Rattle.std.proofs.Common.{rules, arith, ◌<◌, length, get_or, sym, ◌∙◌}
use Rattle.rs_project.proofs.Agreeing.{one_for_all}
use Rattle.rs_project.proofs.Lists.{read_via}
use Rattle.rs_project.proofs.clashes.enough_before.Goals as goal

pub returns-then-sends-clause-enough : goal.returns-then-sends-clause-enough
returns-then-sends-clause-enough c =
    let g = c.if-later-gt1.true in
    let s = c.requires.later in
    let w : get_or c.args.talks.now 0 0 < length c.args.protocol.now.nodes = c.requires.talks 0 0 (omega (arith, g, s)) in
    let at = read_via c.args.protocol.now.nodes c.protocol.inside.nodes.items (get_or c.args.talks.now 0 0) c.index.result.now (search rules) w c.index.ensures in
    one_for_all c.args.protocol.now c.args.role c.args.talks.now c.args.later c.index.result.now c.requires.well_formed at (sym c.sends.ensures ∙ c.if-sends.true) c.requires.later c.requires.earlier
