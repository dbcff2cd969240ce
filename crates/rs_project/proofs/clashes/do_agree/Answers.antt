use Rattle.std.proofs.Common.{rules, sym, ◌∙◌}
use Rattle.rs_project.proofs.Agreeing.{agree_sound, agree_whole}
use Rattle.rs_project.proofs.Lists.{read_via}
use Rattle.rs_project.proofs.clashes.do_agree.Goals as goal

pub returns-clause-sound : goal.returns-clause-sound
returns-clause-sound c = λ e.
    agree_sound c.args.protocol.now c.args.role c.args.one c.args.other c.index.result.now c.index-2.result.now
    (read_via c.args.protocol.now.nodes c.protocol.inside.nodes.items c.args.one c.index.result.now (search rules) c.requires.one c.index.ensures)
    (read_via c.args.protocol.now.nodes c.protocol.inside.nodes.items c.args.other c.index-2.result.now (search rules) c.requires.other c.index-2.ensures)
    (sym c.agree_nodes.ensures ∙ e)

pub returns-clause-whole : goal.returns-clause-whole
returns-clause-whole c = λ e a.
    let t = agree_whole c.args.protocol.now c.args.role c.args.one c.args.other c.index.result.now c.index-2.result.now
    (read_via c.args.protocol.now.nodes c.protocol.inside.nodes.items c.args.one c.index.result.now (search rules) c.requires.one c.index.ensures)
    (read_via c.args.protocol.now.nodes c.protocol.inside.nodes.items c.args.other c.index-2.result.now (search rules) c.requires.other c.index-2.ensures) a in
    cc (c.agree_nodes.ensures ∙ t, e)
