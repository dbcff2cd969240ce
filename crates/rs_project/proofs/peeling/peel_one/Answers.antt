use Rattle.std.proofs.Common.{rules, arith, ◌≡◌, ◌<◌, length, vec_len}
use Rattle.rs_project.proofs.Lists.{read_via}
use Rattle.rs_project.proofs.Peels.{off_before, unreached_less}
use Rattle.rs_project.proofs.peeling.peel_one.Goals as goal

pub returns-clause-unreached : goal.returns-clause-unreached
returns-clause-unreached c = λ role has.
    let w : c.args.number < length c.args.protocol.now.nodes
    = (let f = c.if-number-len.false in let s = c.requires.size in let l = c.len.ensures in let k : vec_len c.args.left.now ≡ length c.args.left.now.items = search rules in omega arith) in
    unreached_less c.args.protocol.now role c.args.left.now.items c.args.number c.index-2.result.now
    (read_via c.args.protocol.now.nodes c.protocol.inside.nodes.items c.args.number c.index-2.result.now (search rules) w c.index-2.ensures) (search rules) has

pub returns-clause-fewer : goal.returns-clause-fewer
returns-clause-fewer c = λ n on. off_before c.args.left.now.items c.args.number n on
