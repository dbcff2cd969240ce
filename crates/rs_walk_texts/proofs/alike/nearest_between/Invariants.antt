use Rattle.std.proofs.Common.{◌≡◌, drop}
use Rattle.std.specs.List.{find}
use Rattle.rs_walk_texts.specs.Alike.{is_slip, pairs_between}
use Rattle.rs_walk_texts.proofs.alike.nearest_between.Given as goal

abbrev pub invariant-loop-node : goal.invariant-loop-node
invariant-loop-node l =
    find (is_slip l.source l.spot l.far) (pairs_between (drop l.node-index l.nodes) l.sender l.receiver l.own)
    ≡ find (is_slip l.source l.spot l.far) (pairs_between l.nodes l.sender l.receiver l.own)
