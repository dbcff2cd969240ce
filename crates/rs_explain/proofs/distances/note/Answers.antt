use Rattle.std.proofs.Common.{arith, ◌<◌, ◌∙◌, length, refl}
use Rattle.rs_explain.proofs.Spreading.{far_read}
use Rattle.rs_explain.specs.Distances.{Known}
use Rattle.rs_explain.proofs.distances.note.Goals as goal

pub returns-in-Some : goal.returns-in-Some
returns-in-Some c =
    let lt : c.args.source < length c.args.far.now.items = (let a = c.requires.present in let b = c.requires.size in omega arith) in
    Known c.in-Some.field-0 (far_read c.args.far.now.items c.args.source c.index.result.now lt c.index.ensures ∙ c.in-Some.is) refl refl
