use Rattle.std.proofs.Common.{arith, ◌<◌, ◌∙◌, length, refl, sym, Some, None}
use Rattle.rs_explain.proofs.Lowering.{lowers_read}
use Rattle.rs_explain.specs.Deaths.{Lowered, Same}
use Rattle.rs_explain.proofs.deaths.lower.Goals as goal

pub returns-in-Some : goal.returns-in-Some
returns-in-Some c =
    let here : c.args.node < length c.args.found.now.anys.items = (let a = c.requires.anys in let b = c.requires.present in omega arith) in
    Lowered c.in-Some.new
    (lowers_read c.args.found.now.anys.items c.args.found.now.table.rows c.args.far.now.items c.as_slice.result.now c.args.node c.index-2.result.now c.given-new.result (Some c.in-Some.new)
    c.index.result.now c.as_slice-row.result.now c.row.result.now c.as_slice.ensures.value c.requires.present here c.index-2.ensures c.index.ensures c.row.ensures c.as_slice-row.ensures
    c.given-new.ensures (sym c.in-Some.is ∙ c.lesser_given.ensures)) refl refl

pub returns-in-None : goal.returns-in-None
returns-in-None c =
    let here : c.args.node < length c.args.found.now.anys.items = (let a = c.requires.anys in let b = c.requires.present in omega arith) in
    Same
    (lowers_read c.args.found.now.anys.items c.args.found.now.table.rows c.args.far.now.items c.as_slice.result.now c.args.node c.index-2.result.now c.given-new.result None
    c.index.result.now c.as_slice-row.result.now c.row.result.now c.as_slice.ensures.value c.requires.present here c.index-2.ensures c.index.ensures c.row.ensures c.as_slice-row.ensures
    c.given-new.ensures (sym c.in-None.is ∙ c.lesser_given.ensures)) refl refl
