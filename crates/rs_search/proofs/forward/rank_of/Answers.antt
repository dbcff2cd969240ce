use Rattle.std.proofs.Common.{◌≡◌, ◌<◌, ◌∙◌, [], ℕ, List, slice_index_or, IfSome, Bool, subst, sym}
use Rattle.rs_graph.specs.Lists.{Among}
use Rattle.rs_graph.specs.RanksSoFar.{RankFits}
use Rattle.rs_graph.proofs.Buckets.{got}
use Rattle.rs_search.specs.Forward.{kept_row}
use Rattle.rs_search.proofs.forward.rank_of.Goals as goal

pub rank_behind-requires-clause-within : goal.rank_behind-requires-clause-within
rank_behind-requires-clause-within c = λ j m.
    let row : slice_index_or c.args.table.now.rows c.args.number [] ≡ c.as_slice.result.now = got c.args.table.now.rows c.args.number c.row.result.now [] c.row.ensures ∙ sym c.as_slice.ensures in
    c.requires.within j (subst (λ (z : List ℕ). Among z j) (sym row) m)

pub returns-then-keeps-clause-fits : goal.returns-then-keeps-clause-fits
returns-then-keeps-clause-fits c =
    let row : slice_index_or c.args.table.now.rows c.args.number [] ≡ c.as_slice.result.now = got c.args.table.now.rows c.args.number c.row.result.now [] c.row.ensures ∙ sym c.as_slice.ensures in
    subst (λ (z : List ℕ). IfSome c.rank_behind.result (λ rank. RankFits (kept_row c.args.keeps z) c.args.table.now.ranks rank)) (sym row)
    (subst (λ (b : Bool). IfSome c.rank_behind.result (λ rank. RankFits (kept_row b c.as_slice.result.now) c.args.table.now.ranks rank)) (sym c.if-keeps.true) c.rank_behind.ensures.fits)

pub returns-then-keeps-clause-on : goal.returns-then-keeps-clause-on
returns-then-keeps-clause-on c =
    let row : slice_index_or c.args.table.now.rows c.args.number [] ≡ c.as_slice.result.now = got c.args.table.now.rows c.args.number c.row.result.now [] c.row.ensures ∙ sym c.as_slice.ensures in
    subst (λ (z : List ℕ). IfSome c.rank_behind.result (λ rank. (j : ℕ) → Among (kept_row c.args.keeps z) j → c.args.number < j)) (sym row)
    (subst (λ (b : Bool). IfSome c.rank_behind.result (λ rank. (j : ℕ) → Among (kept_row b c.as_slice.result.now) j → c.args.number < j)) (sym c.if-keeps.true) c.rank_behind.ensures.on)
