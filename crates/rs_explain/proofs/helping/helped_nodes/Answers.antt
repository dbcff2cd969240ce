use Rattle.std.proofs.Common.{◌≡◌, ◌<◌, ◌∙◌, Bool, List, ap, arith, length, subst, sym, ℕ}
use Rattle.rs_graph.specs.Removal.{at}
use Rattle.rs_explain.proofs.Mending.{helped_flagged, number_below}
use Rattle.rs_explain.specs.Helping.{is_on_alone}
use Rattle.rs_explain.specs.OnWay.{AreFlags}
use Rattle.rs_explain.proofs.helping.helped_nodes.Goals as goal

pub on_alone-requires-clause-within : goal.on_alone-requires-clause-within
on_alone-requires-clause-within c = λ n lt.
    subst (λ (z : List ℕ). at z n < length c.as_slice-2.result.now) (sym c.as_slice-3.ensures.value)
    (
    let below = number_below c.args.found.now.table.spots c.in-Ok.those.table.spots c.in_ok-numbers.numbers.items n c.in_ok-numbers.ensures (subst (λ (z : List ℕ). n < length z) c.as_slice-3.ensures.value lt) in
    let size = c.in_ok-left.ensures.lost.dead.size in
    let same = ap (λ (z : List Bool). length z) c.as_slice-2.ensures.value in omega (arith, below, size, same)
    )

pub returns : goal.returns
returns c =
    helped_flagged c.args.sub.now c.args.above.now c.args.bound c.args.greater c.args.found.now.table.spots c.in-Ok.those.table.spots c.args.lost.now.gone.items c.in_ok-left.left.gone.items c.in_ok-helped.helped.items
    c.in_ok-numbers.numbers.items c.in_ok-numbers.ensures c.requires.lost.dead c.in_ok-left.ensures.lost.dead c.in_ok-left.ensures.lost.alive
    (
    let ours = subst (λ (z : List Bool). AreFlags (λ (n : ℕ). is_on_alone z c.as_slice-2.result.now c.as_slice-3.result.now n) (length c.as_slice-3.result.now) c.in_ok-helped.helped.items) c.as_slice.ensures.value c.in_ok-helped.ensures in
    let theirs = subst (λ (z : List Bool). AreFlags (λ (n : ℕ). is_on_alone c.args.lost.now.gone.items z c.as_slice-3.result.now n) (length c.as_slice-3.result.now) c.in_ok-helped.helped.items) c.as_slice-2.ensures.value ours in
    subst (λ (z : List ℕ). AreFlags (λ (n : ℕ). is_on_alone c.args.lost.now.gone.items c.in_ok-left.left.gone.items z n) (length z) c.in_ok-helped.helped.items) c.as_slice-3.ensures.value theirs
    )
