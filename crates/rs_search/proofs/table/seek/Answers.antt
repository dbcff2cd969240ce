use Rattle.std.proofs.Common.{arith, ◌≡◌, ◌≢◌, ◌-◌, ◌<◌, ◌∙◌, suc, ℕ, length, slice_get, slice_index_or, Some, subst, sym, refl}
use Rattle.std.proofs.lemmas.Option.{same_Some}
use Rattle.rs_derive.specs.Targets.{target_spot}
use Rattle.rs_derive.specs.Derivations.{spot_of}
use Rattle.rs_graph.proofs.Growth.{reads_at}
use Rattle.rs_model.specs.Chains.{IsChained}
use Rattle.rs_search.specs.Table.{links_of, spots_of}
use Rattle.rs_search.specs.declared.table.Entry.{Entry}
use Rattle.rs_search.proofs.Chains.{chained_on}
use Rattle.rs_derive.proofs.Mapped.{map_at}
use Rattle.rs_search.proofs.table.seek.Goals as goal

pub loop-left-smaller : goal.loop-left-smaller
loop-left-smaller c =
    let d : Entry = record { code = 0; link = 0 } in
    let n = c.loop-left.left - 1 in
    let x = slice_index_or c.args.entries.now n d in
    let some = c.loop-left-test.true in
    let lt : n < length c.args.entries.now = (let i = c.loop-left.invariant.0 in let s = c.requires.size in omega arith) in
    let h = map_at (λ (e : Entry). e.link) c.args.entries.now n x (reads_at c.args.entries.now n x d lt refl) in
    let f = c.requires.falls n x.link h in omega arith

pub loop-left-preserved : goal.loop-left-preserved
loop-left-preserved c =
    let d : Entry = record { code = 0; link = 0 } in
    let left = c.loop-left.left in
    let n = left - 1 in
    let x = slice_index_or c.args.entries.now n d in
    let some = c.loop-left-test.true in
    let lt : n < length c.args.entries.now = (let i = c.loop-left.invariant.0 in let s = c.requires.size in omega arith) in
    let ln : n < length c.args.nodes.now = (let i = c.loop-left.invariant.0 in omega arith) in
    let h = map_at (λ (e : Entry). e.link) c.args.entries.now n x (reads_at c.args.entries.now n x d lt refl) in
    let f = c.requires.falls n x.link h in
    let node = c.index-nodes-n.result in
    let at = map_at spot_of c.args.nodes.now n node (reads_at c.args.nodes.now n node node ln (sym c.index-nodes-n.is)) in
    let up : left ≡ suc n = omega arith in
    let target = target_spot c.args.pending.now c.args.target in (
      (let i = c.loop-left.invariant.0 in let s = c.requires.size in omega arith),
      λ m ch e.
          let other : m ≢ n = λ q. c.is_at.ensures.other c.if-is_at.false (same_Some (spot_of node) target (sym at ∙ subst (λ (z : ℕ). slice_get (spots_of c.args.nodes.now) z ≡ Some target) q e)) in
          chained_on (links_of c.args.entries.now) n x.link m (subst (λ (z : ℕ). IsChained (links_of c.args.entries.now) z m) up (c.loop-left.invariant.1 m ch e)) h other,
    )
