use Rattle.std.proofs.Common.{arith, ◌≡◌, ◌-◌, ◌∙◌, slice_get, slice_index_or, map, Some, sym, refl}
use Rattle.rs_graph.proofs.Growth.{reads_at}
use Rattle.rs_derivations.proofs.Filing.{further, not_at, stands_at}
use Rattle.rs_derivations.proofs.lists.number_along.Goals as goal

pub loop-left-preserved : goal.loop-left-preserved
loop-left-preserved c =
    let left = c.loop-left.left in
    let links = c.args.links.now in
    let lists = c.args.lists.now in
    let acts = c.args.acts.now in
    let some = c.loop-left-test.true in
    let within = c.loop-left.invariant.within in
    let size = c.requires.size in
    let next = slice_index_or links (left - 1) 0 in
    let link : slice_get links (left - 1) ≡ Some next = reads_at links (left - 1) next 0 (omega arith) refl in
    let falls = c.requires.falls (left - 1) next link in
    record {
      within = omega arith;
      left = further (map (λ x. x.now) lists) links left c.args.head next acts some link (not_at (λ x. x.now) lists left _ acts some within (sym c.if-not-same_acts.true ∙ c.same_acts.ensures))
          c.loop-left.invariant.left;
    }

pub returns-else-not-same_acts-clause-found : goal.returns-else-not-same_acts-clause-found
returns-else-not-same_acts-clause-found c some =
    stands_at (λ x. x.now) c.args.lists.now c.loop-left.left _ c.args.acts.now some c.loop-left.invariant.within (sym c.if-not-same_acts.false ∙ c.same_acts.ensures)
