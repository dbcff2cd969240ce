use Rattle.std.proofs.Common.{arith, ◌≡◌, ◌+◌, [], ◌∷◌, ◌++◌, Some, None, List, length, length-append, length-set, slice_get, sym, ◌∙◌, ap}
use Rattle.rs_derive.specs.Data.{DNode_data}
use Rattle.rs_derive.specs.Moves.{Spot}
use Rattle.rs_graph.proofs.Growth.{named_known, named_new, reads_at}
use Rattle.rs_search.specs.Itself.{even}
use Rattle.rs_search.specs.Spots.{spots_of}
use Rattle.rs_search.proofs.Alike.{not_placed, placed_even}
use Rattle.rs_search.proofs.Lengthening.{longer_push, longer_same, spots_count, spots_push}
use Rattle.rs_search.proofs.itself.come_to.Goals as goal

pub returns-in-Some-clause-named : goal.returns-in-Some-clause-named
returns-in-Some-clause-named c =
    let e : slice_get c.args.places.now.items c.args.state ≡ Some (Some c.in-Some.n)
    = reads_at c.args.places.now.items c.args.state c.index.result.now c.index.result.now c.requires.present (sym c.index.ensures) ∙ ap Some c.in-Some.is in
    named_known (spots_of c.args.nodes.now.items) (even c.args.state) c.in-Some.n (c.requires.positions.placed.from c.args.state c.in-Some.n e)

pub returns-in-Some-clause-longer : goal.returns-in-Some-clause-longer
returns-in-Some-clause-longer c = longer_same c.args.nodes.now.items

pub returns-in_ok-reserve-in-None-clause-named : goal.returns-in_ok-reserve-in-None-clause-named
returns-in_ok-reserve-in-None-clause-named c =
    let old = c.args.nodes.now.items in
    let e : slice_get c.args.places.now.items c.args.state ≡ Some None
    = reads_at c.args.places.now.items c.args.state c.index.result.now c.index.result.now c.requires.present (sym c.index.ensures) ∙ ap Some c.in-None.is in
    let p : c.push_reserved.new.self.items ≡ old ++ c.even_node.result ∷ []
    = c.push_reserved.ensures.items ∙ ap (λ (z : List DNode_data). z ++ c.even_node.result ∷ []) c.in_ok-reserve-in-None.ensures.items in
    let n = spots_count old in
    named_new (spots_of old) (spots_of c.push_reserved.new.self.items) (even c.args.state) c.len-n.result
    (not_placed (spots_of old) c.args.places.now.items c.args.state c.requires.positions.placed e) (spots_push old c.push_reserved.new.self.items c.even_node.result (even c.args.state) p c.even_node.ensures.spot)
    (grind (arith, c.len-n.ensures))

pub returns-in_ok-reserve-in-None-clause-longer : goal.returns-in_ok-reserve-in-None-clause-longer
returns-in_ok-reserve-in-None-clause-longer c =
    let old = c.args.nodes.now.items in
    let p : c.push_reserved.new.self.items ≡ old ++ c.even_node.result ∷ []
    = c.push_reserved.ensures.items ∙ ap (λ (z : List DNode_data). z ++ c.even_node.result ∷ []) c.in_ok-reserve-in-None.ensures.items in
    longer_push old c.push_reserved.new.self.items c.even_node.result p c.even_node.ensures.rank

pub returns-in_ok-reserve-in-None-clause-positions : goal.returns-in_ok-reserve-in-None-clause-positions
returns-in_ok-reserve-in-None-clause-positions c =
    let old = c.args.nodes.now.items in
    let e : slice_get c.args.places.now.items c.args.state ≡ Some None
    = reads_at c.args.places.now.items c.args.state c.index.result.now c.index.result.now c.requires.present (sym c.index.ensures) ∙ ap Some c.in-None.is in
    let p : c.push_reserved.new.self.items ≡ old ++ c.even_node.result ∷ []
    = c.push_reserved.ensures.items ∙ ap (λ (z : List DNode_data). z ++ c.even_node.result ∷ []) c.in_ok-reserve-in-None.ensures.items in
    let s = spots_push old c.push_reserved.new.self.items c.even_node.result (even c.args.state) p c.even_node.ensures.spot in
    let n = spots_count old in
    let l : c.len-n.result ≡ length (spots_of old) = grind (arith, c.len-n.ensures) in
    let more : length (spots_of c.push_reserved.new.self.items) ≡ length (spots_of old) + 1 = ap (λ (z : List Spot). length z) s ∙ length-append (spots_of old) (even c.args.state ∷ []) in
    record {
      bounded = (let a = c.requires.positions.bounded in let ne = c.if-n-eq-MOST_CANDIDATES.false in grind arith);
      placed = placed_even (spots_of old) (spots_of c.push_reserved.new.self.items) c.args.places.now.items c.args.state c.len-n.result c.requires.present s l c.requires.positions.placed e;
      size = length-set c.args.places.now.items c.args.state (Some c.len-n.result);
    }
