use Rattle.std.proofs.Common.{arith, ◌≡◌, ◌+◌, ◌++◌, ◌∷◌, [], ◌∙◌, List, length, length-append, ap}
use Rattle.rs_derive.specs.Data.{DNode_data}
use Rattle.rs_derive.specs.Moves.{owing_receive}
use Rattle.rs_search.specs.Itself.{even}
use Rattle.rs_search.proofs.Lengthening.{longer_push, spots_push}
use Rattle.rs_search.proofs.itself.owe.Goals as goal

pub returns-clause-added : goal.returns-clause-added
returns-clause-added c =
    let old = c.args.nodes.now.items in
    let p : c.push_reserved.new.self.items ≡ old ++ c.in_ok-node.node ∷ []
    = c.push_reserved.ensures.items ∙ ap (λ (z : List DNode_data). z ++ c.in_ok-node.node ∷ []) c.in_ok-reserve.ensures.items in
    spots_push old c.push_reserved.new.self.items c.in_ok-node.node (owing_receive (even c.args.state) c.args.peer c.args.arm) p c.in_ok-node.ensures.spot

pub returns-clause-longer : goal.returns-clause-longer
returns-clause-longer c =
    let old = c.args.nodes.now.items in
    let p : c.push_reserved.new.self.items ≡ old ++ c.in_ok-node.node ∷ []
    = c.push_reserved.ensures.items ∙ ap (λ (z : List DNode_data). z ++ c.in_ok-node.node ∷ []) c.in_ok-reserve.ensures.items in
    longer_push old c.push_reserved.new.self.items c.in_ok-node.node p c.in_ok-node.ensures.rank

pub returns-clause-bounded : goal.returns-clause-bounded
returns-clause-bounded c =
    let old = c.args.nodes.now.items in
    let p : c.push_reserved.new.self.items ≡ old ++ c.in_ok-node.node ∷ []
    = c.push_reserved.ensures.items ∙ ap (λ (z : List DNode_data). z ++ c.in_ok-node.node ∷ []) c.in_ok-reserve.ensures.items in
    let more : length c.push_reserved.new.self.items ≡ length old + 1 = ap (λ (z : List DNode_data). length z) p ∙ length-append old (c.in_ok-node.node ∷ []) in
    let l : c.len-n.result ≡ length old = grind (arith, c.len-n.ensures) in
    let a = c.requires.bounded in let ne = c.if-n-eq-MOST_CANDIDATES.false in grind arith
