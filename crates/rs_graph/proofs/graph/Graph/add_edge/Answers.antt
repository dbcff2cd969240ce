use Rattle.std.proofs.Common.{rules, arith, ◌≡◌, ◌<◌, ◌∷◌, [], ◌++◌, List, ℕ, length, slice_index_or, slice_set, refl, ap, ◌∙◌, suc, zero}
use Rattle.std.proofs.lemmas.List.{get_or-set_same}
use Rattle.rs_graph.specs.Graphs.{Graph_data}
use Rattle.rs_graph.specs.declared.graph.Move.{Move}
use Rattle.rs_graph.proofs.graph.Graph.add_edge.Goals as goal

set_back : {X : Type 0} (xs : List X) (i : ℕ) (y : X) → i < length xs → y ≡ slice_index_or xs i y → slice_set xs i y ≡ xs
set_back [] i y h e = let bad : ⊥ = omega arith in absurd bad
set_back (x ∷ xs) zero y h e = ap (λ z. z ∷ xs) e
set_back (x ∷ xs) (suc i) y h e = ap (λ z. x ∷ z) (set_back xs i y (omega arith) e)

set_again : {X : Type 0} (xs : List X) (i : ℕ) (y z : X) → slice_set (slice_set xs i y) i z ≡ slice_set xs i z
set_again [] i y z = refl
set_again (x ∷ xs) zero y z = refl
set_again (x ∷ xs) (suc i) y z = ap (λ w. x ∷ w) (set_again xs i y z)

abbrev mk : List (List (List ℕ)) → List (List Move) → Graph_data
mk outs intos = record { outs = outs; intos = intos }

pub returns-then-is_err-clause-err : goal.returns-then-is_err-clause-err
returns-then-is_err-clause-err c =
    let a : c.push_at.new.self ≡ c.index_mut-2.result.now = search rules in
    let b : c.push.new.self ≡ c.index_mut.result.now ++ (record { node = c.args.node; place = c.args.place }) ∷ [] = search rules in
    let outs = c.self.inside.outs.items in
    let intos = c.self.inside.intos.items in
    let ho : c.args.node < length outs = (let v = ap (λ (z : Graph_data). length z.outs) c.self.view_is in let h = c.requires.present in omega arith) in
    let hi : c.args.target < length intos = (let v = ap (λ (z : Graph_data). length z.outs) c.self.view_is in let h = c.requires.target in let k = c.self.invariant in omega arith) in
    let o : slice_set outs c.args.node c.push_at.new.self ≡ outs
    = ap (λ (z : List (List ℕ)). slice_set outs c.args.node z) a ∙ set_back outs c.args.node c.index_mut-2.result.now ho c.index_mut-2.ensures.value in
    let p : c.index_mut-then-is_err.result.now ≡ c.push.new.self = c.index_mut-then-is_err.ensures.value ∙ get_or-set_same intos c.args.target c.push.new.self c.index_mut-then-is_err.result.now hi in
    let q : c.pop.new.self ≡ c.index_mut.result.now = c.pop.ensures (record { node = c.args.node; place = c.args.place }) c.index_mut.result.now (p ∙ b) in
    let i : slice_set (slice_set intos c.args.target c.push.new.self) c.args.target c.pop.new.self ≡ intos =
    set_again intos c.args.target c.push.new.self c.pop.new.self ∙ ap (λ (z : List Move). slice_set intos c.args.target z) q
    ∙ set_back intos c.args.target c.index_mut.result.now hi c.index_mut.ensures.value in
    let x : (record { outs = slice_set outs c.args.node c.push_at.new.self; intos = slice_set (slice_set intos c.args.target c.push.new.self) c.args.target c.pop.new.self }) ≡ c.args.self.now =
    ap (λ (z : List (List (List ℕ))). mk z (slice_set (slice_set intos c.args.target c.push.new.self) c.args.target c.pop.new.self)) o ∙ ap (λ (z : List (List Move)). mk outs z) i ∙ c.self.view_is in
    x
