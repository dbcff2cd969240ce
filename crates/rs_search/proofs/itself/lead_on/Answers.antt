use Rattle.std.proofs.Common.{arith, ◌≡◌, ◌<◌, [], ◌∷◌, ◌∙◌, ℕ, List, slice_get, slice_index_or, Some, length, sym, ap, subst, refl}
use Rattle.std.proofs.lemmas.Bool.{eq-eqb, eqb-true, false≢true}
use Rattle.std.proofs.lemmas.Option.{same_Some}
use Rattle.rs_derive.proofs.Mapped.{map_at}
use Rattle.rs_derive.specs.Data.{DNode_data}
use Rattle.rs_derive.specs.Derivations.{spot_of}
use Rattle.rs_derive.specs.Moves.{Spot}
use Rattle.rs_model.specs.declared.machines.Act.{Act}
use Rattle.rs_graph.proofs.Growth.{reads_at}
use Rattle.rs_search.specs.Itself.{even, nexts_itself}
use Rattle.rs_search.specs.Longer.{LeadsTo}
use Rattle.rs_search.specs.Spots.{spots_of}
use Rattle.rs_search.proofs.Alike.{above_within, even_of, nexts_owed, state_within}
use Rattle.rs_search.proofs.itself.lead_on.Goals as goal

-- the spot of the node that was read
spot_here : (nodes : List DNode_data) (known : ℕ) (x : DNode_data) → known < length nodes → x ≡ slice_index_or nodes known x → slice_get (spots_of nodes) known ≡ Some (spot_of x)
spot_here nodes known x lt e = map_at spot_of nodes known x (reads_at nodes known x x lt (sym e))

empty_is : (xs : List Act) → length xs ≡ 0 → xs ≡ []
empty_is [] e = refl
empty_is (x ∷ xs) e = let bad : ⊥ = omega arith in absurd bad

same_spot : (nodes : List DNode_data) (known : ℕ) (x : DNode_data) (p : Spot) → slice_get (spots_of nodes) known ≡ Some (spot_of x) → slice_get (spots_of nodes) known ≡ Some p → spot_of x ≡ p
same_spot nodes known x p e h = same_Some (spot_of x) p (sym e ∙ h)

pub lead_even-requires-clause-present : goal.lead_even-requires-clause-present
lead_even-requires-clause-present c =
    let x = c.index-node.result.now in
    let here = spot_here c.args.nodes.now.items c.args.number x c.requires.here c.index-node.ensures in
    subst (λ (z : DNode_data). z.state < length c.args.machine.now.states) (sym c.node.view_is) (state_within c.args.machine.now (spot_of x) (c.requires.kind (spot_of x) here))

pub lead_even-requires-clause-fresh : goal.lead_even-requires-clause-fresh
lead_even-requires-clause-fresh c = λ q mem same.
    let x = c.index-node.result.now in
    let here = spot_here c.args.nodes.now.items c.args.number x c.requires.here c.index-node.ensures in
    let none : x.pending ≡ [] = ap (λ (z : DNode_data). z.pending) (sym c.node.view_is) ∙ sym c.as_slice.ensures
    ∙ empty_is c.as_slice.result.now (eqb-true (length c.as_slice.result.now) 0 (sym c.is_empty.ensures ∙ c.if-is_empty.true)) in
    c.requires.fresh (spot_of x) q here none mem (same ∙ ap (λ (z : DNode_data). z.state) c.node.view_is)

pub lead_to_one-requires-clause-present : goal.lead_to_one-requires-clause-present
lead_to_one-requires-clause-present c =
    let x = c.index-node.result.now in
    let here = spot_here c.args.nodes.now.items c.args.number x c.requires.here c.index-node.ensures in
    let size = c.requires.positions.size in
    let lt = above_within c.args.machine.now c.requires.proper (spot_of x) (c.requires.kind (spot_of x) here) in
    subst (λ (z : DNode_data). z.above < length c.args.places.now.items) (sym c.node.view_is) (omega arith)

pub returns-then-is_empty-clause-leads : goal.returns-then-is_empty-clause-leads
returns-then-is_empty-clause-leads c = λ p h.
    let x = c.index-node.result.now in
    let here = spot_here c.args.nodes.now.items c.args.number x c.requires.here c.index-node.ensures in
    let none : x.pending ≡ [] = ap (λ (z : DNode_data). z.pending) (sym c.node.view_is) ∙ sym c.as_slice.ensures
    ∙ empty_is c.as_slice.result.now (eqb-true (length c.as_slice.result.now) 0 (sym c.is_empty.ensures ∙ c.if-is_empty.true)) in
    let same : spot_of x ≡ p = same_spot c.args.nodes.now.items c.args.number x p here h in
    let is : p ≡ even c.node.inside.state
    = even_of c.args.machine.now p (c.requires.kind p h) (ap (λ (z : Spot). z.pending) (sym same) ∙ none) ∙ ap (λ (z : Spot). even z.state) (sym same)
    ∙ ap (λ (z : DNode_data). even z.state) (sym c.node.view_is) in
    subst (λ (z : Spot). LeadsTo c.args.nodes.now.items c.args.number (nexts_itself c.args.machine.now z) c.lead_even.new.nodes.items) (sym is) c.in_ok-lead_even.ensures.leads

pub returns-clause-leads : goal.returns-clause-leads
returns-clause-leads c = λ p h.
    let x = c.index-node.result.now in
    let here = spot_here c.args.nodes.now.items c.args.number x c.requires.here c.index-node.ensures in
    let some : x.pending ≡ [] → ⊥ = λ e.
    false≢true (sym c.if-is_empty.false ∙ c.is_empty.ensures
    ∙ eq-eqb (length c.as_slice.result.now) 0 (ap (λ (z : List Act). length z) (c.as_slice.ensures ∙ ap (λ (z : DNode_data). z.pending) c.node.view_is ∙ e))) in
    let same : spot_of x ≡ p = same_spot c.args.nodes.now.items c.args.number x p here h in
    let above : even c.node.inside.above ≡ even p.above = ap (λ (z : DNode_data). even z.above) c.node.view_is ∙ ap (λ (z : Spot). even z.above) same in
    let is : even c.node.inside.above ∷ [] ≡ nexts_itself c.args.machine.now p
    = ap (λ (z : Spot). z ∷ []) above ∙ nexts_owed c.args.machine.now p (λ z. some (ap (λ (w : Spot). w.pending) same ∙ z)) in
    subst (λ (z : List Spot). LeadsTo c.args.nodes.now.items c.args.number z c.lead_to_one.new.nodes.items) is c.in_ok-lead_to_one.ensures.leads
