use Rattle.std.proofs.Common.{arith, ◌≡◌, ◌≢◌, ◌<◌, ◌≤◌, ◌+◌, ◌++◌, ◌∷◌, [], ◌∙◌, ℕ, List, length, length-append, slice_get, get_or, take, Some, ap, refl, sym, subst}
use Rattle.std.proofs.lemmas.List.{get_or_default, length-map, map_push, take-append-le}
use Rattle.std.proofs.lemmas.Option.{same_Some}
use Rattle.std.proofs.lemmas.Result.{IfOk-weaker, MatchResult-weaker}
use Rattle.rs_model.specs.declared.machines.Act.{Act}
use Rattle.rs_derive.specs.Targets.{target_spot}
use Rattle.rs_derive.specs.Data.{DNode_data}
use Rattle.rs_derive.specs.Derivations.{spot_of}
use Rattle.rs_derive.specs.Moves.{Spot}
use Rattle.rs_derive.specs.Within.{IsPlaceWithin}
use Rattle.rs_derive.specs.declared.targets.EdgeTarget.{EdgeTarget}
use Rattle.rs_graph.proofs.Growth.{at_short, named_known}
use Rattle.rs_graph.specs.Naming.{IsNamed}
use Rattle.rs_search.specs.Buckets.{acts_code, bucket_by, bucket_of_spot}
use Rattle.rs_model.specs.Chains.{IsChained}
use Rattle.rs_search.specs.Table.{IsNamedAt, IsWithinAt, SpotTable_data, links_of, nexts_of_nodes, spots_of}
use Rattle.rs_search.specs.declared.table.Entry.{Entry}
use Rattle.rs_search.proofs.Filing.{code_at, entry_there, is_added, node_there, spot_there, table_push}
use Rattle.rs_search.proofs.table.SpotTable.number_of.Goals as goal

-- the known rows stay with one node more
rows_push : (nodes new : List DNode_data) (known : ℕ) (node : DNode_data) → known ≤ length nodes → new ≡ nodes ++ node ∷ [] → take known (nexts_of_nodes new) ≡ take known (nexts_of_nodes nodes)
rows_push nodes new known node h e =
    let l = length-map nodes (λ (n : DNode_data). n.next) in
    ap (λ (z : List DNode_data). take known (nexts_of_nodes z)) e ∙ ap (take known) (map_push (λ (n : DNode_data). n.next) nodes node)
    ∙ take-append-le known (nexts_of_nodes nodes) (node.next ∷ []) (omega arith)

-- the place that a change names is one of what its node owes
place_there : (nodes : List DNode_data) (spots : List Spot) (k : ℕ) (x : DNode_data) (pending : List Act) (target : EdgeTarget) → spots_of nodes ≡ spots → k < length spots → x ≡ get_or nodes k x
    → x.pending ≡ pending → IsWithinAt spots k target → IsPlaceWithin (length pending) target.change
place_there nodes spots k x pending target es lt h pe within =
    subst (λ (z : List Act). IsPlaceWithin (length z) target.change) pe (within (spot_of x) (spot_there nodes spots k x es lt h))

pub code_behind-code-requires-clause-within : goal.code_behind-code-requires-clause-within
code_behind-code-requires-clause-within c =
    place_there c.self.inside.nodes.items c.args.self.now.spots c.args.k c.index-from.result.now c.as_slice-pending.result.now c.args.target
    (ap (λ (t : SpotTable_data). t.spots) c.self.view_is) c.requires.within.present c.index-from.ensures
    (ap (λ (n : DNode_data). n.pending) (sym c.from.view_is) ∙ sym c.as_slice-pending.ensures) c.requires.place

pub code_behind-code-requires-clause-code : goal.code_behind-code-requires-clause-code
code_behind-code-requires-clause-code c =
    let nodes = c.self.inside.nodes.items in
    let heads = c.self.inside.index.heads.items in
    let entries = c.self.inside.index.entries.items in
    let spots = c.args.self.now.spots in
    let k = c.args.k in
    let x = c.index-from.result.now in
    let es : spots_of nodes ≡ spots = ap (λ (t : SpotTable_data). t.spots) c.self.view_is in
    let at : slice_get spots k ≡ Some (spot_of x) = spot_there nodes spots k x es c.requires.within.present c.index-from.ensures in
    let pe : x.pending ≡ c.as_slice-pending.result.now = ap (λ (n : DNode_data). n.pending) (sym c.from.view_is) ∙ sym c.as_slice-pending.ensures in
    let n = node_there nodes spots k x es c.requires.within.present c.index-from.ensures in
    code_at nodes entries k x c.index.result.now c.self.invariant.coded n
    (entry_there nodes heads entries c.self.inside.known k c.index.result.now c.self.invariant (at_short nodes k x n) c.index.ensures) ∙ ap (acts_code 0) pe

pub seek-requires-clause-within : goal.seek-requires-clause-within
seek-requires-clause-within c =
    let nodes = c.self.inside.nodes.items in
    let heads = c.self.inside.index.heads.items in
    let b = c.bucket_by-bucket.result in
    let lt : b < length heads = (let l = c.len.ensures in let w = c.bucket_by-bucket.ensures.within in omega arith) in
    let h = c.index-link.ensures ∙ get_or_default heads b c.index-link.result.now 0 lt in
    let w = c.self.invariant.chained.within b in
    let l = length-map nodes spot_of in
    let d = ap (λ (z : List DNode_data). length z) c.deref.ensures.value in
    omega arith

pub seek-requires-clause-place : goal.seek-requires-clause-place
seek-requires-clause-place c =
    place_there c.self.inside.nodes.items c.args.self.now.spots c.args.k c.index-from.result.now c.as_slice-pending.result.now c.args.target
    (ap (λ (t : SpotTable_data). t.spots) c.self.view_is) c.requires.within.present c.index-from.ensures
    (ap (λ (n : DNode_data). n.pending) (sym c.from.view_is) ∙ sym c.as_slice-pending.ensures) c.requires.place

pub returns-in-Some-clause-named : goal.returns-in-Some-clause-named
returns-in-Some-clause-named c =
    let nodes = c.self.inside.nodes.items in
    let heads = c.self.inside.index.heads.items in
    let entries = c.self.inside.index.entries.items in
    let spots = c.args.self.now.spots in
    let k = c.args.k in
    let x = c.index-from.result.now in
    let es : spots_of nodes ≡ spots = ap (λ (t : SpotTable_data). t.spots) c.self.view_is in
    let at : slice_get spots k ≡ Some (spot_of x) = spot_there nodes spots k x es c.requires.within.present c.index-from.ensures in
    let pe : x.pending ≡ c.as_slice-pending.result.now = ap (λ (n : DNode_data). n.pending) (sym c.from.view_is) ∙ sym c.as_slice-pending.ensures in
    λ p h. named_known spots (target_spot p.pending c.args.target) c.in-Some.n
    (ap (λ (z : List Spot). slice_get z c.in-Some.n) (sym (ap spots_of c.deref.ensures.value ∙ es)) ∙ c.in-Some.ensures
    ∙ ap (λ (z : List Act). Some (target_spot z c.args.target)) (sym pe ∙ ap (λ (s : Spot). s.pending) (same_Some (spot_of x) p (sym at ∙ h))))

pub node_at-requires : goal.node_at-requires
node_at-requires c =
    let nodes = c.self.inside.nodes.items in
    let heads = c.self.inside.index.heads.items in
    let entries = c.self.inside.index.entries.items in
    let spots = c.args.self.now.spots in
    let k = c.args.k in
    let x = c.index-from.result.now in
    let es : spots_of nodes ≡ spots = ap (λ (t : SpotTable_data). t.spots) c.self.view_is in
    let at : slice_get spots k ≡ Some (spot_of x) = spot_there nodes spots k x es c.requires.within.present c.index-from.ensures in
    subst (λ (z : List Act). IsPlaceWithin (length z) c.args.target.change) (ap (λ (n : DNode_data). n.pending) (sym c.from.view_is)) (c.requires.place (spot_of x) at)

pub returns-clause-named : goal.returns-clause-named
returns-clause-named c =
    let nodes = c.self.inside.nodes.items in
    let heads = c.self.inside.index.heads.items in
    let entries = c.self.inside.index.entries.items in
    let spots = c.args.self.now.spots in
    let k = c.args.k in
    let x = c.index-from.result.now in
    let es : spots_of nodes ≡ spots = ap (λ (t : SpotTable_data). t.spots) c.self.view_is in
    let at : slice_get spots k ≡ Some (spot_of x) = spot_there nodes spots k x es c.requires.within.present c.index-from.ensures in
    let pe : x.pending ≡ c.as_slice-pending.result.now = ap (λ (n : DNode_data). n.pending) (sym c.from.view_is) ∙ sym c.as_slice-pending.ensures in
    let q = target_spot c.as_slice-pending.result.now c.args.target in
    let el : c.len.result ≡ length heads = grind (arith, c.len.ensures) in
    let lt : c.bucket_by-bucket.result < length heads = (let b = c.bucket_by-bucket.ensures.within in omega arith) in
    let eb : c.bucket_by-bucket.result ≡ bucket_of_spot (length heads) q =
    c.bucket_by-bucket.ensures.bucket ∙ ap (λ (z : ℕ). bucket_by z c.code_behind-code.result c.args.target.state c.args.target.above) el
    ∙ ap (λ (z : ℕ). bucket_by (length heads) z c.args.target.state c.args.target.above) c.code_behind-code.ensures in
    let eh = c.index-link.ensures ∙ get_or_default heads c.bucket_by-bucket.result c.index-link.result.now 0 lt in
    let none : (n : ℕ) → IsChained (links_of entries) c.index-link.result.now n → slice_get (spots_of nodes) n ≢ Some q = λ n ch e.
    c.in_default.ensures n (subst (λ (z : List Entry). IsChained (links_of z) c.index-link.result.now n) (sym c.deref-2.ensures.value) ch)
    (ap (λ (z : List DNode_data). slice_get (spots_of z) n) c.deref.ensures.value ∙ e) in
    let ep : spot_of c.in_ok-node.node ≡ q = c.in_ok-node.ensures.spot ∙ ap (λ (z : List Act). target_spot z c.args.target) (sym c.as_slice-pending.ensures) in
    let is : (p : Spot) → slice_get spots k ≡ Some p → IsNamed spots (target_spot p.pending c.args.target) (spots_of c.add.new.nodes.items) c.len-n.result =
    λ p h.
    let er : q ≡ target_spot p.pending c.args.target = ap (λ (z : List Act). target_spot z c.args.target) (sym pe ∙ ap (λ (s : Spot). s.pending) (same_Some (spot_of x) p (sym at ∙ h))) in
    is_added nodes c.add.new.nodes.items spots heads entries q
    (target_spot p.pending c.args.target) c.bucket_by-bucket.result c.index-link.result.now c.len-n.result c.in_ok-node.node es c.self.invariant.chained eb eh none
    c.in_ok-add.ensures.filed.nodes_are ep er (grind (arith, c.len-n.ensures)) in
    IfOk-weaker c.number_within.result (λ m. m ≡ c.len-n.result) (IsNamedAt spots k c.args.target (spots_of c.add.new.nodes.items))
    (λ m e p h. subst (λ (z : ℕ). IsNamed spots (target_spot p.pending c.args.target) (spots_of c.add.new.nodes.items) z) (sym e) (is p h)) c.number_within.ensures.number

pub returns-clause-adds : goal.returns-clause-adds
returns-clause-adds c =
    let nodes = c.self.inside.nodes.items in
    let heads = c.self.inside.index.heads.items in
    let entries = c.self.inside.index.entries.items in
    let spots = c.args.self.now.spots in
    let k = c.args.k in
    let x = c.index-from.result.now in
    let es : spots_of nodes ≡ spots = ap (λ (t : SpotTable_data). t.spots) c.self.view_is in
    let at : slice_get spots k ≡ Some (spot_of x) = spot_there nodes spots k x es c.requires.within.present c.index-from.ensures in
    let pe : x.pending ≡ c.as_slice-pending.result.now = ap (λ (n : DNode_data). n.pending) (sym c.from.view_is) ∙ sym c.as_slice-pending.ensures in
    let q = target_spot c.as_slice-pending.result.now c.args.target in
    let el : c.len.result ≡ length heads = grind (arith, c.len.ensures) in
    let lt : c.bucket_by-bucket.result < length heads = (let b = c.bucket_by-bucket.ensures.within in omega arith) in
    let eb : c.bucket_by-bucket.result ≡ bucket_of_spot (length heads) q =
    c.bucket_by-bucket.ensures.bucket ∙ ap (λ (z : ℕ). bucket_by z c.code_behind-code.result c.args.target.state c.args.target.above) el
    ∙ ap (λ (z : ℕ). bucket_by (length heads) z c.args.target.state c.args.target.above) c.code_behind-code.ensures in
    let eh = c.index-link.ensures ∙ get_or_default heads c.bucket_by-bucket.result c.index-link.result.now 0 lt in
    let none : (n : ℕ) → IsChained (links_of entries) c.index-link.result.now n → slice_get (spots_of nodes) n ≢ Some q = λ n ch e.
    c.in_default.ensures n (subst (λ (z : List Entry). IsChained (links_of z) c.index-link.result.now n) (sym c.deref-2.ensures.value) ch)
    (ap (λ (z : List DNode_data). slice_get (spots_of z) n) c.deref.ensures.value ∙ e) in
    let ep : spot_of c.in_ok-node.node ≡ q = c.in_ok-node.ensures.spot ∙ ap (λ (z : List Act). target_spot z c.args.target) (sym c.as_slice-pending.ensures) in
    λ p h.
    let er : q ≡ target_spot p.pending c.args.target = ap (λ (z : List Act). target_spot z c.args.target) (sym pe ∙ ap (λ (s : Spot). s.pending) (same_Some (spot_of x) p (sym at ∙ h))) in
    (is_added nodes c.add.new.nodes.items spots heads entries q (target_spot p.pending c.args.target) c.bucket_by-bucket.result c.index-link.result.now
    (length nodes) c.in_ok-node.node es c.self.invariant.chained eb eh none c.in_ok-add.ensures.filed.nodes_are ep er refl).adds

pub returns-clause-limit : goal.returns-clause-limit
returns-clause-limit c =
    let nodes = c.self.inside.nodes.items in
    let en : c.len-n.result ≡ length nodes = grind (arith, c.len-n.ensures) in
    let more : length (spots_of c.add.new.nodes.items) ≡ length nodes + 1 =
    length-map c.add.new.nodes.items spot_of ∙ ap (λ (z : List DNode_data). length z) c.in_ok-add.ensures.filed.nodes_are ∙ length-append nodes (c.in_ok-node.node ∷ []) in
    MatchResult-weaker c.number_within.result c.number_within.ensures.limit (λ m lt. omega arith) (λ e le is. omega arith)

pub add-requires-clause-before : goal.add-requires-clause-before
add-requires-clause-before c =
    let heads = c.self.inside.index.heads.items in
    let el : c.len.result ≡ length heads = grind (arith, c.len.ensures) in
    let lt : c.bucket_by-bucket.result < length heads = (let b = c.bucket_by-bucket.ensures.within in omega arith) in
    let ep : spot_of c.in_ok-node.node ≡ target_spot c.as_slice-pending.result.now c.args.target
    = c.in_ok-node.ensures.spot ∙ ap (λ (z : List Act). target_spot z c.args.target) (sym c.as_slice-pending.ensures) in
    let eb : c.bucket_by-bucket.result ≡ bucket_of_spot (length heads) (target_spot c.as_slice-pending.result.now c.args.target) =
    c.bucket_by-bucket.ensures.bucket ∙ ap (λ (z : ℕ). bucket_by z c.code_behind-code.result c.args.target.state c.args.target.above) el
    ∙ ap (λ (z : ℕ). bucket_by (length heads) z c.args.target.state c.args.target.above) c.code_behind-code.ensures in
    record { within = lt; its = eb ∙ ap (bucket_of_spot (length heads)) (sym ep); link = c.index-link.ensures ∙ get_or_default heads c.bucket_by-bucket.result c.index-link.result.now 0 lt }

pub invariant_of-self : goal.invariant_of-self
invariant_of-self c = let s = c.in_err-add.ensures.stays in rw (s.nodes_stay, s.heads_stay, s.entries_stay) c.self.invariant

pub invariant_of-self-2 : goal.invariant_of-self-2
invariant_of-self-2 c =
    let ep : spot_of c.in_ok-node.node ≡ target_spot c.as_slice-pending.result.now c.args.target
    = c.in_ok-node.ensures.spot ∙ ap (λ (z : List Act). target_spot z c.args.target) (sym c.as_slice-pending.ensures) in
    table_push c.self.inside.nodes.items c.add.new.nodes.items c.self.inside.index.heads.items c.add.new.index.heads.items c.self.inside.index.entries.items c.add.new.index.entries.items
    c.self.inside.known c.code_behind-code.result c.in_ok-node.node
    c.in_ok-add.ensures.filed.nodes_are c.in_ok-add.ensures.filed.codes
    (c.code_behind-code.ensures ∙ ap (λ (z : Spot). acts_code 0 z.pending) (sym ep)) c.add.ensures.size c.in_ok-add.ensures.filed.chained c.self.invariant

pub returns-clause-rows : goal.returns-clause-rows
returns-clause-rows c =
    rows_push c.self.inside.nodes.items c.add.new.nodes.items c.self.inside.known c.in_ok-node.node c.self.invariant.within c.in_ok-add.ensures.filed.nodes_are
    ∙ ap (λ (t : SpotTable_data). t.rows) c.self.view_is
