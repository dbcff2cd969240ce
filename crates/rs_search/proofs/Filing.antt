-- The table of spots: codes, rows and ranks of its nodes.
use Rattle.std.proofs.Common.{◌≡◌, ◌≢◌, ℕ, ◌<◌, ◌≤◌, ◌+◌, List, [], ◌∷◌, ◌++◌, length, map, refl, sym, ap, ◌∙◌, subst, arith, zero, suc, Some, slice_get, get_or, set, take, replicate, ◌^◌}
use Rattle.std.proofs.Common.{length-set, length-append}
use Rattle.std.proofs.lemmas.List.{length-map, length-replicate, map_push, map-set, set-get_or}
use Rattle.std.proofs.lemmas.Option.{none-some, same_Some}
use Rattle.rs_model.proofs.Lists.{zero_at}
use Rattle.rs_model.specs.declared.machines.Act.{Act}
use Rattle.rs_model.specs.declared.graph.Arm.{Arm}
use Rattle.rs_model.specs.declared.graph.Role.{Role}
use Rattle.rs_prefix.specs.declared.earliest.ActKind.{ActKind}
use Rattle.rs_derive.proofs.Mapped.{map_at, map_of}
use Rattle.rs_derive.specs.Targets.{target_spot}
use Rattle.rs_derive.specs.declared.targets.EdgeTarget.{EdgeTarget}
use Rattle.rs_search.specs.Turns.{owing_by}
use Rattle.rs_derive.specs.Data.{DNode_data}
use Rattle.rs_derive.specs.Derivations.{spot_of}
use Rattle.rs_derive.specs.Moves.{Spot}
use Rattle.rs_search.specs.Buckets.{acts_code, bucket_by, bucket_of_spot, codes_of}
use Rattle.rs_graph.specs.Naming.{IsNamed}
use Rattle.rs_graph.specs.Lists.{Among}
use Rattle.rs_graph.proofs.Growth.{at_short, named_new, reads_at, take_on}
use Rattle.rs_model.specs.Chains.{AllAreChained, IsChained}
use Rattle.rs_search.specs.Nodes.{AreNodes, node_at_spot, places_of}
use Rattle.rs_search.specs.Table.{IsTable, codes_in, links_of, nexts_of_nodes, ranks_of, spots_of}
use Rattle.rs_search.specs.declared.table.Entry.{Entry}
use Rattle.rs_search.proofs.Chains.{chained_none, chained_push, not_chained}
use Rattle.rs_search.proofs.Places.{place_is}

-- the code of acts put together
pub code_append : (xs ys : List Act) (c : ℕ) → acts_code c (xs ++ ys) ≡ acts_code (acts_code c xs) ys
code_append [] ys c = refl
code_append (x ∷ xs) ys c = code_append xs ys (acts_code c (x ∷ []))

-- what stands at a place of a list of results
pub take_set : {X : Type 0} (xs : List X) (k : ℕ) (x : X) → k < length xs → take (k + 1) (set xs k x) ≡ take k xs ++ x ∷ []
take_set [] k x lt = let bad : ⊥ = omega arith in absurd bad
take_set (y ∷ ys) zero x lt = refl
take_set (y ∷ ys) (suc k) x lt = let e : suc k + 1 ≡ suc (k + 1) = omega arith in ap (λ n. take n (y ∷ set ys k x)) e ∙ ap (λ z. y ∷ z) (take_set ys k x (omega arith))

pub take_long : {X : Type 0} (xs : List X) (k : ℕ) → k ≤ length xs → length (take k xs) ≡ k
take_long xs zero le = none xs
  where
    none : {X : Type 0} (xs : List X) → length (take 0 xs) ≡ 0
    none [] = refl
    none (y ∷ ys) = refl
take_long [] (suc k) le = let bad : ⊥ = omega arith in absurd bad
take_long (y ∷ ys) (suc k) le = ap suc (take_long ys k (omega arith))

pub take_got : {X : Type 0} (xs : List X) (k n : ℕ) (x : X) → slice_get (take k xs) n ≡ Some x → slice_get xs n ≡ Some x
take_got [] zero n x e = e
take_got [] (suc k) n x e = e
take_got (y ∷ ys) zero n x e = absurd (none-some x e)
take_got (y ∷ ys) (suc k) zero x e = e
take_got (y ∷ ys) (suc k) (suc n) x e = take_got ys k n x e

-- the nodes of a table are those of its spots, rows and ranks
pub table_nodes : (nodes : List DNode_data) (known : ℕ) → AreNodes (spots_of nodes) (places_of 0 (spots_of nodes)) (take known (nexts_of_nodes nodes)) (ranks_of nodes) (length (spots_of nodes)) nodes
table_nodes nodes known = record {
  size = sym (length-map nodes spot_of);
  each = λ i n p row lt gi gp gr.
      let m = place_is (spots_of nodes) i n gi in
      let a = map_of spot_of nodes i p (subst (λ (z : ℕ). slice_get (spots_of nodes) z ≡ Some p) (sym m.0) gp) in
      let b = map_of (λ (n : DNode_data). n.next) nodes i row (take_got (nexts_of_nodes nodes) known i row gr) in
      let same : a.0 ≡ b.0 = same_Some a.0 b.0 (sym a.1 ∙ b.1) in
      let rank : get_or (ranks_of nodes) i 0 ≡ a.0.rank = get_is (ranks_of nodes) i a.0.rank (map_at (λ (n : DNode_data). n.rank) nodes i a.0 a.1) in
      let next : a.0.next ≡ row = ap (λ (n : DNode_data). n.next) same ∙ b.2 in
      let is : a.0 ≡ node_at_spot p (get_or (ranks_of nodes) i 0) row =
      ap (λ (z : Spot). node_at_spot z a.0.rank a.0.next) a.2 ∙ ap (λ (z : ℕ). node_at_spot p z a.0.next) (sym rank) ∙ ap (λ (z : List ℕ). node_at_spot p (get_or (ranks_of nodes) i 0) z) next in
      a.1 ∙ ap (λ (z : DNode_data). Some z) is;
}
  where
    get_is : (xs : List ℕ) (i x : ℕ) → slice_get xs i ≡ Some x → get_or xs i 0 ≡ x
    get_is [] i x e = absurd (none-some x e)
    get_is (y ∷ ys) zero x e = same_Some y x e
    get_is (y ∷ ys) (suc i) x e = get_is ys i x e

-- a table whose nodes are at the same spots
pub table_same : (nodes new : List DNode_data) (heads : List ℕ) (entries : List Entry) (known after : ℕ) → spots_of new ≡ spots_of nodes → after ≤ length new → IsTable nodes heads entries known
    → IsTable new heads entries after
table_same nodes new heads entries known after e le a = record {
  within = le;
  coded = a.coded ∙ ap codes_of (sym e);
  some = a.some;
  bounded = a.bounded;
  chained = subst (λ (z : List Spot). AllAreChained (bucket_of_spot (length heads)) z heads (links_of entries)) (sym e) a.chained;
}

-- an item with the same result is put at a place
same_results : {X Y : Type 0} (f : X → Y) (xs : List X) (k : ℕ) (y d : X) → f y ≡ f (get_or xs k d) → map f (set xs k y) ≡ map f xs
same_results f xs k y d e = map-set f xs k y ∙ ap (set (map f xs) k) e ∙ sym (map-set f xs k (get_or xs k d)) ∙ ap (map f) (set-get_or xs k d)

-- a node is put in the place of one at the same spot
pub same_spots : (nodes : List DNode_data) (k : ℕ) (old new : DNode_data) → old ≡ get_or nodes k old → spot_of new ≡ spot_of old → spots_of (set nodes k new) ≡ spots_of nodes
same_spots nodes k old new e h = same_results spot_of nodes k new old (h ∙ ap spot_of e)

pub same_nexts : (nodes : List DNode_data) (k : ℕ) (old new : DNode_data) → old ≡ get_or nodes k old → new.next ≡ old.next → nexts_of_nodes (set nodes k new) ≡ nexts_of_nodes nodes
same_nexts nodes k old new e h = same_results (λ (n : DNode_data). n.next) nodes k new old (h ∙ ap (λ (n : DNode_data). n.next) e)

pub same_ranks : (nodes : List DNode_data) (k : ℕ) (old new : DNode_data) → old ≡ get_or nodes k old → new.rank ≡ old.rank → ranks_of (set nodes k new) ≡ ranks_of nodes
same_ranks nodes k old new e h = same_results (λ (n : DNode_data). n.rank) nodes k new old (h ∙ ap (λ (n : DNode_data). n.rank) e)

pub new_ranks : (nodes : List DNode_data) (k : ℕ) (new : DNode_data) → ranks_of (set nodes k new) ≡ set (ranks_of nodes) k new.rank
new_ranks nodes k new = map-set (λ (n : DNode_data). n.rank) nodes k new

pub new_rows : (nodes : List DNode_data) (k : ℕ) (new : DNode_data) → k < length nodes → take (k + 1) (nexts_of_nodes (set nodes k new)) ≡ take k (nexts_of_nodes nodes) ++ new.next ∷ []
new_rows nodes k new lt =
    ap (take (k + 1)) (map-set (λ (n : DNode_data). n.next) nodes k new) ∙ take_set (nexts_of_nodes nodes) k new.next (let l = length-map nodes (λ (n : DNode_data). n.next) in omega arith)

-- one row more may be noted
pub row_fits : (nodes : List DNode_data) (known : ℕ) → known ≤ length nodes → length (take known (nexts_of_nodes nodes)) < length (spots_of nodes) → known < length nodes
row_fits nodes known le lt =
    let n = length-map nodes (λ (n : DNode_data). n.next) in
    let s = length-map nodes spot_of in
    let t = take_long (nexts_of_nodes nodes) known (omega arith) in omega arith

-- a table with one spot
pub table_begin : (heads : List ℕ) (size b : ℕ) (node : DNode_data) (p : Spot) → heads ≡ replicate size 0 → 0 < size → size < 2 ^ 32 → spot_of node ≡ p → p.pending ≡ [] → b ≡ bucket_of_spot size p
    → b < size
    → IsTable (node ∷ []) (set heads b 1) (record { code = 0; link = 0 } ∷ []) 0
table_begin heads size b node p eh some few ep en eb lt =
    let l : length heads ≡ size = ap (λ (z : List ℕ). length z) eh ∙ length-replicate {A = ℕ} size 0 in
    let k = length-set heads b 1 in
    let zero_head : 0 ≡ get_or heads b 0 = rw eh (sym (zero_at size b)) in
    let chained : AllAreChained (bucket_of_spot size) (p ∷ []) (set heads b 1) (0 ∷ [])
    = chained_push (bucket_of_spot size) [] heads [] (set heads b 1) (0 ∷ []) p b 0 0 eb (omega arith) refl zero_head refl refl (chained_none (bucket_of_spot size) heads [] size eh refl) in
    let at : AllAreChained (bucket_of_spot size) (spot_of node ∷ []) (set heads b 1) (0 ∷ []) =
    subst (λ (q : Spot). AllAreChained (bucket_of_spot size) (q ∷ []) (set heads b 1) (0 ∷ [])) (sym ep) chained in
    record {
      within = omega arith;
      coded = ap (λ (z : List Act). acts_code 0 z ∷ []) (sym (ap (λ (z : Spot). z.pending) ep ∙ en));
      some = omega arith;
      bounded = omega arith;
      chained = subst (λ (z : ℕ). AllAreChained (bucket_of_spot z) (spot_of node ∷ []) (set heads b 1) (0 ∷ [])) (sym (k ∙ l)) at;
    }

-- one spot more
pub table_push : (nodes new : List DNode_data) (heads heads' : List ℕ) (entries entries' : List Entry) (known code : ℕ) (node : DNode_data) → new ≡ nodes ++ node ∷ []
    → codes_in entries' ≡ codes_in entries ++ code ∷ []
    → code ≡ acts_code 0 node.pending → length heads' ≡ length heads → AllAreChained (bucket_of_spot (length heads)) (spots_of new) heads' (links_of entries') → IsTable nodes heads entries known
    → IsTable new heads' entries' known
table_push nodes new heads heads' entries entries' known code node e ec is size chained a = rw e record {
  within = (let l = length-append nodes (node ∷ []) in let w = a.within in omega arith);
  coded = ec ∙ ap (λ (z : List ℕ). z ++ code ∷ []) a.coded ∙ ap (λ (z : ℕ). codes_of (spots_of nodes) ++ z ∷ []) is
      ∙ sym (map_push (λ (p : Spot). acts_code 0 p.pending) (spots_of nodes) (spot_of node)) ∙ ap codes_of (sym (map_push spot_of nodes node));
  some = (let s = a.some in omega arith);
  bounded = (let s = a.bounded in omega arith);
  chained = subst (λ (z : List DNode_data). AllAreChained (bucket_of_spot (length heads')) (spots_of z) heads' (links_of entries')) e
      (subst (λ (z : ℕ). AllAreChained (bucket_of_spot z) (spots_of new) heads' (links_of entries')) (sym size) chained);
}

-- the code that is filed of a node
pub code_at : (nodes : List DNode_data) (entries : List Entry) (k : ℕ) (node : DNode_data) (entry : Entry) → codes_in entries ≡ codes_of (spots_of nodes) → slice_get nodes k ≡ Some node
    → slice_get entries k ≡ Some entry → entry.code ≡ acts_code 0 node.pending
code_at nodes entries k node entry e n f =
    let a = map_at (λ (x : Entry). x.code) entries k entry f in
    let b = map_at (λ (p : Spot). acts_code 0 p.pending) (spots_of nodes) k (spot_of node) (map_at spot_of nodes k node n) in
    same_Some entry.code (acts_code 0 node.pending) (sym a ∙ ap (λ (z : List ℕ). slice_get z k) e ∙ b)

-- the node at a number, and its spot
pub node_there : (nodes : List DNode_data) (spots : List Spot) (k : ℕ) (x : DNode_data) → spots_of nodes ≡ spots → k < length spots → x ≡ get_or nodes k x → slice_get nodes k ≡ Some x
node_there nodes spots k x e lt h = reads_at nodes k x x (let l = length-map nodes spot_of in let m = ap (λ (z : List Spot). length z) e in omega arith) (sym h)

pub spot_there : (nodes : List DNode_data) (spots : List Spot) (k : ℕ) (x : DNode_data) → spots_of nodes ≡ spots → k < length spots → x ≡ get_or nodes k x → slice_get spots k ≡ Some (spot_of x)
spot_there nodes spots k x e lt h = subst (λ (z : List Spot). slice_get z k ≡ Some (spot_of x)) e (map_at spot_of nodes k x (node_there nodes spots k x e lt h))

pub entry_there : (nodes : List DNode_data) (heads : List ℕ) (entries : List Entry) (known k : ℕ) (x : Entry) → IsTable nodes heads entries known → k < length nodes → x ≡ get_or entries k x
    → slice_get entries k ≡ Some x
entry_there nodes heads entries known k x a lt h =
    reads_at entries k x x (let l = length-map nodes spot_of in let m = length-map entries (λ (e : Entry). e.link) in let s = a.chained.size in omega arith) (sym h)

-- a spot that no number of its chain has is added at the end
pub is_added : (nodes new : List DNode_data) (spots : List Spot) (heads : List ℕ) (entries : List Entry) (q r : Spot) (b head n : ℕ) (node : DNode_data) → spots_of nodes ≡ spots
    → AllAreChained (bucket_of_spot (length heads)) (spots_of nodes) heads (links_of entries) → b ≡ bucket_of_spot (length heads) q → head ≡ get_or heads b 0
    → ((n : ℕ) → IsChained (links_of entries) head n → slice_get (spots_of nodes) n ≢ Some q)
    → new ≡ nodes ++ node ∷ [] → spot_of node ≡ q → q ≡ r → n ≡ length nodes → IsNamed spots r (spots_of new) n
is_added nodes new spots heads entries q r b head n node es chained eb eh none en ep er el =
    let longer : spots_of new ≡ spots ++ r ∷ [] = ap spots_of en ∙ map_push spot_of nodes node ∙ ap (λ (z : List Spot). z ++ spot_of node ∷ []) es ∙ ap (λ (z : Spot). spots ++ z ∷ []) (ep ∙ er) in
    named_new spots (spots_of new) r n
    (λ m. not_chained (bucket_of_spot (length heads)) (spots_of nodes) heads (links_of entries) q b head eb eh chained none
    (subst (λ (z : List Spot). Among z q) (sym es) (subst (λ (z : Spot). Among spots z) (sym er) m)))
    longer (el ∙ sym (length-map nodes spot_of) ∙ ap (λ (z : List Spot). length z) es)

-- a list of one
pub one_item : {X : Type 0} (xs : List X) (d : X) → 0 < length xs → length xs < 2 → xs ≡ get_or xs 0 d ∷ []
one_item [] d some few = let bad : ⊥ = omega arith in absurd bad
one_item (x ∷ []) d some few = refl
one_item (x ∷ y ∷ xs) d some few = let bad : ⊥ = omega arith in absurd bad

-- the only arm by which the projection has sent or received
pub owing_one : (kind : ActKind) (peer : Role) (arms : List Arm) (d : Arm) (t : EdgeTarget) (x p : Spot) → 0 < length arms → length arms < 2
    → target_spot x.pending t ≡ owing_by kind x peer (get_or arms 0 d)
    → x ≡ p
    → target_spot p.pending t ∷ [] ≡ map (λ b. owing_by kind p peer b) arms
owing_one kind peer arms d t x p some few e q =
    ap (λ (z : Spot). z ∷ []) (ap (λ (z : Spot). target_spot z.pending t) (sym q) ∙ e ∙ ap (λ (z : Spot). owing_by kind z peer (get_or arms 0 d)) q)
    ∙ ap (λ (z : List Arm). map (λ b. owing_by kind p peer b) z) (sym (one_item arms d some few))

-- one spot more is filed again
pub files_one_more : (nodes : List DNode_data) (entries : List Entry) (heads : List ℕ) (buckets number bucket head : ℕ) (node : DNode_data) (entry new : Entry) → slice_get nodes number ≡ Some node
    → slice_get entries number ≡ Some entry
    → codes_in entries ≡ codes_of (spots_of nodes) → bucket ≡ bucket_by buckets entry.code node.state node.above → bucket < length heads → head ≡ get_or heads bucket 0 → new.link ≡ head
    → AllAreChained (bucket_of_spot buckets) (take number (spots_of nodes)) heads (take number (links_of entries))
    → AllAreChained (bucket_of_spot buckets) (take (number + 1) (spots_of nodes)) (set heads bucket (number + 1)) (take (number + 1) (links_of (set entries number new)))
files_one_more nodes entries heads buckets number bucket head node entry new gn ge coded eb lt eh el a =
    let p = spot_of node in
    let b : bucket ≡ bucket_of_spot buckets p = eb ∙ ap (λ (z : ℕ). bucket_by buckets z node.state node.above) (code_at nodes entries number node entry coded gn ge) in
    let sn = at_short nodes number node gn in
    let se = at_short entries number entry ge in
    let long : number ≡ length (take number (spots_of nodes)) = sym (take_long (spots_of nodes) number (let l = length-map nodes spot_of in omega arith)) in
    let links : take (number + 1) (links_of (set entries number new)) ≡ take number (links_of entries) ++ head ∷ [] =
    ap (take (number + 1)) (map-set (λ (e : Entry). e.link) entries number new) ∙ take_set (links_of entries) number new.link (let l = length-map entries (λ (e : Entry). e.link) in omega arith)
    ∙ ap (λ (z : ℕ). take number (links_of entries) ++ z ∷ []) el in
    subst (λ (z : List Spot). AllAreChained (bucket_of_spot buckets) z (set heads bucket (number + 1)) (take (number + 1) (links_of (set entries number new))))
    (sym (take_on (spots_of nodes) number p (map_at spot_of nodes number node gn)))
    (chained_push (bucket_of_spot buckets) (take number (spots_of nodes)) heads (take number (links_of entries)) (set heads bucket (number + 1))
    (take (number + 1) (links_of (set entries number new))) p bucket head number b lt long eh links refl a)

-- the codes stay
pub same_codes : (entries : List Entry) (k : ℕ) (old new : Entry) → old ≡ get_or entries k old → new.code ≡ old.code → codes_in (set entries k new) ≡ codes_in entries
same_codes entries k old new e h = same_results (λ (x : Entry). x.code) entries k new old (h ∙ ap (λ (x : Entry). x.code) e)
