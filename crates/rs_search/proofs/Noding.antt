-- The nodes, one by one.
use Rattle.std.proofs.Common.{◌≡◌, map, inl, inr, ℕ, List, [], ◌∷◌, ◌++◌, get_or, refl, sym, ap, ◌∙◌, subst, arith, ◌+◌, Some, slice_get, length-append, Bool, false, if◌then◌else◌}
use Rattle.std.proofs.lemmas.Bool.{cases_lt}
use Rattle.std.proofs.lemmas.Option.{same_Some}
use Rattle.rs_derive.specs.Data.{DNode_data}
use Rattle.rs_derive.specs.Moves.{Spot}
use Rattle.rs_search.specs.Nodes.{AreKept, AreNodes, node_at_spot}
use Rattle.rs_graph.proofs.Growth.{push_at, push_new}

pub nodes_none : (points : List Spot) (items : List ℕ) (nexts : List (List ℕ)) (ranks : List ℕ) → AreNodes points items nexts ranks 0 []
nodes_none points items nexts ranks = record { size = refl; each = λ i n p row lt a b c. (let bad : ⊥ = omega arith in absurd bad) }

pub nodes_on : (points : List Spot) (items : List ℕ) (nexts : List (List ℕ)) (ranks : List ℕ) (i n rank : ℕ) (p : Spot) (row : List ℕ) (nodes new : List DNode_data) (node : DNode_data)
    → AreNodes points items nexts ranks i nodes
    → slice_get items i ≡ Some n → slice_get points n ≡ Some p → slice_get nexts i ≡ Some row → rank ≡ get_or ranks i 0 → node ≡ node_at_spot p rank row → new ≡ nodes ++ (node ∷ [])
    → AreNodes points items nexts ranks (i + 1) new
nodes_on points items nexts ranks i n rank p row nodes new node a gi gp gr er en e = rw e record {
  size = (let l = length-append nodes (node ∷ []) in let s = a.size in omega arith);
  each = λ k m q r lt b c d. elim (cases_lt k i) [
    | inl y ↦ push_at nodes node k (node_at_spot q (get_or ranks k 0) r) (a.each k m q r y b c d)
    | inr y ↦ (let ek : i ≡ k = omega arith in
        let b' : slice_get items i ≡ Some m = subst (λ (z : ℕ). slice_get items z ≡ Some m) (sym ek) b in
        let d' : slice_get nexts i ≡ Some r = subst (λ (z : ℕ). slice_get nexts z ≡ Some r) (sym ek) d in
        let em : n ≡ m = same_Some n m (sym gi ∙ b') in
        let ep : p ≡ q = same_Some p q (sym gp ∙ subst (λ (z : ℕ). slice_get points z ≡ Some q) (sym em) c) in
        let el : row ≡ r = same_Some row r (sym gr ∙ d') in
        let here : slice_get (nodes ++ (node ∷ [])) i ≡ Some node = subst (λ (z : ℕ). slice_get (nodes ++ (node ∷ [])) z ≡ Some node) a.size (push_new nodes node) in
        let is : node ≡ node_at_spot q (get_or ranks i 0) r = en ∙ ap (λ (z : Spot). node_at_spot z rank row) ep ∙ ap (λ (z : ℕ). node_at_spot q z row) er
        ∙ ap (λ (z : List ℕ). node_at_spot q (get_or ranks i 0) z) el in
        subst (λ (z : ℕ). slice_get (nodes ++ (node ∷ [])) z ≡ Some (node_at_spot q (get_or ranks z 0) r)) ek (here ∙ ap Some is))
  ];
}

pub kept_none : (keeps : List Bool) (items : List ℕ) (nexts : List (List ℕ)) → AreKept keeps items nexts 0 []
kept_none keeps items nexts = record { size = refl; each = λ i n row lt a b. (let bad : ⊥ = omega arith in absurd bad) }

pub kept_on : (keeps : List Bool) (items : List ℕ) (nexts : List (List ℕ)) (i n : ℕ) (b : Bool) (row this : List ℕ) (kept new : List (List ℕ)) → AreKept keeps items nexts i kept
    → slice_get items i ≡ Some n → slice_get nexts i ≡ Some row → b ≡ get_or keeps n false → this ≡ (if b then row else []) → new ≡ kept ++ (this ∷ []) → AreKept keeps items nexts (i + 1) new
kept_on keeps items nexts i n b row this kept new a gi gr eb et e = rw e record {
  size = (let l = length-append kept (this ∷ []) in let s = a.size in omega arith);
  each = λ k m r lt h g. elim (cases_lt k i) [
    | inl y ↦ push_at kept this k (if get_or keeps m false then r else []) (a.each k m r y h g)
    | inr y ↦ (let ek : i ≡ k = omega arith in
        let em : n ≡ m = same_Some n m (sym gi ∙ subst (λ (z : ℕ). slice_get items z ≡ Some m) (sym ek) h) in
        let er : row ≡ r = same_Some row r (sym gr ∙ subst (λ (z : ℕ). slice_get nexts z ≡ Some r) (sym ek) g) in
        let here : slice_get (kept ++ (this ∷ [])) i ≡ Some this = subst (λ (z : ℕ). slice_get (kept ++ (this ∷ [])) z ≡ Some this) a.size (push_new kept this) in
        let is : this ≡ (if get_or keeps m false then r else [])
        = et ∙ ap (λ (z : Bool). if z then row else []) eb ∙ ap (λ (z : ℕ). if get_or keeps z false then row else []) em ∙ ap (λ (z : List ℕ). if get_or keeps m false then z else []) er in
        subst (λ (z : ℕ). slice_get (kept ++ (this ∷ [])) z ≡ Some (if get_or keeps m false then r else [])) ek (here ∙ ap Some is))
  ];
}

-- the items of some pairs, and their rows
abbrev pub firsts : List (Spot × List ℕ) → List Spot
firsts ps = map (λ (p : Spot × List ℕ). p.0) ps
