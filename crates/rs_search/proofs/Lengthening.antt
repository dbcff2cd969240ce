-- What is said of a list of nodes stays true when it grows.
use Rattle.std.proofs.Common.{◌≡◌, ◌<◌, ◌≤◌, ◌+◌, ℕ, List, [], ◌∷◌, ◌++◌, length, refl, sym, ap, ◌∙◌, subst, arith, inl, inr, Some, Option, slice_get, take, take_all, length-set}
use Rattle.std.proofs.lemmas.List.{length-map, map_push}
use Rattle.std.proofs.lemmas.Option.{same_Some}
use Rattle.rs_model.specs.Data.{Machine_data}
use Rattle.rs_model.specs.declared.limits.TheConstants.{MOST_CANDIDATES}
use Rattle.rs_derive.proofs.Mapped.{map_at}
use Rattle.rs_derive.specs.Data.{DNode_data}
use Rattle.rs_derive.specs.Derivations.{IsProper, spot_of}
use Rattle.rs_derive.specs.Moves.{Spot}
use Rattle.rs_graph.proofs.Buckets.{got}
use Rattle.rs_graph.proofs.Growth.{at_short, at_within, named_none, named_push, push_at, push_is, take_kept}
use Rattle.rs_graph.specs.Lists.{Among}
use Rattle.rs_graph.specs.Naming.{IsNamed}
use Rattle.rs_search.proofs.Alike.{AreMade, made_all, made_fresh, made_none, made_on}
use Rattle.rs_search.proofs.Filing.{same_ranks, same_spots, take_long, take_set}
use Rattle.rs_search.specs.Canonical.{IsCanonical}
use Rattle.rs_search.specs.Itself.{ArePositions, even, nexts_itself}
use Rattle.rs_search.specs.Longer.{AreUnranked, HasGotNexts, IsLonger, LeadsOn, LeadsTo}
use Rattle.rs_search.specs.Nodes.{node_at_spot}
use Rattle.rs_search.specs.Spots.{ranks_of, spots_of}

pub spots_count : (nodes : List DNode_data) → length (spots_of nodes) ≡ length nodes
spots_count nodes = length-map nodes spot_of

pub spots_push : (old new : List DNode_data) (node : DNode_data) (p : Spot) → new ≡ old ++ (node ∷ []) → spot_of node ≡ p → spots_of new ≡ spots_of old ++ (p ∷ [])
spots_push old new node p e h = ap spots_of e ∙ map_push spot_of old node ∙ ap (λ (z : Spot). spots_of old ++ (z ∷ [])) h

-- lists that are longer

pub longer_same : (nodes : List DNode_data) → IsLonger nodes nodes
longer_same nodes = record { kept = λ i n e. e; unranked = λ u. u }

pub longer_on : (a b c : List DNode_data) → IsLonger a b → IsLonger b c → IsLonger a c
longer_on a b c f g = record { kept = λ i n e. g.kept i n (f.kept i n e); unranked = λ u. g.unranked (f.unranked u) }

pub longer_push : (old new : List DNode_data) (node : DNode_data) → new ≡ old ++ (node ∷ []) → node.rank ≡ 0 → IsLonger old new
longer_push old new node e r = rw e record {
  kept = λ i n h. push_at old node i n h;
  unranked = λ u i rank h. elim (push_is (ranks_of old) node.rank i rank (subst (λ (z : List ℕ). slice_get z i ≡ Some rank) (map_push (λ (n : DNode_data). n.rank) old node) h)) [
    | inl k ↦ u i rank k
    | inr k ↦ sym k.1 ∙ r
  ];
}

pub stays_within : (old new : List DNode_data) (i : ℕ) → IsLonger old new → i < length old → i < length new
stays_within old new i l lt = let x = at_within old i lt in at_short new i x.0 (l.kept i x.0 x.1)

-- as far as the nodes have their nexts

take_none : (nodes : List DNode_data) → take 0 nodes ≡ []
take_none [] = refl
take_none (n ∷ nodes) = refl

at_known : (nodes : List DNode_data) (known : ℕ) (p : Spot) → known ≤ length nodes → slice_get (spots_of nodes) known ≡ Some p → slice_get (spots_of nodes) (length (take known nodes)) ≡ Some p
at_known nodes known p le e = subst (λ (z : ℕ). slice_get (spots_of nodes) z ≡ Some p) (sym (take_long nodes known le)) e

pub spots_stay : (new after : List DNode_data) (known : ℕ) (row : List ℕ) → HasGotNexts new known row after → spots_of after ≡ spots_of new
spots_stay new after known row h = ap spots_of h.new_is ∙ same_spots new known h.node (node_at_spot (spot_of h.node) h.node.rank row) (sym (got new known h.node h.node h.stood)) refl

pub positions_stay : (new after : List DNode_data) (known : ℕ) (row : List ℕ) (places : List (Option ℕ)) (states : ℕ) → HasGotNexts new known row after → ArePositions (spots_of new) places states
    → ArePositions (spots_of after) places states
positions_stay new after known row places states h p = subst (λ (z : List Spot). ArePositions z places states) (sym (spots_stay new after known row h)) p

-- the node at the number leads to one spot
pub leads_one : (old new after : List DNode_data) (number n : ℕ) (row : List ℕ) (p : Spot) → IsLonger old new → IsNamed (spots_of old) p (spots_of new) n → row ≡ n ∷ [] → HasGotNexts new number row after
    → LeadsTo old number (p ∷ []) after
leads_one old new after number n row p l one e h = record {
  grown = new;
  longer = l;
  row = row;
  named = named_push (spots_of old) [] (spots_of old) (spots_of new) p n [] row (named_none (spots_of old)) one e;
  got = h;
}

pub unranked_stay : (new after : List DNode_data) (known : ℕ) (row : List ℕ) → HasGotNexts new known row after → AreUnranked new → AreUnranked after
unranked_stay new after known row h u i rank e =
    u i rank (subst (λ (z : List ℕ). slice_get z i ≡ Some rank) (ap ranks_of h.new_is ∙ same_ranks new known h.node (node_at_spot (spot_of h.node) h.node.rank row) (sym (got new known h.node h.node h.stood)) refl) e)

pub known_within : (new after : List DNode_data) (known : ℕ) (row : List ℕ) → HasGotNexts new known row after → known + 1 ≤ length after
known_within new after known row h =
    let s = at_short new known h.node h.stood in
    let l = ap (λ (z : List DNode_data). length z) h.new_is ∙ length-set new known (node_at_spot (spot_of h.node) h.node.rank row) in omega arith

-- the first n nodes have their nexts
pub record AreMadeTo (m : Machine_data) (nodes : List DNode_data) (known : ℕ) : Type 0 where
  pub made : AreMade m (spots_of nodes) (take known nodes)
  pub unranked : AreUnranked nodes
  pub within : known ≤ length nodes

pub begun : (m : Machine_data) → IsProper m → (nodes : List DNode_data) → spots_of nodes ≡ even m.start ∷ [] → AreUnranked nodes → AreMadeTo m nodes 0
begun m w nodes e u = record { made = made_none m w (spots_of nodes) (take 0 nodes) e (take_none nodes); unranked = u; within = omega arith }

-- one node more has its nexts
pub made_next : (m : Machine_data) → IsProper m → (nodes after : List DNode_data) (known : ℕ) → known < length nodes → AreMadeTo m nodes known → LeadsOn (nexts_itself m) nodes known after
    → AreMadeTo m after (known + 1)
made_next m w nodes after known lt a leads =
    let x = at_within nodes known lt in
    let here : slice_get (spots_of nodes) known ≡ Some (spot_of x.0) = map_at spot_of nodes known x.0 x.1 in
    let l = leads (spot_of x.0) here in
    let h = l.got in
    let new = l.grown in
    let same : h.node ≡ x.0 = same_Some h.node x.0 (sym h.stood ∙ l.longer.kept known x.0 x.1) in
    let node : DNode_data = node_at_spot (spot_of h.node) h.node.rank l.row in
    let rank : h.node.rank ≡ 0 = ap (λ (n : DNode_data). n.rank) same ∙ a.unranked known x.0.rank (map_at (λ (n : DNode_data). n.rank) nodes known x.0 x.1) in
    let is : node ≡ node_at_spot (spot_of x.0) 0 l.row = ap (λ (z : ℕ). node_at_spot (spot_of h.node) z l.row) rank ∙ ap (λ (n : DNode_data). node_at_spot (spot_of n) 0 l.row) same in
    let taken : take (known + 1) after ≡ take known nodes ++ (node ∷ []) =
    ap (take (known + 1)) h.new_is ∙ take_set new known node (at_short new known h.node h.stood) ∙ ap (λ (z : List DNode_data). z ++ (node ∷ [])) (take_kept nodes new known l.longer.kept (omega arith)) in
    record {
      made = subst (λ (z : List Spot). AreMade m z (take (known + 1) after)) (sym (spots_stay new after known l.row h))
          (made_on m w (spots_of nodes) (spots_of new) (take known nodes) (take (known + 1) after) (spot_of x.0) node l.row a.made (at_known nodes known (spot_of x.0) (omega arith) here) l.named is taken);
      unranked = unranked_stay new after known l.row h (l.longer.unranked a.unranked);
      within = known_within new after known l.row h;
    }

pub ended : (m : Machine_data) → IsProper m → (nodes : List DNode_data) (known : ℕ) → AreMadeTo m nodes known → length nodes ≤ known → length (spots_of nodes) ≤ MOST_CANDIDATES → (bound : ℕ)
    → 0 < bound → IsCanonical m m bound (record { role = m.role; bound = bound; nodes = nodes })
ended m w nodes known a done few =
    let all : take known nodes ≡ nodes = take_all known nodes done in
    made_all m w (spots_of nodes) nodes (subst (λ (z : List DNode_data). AreMade m (spots_of nodes) z) all a.made) (let l = spots_count nodes in omega arith) few

pub fresh_at : (m : Machine_data) (nodes : List DNode_data) (known : ℕ) (p q : Spot) → AreMadeTo m nodes known → slice_get (spots_of nodes) known ≡ Some p → p.pending ≡ [] → Among (spots_of nodes) q
    → q.state ≡ p.state → q.pending ≡ []
fresh_at m nodes known p q a e none = made_fresh m (spots_of nodes) (take known nodes) p a.made (at_known nodes known p a.within e) none q
