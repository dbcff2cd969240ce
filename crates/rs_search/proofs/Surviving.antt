-- A derivation makes the start survive, and where the start survives there is a derivation.
use Rattle.std.proofs.Common.{◌≡◌, inl, inr, ℕ, ◌≤◌, List, [], ◌∷◌, length, map, refl, sym, ap, ◌∙◌, subst, arith, zero, suc, Some, slice_get}
use Rattle.std.proofs.lemmas.Option.{none-some, same_Some}
use Rattle.rs_model.specs.Data.{Machine_data}
use Rattle.rs_derive.specs.Data.{DNode_data, Derivation_data}
use Rattle.rs_derive.specs.Derivations.{IsDerivation, IsProper, NodeFits, spot_of}
use Rattle.rs_derive.specs.Derivations as derivations
use Rattle.rs_derive.specs.Moves.{Spot}
use Rattle.rs_graph.proofs.Growth.{all_found, at_in, at_short, in_at}
use Rattle.rs_graph.specs.Discovery.{Reached, Begin, Step}
use Rattle.rs_graph.specs.Lists.{Among, ArePlacesOf}
use Rattle.rs_search.proofs.Accepted.{names_are}
use Rattle.rs_search.proofs.Discovering.{IsWhole}
use Rattle.rs_search.proofs.Rounds.{all_discovered}
use Rattle.rs_search.proofs.Staying.{stays_within}
use Rattle.rs_search.proofs.Verdicts.{candidate_short}
use Rattle.rs_search.specs.Candidates.{IsCandidate, MoveWithin, Start, Onward, start_spot}
use Rattle.rs_search.specs.Nodes.{node_at_spot}
use Rattle.rs_search.specs.Survives.{IsSupported, StandTogether, Survives}

-- what the nodes name, node by node

abbrev nexts : List DNode_data → ℕ → List ℕ
nexts [] i = []
nexts (n ∷ nodes) zero = n.next
nexts (n ∷ nodes) (suc i) = nexts nodes i

nexts_at : (nodes : List DNode_data) (i : ℕ) (n : DNode_data) → slice_get nodes i ≡ Some n → nexts nodes i ≡ n.next
nexts_at [] i n e = absurd (none-some n e)
nexts_at (m ∷ nodes) zero n e = ap (λ (z : DNode_data). z.next) (same_Some m n e)
nexts_at (m ∷ nodes) (suc i) n e = nexts_at nodes i n e

-- a number that is named names a result, and a result is named
pub named_result : (nodes : List DNode_data) (ns : List ℕ) (rs : List Spot) → derivations.NameResults nodes ns rs → (j : ℕ) → Among ns j
    → (m : DNode_data) × (slice_get nodes j ≡ Some m) × Among rs (spot_of m)
named_result nodes [] [] h j a = absurd a
named_result nodes [] (r ∷ rs) h j a = absurd h
named_result nodes (n ∷ ns) [] h j a = absurd h
named_result nodes (n ∷ ns) (r ∷ rs) h j (inl e) = (h.0.0, subst (λ (z : ℕ). slice_get nodes z ≡ Some h.0.0) e h.0.1, inl (sym h.0.2))
named_result nodes (n ∷ ns) (r ∷ rs) h j (inr a) = let k = named_result nodes ns rs h.1 j a in (k.0, k.1, inr k.2)

pub result_named : (nodes : List DNode_data) (ns : List ℕ) (rs : List Spot) → derivations.NameResults nodes ns rs → (r : Spot) → Among rs r
    → (j : ℕ) × Among ns j × ((m : DNode_data) × (slice_get nodes j ≡ Some m) × (spot_of m ≡ r))
result_named nodes [] [] h r a = absurd a
result_named nodes [] (s ∷ rs) h r a = absurd h
result_named nodes (n ∷ ns) [] h r a = absurd h
result_named nodes (n ∷ ns) (s ∷ rs) h r (inl e) = (n, inl refl, (h.0.0, h.0.1, h.0.2 ∙ e))
result_named nodes (n ∷ ns) (s ∷ rs) h r (inr a) = let k = result_named nodes ns rs h.1 r a in (k.0, inr k.1, k.2)

-- a node of the derivation that stands at a candidate
record Stays (sub above : Machine_data) (bound : ℕ) (d : Derivation_data) (i : ℕ) : Type 0 where
  pub node : DNode_data
  pub stands : slice_get d.nodes i ≡ Some node
  pub candidate : IsCandidate sub above bound (spot_of node)

-- a node that fits has its move within each greater bound
move_within : (sub above : Machine_data) (bound : ℕ) (d : Derivation_data) → IsDerivation d sub above → d.bound ≤ bound → (i : ℕ) (n : DNode_data) (e : slice_get d.nodes i ≡ Some n)
    → (f : NodeFits d.nodes d.bound sub above n) → MoveWithin sub above bound (spot_of n) f.results
move_within sub above bound d v le i n e f = record {
  makes = f.makes;
  move = f.move;
  short = λ r a. (let k = result_named d.nodes n.next f.results f.named r a in
      let s = (v.each k.0 k.2.0 k.2.1).short in
      subst (λ (z : Spot). length z.pending ≤ bound) k.2.2 (omega arith));
}

-- each node that is reached from the first stands at a candidate
reached_stays : (sub above : Machine_data) (bound : ℕ) (d : Derivation_data) → IsDerivation d sub above → d.bound ≤ bound → (i : ℕ) → Reached (nexts d.nodes) 0 i → Stays sub above bound d i
reached_stays sub above bound d v le _ Begin = record { node = v.first; stands = v.stands; candidate = subst (λ (z : Spot). IsCandidate sub above bound z) (sym v.starts) Start }
reached_stays sub above bound d v le _ (Step i j r a) =
    let s = reached_stays sub above bound d v le i r in
    let f = v.each i s.node s.stands in
    let k = named_result d.nodes s.node.next f.results f.named j (subst (λ (z : List ℕ). Among z j) (nexts_at d.nodes i s.node s.stands) a) in
    record { node = k.0; stands = k.1; candidate = Onward (spot_of s.node) f.results (spot_of k.0) s.candidate (move_within sub above bound d v le i s.node s.stands f) k.2 }

-- the spots of such nodes
abbrev gather : (sub above : Machine_data) (bound : ℕ) (d : Derivation_data) (is : List ℕ) → ((i : ℕ) → Among is i → Stays sub above bound d i) → List Spot
gather sub above bound d [] h = []
gather sub above bound d (i ∷ is) h = spot_of (h i (inl refl)).node ∷ gather sub above bound d is (λ j m. h j (inr m))

gathered : (sub above : Machine_data) (bound : ℕ) (d : Derivation_data) (is : List ℕ) (h : (i : ℕ) → Among is i → Stays sub above bound d i) (p : Spot) → Among (gather sub above bound d is h) p
    → (i : ℕ) × Among is i × ((n : DNode_data) × (slice_get d.nodes i ≡ Some n) × (spot_of n ≡ p))
gathered sub above bound d [] h p a = absurd a
gathered sub above bound d (i ∷ is) h p (inl e) = let s = h i (inl refl) in (i, inl refl, (s.node, s.stands, e))
gathered sub above bound d (i ∷ is) h p (inr a) = let k = gathered sub above bound d is (λ j m. h j (inr m)) p a in (k.0, inr k.1, k.2)

gathers : (sub above : Machine_data) (bound : ℕ) (d : Derivation_data) (is : List ℕ) (h : (i : ℕ) → Among is i → Stays sub above bound d i) (i : ℕ) (n : DNode_data) → Among is i
    → slice_get d.nodes i ≡ Some n
    → Among (gather sub above bound d is h) (spot_of n)
gathers sub above bound d [] h i n a e = absurd a
gathers sub above bound d (j ∷ is) h i n (inl q) e =
    let s = h j (inl refl) in inl (ap spot_of (same_Some s.node n (sym s.stands ∙ ap (λ (z : ℕ). slice_get d.nodes z) q ∙ e)))
gathers sub above bound d (j ∷ is) h i n (inr a) e = inr (gathers sub above bound d is (λ k m. h k (inr m)) i n a e)

-- a derivation within the bound makes the start survive: its nodes that are reached from the first stand together
pub derived_survives : (sub above : Machine_data) (bound : ℕ) (d : Derivation_data) → IsDerivation d sub above → d.bound ≤ bound → Survives sub above bound (start_spot sub above)
derived_survives sub above bound d v le = record {
  set = set;
  stand = record {
    candidates = λ p a. (let k = gathered sub above bound d w.found stays p a in let s = stays k.0 k.1 in
        subst (λ (z : Spot). IsCandidate sub above bound z) (ap spot_of (same_Some s.node k.2.0 (sym s.stands ∙ k.2.1)) ∙ k.2.2) s.candidate);
    each = λ p a. (let k = gathered sub above bound d w.found stays p a in subst (λ (z : Spot). IsSupported sub above bound set z) k.2.2 (supported k.0 k.1 k.2.0 k.2.1));
  };
  among = subst (λ (z : Spot). Among set z) v.starts (gathers sub above bound d w.found stays 0 v.first (in_at w.found 0 0 w.discovery.first) v.stands);
}
  where
    w : IsWhole (nexts d.nodes) 0 (length d.nodes)
    w = all_discovered (nexts d.nodes) 0 (length d.nodes) (at_short d.nodes 0 v.first v.stands) (λ i r. let s = reached_stays sub above bound d v le i r in at_short d.nodes i s.node s.stands)

    stays : (i : ℕ) → Among w.found i → Stays sub above bound d i
    stays i a = let k = at_in w.found i a in reached_stays sub above bound d v le i (w.discovery.reached k.0 i k.1)

    set : List Spot
    set = gather sub above bound d w.found stays

    supported : (i : ℕ) → Among w.found i → (n : DNode_data) → slice_get d.nodes i ≡ Some n → IsSupported sub above bound set (spot_of n)
    supported i a n e =
        let f = v.each i n e in
        let at = at_in w.found i a in
        record {
          results = f.results;
          move = move_within sub above bound d v le i n e f;
          all = λ r m. (let k = result_named d.nodes n.next f.results f.named r m in
              let next : Among (nexts d.nodes i) k.0 = subst (λ (z : List ℕ). Among z k.0) (sym (nexts_at d.nodes i n e)) k.1 in
              let in' = all_found (nexts d.nodes) 0 w.found w.rows w.discovery k.0 (Step i k.0 (w.discovery.reached at.0 i at.1) next) in
              subst (λ (z : Spot). Among set z) k.2.2 (gathers sub above bound d w.found stays k.0 k.2.0 in' k.2.1));
        }

-- a list that stands together, as the nodes of a derivation: the first of them is the start

abbrev places : (set : List Spot) (rs : List Spot) → ((r : Spot) → Among rs r → Among set r) → List ℕ
places set [] h = []
places set (r ∷ rs) h = suc (at_in set r (h r (inl refl))).0 ∷ places set rs (λ s m. h s (inr m))

places_name : (first : Spot) (set : List Spot) (rs : List Spot) (h : (r : Spot) → Among rs r → Among set r) → ArePlacesOf (first ∷ set) (places set rs h) rs
places_name first set [] h = tt
places_name first set (r ∷ rs) h = ((at_in set r (h r (inl refl))).1, places_name first set rs (λ s m. h s (inr m)))

abbrev nodes_of : (sub above : Machine_data) (bound : ℕ) (set : List Spot) → StandTogether sub above bound set → (ps : List Spot) → ((p : Spot) → Among ps p → Among set p) → List DNode_data
nodes_of sub above bound set st [] h = []
nodes_of sub above bound set st (p ∷ ps) h =
    node_at_spot p 0 (places set (st.each p (h p (inl refl))).results (st.each p (h p (inl refl))).all) ∷ nodes_of sub above bound set st ps (λ q m. h q (inr m))

nodes_spots : (sub above : Machine_data) (bound : ℕ) (set : List Spot) (st : StandTogether sub above bound set) (ps : List Spot) (h : (p : Spot) → Among ps p → Among set p)
    → map spot_of (nodes_of sub above bound set st ps h) ≡ ps
nodes_spots sub above bound set st [] h = refl
nodes_spots sub above bound set st (p ∷ ps) h = ap (λ (z : List Spot). p ∷ z) (nodes_spots sub above bound set st ps (λ q m. h q (inr m)))

-- a node of such a list
record Made (sub above : Machine_data) (bound : ℕ) (set : List Spot) (st : StandTogether sub above bound set) (n : DNode_data) : Type 0 where
  pub spot : Spot
  pub among : Among set spot
  pub number_is : n ≡ node_at_spot spot 0 (places set (st.each spot among).results (st.each spot among).all)

made : (sub above : Machine_data) (bound : ℕ) (set : List Spot) (st : StandTogether sub above bound set) (ps : List Spot) (h : (p : Spot) → Among ps p → Among set p) (i : ℕ) (n : DNode_data)
    → slice_get (nodes_of sub above bound set st ps h) i ≡ Some n → Made sub above bound set st n
made sub above bound set st [] h i n e = absurd (none-some n e)
made sub above bound set st (p ∷ ps) h zero n e = record { spot = p; among = h p (inl refl); number_is = sym (same_Some _ n e) }
made sub above bound set st (p ∷ ps) h (suc i) n e = made sub above bound set st ps (λ q m. h q (inr m)) i n e

-- where the start survives there is a derivation with that bound
pub survival_derives : (sub above : Machine_data) (bound : ℕ) → IsProper sub → IsProper above → Survives sub above bound (start_spot sub above)
    → (d : Derivation_data) × IsDerivation d sub above × (d.bound ≡ bound)
survival_derives sub above bound ws wa s = (d, record { first = first.0; stands = first.1; starts = first.2; each = λ i n e. fits n (made sub above bound s.set s.stand points inside i n e) }, refl)
  where
    points : List Spot
    points = start_spot sub above ∷ s.set

    inside : (p : Spot) → Among points p → Among s.set p
    inside p (inl e) = subst (λ (z : Spot). Among s.set z) e s.among
    inside p (inr a) = a

    d : Derivation_data
    d = record { role = sub.role; bound = bound; nodes = nodes_of sub above bound s.set s.stand points inside }

    are : map spot_of d.nodes ≡ points
    are = nodes_spots sub above bound s.set s.stand points inside

    first : (n : DNode_data) × (slice_get d.nodes 0 ≡ Some n) × (spot_of n ≡ start_spot sub above)
    first = (
      node_at_spot (start_spot sub above) 0 (places s.set (s.stand.each (start_spot sub above) (inside (start_spot sub above) (inl refl))).results
          (s.stand.each (start_spot sub above) (inside (start_spot sub above) (inl refl))).all),
      refl,
      refl,
    )

    fits : (n : DNode_data) → Made sub above bound s.set s.stand n → NodeFits d.nodes bound sub above n
    fits n m =
        let g = s.stand.each m.spot m.among in
        let c = s.stand.candidates m.spot m.among in
        let w = stays_within sub above bound ws wa m.spot c in
        let fit : NodeFits d.nodes bound sub above (node_at_spot m.spot 0 (places s.set g.results g.all)) = record {
          state = w.state;
          present = w.present;
          short = candidate_short sub above bound m.spot c;
          makes = g.move.makes;
          results = g.results;
          move = g.move.move;
          named = names_are d.nodes (places s.set g.results g.all) g.results
              (subst (λ (z : List Spot). ArePlacesOf z (places s.set g.results g.all) g.results) (sym are) (places_name (start_spot sub above) s.set g.results g.all));
        } in
        subst (λ (z : DNode_data). NodeFits d.nodes bound sub above z) (sym m.number_is) fit
