-- Where some derivation remembers what is owed, the canonical derivation does: it is the same but for its ranks.
use Rattle.std.proofs.Common.{◌≡◌, ◌⊎◌, ◌↔◌, inl, inr, ℕ, ◌+◌, ◌<◌, ◌≤◌, List, [], ◌∷◌, length, map, refl, sym, ap, ◌∙◌, subst, arith, zero, suc, Some, slice_get}
use Rattle.std.proofs.lemmas.Bool.Decides.{eqb_tells}
use Rattle.std.proofs.lemmas.Option.{same_Some}
use Rattle.rs_model.specs.declared.limits.TheConstants.{MOST_CANDIDATES}
use Rattle.rs_model.specs.Data.{Machine_data}
use Rattle.rs_model.specs.declared.graph.Arm.{Arm}
use Rattle.rs_model.specs.declared.graph.Label.{Label}
use Rattle.rs_derive.proofs.Mapped.{map_at, map_of}
use Rattle.rs_derive.specs.Data.{DNode_data, Derivation_data}
use Rattle.rs_derive.specs.Derivations.{IsDerivation, IsProper, KeepsItsHead, Remembers, spot_of}
use Rattle.rs_derive.specs.Moves.{HasMove, Spot, owing_send}
use Rattle.rs_graph.proofs.Growth.{at_short}
use Rattle.rs_graph.specs.Lists.{Among}
use Rattle.rs_graph.specs.Walks.{Walk, Here, Further}
use Rattle.rs_search.proofs.Accepted.{derives, named_result, new_worked, remembers}
use Rattle.rs_search.proofs.Deciding.{derived_where_whole}
use Rattle.rs_search.proofs.Determined.{AreGuesses, is_forgetful, two_moves}
use Rattle.rs_search.proofs.Surviving.{derived_survives}
use Rattle.rs_search.proofs.Uncut.{move_up, survives_up}
use Rattle.rs_search.proofs.Twins.{Onto, falls_onto, one_arm, onto}
use Rattle.rs_search.specs.Candidates.{AreMoreThan}
use Rattle.rs_search.specs.Canonical.{CanFollow, FollowsTheChoice, HasCanonicalNodes, IsCanonical, IsDerivable, IsForgetful, KeepsHead, SearchRefuses}
use Rattle.rs_search.specs.Survives.{IsChosen, Survives}
use Rattle.rs_search.specs.declared.faults.SearchFault.{SearchFault}
use Rattle.rs_search.specs.declared.faults.SearchFault.TheVariants.{NotFound, Forgets, TooLarge, NoMemory}

-- the node of a derivation that remembers has no choice but the canonical one

abbrev results_at : (sub above : Machine_data) (d : Derivation_data) → IsDerivation d sub above → (i : ℕ) (n : DNode_data) → slice_get d.nodes i ≡ Some n → List Spot
results_at sub above d v i n e = (v.each i n e).results

same_guess : (sub above : Machine_data) (bound : ℕ) (d : Derivation_data) → IsProper sub → IsProper above → (v : IsDerivation d sub above) → Remembers d sub above
    → (i : ℕ) (n : DNode_data) (e : slice_get d.nodes i ≡ Some n) (rs : List Spot)
    → ((r : Spot) → Among rs r → Survives sub above bound r) → AreGuesses above (spot_of n) rs (results_at sub above d v i n e) → rs ≡ results_at sub above d v i n e
same_guess sub above bound d ws wa v rem i n e rs survive g = let a = g.other in let b = g.one in elim (eqb_tells a.arm.label.0 b.arm.label.0) [
  | inl q ↦ (let named : ℕ → Label = λ m. record { 0 = m } in
      let l : a.arm.label ≡ b.arm.label = ap named q.1 in
      let k : a.place ≡ b.place = (wa.1.puts n.above g.peer g.theirs g.stands).once a.place b.place a.arm b.arm a.stands b.stands l in
      let m : b.arm ≡ a.arm = same_Some b.arm a.arm (sym b.stands ∙ ap (λ (z : ℕ). slice_get g.theirs z) (sym k) ∙ a.stands) in
      b.results ∙ ap (λ (z : Arm). owing_send (spot_of n) g.peer z ∷ []) m ∙ sym a.results)
  | inr ne ↦ (let o = onto sub above d v i n e (owing_send (spot_of n) g.peer a.arm) (subst (λ (z : List Spot). Among z (owing_send (spot_of n) g.peer a.arm)) (sym a.results) (inl refl)) in
      absurd (one_arm sub above bound d ws wa v rem o.number o.node o.stands (spot_of n) g.peer a.arm b.arm o.at
      (survive (owing_send (spot_of n) g.peer b.arm) (subst (λ (z : List Spot). Among z (owing_send (spot_of n) g.peer b.arm)) (sym b.results) (inl refl)))
      (λ l. ne.1 (ap (λ (z : Label). z.0) l))))
]

same_results : (sub above : Machine_data) (bound : ℕ) (d : Derivation_data) → IsProper sub → IsProper above → (v : IsDerivation d sub above) → Remembers d sub above
    → (i : ℕ) (n : DNode_data) (e : slice_get d.nodes i ≡ Some n) (rs : List Spot)
    → IsChosen sub above bound (spot_of n) rs → rs ≡ results_at sub above d v i n e
same_results sub above bound d ws wa v rem i n e rs c =
    let f = v.each i n e in
    elim (two_moves sub above (spot_of n) c.move.makes f.makes rs f.results c.move.move f.move) [
      | inl same ↦ same
      | inr g ↦ same_guess sub above bound d ws wa v rem i n e rs c.survive g
    ]

-- so each canonical node has a node there

abbrev spots : Derivation_data → List Spot
spots c = map (λ (m : DNode_data). spot_of m) c.nodes

-- a node of the derivation at the spot of a canonical node
record Stands (d c : Derivation_data) (i : ℕ) : Type 0 where
  pub at : ℕ
  pub node : DNode_data
  pub stands : slice_get d.nodes at ≡ Some node
  pub same : slice_get (spots c) i ≡ Some (spot_of node)

record Follows (sub above : Machine_data) (d c : Derivation_data) (v : IsDerivation d sub above) (i j : ℕ) (s : Stands d c i) : Type 0 where
  pub spot : Spot
  pub onto' : Onto d s.node spot
  pub present : Stands d c j
  pub node_is : present.node ≡ onto'.node

follows : (sub above : Machine_data) (bound : ℕ) (d c : Derivation_data) → IsProper sub → IsProper above → (v : IsDerivation d sub above) → Remembers d sub above → HasCanonicalNodes sub above bound c
    → (i j : ℕ) (n : DNode_data) → slice_get c.nodes i ≡ Some n → Among n.next j → (s : Stands d c i) → Follows sub above d c v i j s
follows sub above bound d c ws wa v rem h i j n e m s =
    let f = h.each i n e in
    let q : spot_of n ≡ spot_of s.node = same_Some (spot_of n) (spot_of s.node) (sym (map_at (λ (m : DNode_data). spot_of m) c.nodes i n e) ∙ s.same) in
    let rs = same_results sub above bound d ws wa v rem s.at s.node s.stands f.results (subst (λ (z : Spot). IsChosen sub above bound z f.results) q f.chosen) in
    let r = named_result (spots c) n.next f.results f.names j m in
    let o = onto sub above d v s.at s.node s.stands r.0 (subst (λ (z : List Spot). Among z r.0) rs r.2) in
    record { spot = r.0; onto' = o; present = record { at = o.number; node = o.node; stands = o.stands; same = r.1 ∙ ap (λ (z : Spot). Some z) (sym o.at) }; node_is = refl }

stands : (sub above : Machine_data) (bound : ℕ) (d c : Derivation_data) → IsProper sub → IsProper above → (v : IsDerivation d sub above) → Remembers d sub above → HasCanonicalNodes sub above bound c
    → (most i : ℕ) (n : DNode_data) → i < most → slice_get c.nodes i ≡ Some n → Stands d c i
stands sub above bound d c ws wa v rem h zero i n lt e = let bad : ⊥ = omega arith in absurd bad
stands sub above bound d c ws wa v rem h (suc most) zero n lt e = record { at = zero; node = v.first; stands = v.stands; same = h.first ∙ ap (λ (z : Spot). Some z) (sym v.starts) }
stands sub above bound d c ws wa v rem h (suc most) (suc i) n lt e =
    let w = new_worked 0 1 (length c.nodes) (map (λ (m : DNode_data). m.next) c.nodes) h.order (suc i) (omega arith) (at_short c.nodes (suc i) n e) in
    let m = map_of (λ (m : DNode_data). m.next) c.nodes w.0 w.1 w.2 in
    let s = stands sub above bound d c ws wa v rem h most w.0 m.0 (let l = w.4 in omega arith) m.1 in
    (follows sub above bound d c ws wa v rem h w.0 (suc i) m.0 m.1 (subst (λ (z : List ℕ). Among z (suc i)) (sym m.2) w.3) s).present

-- along an edge that keeps its head the rank falls there
on_edge : (sub above : Machine_data) (bound : ℕ) (d c : Derivation_data) → IsProper sub → IsProper above → (v : IsDerivation d sub above) → Remembers d sub above → HasCanonicalNodes sub above bound c
    → (i j : ℕ) → KeepsHead sub above c.nodes i j → (s : Stands d c i) → (t : Stands d c j) × (t.node.rank < s.node.rank)
on_edge sub above bound d c ws wa v rem h i j k s =
    let q : spot_of k.node ≡ spot_of s.node = same_Some (spot_of k.node) (spot_of s.node) (sym (map_at (λ (m : DNode_data). spot_of m) c.nodes i k.node k.stands) ∙ s.same) in
    let f = follows sub above bound d c ws wa v rem h i j k.node k.stands k.leads s in
    let l = falls_onto sub above d v rem s.at s.node s.stands k.makes k.results (subst (λ (z : Spot). HasMove sub above z k.makes k.results) q k.move)
    (subst (λ (z : Spot). KeepsItsHead z.pending k.makes) q k.keeps) f.spot f.onto' in
    (f.present, subst (λ (z : DNode_data). z.rank < s.node.rank) (sym f.node_is) l)

on_walk : (sub above : Machine_data) (bound : ℕ) (d c : Derivation_data) → IsProper sub → IsProper above → (v : IsDerivation d sub above) → Remembers d sub above → HasCanonicalNodes sub above bound c
    → (i n j : ℕ) → Walk (KeepsHead sub above c.nodes) i n j → (s : Stands d c i) → (t : Stands d c j) × (t.node.rank + n ≤ s.node.rank)
on_walk sub above bound d c ws wa v rem h i _ _ (Here _) s = (s, omega arith)
on_walk sub above bound d c ws wa v rem h i _ j (Further _ k _ n e w) s =
    let a = on_edge sub above bound d c ws wa v rem h i k e s in
    let b = on_walk sub above bound d c ws wa v rem h k n j w a.0 in
    (b.0, (let x = a.1 in let y = b.1 in omega arith))

no_cycle : (sub above : Machine_data) (bound : ℕ) (d c : Derivation_data) → IsProper sub → IsProper above → (v : IsDerivation d sub above) → Remembers d sub above → HasCanonicalNodes sub above bound c
    → (i n : ℕ) → Walk (KeepsHead sub above c.nodes) i (suc n) i → (most : ℕ) (s : Stands d c i) → s.node.rank < most → ⊥
no_cycle sub above bound d c ws wa v rem h i n w zero s lt = let bad : ⊥ = omega arith in bad
no_cycle sub above bound d c ws wa v rem h i n w (suc most) s lt =
    let t = on_walk sub above bound d c ws wa v rem h i (suc n) i w s in
    no_cycle sub above bound d c ws wa v rem h i n w most t.0 (let a = t.1 in omega arith)

edge_node : (sub above : Machine_data) (nodes : List DNode_data) (i n j : ℕ) → Walk (KeepsHead sub above nodes) i (suc n) j → (m : DNode_data) × (slice_get nodes i ≡ Some m)
edge_node sub above nodes i _ j (Further _ k _ _ e w) = (e.node, e.stands)

-- where some derivation remembers, of whatever bound, the canonical one doesn't forget
pub not_forgetful : (sub above : Machine_data) (bound : ℕ) (d : Derivation_data) → IsProper sub → IsProper above → IsDerivation d sub above → Remembers d sub above → IsForgetful sub above bound → ⊥
not_forgetful sub above bound d ws wa v rem f =
    let m = edge_node sub above f.derivation.nodes f.node f.cycle.0 f.node f.cycle.1 in
    let s = stands sub above bound d f.derivation ws wa v rem f.canonical (suc f.node) f.node m.0 (omega arith) m.1 in
    no_cycle sub above bound d f.derivation ws wa v rem f.canonical f.node f.cycle.0 f.cycle.1 (suc s.node.rank) s (omega arith)

-- a canonical derivation exists exactly where some derivation within the bound remembers
pub followed_is_found : (sub above : Machine_data) (bound : ℕ) → IsProper sub → IsProper above
    → ((d : Derivation_data) × IsCanonical sub above bound d) ↔ IsDerivable sub above bound
followed_is_found sub above bound ws wa = (to, from)
  where
    to : (d : Derivation_data) × IsCanonical sub above bound d → IsDerivable sub above bound
    to f = record {
      bounded = f.1.bounded;
      follows = record {
        derivation = f.0;
        is_derivation = derives sub above bound f.0 ws wa f.1.canonical;
        remembers = remembers sub above bound f.0 f.1;
        within = (let q = f.1.canonical.bound' in omega arith);
      };
    }

    from : IsDerivable sub above bound → (d : Derivation_data) × IsCanonical sub above bound d
    from k = (derived_where_whole sub above bound ws wa).1 (
      k.bounded,
      derived_survives sub above bound k.follows.derivation k.follows.is_derivation k.follows.within,
      not_forgetful sub above bound k.follows.derivation ws wa k.follows.is_derivation k.follows.remembers,
    )

-- what remembers is refused only where the search gives up
pub followed_not_refused : (sub above : Machine_data) (bound : ℕ) (fault : SearchFault) → IsProper sub → IsProper above → CanFollow sub above bound → SearchRefuses sub above bound fault
    → (fault ≡ TooLarge) ⊎ (fault ≡ NoMemory)
followed_not_refused sub above bound (NotFound cut) ws wa k r = absurd (r.dies (derived_survives sub above bound k.derivation k.is_derivation k.within))
followed_not_refused sub above bound (Forgets node) ws wa k r = absurd (not_forgetful sub above bound k.derivation ws wa k.is_derivation k.remembers (is_forgetful sub above bound node r))
followed_not_refused sub above bound TooLarge ws wa k r = inl refl
followed_not_refused sub above bound NoMemory ws wa k r = inr refl

-- the canonical derivation is the same within a greater bound
pub canonical_up : (sub above : Machine_data) (bound more : ℕ) (d : Derivation_data) → IsProper sub → IsProper above → bound ≤ more → (AreMoreThan sub above more MOST_CANDIDATES → ⊥)
    → IsCanonical sub above bound d
    → IsCanonical sub above more (record d { bound = more })
canonical_up sub above bound more d ws wa le few f = record {
  bounded = few;
  canonical = record {
    role = f.canonical.role;
    bound' = refl;
    first = f.canonical.first;
    once = f.canonical.once;
    each = λ i n e. (let c = f.canonical.each i n e in record { results = c.results; chosen = chosen_up i n e c; names = c.names });
    order = f.canonical.order;
  };
  ranks = f.ranks;
}
  where
    v : IsDerivation d sub above
    v = derives sub above bound d ws wa f.canonical

    rem : Remembers d sub above
    rem = remembers sub above bound d f

    chosen_up : (i : ℕ) (n : DNode_data) → slice_get d.nodes i ≡ Some n → (c : FollowsTheChoice sub above bound d.nodes n) → IsChosen sub above more (spot_of n) c.results
    chosen_up i n e c = record {
      move = move_up sub above bound more le (spot_of n) c.results c.chosen.move;
      survive = λ r m. survives_up sub above bound more le r (c.chosen.survive r m);
      least = λ peer arms place earlier arm other there is res lt at sv. (
          let rs = same_results sub above bound d ws wa v rem i n e c.results c.chosen in
          let o = onto sub above d v i n e (owing_send (spot_of n) peer arm) (subst (λ (z : List Spot). Among z (owing_send (spot_of n) peer arm)) (sym res ∙ rs) (inl refl)) in
          one_arm sub above more d ws wa v rem o.number o.node o.stands (spot_of n) peer arm other o.at sv
          (λ l. let k : place ≡ earlier = (wa.1.puts n.above peer arms there).once place earlier arm other is at l in let bad : ⊥ = omega arith in bad));
    }
