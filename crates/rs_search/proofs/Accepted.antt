-- The canonical derivation is a derivation that remembers what is owed.
use Rattle.std.proofs.Common.{◌≡◌, inl, inr, ℕ, ◌+◌, ◌<◌, ◌≤◌, List, [], ◌∷◌, length, map, refl, sym, ◌∙◌, subst, arith, zero, suc, Some, None, slice_get}
use Rattle.std.proofs.lemmas.Bool.{cases_lt}
use Rattle.std.proofs.lemmas.Option.{same_Some}
use Rattle.rs_model.specs.Data.{Machine_data}
use Rattle.rs_derive.proofs.Mapped.{map_at, map_of}
use Rattle.rs_derive.proofs.Whole.{no_fault_back}
use Rattle.rs_derive.specs.Data.{DNode_data, Derivation_data}
use Rattle.rs_derive.specs.Derivations.{IsDerivation, IsProper, Remembers, spot_of}
use Rattle.rs_derive.specs.Derivations as derivations
use Rattle.rs_derive.specs.Faults.{first_fault}
use Rattle.rs_derive.specs.Moves.{Spot}
use Rattle.rs_graph.proofs.Growth.{at_short, in_at}
use Rattle.rs_graph.specs.Order.{Numbered, NoMore, Known, New, Worked, AllDone, Next}
use Rattle.rs_graph.specs.Lists.{Among, ArePlacesOf}
use Rattle.rs_graph.specs.Walks.{Further}
use Rattle.rs_search.proofs.Staying.{stays_within}
use Rattle.rs_search.proofs.Verdicts.{candidate_short}
use Rattle.rs_search.specs.Candidates.{IsCandidate, Start, start_spot}
use Rattle.rs_search.specs.Canonical.{HasCanonicalNodes, IsCanonical, KeepsHead}

-- each number from the known ones on stands in the row that makes it known
new_numbered : (known after : ℕ) (row : List ℕ) → Numbered known row after → (j : ℕ) → known ≤ j → j < after → Among row j
new_numbered known _ _ (NoMore _) j a b = let bad : ⊥ = omega arith in absurd bad
new_numbered known after _ (Known _ n _ ns h w) j a b = inr (new_numbered known after ns w j a b)
new_numbered known after _ (New _ _ ns w) j a b = elim (cases_lt known j) [
  | inl lt ↦ inr (new_numbered (suc known) after ns w j (omega arith) b)
  | inr ge ↦ inl (let e : known ≡ j = omega arith in e)
]

-- each number from the known ones on stands in some row before its own
pub new_worked : (k known after : ℕ) (rows : List (List ℕ)) → Worked k known rows after → (j : ℕ) → known ≤ j → j < after
    → (i : ℕ) × (row : List ℕ) × (slice_get rows i ≡ Some row) × Among row j × (k + i < j)
new_worked k known _ _ (AllDone _ _) j a b = let bad : ⊥ = omega arith in absurd bad
new_worked k known after _ (Next _ _ mid _ row rows h n w) j a b = elim (cases_lt j mid) [
  | inl lt ↦ (zero, row, refl, new_numbered known mid row n j a lt, omega arith)
  | inr ge ↦ (let r = new_worked (suc k) mid after rows w j ge b in (suc r.0, r.1, r.2, r.3, (let l = r.4 in omega arith)))
]

pub named_result : (spots : List Spot) (ns : List ℕ) (rs : List Spot) → ArePlacesOf spots ns rs → (j : ℕ) → Among ns j → (r : Spot) × (slice_get spots j ≡ Some r) × Among rs r
named_result spots [] [] h j m = absurd m
named_result spots [] (r ∷ rs) h j m = absurd h
named_result spots (n ∷ ns) [] h j m = absurd h
named_result spots (n ∷ ns) (r ∷ rs) h j (inl e) = (r, subst (λ (z : ℕ). slice_get spots z ≡ Some r) e h.0, inl refl)
named_result spots (n ∷ ns) (r ∷ rs) h j (inr m) = let k = named_result spots ns rs h.1 j m in (k.0, k.1, inr k.2)

-- each node stands at a candidate
pub nodes_are_candidates : (sub above : Machine_data) (bound : ℕ) (d : Derivation_data) → HasCanonicalNodes sub above bound d → (i : ℕ) (n : DNode_data) → slice_get d.nodes i ≡ Some n
    → IsCandidate sub above bound (spot_of n)
nodes_are_candidates sub above bound d c zero n e =
    let s : spot_of n ≡ start_spot sub above = same_Some (spot_of n) (start_spot sub above) (sym (map_at (λ (m : DNode_data). spot_of m) d.nodes zero n e) ∙ c.first) in
    subst (λ (z : Spot). IsCandidate sub above bound z) (sym s) Start
nodes_are_candidates sub above bound d c (suc i) n e =
    let w = new_worked 0 1 (length d.nodes) (map (λ (m : DNode_data). m.next) d.nodes) c.order (suc i) (omega arith) (at_short d.nodes (suc i) n e) in
    let m = map_of (λ (m : DNode_data). m.next) d.nodes w.0 w.1 w.2 in
    let f = c.each w.0 m.0 m.1 in
    let r = named_result (map (λ (m : DNode_data). spot_of m) d.nodes) m.0.next f.results f.names (suc i) (subst (λ (z : List ℕ). Among z (suc i)) (sym m.2) w.3) in
    let s : spot_of n ≡ r.0 = same_Some (spot_of n) r.0 (sym (map_at (λ (m : DNode_data). spot_of m) d.nodes (suc i) n e) ∙ r.1) in
    let sv = f.chosen.survive r.0 r.2 in
    subst (λ (z : Spot). IsCandidate sub above bound z) (sym s) (sv.stand.candidates r.0 sv.among)

pub names_are : (nodes : List DNode_data) (ns : List ℕ) (rs : List Spot) → ArePlacesOf (map (λ (m : DNode_data). spot_of m) nodes) ns rs → derivations.NameResults nodes ns rs
names_are nodes [] [] h = tt
names_are nodes [] (r ∷ rs) h = absurd h
names_are nodes (n ∷ ns) [] h = absurd h
names_are nodes (n ∷ ns) (r ∷ rs) h = (map_of (λ (m : DNode_data). spot_of m) nodes n r h.0, names_are nodes ns rs h.1)

pub derives : (sub above : Machine_data) (bound : ℕ) (d : Derivation_data) → IsProper sub → IsProper above → HasCanonicalNodes sub above bound d → IsDerivation d sub above
derives sub above bound d ws wa c =
    let f = map_of (λ (m : DNode_data). spot_of m) d.nodes 0 (start_spot sub above) c.first in
    record {
      first = f.0;
      stands = f.1;
      starts = f.2;
      each = λ i n e. (
          let k = nodes_are_candidates sub above bound d c i n e in
          let w = stays_within sub above bound ws wa (spot_of n) k in
          let s = candidate_short sub above bound (spot_of n) k in
          let f = c.each i n e in
          record {
            state = w.state;
            present = w.present;
            short = (let b = c.bound' in omega arith);
            makes = f.chosen.move.makes;
            results = f.results;
            move = f.chosen.move.move;
            named = names_are d.nodes n.next f.results f.names;
          });
    }

pub remembers : (sub above : Machine_data) (bound : ℕ) (d : Derivation_data) → IsCanonical sub above bound d → Remembers d sub above
remembers sub above bound d f = record {
  falls = λ i n makes results is move keeps k j m next there. (
      let a = f.ranks i n is in let b = f.ranks j m there in
      let e : KeepsHead sub above d.nodes i j = record { node = n; stands = is; makes = makes; results = results; move = move; keeps = keeps; leads = in_at n.next k j next } in
      let l = a.most (suc m.rank) b.end (Further i j b.end m.rank e b.walk) in omega arith);
}

pub accepted : (sub above : Machine_data) (bound : ℕ) (d : Derivation_data) → IsProper sub → IsProper above → IsCanonical sub above bound d → first_fault d sub above ≡ None
accepted sub above bound d ws wa f = no_fault_back d sub above (derives sub above bound d ws wa f.canonical, remembers sub above bound d f)
