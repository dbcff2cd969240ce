-- Where no number is on a cycle, all are removed, and the ranks are right.
use Rattle.std.proofs.Common.{◌≡◌, inl, inr, ℕ, ◌<◌, ◌≤◌, Bool, true, false, List, [], ◌∷◌, length, get_or, refl, sym, ap, ◌∙◌, subst, arith, suc, zero, Some, slice_get, map, replicate}
use Rattle.std.proofs.lemmas.Bool.{cases_lt}
use Rattle.std.proofs.lemmas.List.{get_or_past, get_or-replicate}
use Rattle.rs_graph.specs.Built.{IsBuilt}
use Rattle.rs_graph.specs.Graphs.{Graph_data}
use Rattle.rs_graph.specs.Lists.{Among}
use Rattle.rs_graph.specs.Order.{Once}
use Rattle.rs_graph.specs.Ranks.{Edge, IsOrdered}
use Rattle.rs_graph.specs.RanksSoFar.{Ranked}
use Rattle.rs_graph.specs.Removal.{IsRemoval, at, moves_at}
use Rattle.rs_graph.specs.Graphs.{moves_of}
use Rattle.rs_graph.specs.Walks.{Walk, Here, Further, IsOnCycle, IsRank}
use Rattle.rs_graph.proofs.Buckets.{got, place_in}
use Rattle.rs_graph.proofs.Growth.{at_in, at_short, no_more}
use Rattle.rs_graph.proofs.Ranking.{all_ranked, fit_ranks}
use Rattle.rs_graph.proofs.Removed.{upto, upto_length, upto_has}

-- each number that stays leads to one that stays
pub record Endless (E : ℕ → ℕ → Type 0) (Stays : ℕ → Type 0) : Type 0 where
  pub next : (n : ℕ) → Stays n → ℕ
  pub goes : (n : ℕ) (s : Stays n) → E n (next n s)
  pub stays : (n : ℕ) (s : Stays n) → Stays (next n s)

abbrev trail : (E : ℕ → ℕ → Type 0) (Stays : ℕ → Type 0) → Endless E Stays → (k n : ℕ) → Stays n → List ℕ
trail E Stays e zero n s = []
trail E Stays e (suc k) n s = n ∷ trail E Stays e k (e.next n s) (e.stays n s)

trail_length : (E : ℕ → ℕ → Type 0) (Stays : ℕ → Type 0) (e : Endless E Stays) (k n : ℕ) (s : Stays n) → length (trail E Stays e k n s) ≡ k
trail_length E Stays e zero n s = refl
trail_length E Stays e (suc k) n s = let r = trail_length E Stays e k (e.next n s) (e.stays n s) in omega arith

trail_walk : (E : ℕ → ℕ → Type 0) (Stays : ℕ → Type 0) (e : Endless E Stays) (k n : ℕ) (s : Stays n) (j y : ℕ) → slice_get (trail E Stays e k n s) j ≡ Some y → Walk E n j y × Stays y
trail_walk E Stays e zero n s j y h = absurd cc
trail_walk E Stays e (suc k) n s zero y h = (let q : n ≡ y = cc in (subst (λ (z : ℕ). Walk E n 0 z) q (Here n), subst Stays q s))
trail_walk E Stays e (suc k) n s (suc j) y h = let r = trail_walk E Stays e k (e.next n s) (e.stays n s) j y h in (Further n (e.next n s) y j (e.goes n s) r.0, r.1)

trail_once : (E : ℕ → ℕ → Type 0) (Stays : ℕ → Type 0) (e : Endless E Stays) → ((x : ℕ) → IsOnCycle E x → ⊥) → (k n : ℕ) (s : Stays n) → Once (trail E Stays e k n s)
trail_once E Stays e none zero n s i j x a b = absurd cc
trail_once E Stays e none (suc k) n s zero zero x a b = refl
trail_once E Stays e none (suc k) n s zero (suc j) x a b =
    let q : n ≡ x = cc in
    let w = trail_walk E Stays e k (e.next n s) (e.stays n s) j x b in
    absurd (none n (j, Further n (e.next n s) n j (e.goes n s) (subst (λ (z : ℕ). Walk E (e.next n s) j z) (sym q) w.0)))
trail_once E Stays e none (suc k) n s (suc i) zero x a b =
    let q : n ≡ x = cc in
    let w = trail_walk E Stays e k (e.next n s) (e.stays n s) i x a in
    absurd (none n (i, Further n (e.next n s) n i (e.goes n s) (subst (λ (z : ℕ). Walk E (e.next n s) i z) (sym q) w.0)))
trail_once E Stays e none (suc k) n s (suc i) (suc j) x a b = let r = trail_once E Stays e none k (e.next n s) (e.stays n s) i j x a b in omega arith

-- so there is no such number among finitely many
pub no_endless : (E : ℕ → ℕ → Type 0) (Stays : ℕ → Type 0) (e : Endless E Stays) (outs : List (List (List ℕ))) → ((x : ℕ) → Stays x → x < length outs) → ((x : ℕ) → IsOnCycle E x → ⊥) → (n : ℕ)
    → Stays n → ⊥
no_endless E Stays e outs within none n s =
    let l = trail_length E Stays e (suc (length outs)) n s in
    let u = upto_length 0 outs in
    let m = no_more (trail E Stays e (suc (length outs)) n s) (upto 0 outs) (trail_once E Stays e none (suc (length outs)) n s)
    (λ x h. let p = at_in (trail E Stays e (suc (length outs)) n s) x h in let w = trail_walk E Stays e (suc (length outs)) n s p.0 x p.1 in
    upto_has 0 outs x (omega arith) (let b = within x w.1 in omega arith)) in
    let bad : ⊥ = omega arith in bad

single_count : (row : List ℕ) → length (map (λ (y : ℕ). y ∷ []) row) ≡ length row
single_count [] = refl
single_count (n ∷ row) = let k = single_count row in omega arith

single_at : (row : List ℕ) (p : ℕ) → p < length row → get_or (map (λ (y : ℕ). y ∷ []) row) p [] ≡ get_or row p 0 ∷ []
single_at [] p h = let bad : ⊥ = omega arith in absurd bad
single_at (n ∷ row) zero h = refl
single_at (n ∷ row) (suc p) h = single_at row p (omega arith)

-- what is asked of a graph with one move for each edge
pub record OfEdges (rows : List (List ℕ)) (outs : List (List (List ℕ))) : Type 0 where
  pub size : length outs ≡ length rows
  pub moves : (n : ℕ) → get_or outs n [] ≡ map (λ (y : ℕ). y ∷ []) (get_or rows n [])

pub of_edges : (anys : List Bool) (rows : List (List ℕ)) (g : Graph_data) → anys ≡ replicate (length rows) true → IsBuilt anys rows (length rows) g → OfEdges rows g.outs
of_edges anys rows g e b = record {
  size = b.size;
  moves = λ n. elim (cases_lt n (length rows)) [
    | inl a ↦ b.done n a ∙ ap (λ (z : Bool). moves_of z (get_or rows n [])) (ap (λ (z : List Bool). get_or z n false) e ∙ get_or-replicate (length rows) n true false a)
    | inr a ↦ b.free n a ∙ sym (ap (λ (z : List ℕ). map (λ (y : ℕ). y ∷ []) z) (get_or_past rows n [] a))
  ];
}

leads_edge : (rows : List (List ℕ)) (outs : List (List (List ℕ))) → OfEdges rows outs → (n p : ℕ) → p < length (get_or rows n []) → get_or (get_or outs n []) p [] ≡ get_or (get_or rows n []) p 0 ∷ []
leads_edge rows outs o n p h = ap (λ (z : List (List ℕ)). get_or z p []) (o.moves n) ∙ single_at (get_or rows n []) p h

moves_edges : (rows : List (List ℕ)) (outs : List (List (List ℕ))) → OfEdges rows outs → (n : ℕ) → moves_at outs n ≡ length (get_or rows n [])
moves_edges rows outs o n = ap (λ (z : List (List ℕ)). length z) (o.moves n) ∙ single_count (get_or rows n [])

pub ordered : (rows : List (List ℕ)) (outs : List (List (List ℕ))) (current order : List ℕ) → OfEdges rows outs → IsRemoval outs current order → IsOrdered rows order
ordered rows outs current order o rem = record {
  within = λ i n e. (let g = rem.gone i n e in let s = o.size in let a = g.0 in omega arith);
  ends = λ i n j e h. (let p = at_in (get_or rows n []) j h in let s = at_short (get_or rows n []) p.0 j p.1 in
      let m = moves_edges rows outs o n in
      let b = rem.ordered i n p.0 e (omega arith) in
      let l : Among (get_or (get_or rows n []) p.0 0 ∷ []) b.result = subst (λ (z : List ℕ). Among z b.result) (leads_edge rows outs o n p.0 s) b.leads in
      let q : get_or (get_or rows n []) p.0 0 ≡ j = got (get_or rows n []) p.0 j 0 p.1 in
      let r : b.result ≡ j = (elim l [ inl x ↦ sym x ∙ q | inr x ↦ absurd x ]) in
      record { index = b.index; stands = subst (λ (z : ℕ). slice_get order b.index ≡ Some z) r b.stands; early = b.early });
  once = rem.once;
}

-- numbers that stay go on for ever
endless : (rows : List (List ℕ)) (outs : List (List (List ℕ))) (current order : List ℕ) → OfEdges rows outs → IsRemoval outs current order → Endless (Edge rows) (λ n. at current n < moves_at outs n)
endless rows outs current order o rem = record {
  next = λ n s. get_or (get_or rows n []) (at current n) 0;
  goes = λ n s. place_in (get_or rows n []) (at current n) (let m = moves_edges rows outs o n in omega arith);
  stays = λ n s. rem.stays n (get_or (get_or rows n []) (at current n) 0) s
      (subst (λ (z : List ℕ). Among z (get_or (get_or rows n []) (at current n) 0)) (sym (leads_edge rows outs o n (at current n) (let m = moves_edges rows outs o n in omega arith))) (inl refl));
}

pub all_removed : (rows : List (List ℕ)) (outs : List (List (List ℕ))) (current order : List ℕ) → OfEdges rows outs → IsRemoval outs current order → ((x : ℕ) → IsOnCycle (Edge rows) x → ⊥) → (n : ℕ)
    → n < length rows → Among order n
all_removed rows outs current order o rem none n inn =
    elim (cases_lt (at current n) (moves_at outs n)) [
      | inl a ↦ absurd (no_endless (Edge rows) (λ n. at current n < moves_at outs n) (endless rows outs current order o rem) outs
          (λ x s. elim (cases_lt x (length outs)) [
            | inl b ↦ b
            | inr b ↦
                (let z : moves_at outs x ≡ 0 = ap (λ (y : List (List ℕ)). length y) (get_or_past outs x [] b) in let bad : ⊥ = omega arith in absurd bad)
          ]) none n a)
      | inr a ↦ rem.listed n (let s = o.size in omega arith) (let w = rem.within n in omega arith)
    ]

pub ranks_right : (rows : List (List ℕ)) (outs : List (List (List ℕ))) (current order ranks : List ℕ) → OfEdges rows outs → IsRemoval outs current order → ((x : ℕ) → IsOnCycle (Edge rows) x → ⊥)
    → Ranked rows order ranks (length order)
    → (i : ℕ) → IsRank (Edge rows) i (get_or ranks i 0)
ranks_right rows outs current order ranks o rem none r i =
    fit_ranks (Edge rows) (λ n. get_or ranks n 0) (all_ranked rows order ranks (ordered rows outs current order o rem) r (all_removed rows outs current order o rem none)) i

pub order_few : (rows : List (List ℕ)) (order : List ℕ) → IsOrdered rows order → (outs : List (List (List ℕ))) → length outs ≡ length rows → length order ≤ length rows
order_few rows order o outs e =
    let m = no_more order (upto 0 outs) o.once (λ x h. let p = at_in order x h in let w = o.within p.0 x p.1 in upto_has 0 outs x (omega arith) (omega arith)) in
    let l = upto_length 0 outs in omega arith
