-- Ranks are the greatest lengths of walks.
use Rattle.std.proofs.Common.{◌≡◌, ◌≢◌, ◌⊎◌, inl, inr, ℕ, ◌<◌, ◌≤◌, List, [], length, get_or, set, refl, sym, ap, ◌∙◌, subst, arith, ◌+◌, suc, zero, Some, slice_get, max}
use Rattle.std.proofs.lemmas.Bool.{cases_lt}
use Rattle.std.proofs.lemmas.List.{get_or-set_same, get_or-set_other, length-set, get_or_past}
use Rattle.rs_graph.specs.Lists.{Among}
use Rattle.rs_graph.specs.Ranks.{Edge, IsOrdered}
use Rattle.rs_graph.specs.RanksSoFar.{RankFits, Ranked}
use Rattle.rs_graph.specs.Walks.{Walk, Here, Further, IsRank, IsOnCycle}
use Rattle.rs_graph.proofs.Buckets.{got, place_in}
use Rattle.rs_graph.proofs.Growth.{at_in, at_short}

-- the rank falls on each step, and by one on some step unless it is 0
pub record RanksFit (E : ℕ → ℕ → Type 0) (rank : ℕ → ℕ) : Type 0 where
  pub falls : (i j : ℕ) → E i j → rank j < rank i
  pub tight : (i : ℕ) → (rank i ≡ 0) ⊎ ((j : ℕ) × E i j × (rank i ≡ suc (rank j)))

-- no walk is longer than the rank
pub at_most : (E : ℕ → ℕ → Type 0) (rank : ℕ → ℕ) → RanksFit E rank → (i n k : ℕ) → Walk E i n k → n ≤ rank i
at_most E rank f i _ _ (Here _) = omega arith
at_most E rank f i _ k (Further _ j _ n e w) = let a = at_most E rank f j n k w in let b = f.falls i j e in omega arith

-- and some walk is as long
pub as_long : (E : ℕ → ℕ → Type 0) (rank : ℕ → ℕ) → RanksFit E rank → (n i : ℕ) → rank i ≡ n → (k : ℕ) × Walk E i n k
as_long E rank f zero i e = (i, Here i)
as_long E rank f (suc n) i e = elim (f.tight i) [
  | inl z ↦ (let bad : ⊥ = omega arith in absurd bad)
  | inr p ↦ (let r = as_long E rank f n p.0 (let a = p.2 in omega arith) in (r.0, Further i p.0 r.0 n p.1 r.1))
]

pub fit_ranks : (E : ℕ → ℕ → Type 0) (rank : ℕ → ℕ) → RanksFit E rank → (i : ℕ) → IsRank E i (rank i)
fit_ranks E rank f i = let r = as_long E rank f (rank i) i refl in record { end = r.0; walk = r.1; most = λ n k w. at_most E rank f i n k w }

-- a walk from a number of the order goes back in it
back : (rows : List (List ℕ)) (order : List ℕ) → IsOrdered rows order → (i v n k : ℕ) → slice_get order i ≡ Some v → Walk (Edge rows) v n k → (j : ℕ) × (slice_get order j ≡ Some k) × (j + n ≤ i)
back rows order o i v _ _ is (Here _) = (i, is, omega arith)
back rows order o i v _ k is (Further _ j _ n e w) =
    let b = o.ends i v j is e in
    let r = back rows order o b.index j n k b.stands w in
    (r.0, r.1, (let a = r.2 in let c = b.early in omega arith))

-- so it is on no cycle
pub no_cycle : (rows : List (List ℕ)) (order : List ℕ) → IsOrdered rows order → (i v : ℕ) → slice_get order i ≡ Some v → IsOnCycle (Edge rows) v → ⊥
no_cycle rows order o i v is c =
    let r = back rows order o i v (suc c.0) v is c.1 in
    let e = o.once r.0 i v r.1 is in
    let a = r.2 in let bad : ⊥ = omega arith in bad

-- one more is ranked
pub ranked_on : (rows : List (List ℕ)) (order ranks : List ℕ) (i n rank : ℕ) → IsOrdered rows order → slice_get order i ≡ Some n → Ranked rows order ranks i → RankFits (get_or rows n []) ranks rank
    → rank ≤ i → Ranked rows order (set ranks n rank) (i + 1)
ranked_on rows order ranks i n rank o is r f low =
    let inn : n < length ranks = (let a = o.within i n is in let b = r.size in omega arith) in
    let here : get_or (set ranks n rank) n 0 ≡ rank = get_or-set_same ranks n rank 0 inn in
    let other : (x : ℕ) → x ≢ n → get_or (set ranks n rank) x 0 ≡ get_or ranks x 0 = λ x ne. get_or-set_other ranks n x rank 0 ne in
    let apart : (k x : ℕ) → k < i → slice_get order k ≡ Some x → x ≢ n = λ k x lt g e. (let q = o.once k i n (g ∙ ap Some e) is in let bad : ⊥ = omega arith in bad) in
    let kept : (m rank' : ℕ) → (k : ℕ) → k ≤ i → slice_get order k ≡ Some m → RankFits (get_or rows m []) ranks rank' → RankFits (get_or rows m []) (set ranks n rank) rank'
    = λ m rank' k le g q. record {
      falls = λ j h. (let b = o.ends k m j g h in let e = other j (apart b.index j (let c = b.early in omega arith) b.stands) in let a = q.falls j h in omega arith);
      tight = (elim q.tight [
        | inl z ↦ inl z
        | inr p ↦
            (let b = o.ends k m p.0 g p.1 in let e = other p.0 (apart b.index p.0 (let c = b.early in omega arith) b.stands) in inr (p.0, p.1, (let a = p.2 in omega arith)))
      ]);
    } in
    record {
      size = length-set ranks n rank ∙ r.size;
      fits = λ k m lt g. elim (cases_lt k i) [
        | inl a ↦ (let e = other m (apart k m a g) in subst (λ (z : ℕ). RankFits (get_or rows m []) (set ranks n rank) z) (sym e) (kept m (get_or ranks m 0) k (omega arith) g (r.fits k m a g)))
        | inr a ↦ (let ek : k ≡ i = omega arith in let g' : slice_get order i ≡ Some m = subst (λ (z : ℕ). slice_get order z ≡ Some m) ek g in let em : n ≡ m = cc (is, g') in
            let b : RankFits (get_or rows n []) (set ranks n rank) rank = kept n rank i (omega arith) is f in
            let c : RankFits (get_or rows n []) (set ranks n rank) (get_or (set ranks n rank) n 0) = subst (λ (z : ℕ). RankFits (get_or rows n []) (set ranks n rank) z) (sym here) b in
            subst (λ (z : ℕ). RankFits (get_or rows z []) (set ranks n rank) (get_or (set ranks n rank) z 0)) em c)
      ];
      low = λ k m lt g. elim (cases_lt k i) [
        | inl a ↦ (let e = other m (apart k m a g) in let b = r.low k m a g in omega arith)
        | inr a ↦ (let ek : k ≡ i = omega arith in let g' : slice_get order i ≡ Some m = subst (λ (z : ℕ). slice_get order z ≡ Some m) ek g in let em : n ≡ m = cc (is, g') in
            subst (λ (z : ℕ). get_or (set ranks n rank) z 0 ≤ k) em (omega arith))
      ];
    }

pub ranked_none : (rows : List (List ℕ)) (order ranks : List ℕ) → length ranks ≡ length rows → Ranked rows order ranks 0
ranked_none rows order ranks e = record { size = e; fits = λ i n lt g. (let bad : ⊥ = omega arith in absurd bad); low = λ i n lt g. (let bad : ⊥ = omega arith in absurd bad) }

-- where all are in the order the ranks are right
pub all_ranked : (rows : List (List ℕ)) (order ranks : List ℕ) → IsOrdered rows order → Ranked rows order ranks (length order) → ((n : ℕ) → n < length rows → Among order n)
    → RanksFit (Edge rows) (λ n. get_or ranks n 0)
all_ranked rows order ranks o r all = record {
  falls = λ i j e. (let p = at_in order i (all i (edge_within_shown i j e)) in (r.fits p.0 i (at_short order p.0 i p.1) p.1).falls j e);
  tight = λ i. elim (cases_lt i (length rows)) [
    | inl a ↦ (let p = at_in order i (all i a) in (r.fits p.0 i (at_short order p.0 i p.1) p.1).tight)
    | inr a ↦ inl (get_or_past ranks i 0 (let b = r.size in omega arith))
  ];
}
  where
    edge_within_shown : (i j : ℕ) → Edge rows i j → i < length rows
    edge_within_shown i j e = elim (cases_lt i (length rows)) [ inl a ↦ a | inr a ↦ (let z = get_or_past rows i [] a in let bad : Among [] j = subst (λ (w : List ℕ). Among w j) z e in absurd bad) ]

-- the greatest of a row so far
pub record Topped (row : List ℕ) (ranks : List ℕ) (rank : ℕ) (count : ℕ) : Type 0 where
  pub falls : (k : ℕ) → k < count → get_or ranks (get_or row k 0) 0 < rank
  pub tight : (rank ≡ 0) ⊎ ((k : ℕ) × (k < count) × (rank ≡ suc (get_or ranks (get_or row k 0) 0)))

pub topped_none : (row ranks : List ℕ) → Topped row ranks 0 0
topped_none row ranks = record { falls = λ k lt. (let bad : ⊥ = omega arith in absurd bad); tight = inl refl }

pub topped_on : (row ranks : List ℕ) (rank i : ℕ) → Topped row ranks rank i → Topped row ranks (max rank (get_or ranks (get_or row i 0) 0 + 1)) (i + 1)
topped_on row ranks rank i t = record {
  falls = λ k lt. (elim (cases_lt k i) [
    | inl a ↦ (let b = t.falls k a in omega arith)
    | inr a ↦
        (let e : i ≡ k = omega arith in subst (λ (z : ℕ). get_or ranks (get_or row z 0) 0 < max rank (get_or ranks (get_or row i 0) 0 + 1)) e (omega arith))
  ]);
  tight = (elim (cases_lt rank (get_or ranks (get_or row i 0) 0 + 1)) [
    | inl a ↦ inr (i, (omega arith), (omega arith))
    | inr a ↦ (let m : max rank (get_or ranks (get_or row i 0) 0 + 1) ≡ rank = omega arith in elim t.tight [ inl z ↦ inl (m ∙ z) | inr p ↦ inr (p.0, (let b = p.1 in omega arith), m ∙ p.2) ])
  ]);
}

pub topped_all : (row ranks : List ℕ) (rank i : ℕ) → length row ≤ i → Topped row ranks rank i → ((k : ℕ) → k < i → k < length row) → RankFits row ranks rank
topped_all row ranks rank i h t within = record {
  falls = λ j m. (let p = at_in row j m in let s = at_short row p.0 j p.1 in let f = t.falls p.0 (omega arith) in let e = got row p.0 j 0 p.1 in
      subst (λ (z : ℕ). get_or ranks z 0 < rank) e f);
  tight = (elim t.tight [ inl z ↦ inl z | inr p ↦ inr (get_or row p.0 0, place_in row p.0 (within p.0 p.1), p.2) ]);
}

pub edge_within : (rows : List (List ℕ)) (i j : ℕ) → Edge rows i j → i < length rows
edge_within rows i j e = elim (cases_lt i (length rows)) [ inl a ↦ a | inr a ↦ (let z = get_or_past rows i [] a in let bad : Among [] j = subst (λ (w : List ℕ). Among w j) z e in absurd bad) ]

pub cycle_within : (rows : List (List ℕ)) (k : ℕ) → IsOnCycle (Edge rows) k → k < length rows
cycle_within rows k c = first c.0 c.1
  where
    first : (n : ℕ) → Walk (Edge rows) k (suc n) k → k < length rows
    first n (Further _ j _ _ e w) = edge_within rows k j e
