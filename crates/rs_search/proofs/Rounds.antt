-- Rows of numbers have ranks, or a least number on a cycle.
use Rattle.std.proofs.Common.{◌≡◌, ◌⊎◌, inl, inr, ℕ, ◌<◌, ◌≤◌, List, [], ◌∷◌, length, get_or, set, map, replicate, refl, sym, ap, ◌∙◌, subst, arith, ◌+◌, suc, zero}
use Rattle.std.proofs.lemmas.Bool.{cases_lt}
use Rattle.std.proofs.lemmas.List.{get_or_past, length-replicate}
use Rattle.rs_graph.proofs.Endless.{OfEdges, ordered, ranks_right}
use Rattle.rs_graph.proofs.Growth.{all_found, at_in, at_within, growing_begin, no_more}
use Rattle.rs_graph.proofs.Ranking.{cycle_within, ranked_none, ranked_on}
use Rattle.rs_graph.proofs.Removed.{upto, upto_has, upto_length}
use Rattle.rs_graph.specs.Discovery.{Reached, Begin, Step}
use Rattle.rs_graph.specs.Lists.{Among}
use Rattle.rs_graph.specs.Ranks.{Edge, IsOrdered}
use Rattle.rs_graph.specs.RanksSoFar.{RankFits, Ranked}
use Rattle.rs_graph.specs.Walks.{Walk, Here, Further, IsLeastOnCycle, IsOnCycle, IsRank}
use Rattle.rs_search.proofs.Discovering.{IsWhole, among_or_not, discovered, same_number}
use Rattle.rs_search.proofs.Removing.{left}

-- all that is reached lies below a number: then all is discovered
pub all_discovered : (next : ℕ → List ℕ) (start count : ℕ) → 0 < count → ((n : ℕ) → Reached next start n → n < count) → IsWhole next start count
all_discovered next start count some within = elim (discovered same_number next start count (suc count) (start ∷ []) [] (omega arith) (omega arith) (growing_begin next start)) [
  | inl w ↦ w
  | inr m ↦ (
      let outs : List (List (List ℕ)) = replicate count [] in
      let s : length outs ≡ count = length-replicate {A = List (List ℕ)} count [] in
      let k = no_more m.some (upto 0 outs) m.once (λ x h. let p = at_in m.some x h in let w = within x (m.reached p.0 x p.1) in upto_has 0 outs x (omega arith) (omega arith)) in
      let l = upto_length 0 outs in let a = m.many in let bad : ⊥ = omega arith in absurd bad)
]

-- what is reached and what a walk leads to
walk_more : (E : ℕ → ℕ → Type 0) (i n j k : ℕ) → Walk E i n j → E j k → Walk E i (suc n) k
walk_more E i _ _ k (Here _) e = Further i k k zero e (Here k)
walk_more E i _ j k (Further _ m _ n f w) e = Further i m k (suc n) f (walk_more E m n j k w e)

walked : (rows : List (List ℕ)) (start n : ℕ) → Reached (λ x. get_or rows x []) start n → (k : ℕ) × Walk (Edge rows) start k n
walked rows start _ Begin = (zero, Here start)
walked rows start _ (Step x y r m) = let w = walked rows start x r in (suc w.0, walk_more (Edge rows) start w.0 x y w.1 m)

reached : (rows : List (List ℕ)) (start i n k : ℕ) → Reached (λ x. get_or rows x []) start i → Walk (Edge rows) i n k → Reached (λ x. get_or rows x []) start k
reached rows start i _ _ r (Here _) = r
reached rows start i _ k r (Further _ j _ n e w) = reached rows start j n k (Step i j r e) w

last_step : (E : ℕ → ℕ → Type 0) (i n k : ℕ) → Walk E i (suc n) k → (j : ℕ) × Walk E i n j × E j k
last_step E i _ k (Further _ _ _ _ e (Here _)) = (i, Here i, e)
last_step E i _ k (Further _ j _ _ e (Further _ m _ n f w)) = let r = last_step E j n k (Further j m k n f w) in (r.0, Further i j r.0 n e r.1, r.2)

-- some number of the list leads to i, or none does
some_leads : (rows : List (List ℕ)) (i : ℕ) (xs : List ℕ) → ((x : ℕ) × Among xs x × Edge rows x i) ⊎ ((x : ℕ) → Among xs x → Edge rows x i → ⊥)
some_leads rows i [] = inr (λ x m e. m)
some_leads rows i (x ∷ xs) = elim (among_or_not same_number (get_or rows x []) i) [
  | inl e ↦ inl (x, inl refl, e)
  | inr out ↦ elim (some_leads rows i xs) [
    | inl f ↦ inl (f.0, inr f.1, f.2)
    | inr none ↦ inr (λ y m e. elim m [ inl q ↦ out (subst (λ (z : ℕ). Edge rows z i) (sym q) e) | inr k ↦ none y k e ])
  ]
]

on_cycle_or_not : (rows : List (List ℕ)) → ((n r : ℕ) → Edge rows n r → r < length rows) → (i : ℕ) → i < length rows → IsOnCycle (Edge rows) i ⊎ (IsOnCycle (Edge rows) i → ⊥)
on_cycle_or_not rows inside i h =
    let w = all_discovered (λ x. get_or rows x []) i (length rows) (omega arith) within in
    elim (some_leads rows i w.found) [
      | inl f ↦ (let p = at_in w.found f.0 f.1 in let k = walked rows i f.0 (w.discovery.reached p.0 f.0 p.1) in inl (k.0, walk_more (Edge rows) i k.0 f.0 i k.1 f.2))
      | inr none ↦ inr (λ c. let l = last_step (Edge rows) i c.0 i c.1 in
          none l.0 (all_found (λ x. get_or rows x []) i w.found w.rows w.discovery l.0 (reached rows i i c.0 l.0 Begin l.1)) l.2)
    ]
  where
    within : (n : ℕ) → Reached (λ x. get_or rows x []) i n → n < length rows
    within _ Begin = h
    within _ (Step x y r m) = inside x y m

-- the least number on a cycle, or none of the first n is on one
least_or_none : (rows : List (List ℕ)) → ((n r : ℕ) → Edge rows n r → r < length rows) → (count : ℕ) → count ≤ length rows
    → ((i : ℕ) × IsLeastOnCycle (Edge rows) i) ⊎ ((i : ℕ) → i < count → IsOnCycle (Edge rows) i → ⊥)
least_or_none rows inside zero h = inr (λ i lt. let bad : ⊥ = omega arith in absurd bad)
least_or_none rows inside (suc m) h = elim (least_or_none rows inside m (omega arith)) [
  | inl l ↦ inl l
  | inr none ↦ elim (on_cycle_or_not rows inside m (omega arith)) [
    | inl c ↦ inl (m, record { cycle = c; least = λ k d. elim (cases_lt k m) [ inl lt ↦ absurd (none k lt d) | inr ge ↦ ge ] })
    | inr out ↦ inr (λ i lt c. elim (same_number m i) [ inl e ↦ out (subst (λ (z : ℕ). IsOnCycle (Edge rows) z) (sym e) c) | inr ne ↦ none i (omega arith) c ])
  ]
]

-- a rank that is right by those of the row
fitting : (row ranks : List ℕ) → (rank : ℕ) × RankFits row ranks rank
fitting [] ranks = (zero, record { falls = λ j h. absurd h; tight = inl refl })
fitting (j ∷ row) ranks =
    let k = fitting row ranks in
    elim (cases_lt (get_or ranks j 0) k.0) [
      | inl lt ↦ (
        k.0,
        record {
          falls = λ i h. elim h [ inl e ↦ subst (λ (z : ℕ). get_or ranks z 0 < k.0) e lt | inr m ↦ k.1.falls i m ];
          tight = elim k.1.tight [ inl z ↦ inl z | inr p ↦ inr (p.0, inr p.1, p.2) ];
        },
      )
      | inr ge ↦ (
        suc (get_or ranks j 0),
        record {
          falls = λ i h. elim h [ inl e ↦ subst (λ (z : ℕ). get_or ranks z 0 < suc (get_or ranks j 0)) e (omega arith) | inr m ↦ (let f = k.1.falls i m in omega arith) ];
          tight = inr (j, inl refl, refl);
        },
      )
    ]

ranked : (rows : List (List ℕ)) (order : List ℕ) → IsOrdered rows order → (n i : ℕ) → i + n ≡ length order → (ranks : List ℕ) → Ranked rows order ranks i
    → (ranks' : List ℕ) × Ranked rows order ranks' (length order)
ranked rows order o zero i e ranks r = (ranks, (let k : i ≡ length order = omega arith in subst (λ (z : ℕ). Ranked rows order ranks z) k r))
ranked rows order o (suc n) i e ranks r =
    let v = at_within order i (omega arith) in
    let f = fitting (get_or rows v.0 []) ranks in
    let low : f.0 ≤ i = elim f.1.tight [
      | inl z ↦ (let q = z in omega arith)
      | inr p ↦ (let b = o.ends i v.0 p.0 v.1 p.1 in let l = r.low b.index p.0 b.early b.stands in let a = b.early in let q = p.2 in omega arith)
    ] in
    ranked rows order o n (i + 1) (omega arith) (set ranks v.0 f.0) (ranked_on rows order ranks i v.0 f.0 o v.1 r f.1 low)

-- the graph with one move for each edge
abbrev singles : List ℕ → List (List ℕ)
singles row = map (λ (y : ℕ). y ∷ []) row

abbrev edges : List (List ℕ) → List (List (List ℕ))
edges [] = []
edges (row ∷ rows) = singles row ∷ edges rows

of_edges : (rows : List (List ℕ)) → OfEdges rows (edges rows)
of_edges rows = record { size = size rows; moves = moves rows }
  where
    size : (rows : List (List ℕ)) → length (edges rows) ≡ length rows
    size [] = refl
    size (row ∷ rows) = ap suc (size rows)

    moves : (rows : List (List ℕ)) (n : ℕ) → get_or (edges rows) n [] ≡ singles (get_or rows n [])
    moves [] n = get_or_past [] n [] (omega arith) ∙ sym (ap singles (get_or_past [] n [] (omega arith)))
    moves (row ∷ rows) zero = refl
    moves (row ∷ rows) (suc n) = moves rows n

among_singles : (row : List ℕ) (p r : ℕ) → Among (get_or (singles row) p []) r → Among row r
among_singles [] p r h = (let e : get_or {A = List ℕ} [] p [] ≡ [] = get_or_past [] p [] (omega arith) in let bad : Among [] r = subst (λ (z : List ℕ). Among z r) e h in absurd bad)
among_singles (y ∷ row) zero r (inl e) = inl e
among_singles (y ∷ row) zero r (inr h) = absurd h
among_singles (y ∷ row) (suc p) r h = inr (among_singles row p r h)

pub ranks_or_cycle : (rows : List (List ℕ)) → ((n r : ℕ) → Edge rows n r → r < length rows)
    → ((ranks : List ℕ) × ((i : ℕ) → IsRank (Edge rows) i (get_or ranks i 0))) ⊎ ((i : ℕ) × IsLeastOnCycle (Edge rows) i)
ranks_or_cycle rows inside =
    let o = of_edges rows in
    elim (least_or_none rows inside (length rows) (omega arith)) [
      | inl c ↦ inr c
      | inr none ↦ (
          let l = left (edges rows)
          (λ n p r le. (let e : Edge rows n r = among_singles (get_or rows n []) p r
          (subst (λ (z : List (List ℕ)). Among (get_or z p []) r) (o.moves n) le) in let a = inside n r e in let s = o.size in omega arith)) in
          let none' : (i : ℕ) → IsOnCycle (Edge rows) i → ⊥ = λ i c. none i (cycle_within rows i c) c in
          let k = ordered rows (edges rows) l.current l.order o l.removal in
          let r = ranked rows l.order k (length l.order) 0 (omega arith) (replicate (length rows) 0)
          (ranked_none rows l.order (replicate (length rows) 0) (length-replicate {A = ℕ} (length rows) 0)) in
          inl (r.0, ranks_right rows (edges rows) l.current l.order r.0 o l.removal none' r.1))
    ]
