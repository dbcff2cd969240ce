-- What dies within some moves doesn't survive, and dies along one walk.
use Rattle.std.proofs.Common.{◌≡◌, ◌⊎◌, inl, inr, ℕ, ◌≤◌, ◌+◌, ◌-◌, zero, suc, Bool, true, false, List, [], ◌∷◌, length, slice_get, Some, refl, sym, ap, subst, ◌∙◌, arith}
use Rattle.std.proofs.lemmas.Bool.{cases_lt}
use Rattle.std.proofs.lemmas.Option.{none-some, same_Some}
use Rattle.rs_model.specs.Data.{Machine_data}
use Rattle.rs_derive.specs.Moves.{Spot}
use Rattle.rs_graph.proofs.Growth.{at_in}
use Rattle.rs_graph.specs.Graphs.{moves_of}
use Rattle.rs_graph.specs.Lists.{Among}
use Rattle.rs_search.proofs.Choices.{from_move, moves_at, to_move}
use Rattle.rs_search.specs.Candidates.{MoveWithin}
use Rattle.rs_search.specs.Survives.{StandTogether, Survives}
use Rattle.rs_search.specs.Turns.{nexts_within, turn_within}
use Rattle.rs_explain.proofs.Firsts.{dead_or_not}
use Rattle.rs_explain.specs.Walks.{Dies, DiesAfter, DiesWithin, IsDeadEnd, IsDyingStep, IsDyingWalk, IsWalk, LeadsBy, WalkStep_data, end_of}

-- within more moves

dies_more : (sub above : Machine_data) (bound n : ℕ) (p : Spot) → DiesWithin sub above bound n p → DiesWithin sub above bound (suc n) p
dies_more sub above bound zero p h = λ rs m. absurd (h rs m)
dies_more sub above bound (suc n) p h = λ rs m. (let k = h rs m in (k.0, k.1, dies_more sub above bound n k.0 k.2))

dies_up : (sub above : Machine_data) (bound k n m : ℕ) (p : Spot) → m ≡ n + k → DiesWithin sub above bound n p → DiesWithin sub above bound m p
dies_up sub above bound zero n m p e h = (let same : n ≡ m = omega arith in subst (λ (z : ℕ). DiesWithin sub above bound z p) same h)
dies_up sub above bound (suc k) n m p e h = dies_up sub above bound k (suc n) m p (omega arith) (dies_more sub above bound n p h)

pub dies_within : (sub above : Machine_data) (bound n m : ℕ) (p : Spot) → n ≤ m → DiesWithin sub above bound n p → DiesWithin sub above bound m p
dies_within sub above bound n m p le h = dies_up sub above bound (m - n) n m p (omega arith) h

-- what survives doesn't die

lost_in : (sub above : Machine_data) (bound n : ℕ) (p : Spot) (set : List Spot) → StandTogether sub above bound set → DiesWithin sub above bound n p → Among set p → ⊥
lost_in sub above bound zero p set st h a = let s = st.each p a in h s.results s.move
lost_in sub above bound (suc n) p set st h a = let s = st.each p a in let k = h s.results s.move in lost_in sub above bound n k.0 set st k.2 (s.all k.0 k.1)

pub lost : (sub above : Machine_data) (bound n : ℕ) (p : Spot) → DiesWithin sub above bound n p → Survives sub above bound p → ⊥
lost sub above bound n p h s = lost_in sub above bound n p s.set s.stand h s.among

-- it can be told

some_result : (P : Spot → Type 0) → ((q : Spot) → P q ⊎ (P q → ⊥)) → (rs : List Spot) → ((r : Spot) × Among rs r × P r) ⊎ ((r : Spot) → Among rs r → P r → ⊥)
some_result P tells [] = inr (λ r a h. a)
some_result P tells (q ∷ rs) = elim (tells q) [
  | inl y ↦ inl (q, inl refl, y)
  | inr n ↦ elim (some_result P tells rs) [ inl k ↦ inl (k.0, inr k.1, k.2) | inr none ↦ inr (no n none) ]
]
  where
    no : (P q → ⊥) → ((r : Spot) → Among rs r → P r → ⊥) → (r : Spot) → Among (q ∷ rs) r → P r → ⊥
    no n none r (inl e) h = n (subst P (sym e) h)
    no n none r (inr a) h = none r a h

-- each of the moves has such a result, or one has none
each_move : (P : Spot → Type 0) → ((q : Spot) → P q ⊎ (P q → ⊥)) → (ms : List (List Spot))
    → ((rs : List Spot) → Among ms rs → (r : Spot) × Among rs r × P r) ⊎ ((rs : List Spot) × Among ms rs × ((r : Spot) → Among rs r → P r → ⊥))
each_move P tells [] = inl (λ rs a. absurd a)
each_move P tells (m ∷ ms) = elim (some_result P tells m) [
  | inr none ↦ inr (m, inl refl, none)
  | inl y ↦ elim (each_move P tells ms) [ inl all ↦ inl (both y all) | inr k ↦ inr (k.0, inr k.1, k.2) ]
]
  where
    both : (r : Spot) × Among m r × P r → ((rs : List Spot) → Among ms rs → (r : Spot) × Among rs r × P r) → (rs : List Spot) → Among (m ∷ ms) rs → (r : Spot) × Among rs r × P r
    both y all rs (inl e) = subst (λ (z : List Spot). (r : Spot) × Among z r × P r) e y
    both y all rs (inr a) = all rs a

dies_told : (sub above : Machine_data) (bound n : ℕ) (p : Spot) → DiesWithin sub above bound n p ⊎ (DiesWithin sub above bound n p → ⊥)
dies_told sub above bound zero p = dead_or_not sub above bound p
dies_told sub above bound (suc n) p = elim (each_move (DiesWithin sub above bound n) (dies_told sub above bound n) (moves_at sub above bound p)) [
  | inl all ↦ inl (λ rs m. all rs (from_move sub above bound p rs m))
  | inr k ↦ inr (λ h. let r = h k.0 (to_move sub above bound p k.0 k.1) in k.2 r.0 r.1 r.2)
]

-- the least number of moves

pub least : (sub above : Machine_data) (bound n : ℕ) (p : Spot) → DiesWithin sub above bound n p → (d : ℕ) × DiesAfter sub above bound d p
least sub above bound zero p h = (0, record { within = h; least = λ m g. omega arith })
least sub above bound (suc n) p h = elim (dies_told sub above bound n p) [
  | inl g ↦ least sub above bound n p g
  | inr none ↦ (
    suc n,
    record {
      within = h;
      least = λ m g. elim (cases_lt n m) [ inl lt ↦ (omega arith) | inr le ↦ absurd (none (dies_within sub above bound m n p le g)) ];
    },
  )
]

after_told : (sub above : Machine_data) (bound d : ℕ) (p : Spot) → DiesAfter sub above bound d p ⊎ (DiesAfter sub above bound d p → ⊥)
after_told sub above bound d p = elim (dies_told sub above bound d p) [
  | inr none ↦ inr (λ h. none h.within)
  | inl y ↦ (let k = least sub above bound d p y in let le = k.1.least d y in
      elim (cases_lt k.0 d) [
        | inl lt ↦ inr (λ h. let a = h.least k.0 k.1.within in let bad : ⊥ = omega arith in bad)
        | inr ge ↦ (let same : k.0 ≡ d = omega arith in inl (subst (λ (z : ℕ). DiesAfter sub above bound z p) same k.1))
      ])
]

pub one_after : (sub above : Machine_data) (bound d e : ℕ) (p : Spot) → DiesAfter sub above bound d p → DiesAfter sub above bound e p → d ≡ e
one_after sub above bound d e p h k = let a = h.least e k.within in let b = k.least d h.within in omega arith

-- results of moves stand among all to which the moves lead

result_in : (any : Bool) (spots rs : List Spot) (r : Spot) → Among (moves_of any spots) rs → Among rs r → Among spots r
result_in true [] rs r h m = absurd h
result_in true (s ∷ spots) rs r (inl e) m = (let m' : Among (s ∷ []) r = subst (λ (z : List Spot). Among z r) (sym e) m in elim m' [ inl q ↦ inl q | inr k ↦ absurd k ])
result_in true (s ∷ spots) rs r (inr h) m = inr (result_in true spots rs r h m)
result_in false spots rs r (inl e) m = subst (λ (z : List Spot). Among z r) (sym e) m
result_in false spots rs r (inr h) m = absurd h

pub result_at : (sub above : Machine_data) (bound : ℕ) (p : Spot) (rs : List Spot) (r : Spot) → MoveWithin sub above bound p rs → Among rs r → (place : ℕ) × LeadsBy sub above bound p place r
result_at sub above bound p rs r m a =
    at_in (nexts_within sub above bound p) r (result_in (turn_within sub above bound p).any (nexts_within sub above bound p) rs r (from_move sub above bound p rs m) a)

-- a step

-- the first of the spots that is one of these, or none is
first_of : (P : Spot → Type 0) → ((q : Spot) → P q ⊎ (P q → ⊥)) → (xs : List Spot)
    → ((i : ℕ) × (x : Spot) × (slice_get xs i ≡ Some x) × P x × ((j : ℕ) (y : Spot) → slice_get xs j ≡ Some y → P y → i ≤ j)) ⊎ ((j : ℕ) (y : Spot) → slice_get xs j ≡ Some y → P y → ⊥)
first_of P tells [] = inr (λ j y e h. none-some y e)
first_of P tells (x ∷ xs) = elim (tells x) [
  | inl y ↦ inl (0, x, refl, y, λ j z e h. omega arith)
  | inr n ↦ elim (first_of P tells xs) [
    | inl k ↦ inl (suc k.0, k.1, k.2, k.3, behind n k.0 k.4)
    | inr none ↦ inr (no n none)
  ]
]
  where
    no : (P x → ⊥) → ((j : ℕ) (y : Spot) → slice_get xs j ≡ Some y → P y → ⊥) → (j : ℕ) (y : Spot) → slice_get (x ∷ xs) j ≡ Some y → P y → ⊥
    no n none zero y e h = n (subst P (sym (same_Some x y e)) h)
    no n none (suc j) y e h = none j y e h

    behind : (P x → ⊥) → (i : ℕ) → ((j : ℕ) (y : Spot) → slice_get xs j ≡ Some y → P y → i ≤ j) → (j : ℕ) (y : Spot) → slice_get (x ∷ xs) j ≡ Some y → P y → suc i ≤ j
    behind n i first zero y e h = absurd (n (subst P (sym (same_Some x y e)) h))
    behind n i first (suc j) y e h = (let k = first j y e h in omega arith)

-- what dies within so many moves, and not after just as many, dies within one less
sooner : (sub above : Machine_data) (bound left : ℕ) (p : Spot) → ((place : ℕ) (q : Spot) → LeadsBy sub above bound p place q → DiesAfter sub above bound left q → ⊥)
    → DiesWithin sub above bound (suc left) p → DiesWithin sub above bound left p
sooner sub above bound zero p none h = λ rs m. (
    let k = h rs m in let a = result_at sub above bound p rs k.0 m k.1 in
    none a.0 k.0 a.1 (record { within = k.2; least = λ n g. omega arith }))
sooner sub above bound (suc left) p none h = λ rs m. (
    let k = h rs m in let a = result_at sub above bound p rs k.0 m k.1 in
    elim (dies_told sub above bound left k.0) [
      | inl y ↦ (k.0, k.1, y)
      | inr late ↦ absurd (none a.0 k.0 a.1 (record {
        within = k.2;
        least = λ n g. elim (cases_lt left n) [ inl lt ↦ (omega arith) | inr le ↦ absurd (late (dies_within sub above bound n left k.0 le g)) ];
      }))
    ])

pub dying_step : (sub above : Machine_data) (bound left : ℕ) (p : Spot) → DiesAfter sub above bound (suc left) p → (s : WalkStep_data) × IsDyingStep sub above bound left p s
dying_step sub above bound left p h = elim (first_of (DiesAfter sub above bound left) (after_told sub above bound left) (nexts_within sub above bound p)) [
  | inl k ↦ (record { place = k.0; spot = k.1 }, record { from = h; leads = k.2; to = k.3; first = λ place q e d. k.4 place q e d })
  | inr none ↦ (let k = h.least left (sooner sub above bound left p none h.within) in let bad : ⊥ = omega arith in absurd bad)
]

-- the walk

walk_after : (sub above : Machine_data) (bound n : ℕ) (p : Spot) → DiesAfter sub above bound n p → (steps : List WalkStep_data) × IsDyingWalk sub above bound p steps × (length steps ≡ n)
walk_after sub above bound zero p h = ([], h.within, refl)
walk_after sub above bound (suc n) p h =
    let s = dying_step sub above bound n p h in
    let on = walk_after sub above bound n s.0.spot s.1.to in
    (s.0 ∷ on.0, (subst (λ (z : ℕ). IsDyingStep sub above bound z p s.0) (sym on.2) s.1, on.1), ap suc on.2)

pub some_dying : (sub above : Machine_data) (bound n : ℕ) (p : Spot) → DiesWithin sub above bound n p → (steps : List WalkStep_data) × IsDyingWalk sub above bound p steps
some_dying sub above bound n p h = let d = least sub above bound n p h in let w = walk_after sub above bound d.0 p d.1 in (w.0, w.1)

pub dying_after : (sub above : Machine_data) (bound : ℕ) (p : Spot) (steps : List WalkStep_data) → IsDyingWalk sub above bound p steps → DiesAfter sub above bound (length steps) p
dying_after sub above bound p [] w = record { within = w; least = λ m g. omega arith }
dying_after sub above bound p (s ∷ later) w = w.0.from

pub dying_dead : (sub above : Machine_data) (bound : ℕ) (p : Spot) (steps : List WalkStep_data) → IsDyingWalk sub above bound p steps → IsDeadEnd sub above bound (end_of p steps)
dying_dead sub above bound p [] w = w
dying_dead sub above bound p (s ∷ later) w = dying_dead sub above bound s.spot later w.1

pub dying_lost : (sub above : Machine_data) (bound : ℕ) (p : Spot) (steps : List WalkStep_data) → IsDyingWalk sub above bound p steps → Dies sub above bound p
dying_lost sub above bound p steps w = λ s. lost sub above bound (length steps) p (dying_after sub above bound p steps w).within s

-- each step leads by its place
pub dying_leads : (sub above : Machine_data) (bound : ℕ) (p : Spot) (steps : List WalkStep_data) → IsDyingWalk sub above bound p steps → IsWalk sub above bound p steps
dying_leads sub above bound p [] w = tt
dying_leads sub above bound p (s ∷ later) w = (w.0.leads, dying_leads sub above bound s.spot later w.1)

same_step : (s o : WalkStep_data) → s.place ≡ o.place → s.spot ≡ o.spot → s ≡ o
same_step s o e f = rw (e, f) refl

one_walk : (sub above : Machine_data) (bound : ℕ) (p : Spot) (a b : List WalkStep_data) → length a ≡ length b → IsDyingWalk sub above bound p a → IsDyingWalk sub above bound p b → a ≡ b
one_walk sub above bound p [] [] e w v = refl
one_walk sub above bound p [] (o ∷ b) e w v = let bad : ⊥ = omega arith in absurd bad
one_walk sub above bound p (s ∷ a) [] e w v = let bad : ⊥ = omega arith in absurd bad
one_walk sub above bound p (s ∷ a) (o ∷ b) e w v =
    let size : length a ≡ length b = omega arith in
    let i = w.0.first o.place o.spot v.0.leads (subst (λ (z : ℕ). DiesAfter sub above bound z o.spot) (sym size) v.0.to) in
    let j = v.0.first s.place s.spot w.0.leads (subst (λ (z : ℕ). DiesAfter sub above bound z s.spot) size w.0.to) in
    let place : s.place ≡ o.place = omega arith in
    let at : s.spot ≡ o.spot = same_Some s.spot o.spot (sym w.0.leads ∙ ap (λ (z : ℕ). slice_get (nexts_within sub above bound p) z) place ∙ v.0.leads) in
    let on = one_walk sub above bound s.spot a b size w.1 (subst (λ (z : Spot). IsDyingWalk sub above bound z b) (sym at) v.1) in
    ap (λ (z : WalkStep_data). z ∷ a) (same_step s o place at) ∙ ap (λ (z : List WalkStep_data). o ∷ z) on

pub one_dying : (sub above : Machine_data) (bound : ℕ) (p : Spot) (a b : List WalkStep_data) → IsDyingWalk sub above bound p a → IsDyingWalk sub above bound p b → a ≡ b
one_dying sub above bound p a b w v =
    one_walk sub above bound p a b (one_after sub above bound (length a) (length b) p (dying_after sub above bound p a w) (dying_after sub above bound p b v)) w v

-- the soonest of the results of a move, and the latest of the moves

same_move : (any : Bool) (spots rs others : List Spot) (x r : Spot) → Among (moves_of any spots) rs → Among (moves_of any spots) others → Among rs x → Among rs r → Among others r ⊎ (x ≡ r)
same_move true spots rs others x r h k a b = inr (single spots h)
  where
    single : (spots : List Spot) → Among (moves_of true spots) rs → x ≡ r
    single [] h = absurd h
    single (s ∷ spots) (inl e) = (
        let a' : Among (s ∷ []) x = subst (λ (z : List Spot). Among z x) (sym e) a in
        let b' : Among (s ∷ []) r = subst (λ (z : List Spot). Among z r) (sym e) b in
        elim a' [ inr none ↦ absurd none | inl q ↦ elim b' [ inr none ↦ absurd none | inl o ↦ sym q ∙ o ] ])
    single (s ∷ spots) (inr h) = single spots h
same_move false spots rs others x r (inl e) (inl f) a b = inl (subst (λ (z : List Spot). Among z r) (sym e ∙ f) b)
same_move false spots rs others x r (inl e) (inr k) a b = absurd k
same_move false spots rs others x r (inr h) k a b = absurd h

pub soonest : (sub above : Machine_data) (bound left : ℕ) (p : Spot) (s : WalkStep_data) (rs : List Spot) (r : Spot) (m : ℕ) → IsDyingStep sub above bound left p s
    → MoveWithin sub above bound p rs → Among rs s.spot → Among rs r → DiesWithin sub above bound m r → left ≤ m
soonest sub above bound left p s rs r m h move a b d = elim (cases_lt m left) [
  | inr le ↦ le
  | inl lt ↦ (let k = h.from.least (suc m) all in let bad : ⊥ = omega arith in absurd bad)
]
  where
    all : DiesWithin sub above bound (suc m) p
    all = λ others o. elim (same_move (turn_within sub above bound p).any (nexts_within sub above bound p) rs others s.spot r (from_move sub above bound p rs move)
        (from_move sub above bound p others o) a b) [
          | inl there ↦ (r, there, d)
          | inr same ↦ (let le = h.to.least m (subst (λ (z : Spot). DiesWithin sub above bound m z) (sym same) d) in let k = h.from.within others o in
              (k.0, k.1, dies_within sub above bound left m k.0 le k.2))
        ]

pub latest : (sub above : Machine_data) (bound left : ℕ) (p : Spot) (s : WalkStep_data) (rs : List Spot) → IsDyingStep sub above bound left p s → MoveWithin sub above bound p rs
    → (r : Spot) × Among rs r × DiesWithin sub above bound left r
latest sub above bound left p s rs h m = h.from.within rs m
