-- Walks whose each step goes by a relation, to an end: where there is one there is a first one.
use Rattle.std.proofs.Common.{◌≡◌, ◌⊎◌, inl, inr, ℕ, ◌<◌, ◌≤◌, ◌+◌, zero, suc, List, [], ◌∷◌, length, slice_get, Some, refl, sym, ap, subst, ◌∙◌, arith}
use Rattle.std.proofs.lemmas.Bool.{cases_lt, cases_order}
use Rattle.std.proofs.lemmas.Option.{same_Some}
use Rattle.rs_derive.specs.Moves.{Spot}
use Rattle.rs_graph.proofs.Growth.{at_short, at_within}
use Rattle.rs_explain.specs.Walks.{IsFirst, IsNoLater, WalkStep_data, end_of}

-- a step by that place to that spot
abbrev pub step : ℕ → Spot → WalkStep_data
step place q = record { place = place; spot = q }

-- each step goes by its place to its spot
abbrev pub GoBy : (Spot → ℕ → Spot → Type 0) → Spot → List WalkStep_data → Type 0
GoBy Goes p [] = Unit {0}
GoBy Goes p (s ∷ later) = Goes p s.place s.spot × GoBy Goes s.spot later

-- and the last to an end
pub record IsWay (Goes : Spot → ℕ → Spot → Type 0) (Ends : Spot → Type 0) (p : Spot) (steps : List WalkStep_data) : Type 0 where
  pub go : GoBy Goes p steps
  pub ends : Ends (end_of p steps)

-- these walks make a step from p, and then go to an end
pub record GoOn (Goes : Spot → ℕ → Spot → Type 0) (Ends : Spot → Type 0) (p : Spot) (Walks : List WalkStep_data → Type 0) : Type 0 where
  pub on : (place : ℕ) (q : Spot) (later : List WalkStep_data) → Goes p place q → IsWay Goes Ends q later → Walks (step place q ∷ later)
  pub from : (s : WalkStep_data) (later : List WalkStep_data) → Walks (s ∷ later) → Goes p s.place s.spot × IsWay Goes Ends s.spot later

-- a step goes to one of the spots of a list, and it can be told whether it goes there, and whether a spot is an end
pub record AreTold (nexts : Spot → List Spot) (Good : Spot → Type 0) (Goes : Spot → ℕ → Spot → Type 0) (Ends : Spot → Type 0) : Type 0 where
  pub by : (p : Spot) (place : ℕ) (q : Spot) → Goes p place q → slice_get (nexts p) place ≡ Some q
  pub good : (p : Spot) (place : ℕ) (q : Spot) → Good p → Goes p place q → Good q
  pub tells : (p : Spot) (place : ℕ) (q : Spot) → Good p → slice_get (nexts p) place ≡ Some q → Goes p place q ⊎ (Goes p place q → ⊥)
  pub ended : (p : Spot) → Good p → Ends p ⊎ (Ends p → ⊥)

-- ways

pub way_on : (Goes : Spot → ℕ → Spot → Type 0) (Ends : Spot → Type 0) (p : Spot) → GoOn Goes Ends p (IsWay Goes Ends p)
way_on Goes Ends p = record {
  on = λ place q later g w. record { go = (g, w.go); ends = w.ends };
  from = λ s later w. (w.go.0, record { go = w.go.1; ends = w.ends });
}

pub way_here : (Goes : Spot → ℕ → Spot → Type 0) (Ends : Spot → Type 0) (p : Spot) → Ends p → IsWay Goes Ends p []
way_here Goes Ends p e = record { go = tt; ends = e }

-- first walks

pub first_same : (Walks Others : List WalkStep_data → Type 0) → ((w : List WalkStep_data) → Walks w → Others w) → ((w : List WalkStep_data) → Others w → Walks w)
    → (steps : List WalkStep_data) → IsFirst Walks steps → IsFirst Others steps
first_same Walks Others to from steps f = record { is = to steps f.is; shortest = λ w h. f.shortest w (from w h); least = λ w h e. f.least w (from w h) e }

pub first_here : (Goes : Spot → ℕ → Spot → Type 0) (Ends : Spot → Type 0) (p : Spot) → Ends p → IsFirst (IsWay Goes Ends p) []
first_here Goes Ends p e = record { is = way_here Goes Ends p e; shortest = λ others l. omega arith; least = λ others l q. tt }

-- by a step as near as there is, and nearer than each by a lesser place
pub first_on : (nexts : Spot → List Spot) (Goes : Spot → ℕ → Spot → Type 0) (Ends : Spot → Type 0) → ((p : Spot) (place : ℕ) (q : Spot) → Goes p place q → slice_get (nexts p) place ≡ Some q)
    → (p : Spot) (Walks : List WalkStep_data → Type 0) → GoOn Goes Ends p Walks → (place : ℕ) (q : Spot) (later : List WalkStep_data) → Goes p place q
    → IsFirst (IsWay Goes Ends q) later → ((others : List WalkStep_data) → Walks others → suc (length later) ≤ length others)
    → ((i : ℕ) (x : Spot) (others : List WalkStep_data) → i < place → Goes p i x → IsWay Goes Ends x others → length later < length others)
    → IsFirst Walks (step place q ∷ later)
first_on nexts Goes Ends by p Walks go place q later g f near before = record { is = go.on place q later g f.is; shortest = near; least = least }
  where
    least : (others : List WalkStep_data) → Walks others → length others ≡ length (step place q ∷ later) → IsNoLater (step place q ∷ later) others
    least [] l h = let bad : ⊥ = omega arith in absurd bad
    least (o ∷ rest) l h =
        let t = go.from o rest l in
        elim (cases_order place o.place) [
          | inl same ↦ (let at : q ≡ o.spot = same_Some q o.spot (sym (by p place q g) ∙ ap (λ (z : ℕ). slice_get (nexts p) z) same ∙ by p o.place o.spot t.0) in
              inr (same, f.least rest (subst (λ (z : Spot). IsWay Goes Ends z rest) (sym at) t.1) (omega arith)))
          | inr other ↦ elim other [
            | inl lt ↦ inl lt
            | inr gt ↦ (let k = before o.place o.spot rest gt t.0 t.1 in let bad : ⊥ = omega arith in absurd bad)
          ]
        ]

-- the search for the first walk

-- a first walk of so many steps
pub record FirstFrom (Walks : List WalkStep_data → Type 0) (count : ℕ) : Type 0 where
  pub steps : List WalkStep_data
  pub first : IsFirst Walks steps
  pub size : length steps ≡ count

-- each walk has so many steps at least
abbrev pub AreFrom : (List WalkStep_data → Type 0) → ℕ → Type 0
AreFrom Walks count = (others : List WalkStep_data) → Walks others → count ≤ length others

-- a first walk of so many steps is sought
abbrev pub Seeks : (List WalkStep_data → Type 0) → ℕ → Type 0
Seeks Walks count = AreFrom Walks count → FirstFrom Walks count ⊎ AreFrom Walks (suc count)

-- at the spots behind p, of which the first so many have no way as short
seek_on : (nexts : Spot → List Spot) (Good : Spot → Type 0) (Goes : Spot → ℕ → Spot → Type 0) (Ends : Spot → Type 0) → AreTold nexts Good Goes Ends → (count : ℕ)
    → ((q : Spot) → Good q → Seeks (IsWay Goes Ends q) count) → (p : Spot) → Good p → (Walks : List WalkStep_data → Type 0) → GoOn Goes Ends p Walks → AreFrom Walks (suc count)
    → (n i : ℕ) → i + n ≡ length (nexts p) → ((j : ℕ) (x : Spot) → j < i → Goes p j x → AreFrom (IsWay Goes Ends x) (suc count))
    → FirstFrom Walks (suc count) ⊎ AreFrom Walks (suc (suc count))
seek_on nexts Good Goes Ends told count seeks p c Walks go far zero i s before = inr none
  where
    none : AreFrom Walks (suc (suc count))
    none [] l = let k = far [] l in let bad : ⊥ = omega arith in absurd bad
    none (o ∷ rest) l =
        let t = go.from o rest l in
        let w = at_short (nexts p) o.place o.spot (told.by p o.place o.spot t.0) in
        let k = before o.place o.spot (omega arith) t.0 rest t.1 in omega arith
seek_on nexts Good Goes Ends told count seeks p c Walks go far (suc n) i s before =
    let x = at_within (nexts p) i (omega arith) in
    elim (told.tells p i x.0 c x.1) [
      | inr out ↦ seek_on nexts Good Goes Ends told count seeks p c Walks go far n (suc i) (omega arith) (more x.0 x.1 (λ g. absurd (out g)))
      | inl g ↦ elim (seeks x.0 (told.good p i x.0 c g) (λ others l. let k = far (step i x.0 ∷ others) (go.on i x.0 others g l) in omega arith)) [
        | inl f ↦ inl record {
          steps = step i x.0 ∷ f.steps;
          first = first_on nexts Goes Ends told.by p Walks go i x.0 f.steps g f.first (λ others l. let k = far others l in let z = f.size in omega arith)
              (λ j y others lt e l. let k = before j y lt e others l in let z = f.size in omega arith);
          size = (let z = f.size in omega arith);
        }
        | inr none ↦ seek_on nexts Good Goes Ends told count seeks p c Walks go far n (suc i) (omega arith) (more x.0 x.1 (λ g'. none))
      ]
    ]
  where
    more : (x : Spot) → slice_get (nexts p) i ≡ Some x → (Goes p i x → AreFrom (IsWay Goes Ends x) (suc count))
        → (j : ℕ) (y : Spot) → j < suc i → Goes p j y → AreFrom (IsWay Goes Ends y) (suc count)
    more x e none j y lt g = elim (cases_lt j i) [
      | inl a ↦ before j y a g
      | inr a ↦ (let same : i ≡ j = omega arith in
          let at : x ≡ y = same_Some x y (sym e ∙ ap (λ (z : ℕ). slice_get (nexts p) z) same ∙ told.by p j y g) in
          let g' : Goes p i x = subst (λ (z : ℕ). Goes p z x) (sym same) (subst (λ (z : Spot). Goes p j z) (sym at) g) in
          subst (λ (z : Spot). AreFrom (IsWay Goes Ends z) (suc count)) at (none g'))
    ]

not_here : (Goes : Spot → ℕ → Spot → Type 0) (Ends : Spot → Type 0) (p : Spot) → (Ends p → ⊥) → AreFrom (IsWay Goes Ends p) 1
not_here Goes Ends p ne [] l = absurd (ne l.ends)
not_here Goes Ends p ne (s ∷ later) l = omega arith

pub seek : (nexts : Spot → List Spot) (Good : Spot → Type 0) (Goes : Spot → ℕ → Spot → Type 0) (Ends : Spot → Type 0) → AreTold nexts Good Goes Ends → (count : ℕ) (p : Spot) → Good p
    → Seeks (IsWay Goes Ends p) count
seek nexts Good Goes Ends told zero p c far = elim (told.ended p c) [
  | inl e ↦ inl record { steps = []; first = first_here Goes Ends p e; size = refl }
  | inr ne ↦ inr (not_here Goes Ends p ne)
]
seek nexts Good Goes Ends told (suc count) p c far =
    seek_on nexts Good Goes Ends told count (seek nexts Good Goes Ends told count) p c (IsWay Goes Ends p) (way_on Goes Ends p) far (length (nexts p)) 0 (omega arith)
    (λ j x lt e. let bad : ⊥ = omega arith in absurd bad)

-- walks of some steps at least
pub seek_some : (nexts : Spot → List Spot) (Good : Spot → Type 0) (Goes : Spot → ℕ → Spot → Type 0) (Ends : Spot → Type 0) → AreTold nexts Good Goes Ends → (p : Spot) → Good p
    → (Walks : List WalkStep_data → Type 0) → GoOn Goes Ends p Walks → (Walks [] → ⊥) → (count : ℕ) → Seeks Walks count
seek_some nexts Good Goes Ends told p c Walks go some zero far = inr one
  where
    one : AreFrom Walks 1
    one [] l = absurd (some l)
    one (s ∷ later) l = omega arith
seek_some nexts Good Goes Ends told p c Walks go some (suc count) far =
    seek_on nexts Good Goes Ends told count (seek nexts Good Goes Ends told count) p c Walks go far (length (nexts p)) 0 (omega arith)
    (λ j x lt e. let bad : ⊥ = omega arith in absurd bad)

-- where there is a walk there is a first one
hunt : (Walks : List WalkStep_data → Type 0) → ((count : ℕ) → Seeks Walks count) → (steps : List WalkStep_data) → Walks steps → (k count : ℕ) → count + k ≡ suc (length steps)
    → AreFrom Walks count → (first : List WalkStep_data) × IsFirst Walks first
hunt Walks seeks steps l zero count e far = let k = far steps l in let bad : ⊥ = omega arith in absurd bad
hunt Walks seeks steps l (suc k) count e far = elim (seeks count far) [ inl f ↦ (f.steps, f.first) | inr on ↦ hunt Walks seeks steps l k (suc count) (omega arith) on ]

pub first_walk : (Walks : List WalkStep_data → Type 0) → ((count : ℕ) → Seeks Walks count) → (steps : List WalkStep_data) → Walks steps → (first : List WalkStep_data) × IsFirst Walks first
first_walk Walks seeks steps l = hunt Walks seeks steps l (suc (length steps)) 0 (omega arith) (λ others h. omega arith)

-- there is one at most

same_step : (s o : WalkStep_data) → s.place ≡ o.place → s.spot ≡ o.spot → s ≡ o
same_step s o e f = rw (e, f) refl

same_walk : (nexts : Spot → List Spot) (Goes : Spot → ℕ → Spot → Type 0) → ((p : Spot) (place : ℕ) (q : Spot) → Goes p place q → slice_get (nexts p) place ≡ Some q)
    → (p : Spot) (a b : List WalkStep_data) → GoBy Goes p a → GoBy Goes p b → length a ≡ length b → IsNoLater a b → IsNoLater b a → a ≡ b
same_walk nexts Goes by p [] [] wa wb e f g = refl
same_walk nexts Goes by p [] (o ∷ b) wa wb e f g = let bad : ⊥ = omega arith in absurd bad
same_walk nexts Goes by p (s ∷ a) [] wa wb e f g = let bad : ⊥ = omega arith in absurd bad
same_walk nexts Goes by p (s ∷ a) (o ∷ b) wa wb e (inl lt) (inl gt) = let bad : ⊥ = omega arith in absurd bad
same_walk nexts Goes by p (s ∷ a) (o ∷ b) wa wb e (inl lt) (inr g) = let q = g.0 in let bad : ⊥ = omega arith in absurd bad
same_walk nexts Goes by p (s ∷ a) (o ∷ b) wa wb e (inr f) (inl gt) = let q = f.0 in let bad : ⊥ = omega arith in absurd bad
same_walk nexts Goes by p (s ∷ a) (o ∷ b) wa wb e (inr f) (inr g) =
    let at : s.spot ≡ o.spot = same_Some s.spot o.spot (sym (by p s.place s.spot wa.0) ∙ ap (λ (z : ℕ). slice_get (nexts p) z) f.0 ∙ by p o.place o.spot wb.0) in
    let on = same_walk nexts Goes by s.spot a b wa.1 (subst (λ (z : Spot). GoBy Goes z b) (sym at) wb.1) (omega arith) f.1 g.1 in
    ap (λ (z : WalkStep_data). z ∷ a) (same_step s o f.0 at) ∙ ap (λ (z : List WalkStep_data). o ∷ z) on

pub one_first : (nexts : Spot → List Spot) (Goes : Spot → ℕ → Spot → Type 0) → ((p : Spot) (place : ℕ) (q : Spot) → Goes p place q → slice_get (nexts p) place ≡ Some q)
    → (p : Spot) (Walks : List WalkStep_data → Type 0) → ((w : List WalkStep_data) → Walks w → GoBy Goes p w) → (a b : List WalkStep_data) → IsFirst Walks a → IsFirst Walks b → a ≡ b
one_first nexts Goes by p Walks go a b f g =
    let m = f.shortest b g.is in
    let n = g.shortest a f.is in
    let e : length a ≡ length b = omega arith in
    same_walk nexts Goes by p a b (go a f.is) (go b g.is) e (f.least b g.is (sym e)) (g.least a f.is e)
