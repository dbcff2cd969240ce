-- The machines that aren't written are projections.
use Rattle.std.proofs.Common.{◌≡◌, ◌⊎◌, inl, inr, ℕ, zero, suc, ◌+◌, ◌-◌, ◌*◌, ◌<◌, ◌≤◌, Bool, true, false, not, ◌||◌, ◌==◌, nat_le, List, [], ◌∷◌, ◌++◌, Some, slice_get, refl, sym, ap, ◌∙◌, subst}
use Rattle.std.proofs.Common.{arith}
use Rattle.std.specs.List.{flat_map, list_all, range_with_len}
use Rattle.std.proofs.lemmas.Bool.{and_parts, false≢true, leb-true}
use Rattle.std.proofs.lemmas.Bool.Decides.{eqb_tells, leb_tells}
use Rattle.rs_model.specs.Data.{Machine_data}
use Rattle.rs_model.specs.declared.demos.Demo.{Demo}
use Rattle.rs_model.specs.declared.demos.Demo.TheVariants as demo
use Rattle.rs_project.specs.Data.{Projection_data}
use Rattle.rs_project.specs.Numbered.{IsNumberedProjection}
use Rattle.rs_demos.specs.Sessions.{role, demo_protocol, demo_machines, has_line, has_session, double_protocol, double_source, double_sink, stream_protocol, stream_sink, ring_machine}
use Rattle.rs_demos.specs.Sessions.{butterfly_machine}
use Rattle.rs_demos.proofs.Ranges.{in_range}
use Rattle.rs_demos.proofs.Numbered.{is_numbered_projection, numbered_is}

-- the machine is the projection onto role p
abbrev IsTheirs : Demo → ℕ → ℕ → Machine_data → Type 0
IsTheirs kind n p m = (sets : List (List ℕ)) × IsNumberedProjection (demo_protocol kind n) (role p) (record { machine = m; sets = sets })

-- the talks of role R0 in the ring: the first and the last of each round
abbrev ring_sets : ℕ → List (List ℕ)
ring_sets n = flat_map (λ (r : ℕ). ((r * n) ∷ []) ∷ ((r * n + (n - 1)) ∷ []) ∷ []) (range_with_len 0 (n - 1)) ++ ([] ∷ [])

-- the talks of role R0 in the butterfly: the first two of each round
abbrev butterfly_sets : ℕ → ℕ → List (List ℕ)
butterfly_sets n rounds = flat_map (λ (r : ℕ). ((r * n) ∷ []) ∷ ((r * n + 1) ∷ []) ∷ []) (range_with_len 0 rounds) ++ ([] ∷ [])

abbrev ring_projection : ℕ → Projection_data
ring_projection n = record { machine = ring_machine n 0; sets = ring_sets n }

abbrev butterfly_projection : ℕ → ℕ → Projection_data
butterfly_projection n rounds = record { machine = butterfly_machine n 0; sets = butterfly_sets n rounds }

-- every walk comes within a round to a talk of R0, or to the end
abbrev ring_test : ℕ → Bool
ring_test n = is_numbered_projection (demo_protocol demo.Ring n) (n + 2) (role 0) (ring_projection n)

small_rings : list_all ring_test (range_with_len 2 7) ≡ true
small_rings = refl

middle_rings : list_all ring_test (range_with_len 9 4) ≡ true
middle_rings = refl

great_rings : list_all ring_test (range_with_len 13 4) ≡ true
great_rings = refl

shifted : (a n many : ℕ) → a ≤ n → n < a + many → list_all ring_test (range_with_len a many) ≡ true → ring_test n ≡ true
shifted a n many low high h =
    let e : a + (n - a) ≡ n = omega arith in
    let P : ℕ → Type 0 = λ z. ring_test z ≡ true in
    subst P e (in_range ring_test many a (n - a) h (omega arith))

ring_tests : (n : ℕ) → 2 ≤ n → n ≤ 16 → ring_test n ≡ true
ring_tests n low high = elim (leb_tells 9 n) [
  | inr t ↦ shifted 2 n 7 low (let k = t.1 in omega arith) small_rings
  | inl t ↦ elim (leb_tells 13 n) [
    | inr u ↦ shifted 9 n 4 t.1 (let k = u.1 in omega arith) middle_rings
    | inl u ↦ shifted 13 n 4 u.1 (omega arith) great_rings
  ]
]

either : (a b : Bool) → (a || b) ≡ true → (a ≡ true) ⊎ (b ≡ true)
either true b h = inl refl
either false b h = inr h

eq_by : (x y : ℕ) → (x == y) ≡ true → x ≡ y
eq_by x y h = elim (eqb_tells x y) [ inl t ↦ t.1 | inr t ↦ absurd (false≢true (sym t.0 ∙ h)) ]

has_line_later : (p : ℕ) → not (suc p == 0) ≡ false → ⊥
has_line_later p h = elim (eqb_tells (suc p) 0) [ inl t ↦ (let e = t.1 in omega arith) | inr t ↦ false≢true (sym h ∙ ap not t.0) ]

first_ring : (n : ℕ) (m : Machine_data) → 2 ≤ n → slice_get (demo_machines demo.Ring n) 0 ≡ Some m → ring_machine n 0 ≡ m
first_ring zero m low e = absurd (omega arith)
first_ring (suc n) m low e = cc (e)

first_butterfly : (n : ℕ) (m : Machine_data) → 2 ≤ n → slice_get (demo_machines demo.Butterfly n) 0 ≡ Some m → butterfly_machine n 0 ≡ m
first_butterfly zero m low e = absurd (omega arith)
first_butterfly (suc n) m low e = cc (e)

-- R0 in a butterfly of n roles
butterfly_at : (n rounds : ℕ) (m : Machine_data) (k : ℕ) → is_numbered_projection (demo_protocol demo.Butterfly n) (n + 2) (role 0) (butterfly_projection n rounds) ≡ true → k ≡ n → 2 ≤ n
    → slice_get (demo_machines demo.Butterfly k) 0 ≡ Some m → IsTheirs demo.Butterfly k 0 m
butterfly_at n rounds m k t e low s =
    let P : ℕ → Type 0 = λ z. slice_get (demo_machines demo.Butterfly z) 0 ≡ Some m → IsTheirs demo.Butterfly z 0 m in
    let Q : Machine_data → Type 0 = λ z. IsTheirs demo.Butterfly n 0 z in
    subst P (sym e) (λ h. subst Q (first_butterfly n m low h) (butterfly_sets n rounds, numbered_is (demo_protocol demo.Butterfly n) (n + 2) (role 0) (butterfly_projection n rounds) t)) s

pub projected : (kind : Demo) (n p : ℕ) (m : Machine_data) → has_session kind n ≡ true → slice_get (demo_machines kind n) p ≡ Some m → has_line kind p ≡ false
    → (sets : List (List ℕ)) × IsNumberedProjection (demo_protocol kind n) (role p) (record { machine = m; sets = sets })
projected demo.Double n zero m s e l = absurd (cc (l))
projected demo.Double n (suc zero) m s e l =
    let P : Machine_data → Type 0 = λ z. IsTheirs demo.Double n 1 z in
    let h : double_source ≡ m = cc (e) in
    subst P h ((0 ∷ []) ∷ (2 ∷ []) ∷ (4 ∷ []) ∷ [] ∷ [], numbered_is double_protocol 4 (role 1) (record { machine = double_source; sets = (0 ∷ []) ∷ (2 ∷ []) ∷ (4 ∷ []) ∷ [] ∷ [] }) refl)
projected demo.Double n (suc (suc zero)) m s e l =
    let P : Machine_data → Type 0 = λ z. IsTheirs demo.Double n 2 z in
    let h : double_sink ≡ m = cc (e) in
    subst P h ((1 ∷ []) ∷ (3 ∷ 5 ∷ []) ∷ [] ∷ [], numbered_is double_protocol 4 (role 2) (record { machine = double_sink; sets = (1 ∷ []) ∷ (3 ∷ 5 ∷ []) ∷ [] ∷ [] }) refl)
projected demo.Double n (suc (suc (suc p))) m s e l = absurd (cc (e))
projected demo.Stream n zero m s e l = absurd (cc (l))
projected demo.Stream n (suc zero) m s e l =
    let P : Machine_data → Type 0 = λ z. IsTheirs demo.Stream n 1 z in
    let h : stream_sink ≡ m = cc (e) in
    subst P h ((0 ∷ []) ∷ (1 ∷ []) ∷ [] ∷ [], numbered_is stream_protocol 4 (role 1) (record { machine = stream_sink; sets = (0 ∷ []) ∷ (1 ∷ []) ∷ [] ∷ [] }) refl)
projected demo.Stream n (suc (suc p)) m s e l = absurd (cc (e))
projected demo.Ring n zero m s e l =
    let c = and_parts (nat_le 2 n) (nat_le n 16) s in
    let low : 2 ≤ n = leb-true 2 n c.0 in
    let P : Machine_data → Type 0 = λ z. IsTheirs demo.Ring n 0 z in
    subst P (first_ring n m low e) (ring_sets n, numbered_is (demo_protocol demo.Ring n) (n + 2) (role 0) (ring_projection n) (ring_tests n low (leb-true n 16 c.1)))
projected demo.Ring n (suc p) m s e l = absurd (has_line_later p l)
projected demo.Butterfly n zero m s e l = elim (either ((n == 2) || (n == 4)) ((n == 8) || (n == 16)) s) [
  | inl k ↦ elim (either (n == 2) (n == 4) k) [
    | inl f ↦ butterfly_at 2 1 m n refl (eq_by n 2 f) (omega arith) e
    | inr f ↦ butterfly_at 4 2 m n refl (eq_by n 4 f) (omega arith) e
  ]
  | inr k ↦ elim (either (n == 8) (n == 16) k) [
    | inl f ↦ butterfly_at 8 3 m n refl (eq_by n 8 f) (omega arith) e
    | inr f ↦ butterfly_at 16 4 m n refl (eq_by n 16 f) (omega arith) e
  ]
]
projected demo.Butterfly n (suc p) m s e l = absurd (has_line_later p l)
