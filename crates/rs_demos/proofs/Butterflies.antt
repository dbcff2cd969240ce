-- Ended runs of the butterfly leave the Walsh-Hadamard transform.
use Rattle.std.proofs.Common.{◌≡◌, ◌⊎◌, inl, inr, ℕ, zero, suc, ◌+◌, ◌<◌, Bool, true, false, ◌||◌, ◌==◌, ℤ, pos, ◌+ℤ◌, ◌-ℤ◌, neg_ℤ, List, [], ◌∷◌, map, length, get_or, Option, Some, slice_get, refl}
use Rattle.std.proofs.Common.{sym, ap, ◌∙◌, subst, arith}
use Rattle.std.specs.Int.{w64, int_wrap}
use Rattle.std.specs.List.{enumerate_from}
use Rattle.std.proofs.lemmas.Bool.{false≢true}
use Rattle.std.proofs.lemmas.Bool.Decides.{eqb_tells}
use Rattle.std.proofs.lemmas.Int.{ints, int_wrap_fits}
use Rattle.rs_model.specs.Data.{Machine_data}
use Rattle.rs_model.specs.declared.machines.State.{State}
use Rattle.rs_model.specs.declared.demos.Demo.TheVariants as demo
use Rattle.rs_core.specs.Plain.{Moment, Ended, IsPlain}
use Rattle.rs_core.specs.Runs.{IsGiven, HasActors}
use Rattle.rs_demos.specs.Acting.{by_demo}
use Rattle.rs_demos.specs.Numbers.{SpellsNumbers, takes_numbers}
use Rattle.rs_demos.specs.Outputs.{output_of, result_of}
use Rattle.rs_demos.specs.Results.{Computes, results_text, transform_at, transform_of, in_64_bits}
use Rattle.rs_demos.specs.Sessions.{demo_machines, butterfly_machine, butterfly_pairs, states_from, Exchange}
use Rattle.rs_demos.specs.Starts.{StartsWithActors, butterfly_member}
use Rattle.rs_demos.specs.declared.actors.DemoTalker.{DemoTalker}
use Rattle.rs_demos.proofs.Exchanged.{member, pairs_of, are_good, Silent, Queues, Stage, held_at_end, at_the_end, sum_at_end, wrapped_at_end}
use Rattle.rs_demos.proofs.Ran.{Ran, ran, playing}
use Rattle.rs_demos.proofs.Ranges.{mapped_at}
use Rattle.rs_demos.proofs.Trading.{Trades, HasStates, trades}

-- lists

nth : List ℤ → ℕ → ℤ
nth zs i = get_or zs i (pos 0)

pub same_lists : (xs ys : List ℤ) → length xs ≡ length ys → ((i : ℕ) → i < length xs → slice_get xs i ≡ slice_get ys i) → xs ≡ ys
same_lists [] [] n h = refl
same_lists [] (y ∷ ys) n h = absurd (omega (arith, n))
same_lists (x ∷ xs) [] n h = absurd (omega (arith, n))
same_lists (x ∷ xs) (y ∷ ys) n h =
    let first : Some x ≡ Some y = h 0 (omega arith) in
    let rest = same_lists xs ys (omega (arith, n)) (λ i lt. h (suc i) (omega arith)) in
    cc (first, rest)

pub mapped : {X Y : Type 0} (f : X → Y) (xs : List X) (i : ℕ) (x : X) → slice_get xs i ≡ Some x → slice_get (map f xs) i ≡ Some (f x)
mapped f [] i x e = absurd (cc (e))
mapped {X = X} f (y ∷ ys) zero x e = let h : y ≡ x = cc (e) in ap (λ (z : X). Some (f z)) h
mapped f (y ∷ ys) (suc i) x e = mapped f ys i x e

pub numbered_at : (a : ℕ) (zs : List ℤ) (i : ℕ) → i < length zs → slice_get (enumerate_from a zs) i ≡ Some (a + i, get_or zs i (pos 0))
numbered_at a [] i h = absurd (omega arith)
numbered_at a (z ∷ zs) zero h = let e : a ≡ a + 0 = omega arith in ap (λ (k : ℕ). Some (k, z)) e
numbered_at a (z ∷ zs) (suc i) h =
    let e : (a + 1) + i ≡ a + suc i = omega arith in
    numbered_at (a + 1) zs i (omega arith) ∙ ap (λ (k : ℕ). Some (k, get_or zs i (pos 0))) e

pub many_numbered : (a : ℕ) (zs : List ℤ) → length (enumerate_from a zs) ≡ length zs
many_numbered a [] = refl
many_numbered a (z ∷ zs) = ap suc (many_numbered (a + 1) zs)

pub many_mapped : {X Y : Type 0} (f : X → Y) (xs : List X) → length (map f xs) ≡ length xs
many_mapped f [] = refl
many_mapped f (x ∷ xs) = ap suc (many_mapped f xs)

-- numbers of an input are within 64 bits

zero_whole : pos 0 ≡ in_64_bits (pos 0)
unfolding int_wrap
zero_whole = refl

pub whole_numbers : (zs : List ℤ) (bytes : List ℕ) (i : ℕ) → SpellsNumbers zs bytes → get_or zs i (pos 0) ≡ in_64_bits (get_or zs i (pos 0))
whole_numbers [] bytes i s = zero_whole
whole_numbers (z ∷ zs) bytes zero s = sym (int_wrap_fits w64 z s.number.fits)
whole_numbers (z ∷ zs) bytes (suc i) s = whole_numbers zs s.behind i s.later

-- the transform, for each count

abbrev Row : List ℕ → List ℤ → ℕ → Type 0
Row ss zs i = sum_at_end ss (λ (j : ℕ). j) (λ (j : ℕ). get_or zs j (pos 0)) i ≡ transform_at zs i

rows_2 : (z0 z1 : ℤ) (i : ℕ) → i < 2 → Row (1 ∷ []) (z0 ∷ z1 ∷ []) i
unfolding lib.Count.ones
rows_2 z0 z1 zero h = let e : (z0 +ℤ z1) ≡ (z0 +ℤ (z1 +ℤ pos 0)) = omega (arith, ints) in e
rows_2 z0 z1 (suc zero) h = let e : (z0 -ℤ z1) ≡ (z0 +ℤ (neg_ℤ z1 +ℤ pos 0)) = omega (arith, ints) in e
rows_2 z0 z1 (suc (suc i)) h = absurd (omega (arith, h))

all_rows_2 : (zs : List ℤ) → length zs ≡ 2 → (i : ℕ) → i < 2 → Row (1 ∷ []) zs i
all_rows_2 (z0 ∷ z1 ∷ []) e i h = rows_2 z0 z1 i h
all_rows_2 zs e i h = absurd (omega (arith, e))

rows_4 : (z0 z1 z2 z3 : ℤ) (i : ℕ) → i < 4 → Row (1 ∷ 2 ∷ []) (z0 ∷ z1 ∷ z2 ∷ z3 ∷ []) i
unfolding lib.Count.ones
rows_4 z0 z1 z2 z3 zero h = let e : ((z0 +ℤ z1) +ℤ (z2 +ℤ z3)) ≡ (z0 +ℤ (z1 +ℤ (z2 +ℤ (z3 +ℤ pos 0)))) = omega (arith, ints) in e
rows_4 z0 z1 z2 z3 (suc zero) h = let e : ((z0 -ℤ z1) +ℤ (z2 -ℤ z3)) ≡ (z0 +ℤ (neg_ℤ z1 +ℤ (z2 +ℤ (neg_ℤ z3 +ℤ pos 0)))) = omega (arith, ints) in e
rows_4 z0 z1 z2 z3 (suc (suc zero)) h = let e : ((z0 +ℤ z1) -ℤ (z2 +ℤ z3)) ≡ (z0 +ℤ (z1 +ℤ (neg_ℤ z2 +ℤ (neg_ℤ z3 +ℤ pos 0)))) = omega (arith, ints) in e
rows_4 z0 z1 z2 z3 (suc (suc (suc zero))) h = let e : ((z0 -ℤ z1) -ℤ (z2 -ℤ z3)) ≡ (z0 +ℤ (neg_ℤ z1 +ℤ (neg_ℤ z2 +ℤ (z3 +ℤ pos 0)))) = omega (arith, ints) in e
rows_4 z0 z1 z2 z3 (suc (suc (suc (suc i)))) h = absurd (omega (arith, h))

all_rows_4 : (zs : List ℤ) → length zs ≡ 4 → (i : ℕ) → i < 4 → Row (1 ∷ 2 ∷ []) zs i
all_rows_4 (z0 ∷ z1 ∷ z2 ∷ z3 ∷ []) e i h = rows_4 z0 z1 z2 z3 i h
all_rows_4 zs e i h = absurd (omega (arith, e))

rows_8 : (z0 z1 z2 z3 z4 z5 z6 z7 : ℤ) (i : ℕ) → i < 8 → Row (1 ∷ 2 ∷ 4 ∷ []) (z0 ∷ z1 ∷ z2 ∷ z3 ∷ z4 ∷ z5 ∷ z6 ∷ z7 ∷ []) i
unfolding lib.Count.ones
rows_8 z0 z1 z2 z3 z4 z5 z6 z7 zero h = let e : (((z0 +ℤ z1) +ℤ (z2 +ℤ z3)) +ℤ ((z4 +ℤ z5) +ℤ (z6 +ℤ z7))) ≡ (z0 +ℤ (z1 +ℤ (z2 +ℤ (z3 +ℤ (z4 +ℤ (z5 +ℤ (z6 +ℤ (z7 +ℤ pos 0)))))))) =
    omega (arith, ints) in e
rows_8 z0 z1 z2 z3 z4 z5 z6 z7 (suc zero) h = let e : (((z0 -ℤ z1) +ℤ (z2 -ℤ z3)) +ℤ ((z4 -ℤ z5) +ℤ (z6 -ℤ z7))) ≡
    (z0 +ℤ (neg_ℤ z1 +ℤ (z2 +ℤ (neg_ℤ z3 +ℤ (z4 +ℤ (neg_ℤ z5 +ℤ (z6 +ℤ (neg_ℤ z7 +ℤ pos 0)))))))) = omega (arith, ints) in e
rows_8 z0 z1 z2 z3 z4 z5 z6 z7 (suc (suc zero)) h = let e : (((z0 +ℤ z1) -ℤ (z2 +ℤ z3)) +ℤ ((z4 +ℤ z5) -ℤ (z6 +ℤ z7))) ≡
    (z0 +ℤ (z1 +ℤ (neg_ℤ z2 +ℤ (neg_ℤ z3 +ℤ (z4 +ℤ (z5 +ℤ (neg_ℤ z6 +ℤ (neg_ℤ z7 +ℤ pos 0)))))))) = omega (arith, ints) in e
rows_8 z0 z1 z2 z3 z4 z5 z6 z7 (suc (suc (suc zero))) h = let e : (((z0 -ℤ z1) -ℤ (z2 -ℤ z3)) +ℤ ((z4 -ℤ z5) -ℤ (z6 -ℤ z7))) ≡
    (z0 +ℤ (neg_ℤ z1 +ℤ (neg_ℤ z2 +ℤ (z3 +ℤ (z4 +ℤ (neg_ℤ z5 +ℤ (neg_ℤ z6 +ℤ (z7 +ℤ pos 0)))))))) = omega (arith, ints) in e
rows_8 z0 z1 z2 z3 z4 z5 z6 z7 (suc (suc (suc (suc zero)))) h =
    let e : (((z0 +ℤ z1) +ℤ (z2 +ℤ z3)) -ℤ ((z4 +ℤ z5) +ℤ (z6 +ℤ z7))) ≡ (z0 +ℤ (z1 +ℤ (z2 +ℤ (z3 +ℤ (neg_ℤ z4 +ℤ (neg_ℤ z5 +ℤ (neg_ℤ z6 +ℤ (neg_ℤ z7 +ℤ pos 0)))))))) = omega (arith, ints) in e
rows_8 z0 z1 z2 z3 z4 z5 z6 z7 (suc (suc (suc (suc (suc zero))))) h =
    let e : (((z0 -ℤ z1) +ℤ (z2 -ℤ z3)) -ℤ ((z4 -ℤ z5) +ℤ (z6 -ℤ z7))) ≡ (z0 +ℤ (neg_ℤ z1 +ℤ (z2 +ℤ (neg_ℤ z3 +ℤ (neg_ℤ z4 +ℤ (z5 +ℤ (neg_ℤ z6 +ℤ (z7 +ℤ pos 0)))))))) = omega (arith, ints) in e
rows_8 z0 z1 z2 z3 z4 z5 z6 z7 (suc (suc (suc (suc (suc (suc zero)))))) h =
    let e : (((z0 +ℤ z1) -ℤ (z2 +ℤ z3)) -ℤ ((z4 +ℤ z5) -ℤ (z6 +ℤ z7))) ≡ (z0 +ℤ (z1 +ℤ (neg_ℤ z2 +ℤ (neg_ℤ z3 +ℤ (neg_ℤ z4 +ℤ (neg_ℤ z5 +ℤ (z6 +ℤ (z7 +ℤ pos 0)))))))) = omega (arith, ints) in e
rows_8 z0 z1 z2 z3 z4 z5 z6 z7 (suc (suc (suc (suc (suc (suc (suc zero))))))) h =
    let e : (((z0 -ℤ z1) -ℤ (z2 -ℤ z3)) -ℤ ((z4 -ℤ z5) -ℤ (z6 -ℤ z7))) ≡ (z0 +ℤ (neg_ℤ z1 +ℤ (neg_ℤ z2 +ℤ (z3 +ℤ (neg_ℤ z4 +ℤ (z5 +ℤ (z6 +ℤ (neg_ℤ z7 +ℤ pos 0)))))))) = omega (arith, ints) in e
rows_8 z0 z1 z2 z3 z4 z5 z6 z7 (suc (suc (suc (suc (suc (suc (suc (suc i)))))))) h = absurd (omega (arith, h))

all_rows_8 : (zs : List ℤ) → length zs ≡ 8 → (i : ℕ) → i < 8 → Row (1 ∷ 2 ∷ 4 ∷ []) zs i
all_rows_8 (z0 ∷ z1 ∷ z2 ∷ z3 ∷ z4 ∷ z5 ∷ z6 ∷ z7 ∷ []) e i h = rows_8 z0 z1 z2 z3 z4 z5 z6 z7 i h
all_rows_8 zs e i h = absurd (omega (arith, e))

rows_16 : (z0 z1 z2 z3 z4 z5 z6 z7 z8 z9 z10 z11 z12 z13 z14 z15 : ℤ) (i : ℕ) → i < 16
    → Row (1 ∷ 2 ∷ 4 ∷ 8 ∷ []) (z0 ∷ z1 ∷ z2 ∷ z3 ∷ z4 ∷ z5 ∷ z6 ∷ z7 ∷ z8 ∷ z9 ∷ z10 ∷ z11 ∷ z12 ∷ z13 ∷ z14 ∷ z15 ∷ []) i
unfolding lib.Count.ones
rows_16 z0 z1 z2 z3 z4 z5 z6 z7 z8 z9 z10 z11 z12 z13 z14 z15 zero h =
    let e : ((((z0 +ℤ z1) +ℤ (z2 +ℤ z3)) +ℤ ((z4 +ℤ z5) +ℤ (z6 +ℤ z7))) +ℤ (((z8 +ℤ z9) +ℤ (z10 +ℤ z11)) +ℤ ((z12 +ℤ z13) +ℤ (z14 +ℤ z15)))) ≡
    (z0 +ℤ (z1 +ℤ (z2 +ℤ (z3 +ℤ (z4 +ℤ (z5 +ℤ (z6 +ℤ (z7 +ℤ (z8 +ℤ (z9 +ℤ (z10 +ℤ (z11 +ℤ (z12 +ℤ (z13 +ℤ (z14 +ℤ (z15 +ℤ pos 0)))))))))))))))) = omega (arith, ints) in e
rows_16 z0 z1 z2 z3 z4 z5 z6 z7 z8 z9 z10 z11 z12 z13 z14 z15 (suc zero) h =
    let e : ((((z0 -ℤ z1) +ℤ (z2 -ℤ z3)) +ℤ ((z4 -ℤ z5) +ℤ (z6 -ℤ z7))) +ℤ (((z8 -ℤ z9) +ℤ (z10 -ℤ z11)) +ℤ ((z12 -ℤ z13) +ℤ (z14 -ℤ z15)))) ≡
    (z0 +ℤ (neg_ℤ z1 +ℤ (z2 +ℤ (neg_ℤ z3 +ℤ (z4 +ℤ (neg_ℤ z5 +ℤ (z6 +ℤ (neg_ℤ z7 +ℤ (z8 +ℤ (neg_ℤ z9 +ℤ (z10 +ℤ (neg_ℤ z11 +ℤ (z12 +ℤ (neg_ℤ z13 +ℤ (z14 +ℤ (neg_ℤ z15 +ℤ pos 0)))))))))))))))) =
    omega (arith, ints) in e
rows_16 z0 z1 z2 z3 z4 z5 z6 z7 z8 z9 z10 z11 z12 z13 z14 z15 (suc (suc zero)) h =
    let e : ((((z0 +ℤ z1) -ℤ (z2 +ℤ z3)) +ℤ ((z4 +ℤ z5) -ℤ (z6 +ℤ z7))) +ℤ (((z8 +ℤ z9) -ℤ (z10 +ℤ z11)) +ℤ ((z12 +ℤ z13) -ℤ (z14 +ℤ z15)))) ≡
    (z0 +ℤ (z1 +ℤ (neg_ℤ z2 +ℤ (neg_ℤ z3 +ℤ (z4 +ℤ (z5 +ℤ (neg_ℤ z6 +ℤ (neg_ℤ z7 +ℤ (z8 +ℤ (z9 +ℤ (neg_ℤ z10 +ℤ (neg_ℤ z11 +ℤ (z12 +ℤ (z13 +ℤ (neg_ℤ z14 +ℤ (neg_ℤ z15 +ℤ pos 0)))))))))))))))) =
    omega (arith, ints) in e
rows_16 z0 z1 z2 z3 z4 z5 z6 z7 z8 z9 z10 z11 z12 z13 z14 z15 (suc (suc (suc zero))) h =
    let e : ((((z0 -ℤ z1) -ℤ (z2 -ℤ z3)) +ℤ ((z4 -ℤ z5) -ℤ (z6 -ℤ z7))) +ℤ (((z8 -ℤ z9) -ℤ (z10 -ℤ z11)) +ℤ ((z12 -ℤ z13) -ℤ (z14 -ℤ z15)))) ≡
    (z0 +ℤ (neg_ℤ z1 +ℤ (neg_ℤ z2 +ℤ (z3 +ℤ (z4 +ℤ (neg_ℤ z5 +ℤ (neg_ℤ z6 +ℤ (z7 +ℤ (z8 +ℤ (neg_ℤ z9 +ℤ (neg_ℤ z10 +ℤ (z11 +ℤ (z12 +ℤ (neg_ℤ z13 +ℤ (neg_ℤ z14 +ℤ (z15 +ℤ pos 0)))))))))))))))) =
    omega (arith, ints) in e
rows_16 z0 z1 z2 z3 z4 z5 z6 z7 z8 z9 z10 z11 z12 z13 z14 z15 (suc (suc (suc (suc zero)))) h =
    let e : ((((z0 +ℤ z1) +ℤ (z2 +ℤ z3)) -ℤ ((z4 +ℤ z5) +ℤ (z6 +ℤ z7))) +ℤ (((z8 +ℤ z9) +ℤ (z10 +ℤ z11)) -ℤ ((z12 +ℤ z13) +ℤ (z14 +ℤ z15)))) ≡
    (z0 +ℤ (z1 +ℤ (z2 +ℤ (z3 +ℤ (neg_ℤ z4 +ℤ (neg_ℤ z5 +ℤ (neg_ℤ z6 +ℤ (neg_ℤ z7 +ℤ (z8 +ℤ (z9 +ℤ (z10 +ℤ (z11 +ℤ (neg_ℤ z12 +ℤ (neg_ℤ z13 +ℤ (neg_ℤ z14 +ℤ (neg_ℤ z15 +ℤ pos 0)))))))))))))))) =
    omega (arith, ints) in e
rows_16 z0 z1 z2 z3 z4 z5 z6 z7 z8 z9 z10 z11 z12 z13 z14 z15 (suc (suc (suc (suc (suc zero))))) h =
    let e : ((((z0 -ℤ z1) +ℤ (z2 -ℤ z3)) -ℤ ((z4 -ℤ z5) +ℤ (z6 -ℤ z7))) +ℤ (((z8 -ℤ z9) +ℤ (z10 -ℤ z11)) -ℤ ((z12 -ℤ z13) +ℤ (z14 -ℤ z15)))) ≡
    (z0 +ℤ (neg_ℤ z1 +ℤ (z2 +ℤ (neg_ℤ z3 +ℤ (neg_ℤ z4 +ℤ (z5 +ℤ (neg_ℤ z6 +ℤ (z7 +ℤ (z8 +ℤ (neg_ℤ z9 +ℤ (z10 +ℤ (neg_ℤ z11 +ℤ (neg_ℤ z12 +ℤ (z13 +ℤ (neg_ℤ z14 +ℤ (z15 +ℤ pos 0)))))))))))))))) =
    omega (arith, ints) in e
rows_16 z0 z1 z2 z3 z4 z5 z6 z7 z8 z9 z10 z11 z12 z13 z14 z15 (suc (suc (suc (suc (suc (suc zero)))))) h =
    let e : ((((z0 +ℤ z1) -ℤ (z2 +ℤ z3)) -ℤ ((z4 +ℤ z5) -ℤ (z6 +ℤ z7))) +ℤ (((z8 +ℤ z9) -ℤ (z10 +ℤ z11)) -ℤ ((z12 +ℤ z13) -ℤ (z14 +ℤ z15)))) ≡
    (z0 +ℤ (z1 +ℤ (neg_ℤ z2 +ℤ (neg_ℤ z3 +ℤ (neg_ℤ z4 +ℤ (neg_ℤ z5 +ℤ (z6 +ℤ (z7 +ℤ (z8 +ℤ (z9 +ℤ (neg_ℤ z10 +ℤ (neg_ℤ z11 +ℤ (neg_ℤ z12 +ℤ (neg_ℤ z13 +ℤ (z14 +ℤ (z15 +ℤ pos 0)))))))))))))))) =
    omega (arith, ints) in e
rows_16 z0 z1 z2 z3 z4 z5 z6 z7 z8 z9 z10 z11 z12 z13 z14 z15 (suc (suc (suc (suc (suc (suc (suc zero))))))) h =
    let e : ((((z0 -ℤ z1) -ℤ (z2 -ℤ z3)) -ℤ ((z4 -ℤ z5) -ℤ (z6 -ℤ z7))) +ℤ (((z8 -ℤ z9) -ℤ (z10 -ℤ z11)) -ℤ ((z12 -ℤ z13) -ℤ (z14 -ℤ z15)))) ≡
    (z0 +ℤ (neg_ℤ z1 +ℤ (neg_ℤ z2 +ℤ (z3 +ℤ (neg_ℤ z4 +ℤ (z5 +ℤ (z6 +ℤ (neg_ℤ z7 +ℤ (z8 +ℤ (neg_ℤ z9 +ℤ (neg_ℤ z10 +ℤ (z11 +ℤ (neg_ℤ z12 +ℤ (z13 +ℤ (z14 +ℤ (neg_ℤ z15 +ℤ pos 0)))))))))))))))) =
    omega (arith, ints) in e
rows_16 z0 z1 z2 z3 z4 z5 z6 z7 z8 z9 z10 z11 z12 z13 z14 z15 (suc (suc (suc (suc (suc (suc (suc (suc zero)))))))) h =
    let e : ((((z0 +ℤ z1) +ℤ (z2 +ℤ z3)) +ℤ ((z4 +ℤ z5) +ℤ (z6 +ℤ z7))) -ℤ (((z8 +ℤ z9) +ℤ (z10 +ℤ z11)) +ℤ ((z12 +ℤ z13) +ℤ (z14 +ℤ z15)))) ≡
    (z0 +ℤ (z1 +ℤ (z2 +ℤ (z3 +ℤ (z4 +ℤ (z5 +ℤ (z6 +ℤ (z7 +ℤ (neg_ℤ z8 +ℤ (neg_ℤ z9 +ℤ (neg_ℤ z10 +ℤ (neg_ℤ z11 +ℤ (neg_ℤ z12 +ℤ (neg_ℤ z13 +ℤ (neg_ℤ z14 +ℤ (neg_ℤ z15 +ℤ pos 0)))))))))))))))) =
    omega (arith, ints) in e
rows_16 z0 z1 z2 z3 z4 z5 z6 z7 z8 z9 z10 z11 z12 z13 z14 z15 (suc (suc (suc (suc (suc (suc (suc (suc (suc zero))))))))) h =
    let e : ((((z0 -ℤ z1) +ℤ (z2 -ℤ z3)) +ℤ ((z4 -ℤ z5) +ℤ (z6 -ℤ z7))) -ℤ (((z8 -ℤ z9) +ℤ (z10 -ℤ z11)) +ℤ ((z12 -ℤ z13) +ℤ (z14 -ℤ z15)))) ≡
    (z0 +ℤ (neg_ℤ z1 +ℤ (z2 +ℤ (neg_ℤ z3 +ℤ (z4 +ℤ (neg_ℤ z5 +ℤ (z6 +ℤ (neg_ℤ z7 +ℤ (neg_ℤ z8 +ℤ (z9 +ℤ (neg_ℤ z10 +ℤ (z11 +ℤ (neg_ℤ z12 +ℤ (z13 +ℤ (neg_ℤ z14 +ℤ (z15 +ℤ pos 0)))))))))))))))) =
    omega (arith, ints) in e
rows_16 z0 z1 z2 z3 z4 z5 z6 z7 z8 z9 z10 z11 z12 z13 z14 z15 (suc (suc (suc (suc (suc (suc (suc (suc (suc (suc zero)))))))))) h =
    let e : ((((z0 +ℤ z1) -ℤ (z2 +ℤ z3)) +ℤ ((z4 +ℤ z5) -ℤ (z6 +ℤ z7))) -ℤ (((z8 +ℤ z9) -ℤ (z10 +ℤ z11)) +ℤ ((z12 +ℤ z13) -ℤ (z14 +ℤ z15)))) ≡
    (z0 +ℤ (z1 +ℤ (neg_ℤ z2 +ℤ (neg_ℤ z3 +ℤ (z4 +ℤ (z5 +ℤ (neg_ℤ z6 +ℤ (neg_ℤ z7 +ℤ (neg_ℤ z8 +ℤ (neg_ℤ z9 +ℤ (z10 +ℤ (z11 +ℤ (neg_ℤ z12 +ℤ (neg_ℤ z13 +ℤ (z14 +ℤ (z15 +ℤ pos 0)))))))))))))))) =
    omega (arith, ints) in e
rows_16 z0 z1 z2 z3 z4 z5 z6 z7 z8 z9 z10 z11 z12 z13 z14 z15 (suc (suc (suc (suc (suc (suc (suc (suc (suc (suc (suc zero))))))))))) h =
    let e : ((((z0 -ℤ z1) -ℤ (z2 -ℤ z3)) +ℤ ((z4 -ℤ z5) -ℤ (z6 -ℤ z7))) -ℤ (((z8 -ℤ z9) -ℤ (z10 -ℤ z11)) +ℤ ((z12 -ℤ z13) -ℤ (z14 -ℤ z15)))) ≡
    (z0 +ℤ (neg_ℤ z1 +ℤ (neg_ℤ z2 +ℤ (z3 +ℤ (z4 +ℤ (neg_ℤ z5 +ℤ (neg_ℤ z6 +ℤ (z7 +ℤ (neg_ℤ z8 +ℤ (z9 +ℤ (z10 +ℤ (neg_ℤ z11 +ℤ (neg_ℤ z12 +ℤ (z13 +ℤ (z14 +ℤ (neg_ℤ z15 +ℤ pos 0)))))))))))))))) =
    omega (arith, ints) in e
rows_16 z0 z1 z2 z3 z4 z5 z6 z7 z8 z9 z10 z11 z12 z13 z14 z15 (suc (suc (suc (suc (suc (suc (suc (suc (suc (suc (suc (suc zero)))))))))))) h =
    let e : ((((z0 +ℤ z1) +ℤ (z2 +ℤ z3)) -ℤ ((z4 +ℤ z5) +ℤ (z6 +ℤ z7))) -ℤ (((z8 +ℤ z9) +ℤ (z10 +ℤ z11)) -ℤ ((z12 +ℤ z13) +ℤ (z14 +ℤ z15)))) ≡
    (z0 +ℤ (z1 +ℤ (z2 +ℤ (z3 +ℤ (neg_ℤ z4 +ℤ (neg_ℤ z5 +ℤ (neg_ℤ z6 +ℤ (neg_ℤ z7 +ℤ (neg_ℤ z8 +ℤ (neg_ℤ z9 +ℤ (neg_ℤ z10 +ℤ (neg_ℤ z11 +ℤ (z12 +ℤ (z13 +ℤ (z14 +ℤ (z15 +ℤ pos 0)))))))))))))))) =
    omega (arith, ints) in e
rows_16 z0 z1 z2 z3 z4 z5 z6 z7 z8 z9 z10 z11 z12 z13 z14 z15 (suc (suc (suc (suc (suc (suc (suc (suc (suc (suc (suc (suc (suc zero))))))))))))) h =
    let e : ((((z0 -ℤ z1) +ℤ (z2 -ℤ z3)) -ℤ ((z4 -ℤ z5) +ℤ (z6 -ℤ z7))) -ℤ (((z8 -ℤ z9) +ℤ (z10 -ℤ z11)) -ℤ ((z12 -ℤ z13) +ℤ (z14 -ℤ z15)))) ≡
    (z0 +ℤ (neg_ℤ z1 +ℤ (z2 +ℤ (neg_ℤ z3 +ℤ (neg_ℤ z4 +ℤ (z5 +ℤ (neg_ℤ z6 +ℤ (z7 +ℤ (neg_ℤ z8 +ℤ (z9 +ℤ (neg_ℤ z10 +ℤ (z11 +ℤ (z12 +ℤ (neg_ℤ z13 +ℤ (z14 +ℤ (neg_ℤ z15 +ℤ pos 0)))))))))))))))) =
    omega (arith, ints) in e
rows_16 z0 z1 z2 z3 z4 z5 z6 z7 z8 z9 z10 z11 z12 z13 z14 z15 (suc (suc (suc (suc (suc (suc (suc (suc (suc (suc (suc (suc (suc (suc zero)))))))))))))) h =
    let e : ((((z0 +ℤ z1) -ℤ (z2 +ℤ z3)) -ℤ ((z4 +ℤ z5) -ℤ (z6 +ℤ z7))) -ℤ (((z8 +ℤ z9) -ℤ (z10 +ℤ z11)) -ℤ ((z12 +ℤ z13) -ℤ (z14 +ℤ z15)))) ≡
    (z0 +ℤ (z1 +ℤ (neg_ℤ z2 +ℤ (neg_ℤ z3 +ℤ (neg_ℤ z4 +ℤ (neg_ℤ z5 +ℤ (z6 +ℤ (z7 +ℤ (neg_ℤ z8 +ℤ (neg_ℤ z9 +ℤ (z10 +ℤ (z11 +ℤ (z12 +ℤ (z13 +ℤ (neg_ℤ z14 +ℤ (neg_ℤ z15 +ℤ pos 0)))))))))))))))) =
    omega (arith, ints) in e
rows_16 z0 z1 z2 z3 z4 z5 z6 z7 z8 z9 z10 z11 z12 z13 z14 z15 (suc (suc (suc (suc (suc (suc (suc (suc (suc (suc (suc (suc (suc (suc (suc zero))))))))))))))) h =
    let e : ((((z0 -ℤ z1) -ℤ (z2 -ℤ z3)) -ℤ ((z4 -ℤ z5) -ℤ (z6 -ℤ z7))) -ℤ (((z8 -ℤ z9) -ℤ (z10 -ℤ z11)) -ℤ ((z12 -ℤ z13) -ℤ (z14 -ℤ z15)))) ≡
    (z0 +ℤ (neg_ℤ z1 +ℤ (neg_ℤ z2 +ℤ (z3 +ℤ (neg_ℤ z4 +ℤ (z5 +ℤ (z6 +ℤ (neg_ℤ z7 +ℤ (neg_ℤ z8 +ℤ (z9 +ℤ (z10 +ℤ (neg_ℤ z11 +ℤ (z12 +ℤ (neg_ℤ z13 +ℤ (neg_ℤ z14 +ℤ (z15 +ℤ pos 0)))))))))))))))) =
    omega (arith, ints) in e
rows_16 z0 z1 z2 z3 z4 z5 z6 z7 z8 z9 z10 z11 z12 z13 z14 z15 (suc (suc (suc (suc (suc (suc (suc (suc (suc (suc (suc (suc (suc (suc (suc (suc i)))))))))))))))) h = absurd (omega (arith, h))

all_rows_16 : (zs : List ℤ) → length zs ≡ 16 → (i : ℕ) → i < 16 → Row (1 ∷ 2 ∷ 4 ∷ 8 ∷ []) zs i
all_rows_16 (z0 ∷ z1 ∷ z2 ∷ z3 ∷ z4 ∷ z5 ∷ z6 ∷ z7 ∷ z8 ∷ z9 ∷ z10 ∷ z11 ∷ z12 ∷ z13 ∷ z14 ∷ z15 ∷ []) e i h = rows_16 z0 z1 z2 z3 z4 z5 z6 z7 z8 z9 z10 z11 z12 z13 z14 z15 i h
all_rows_16 zs e i h = absurd (omega (arith, e))

-- a run

nothing_yet : (ss : List ℕ) (i : ℕ) → Silent ss i []
nothing_yet [] i = tt
nothing_yet (s ∷ ss) i = (refl, refl, nothing_yet ss i)

pub start_states : (m : Machine_data) (xs : List Exchange) → m.states ≡ states_from 0 xs → HasStates m 0 xs
start_states m xs e k = let z : 0 + k ≡ k = omega arith in ap (λ (i : ℕ). slice_get m.states i) z ∙ ap (λ (y : List State). slice_get y k) e

machine_of : (n i : ℕ) → i < n → slice_get (demo_machines demo.Butterfly n) i ≡ Some (butterfly_machine n i)
machine_of n i h = let e : 0 + i ≡ i = omega arith in mapped_at (butterfly_machine n) n 0 i h ∙ ap (λ (k : ℕ). Some (butterfly_machine n k)) e

actor_of : (zs : List ℤ) (i : ℕ) → i < length zs → slice_get (map butterfly_member (enumerate_from 0 zs)) i ≡ Some (member i (get_or zs i (pos 0)))
actor_of zs i h =
    let e : 0 + i ≡ i = omega arith in
    mapped butterfly_member (enumerate_from 0 zs) i (0 + i, get_or zs i (pos 0)) (numbered_at 0 zs i h) ∙ ap (λ (k : ℕ). Some (member k (get_or zs i (pos 0)))) e

-- what the members hold at the end
left : (n : ℕ) (ss : List ℕ) (zs : List ℤ) (actors : List DemoTalker) (given : ℕ → DemoTalker) (end : Moment DemoTalker)
    → are_good n ss ≡ true → ((i : ℕ) → butterfly_pairs n i ≡ pairs_of ss i) → length zs ≡ n → actors ≡ map butterfly_member (enumerate_from 0 zs) → IsGiven given actors
    → Ran (demo_machines demo.Butterfly n) given end → (i : ℕ) → i < n
    → (bits : ℕ) × (member bits (held_at_end ss (λ (j : ℕ). j) (λ (j : ℕ). get_or zs j (pos 0)) i) ≡ end.actor i)
left n ss zs actors given end good pairs many is g r = at_the_end n ss (λ (j : ℕ). j) (λ (j : ℕ). get_or zs j (pos 0)) end.history end.actor good queues stage
  where
    queues : Queues n end.history
    queues a b la lb ne = (end.at.queue a b, r.fifo a b ne)

    stage : Stage n ss (λ (j : ℕ). j) (λ (j : ℕ). get_or zs j (pos 0)) end.history end.actor
    stage i lt =
        let there = machine_of n i lt in
        let x : given i ≡ member i (get_or zs i (pos 0)) = g i (member i (get_or zs i (pos 0))) (ap (λ (z : List DemoTalker). slice_get z i) is ∙ actor_of zs i (omega (arith, many))) in
        let tr = trades (end.history i) (butterfly_pairs n i) (butterfly_machine n i) 0 (member i (get_or zs i (pos 0))) (end.at.at i) (end.actor i) refl
        (start_states (butterfly_machine n i) (butterfly_pairs n i) refl) (playing (demo_machines demo.Butterfly n) given end i (butterfly_machine n i) (member i (get_or zs i (pos 0))) r there x)
        (r.over i (butterfly_machine n i) there) in
        let P : List Exchange → Type 0 = λ z. Trades z (end.actor i) (member i (get_or zs i (pos 0))) (end.history i) in
        record { before = []; later = end.history i; split = refl; trades = subst P (pairs i) tr; silent = nothing_yet ss i }

-- the results in role order
results : (n : ℕ) (ss : List ℕ) (zs : List ℤ) (bytes : List ℕ) (actors after : List DemoTalker) (given : ℕ → DemoTalker) (end : Moment DemoTalker)
    → are_good n ss ≡ true → ((i : ℕ) → butterfly_pairs n i ≡ pairs_of ss i) → ((i : ℕ) → i < n → Row ss zs i) → length zs ≡ n → SpellsNumbers zs bytes
    → actors ≡ map butterfly_member (enumerate_from 0 zs) → IsGiven given actors → Ran (demo_machines demo.Butterfly n) given end → HasActors n end.actor after
    → map result_of after ≡ transform_of zs
results n ss zs bytes actors after given end good pairs rows many spells is g r has =
    same_lists (map result_of after) (transform_of zs)
    (many_mapped result_of after ∙ has.many ∙ sym many ∙ sym (many_numbered 0 zs) ∙ sym (many_mapped (λ (x : ℕ × ℤ). in_64_bits (transform_at zs x.0)) (enumerate_from 0 zs)))
    (λ i lt. each i (omega (arith, lt, many_mapped result_of after, has.many)))
  where
    each : (i : ℕ) → i < n → slice_get (map result_of after) i ≡ slice_get (transform_of zs) i
    each i lt =
        let l = left n ss zs actors given end good pairs many is g r i lt in
        let e : 0 + i ≡ i = omega arith in
        let ours = mapped result_of after i (end.actor i) (has.each i lt) in
        let held : result_of (end.actor i) ≡ held_at_end ss (λ (j : ℕ). j) (λ (j : ℕ). get_or zs j (pos 0)) i = ap result_of (sym l.1) in
        let sums = wrapped_at_end ss (λ (j : ℕ). j) (λ (j : ℕ). get_or zs j (pos 0)) (λ (j : ℕ). get_or zs j (pos 0)) (λ j. whole_numbers zs bytes j spells) i in
        let theirs = mapped (λ (x : ℕ × ℤ). in_64_bits (transform_at zs x.0)) (enumerate_from 0 zs) i (0 + i, get_or zs i (pos 0)) (numbered_at 0 zs i (omega (arith, many))) in
        ours ∙ ap (λ (z : ℤ). Some z) (held ∙ sums ∙ ap in_64_bits (rows i lt)) ∙ ap (λ (k : ℕ). Some (in_64_bits (transform_at zs k))) (sym e) ∙ sym theirs

data Counts (n : ℕ) : Type 0 where
  Two : n ≡ 2 → Counts n
  Four : n ≡ 4 → Counts n
  Eight : n ≡ 8 → Counts n
  Sixteen : n ≡ 16 → Counts n

either : (a b : Bool) → (a || b) ≡ true → (a ≡ true) ⊎ (b ≡ true)
either true b h = inl refl
either false b h = inr h

eq_by : (x y : ℕ) → (x == y) ≡ true → x ≡ y
eq_by x y h = elim (eqb_tells x y) [ inl t ↦ t.1 | inr t ↦ absurd (false≢true (sym t.0 ∙ h)) ]

counts : (n : ℕ) → takes_numbers demo.Butterfly n ≡ true → Counts n
counts n h = elim (either ((n == 2) || (n == 4)) ((n == 8) || (n == 16)) h) [
  | inl k ↦ elim (either (n == 2) (n == 4) k) [ inl e ↦ Two (eq_by n 2 e) | inr e ↦ Four (eq_by n 4 e) ]
  | inr k ↦ elim (either (n == 8) (n == 16) k) [ inl e ↦ Eight (eq_by n 8 e) | inr e ↦ Sixteen (eq_by n 16 e) ]
]

by_count : (n : ℕ) (zs : List ℤ) (bytes : List ℕ) (actors after : List DemoTalker) (given : ℕ → DemoTalker) (end : Moment DemoTalker)
    → Counts n → length zs ≡ n → SpellsNumbers zs bytes → actors ≡ map butterfly_member (enumerate_from 0 zs) → IsGiven given actors
    → Ran (demo_machines demo.Butterfly n) given end → HasActors n end.actor after → map result_of after ≡ transform_of zs
by_count n zs bytes actors after given end (Two e) many s is g r has =
    let P : ℕ → Type 0 = λ k. Ran (demo_machines demo.Butterfly k) given end in
    let Q : ℕ → Type 0 = λ k. HasActors k end.actor after in
    results 2 (1 ∷ []) zs bytes actors after given end refl (λ i. refl) (all_rows_2 zs (many ∙ e)) (many ∙ e) s is g (subst P e r) (subst Q e has)
by_count n zs bytes actors after given end (Four e) many s is g r has =
    let P : ℕ → Type 0 = λ k. Ran (demo_machines demo.Butterfly k) given end in
    let Q : ℕ → Type 0 = λ k. HasActors k end.actor after in
    results 4 (1 ∷ 2 ∷ []) zs bytes actors after given end refl (λ i. refl) (all_rows_4 zs (many ∙ e)) (many ∙ e) s is g (subst P e r) (subst Q e has)
by_count n zs bytes actors after given end (Eight e) many s is g r has =
    let P : ℕ → Type 0 = λ k. Ran (demo_machines demo.Butterfly k) given end in
    let Q : ℕ → Type 0 = λ k. HasActors k end.actor after in
    results 8 (1 ∷ 2 ∷ 4 ∷ []) zs bytes actors after given end refl (λ i. refl) (all_rows_8 zs (many ∙ e)) (many ∙ e) s is g (subst P e r) (subst Q e has)
by_count n zs bytes actors after given end (Sixteen e) many s is g r has =
    let P : ℕ → Type 0 = λ k. Ran (demo_machines demo.Butterfly k) given end in
    let Q : ℕ → Type 0 = λ k. HasActors k end.actor after in
    results 16 (1 ∷ 2 ∷ 4 ∷ 8 ∷ []) zs bytes actors after given end refl (λ i. refl) (all_rows_16 zs (many ∙ e)) (many ∙ e) s is g (subst P e r) (subst Q e has)

pub butterfly_run : (bytes : List ℕ) (actors after : List DemoTalker) (given : ℕ → DemoTalker) (limit : ℕ) (capacity : Option ℕ) (end : Moment DemoTalker)
    → StartsWithActors demo.Butterfly bytes actors → IsGiven given actors → IsPlain (demo_machines demo.Butterfly (length actors)) by_demo given limit capacity (Ended end)
    → HasActors (length actors) end.actor after → Computes demo.Butterfly bytes (output_of demo.Butterfly after)
butterfly_run bytes actors after given limit capacity end s g is has =
    let many : length s.0 ≡ length actors = sym (many_numbered 0 s.0) ∙ sym (many_mapped butterfly_member (enumerate_from 0 s.0)) ∙ ap length (sym s.2) in
    let takes : takes_numbers demo.Butterfly (length actors) ≡ true = ap (takes_numbers demo.Butterfly) (sym many) ∙ s.1.0 in
    let e = by_count (length actors) s.0 bytes actors after given end (counts (length actors) takes) many s.1.1 s.2 g
    (ran (demo_machines demo.Butterfly (length actors)) given limit capacity end is) has in
    (s.0, s.1, ap results_text e)
