-- No two rings share a word or a slot.
use Rattle.std.proofs.Common.{◌≡◌, ◌≢◌, ℕ, suc, ◌+◌, ◌*◌, ◌-◌, ◌%◌, ◌/◌, ◌<◌, ◌≤◌, refl, sym, ap, ◌∙◌, subst, arith, mod-lt, mul_comm, inl, inr, mul-le-mul_right, suc-mul, lt_of_not-le, div-add-mod'}
use Rattle.std.proofs.lemmas.Bool.Decides.{leb_tells}
use Rattle.std.proofs.lemmas.Nat.{same_from_place, mul-add-lt}
use native.Mathlib.Nat.{add-mod_right}
use native.Mathlib.Decide.{dec_le}
use mathlib.Core.Logic.{dite}
use Rattle.rs_slots.specs.Places.{ring_count, column, ring_of, head_word, tail_word, slot_of, IsPair}

further : (x y n : ℕ) → x < y → x * n + n ≤ y * n
further x y n h = let a : suc x * n ≤ y * n = mul-le-mul_right n h in omega (arith, suc-mul x n)

turns : (a b n : ℕ) → a ≤ b → b < a + n → a % n ≡ b % n → Dec (b / n ≤ a / n) → a ≡ b
turns a b n le lt e (yes d) = let m : b / n * n ≤ a / n * n = mul-le-mul_right n d in let p = div-add-mod' a n in let q = div-add-mod' b n in
    let x : ℕ = a / n * n in let y : ℕ = b / n * n in let r : ℕ = b % n in let p' : x + r ≡ a = ap (λ (k : ℕ). x + k) (sym e) ∙ p in let q' : y + r ≡ b = q in let m' : y ≤ x = m in omega arith
turns a b n le lt e (no d) = let m = further (a / n) (b / n) n (lt_of_not-le d) in let p = div-add-mod' a n in let q = div-add-mod' b n in
    let x : ℕ = a / n * n in let y : ℕ = b / n * n in let r : ℕ = b % n in let p' : x + r ≡ a = ap (λ (k : ℕ). x + k) (sym e)
    ∙ p in let q' : y + r ≡ b = q in let m' : x + n ≤ y = m in absurd (omega arith)

-- two numbers less than n apart, with one remainder, are one number
one_turn : (a b n : ℕ) → a ≤ b → b < a + n → a % n ≡ b % n → a ≡ b
one_turn a b n le lt e = turns a b n le lt e (dec_le (b / n) (a / n))

lower : (p q : ℕ) → q < p → column p q ≡ q
lower p q l = elim (leb_tells (suc q) p) [ inl h ↦ rw h.0 refl | inr h ↦ (let no = h.1 in absurd (omega arith)) ]

higher : (p q : ℕ) → p < q → column p q ≡ q - 1
higher p q l = elim (leb_tells (suc q) p) [ inl h ↦ (let no = h.1 in absurd (omega arith)) | inr h ↦ rw h.0 refl ]

column_below : (n p q : ℕ) → IsPair n p q → column p q < n - 1
column_below n p q t = let a = t.sender in let b = t.receiver in dite (dec_le p q)
    (λ le. let d = t.differ in let l : p < q = omega arith in let e = higher p q l in omega arith)
    (λ no. let l : q < p = omega arith in let e = lower p q l in omega arith)

one_column : (p q y : ℕ) → p ≢ q → p ≢ y → column p q ≡ column p y → q ≡ y
one_column p q y a b e = dite (dec_le p q)
    (λ le. let l : p < q = omega arith in let f = higher p q l in dite (dec_le p y) (λ le'. let l' : p < y = omega arith in let f' = higher p y l' in omega arith)
    (λ no. let l' : y < p = omega arith in let f' = lower p y l' in omega arith))
    (λ no. let l : q < p = omega arith in let f = lower p q l in dite (dec_le p y) (λ le'. let l' : p < y = omega arith in let f' = higher p y l' in omega arith)
    (λ no'. let l' : y < p = omega arith in let f' = lower p y l' in omega arith))

pub one_ring : (n p q x y : ℕ) → IsPair n p q → IsPair n x y → ring_of n p q ≡ ring_of n x y → (p ≡ x) × (q ≡ y)
one_ring n p q x y s t e =
    let r = same_from_place p (column p q) x (column x y) (n - 1) (column_below n p q s) (column_below n x y t) e in
    (r.0, one_column p q y s.differ (λ h. t.differ (sym r.0 ∙ h)) (r.1 ∙ ap (λ (z : ℕ). column z y) (sym r.0)))

pub ring_below : (n p q : ℕ) → IsPair n p q → ring_of n p q < ring_count n
ring_below n p q t = subst (λ (z : ℕ). ring_of n p q < z) (mul_comm (n - 1) n) (mul-add-lt p (n - 1) (column p q) n t.sender (column_below n p q t))

pub one_head : (i j : ℕ) → head_word i ≡ head_word j → i ≡ j
one_head i j e = let f : 2 * i ≡ 2 * j = e in omega arith

pub one_tail : (i j : ℕ) → tail_word i ≡ tail_word j → i ≡ j
one_tail i j e = let f : 2 * i + 1 ≡ 2 * j + 1 = e in omega arith

pub head_no_tail : (i j : ℕ) → head_word i ≢ tail_word j
head_no_tail i j e = let f : 2 * i ≡ 2 * j + 1 = e in omega arith

pub slots_apart : (cap i j k m : ℕ) → 0 < cap → slot_of cap i k ≡ slot_of cap j m → (i ≡ j) × (k % cap ≡ m % cap)
slots_apart cap i j k m pos e = same_from_place i (k % cap) j (m % cap) cap (mod-lt k pos) (mod-lt m pos) e

pub counts_apart : (cap i k m : ℕ) → 0 < cap → k < m → m < k + cap → slot_of cap i k ≢ slot_of cap i m
counts_apart cap i k m pos lt near e = let same = one_turn k m cap (omega arith) near (slots_apart cap i i k m pos e).1 in omega arith

pub slot_below : (n cap i k : ℕ) → 0 < cap → i < ring_count n → slot_of cap i k < ring_count n * cap
slot_below n cap i k pos l = subst (λ (z : ℕ). slot_of cap i k < z) (mul_comm cap (ring_count n)) (mul-add-lt i cap (k % cap) (ring_count n) l (mod-lt k pos))

pub next_turn : (cap i k : ℕ) → slot_of cap i (k + cap) ≡ slot_of cap i k
next_turn cap i k = ap (λ (z : ℕ). i * cap + z) (add-mod_right k cap)
