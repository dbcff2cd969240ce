-- No two rings share a word or a slot.
use Rattle.std.proofs.Common.{◌≡◌, ◌≢◌, ℕ, ◌+◌, ◌*◌, ◌%◌, ◌<◌, ◌≤◌, sym, arith, lt_of_not-le}
use native.Mathlib.Decide.{dec_le}
use mathlib.Core.Logic.{dite}
use Rattle.rs_slots.specs.Places.{ring_count, ring_of, IsPair}
use Rattle.rs_slots.proofs.Places as lay
use Rattle.rs_rings.specs.Places.{head_word_of, tail_of, slot_place}

pub heads_apart : (n p q x y : ℕ) → IsPair n p q → IsPair n x y → head_word_of n p q ≡ head_word_of n x y → (p ≡ x) × (q ≡ y)
heads_apart n p q x y a b e = lay.one_ring n p q x y a b (lay.one_head (ring_of n p q) (ring_of n x y) e)

pub tails_apart : (n p q x y : ℕ) → IsPair n p q → IsPair n x y → tail_of n p q ≡ tail_of n x y → (p ≡ x) × (q ≡ y)
tails_apart n p q x y a b e = lay.one_ring n p q x y a b (lay.one_tail (ring_of n p q) (ring_of n x y) e)

pub head_no_tail : (n p q x y : ℕ) → head_word_of n p q ≢ tail_of n x y
head_no_tail n p q x y e = lay.head_no_tail (ring_of n p q) (ring_of n x y) e

pub slots_apart : (n cap p q x y k m : ℕ) → 0 < cap → IsPair n p q → IsPair n x y → slot_place n cap p q k ≡ slot_place n cap x y m → ((p ≡ x) × (q ≡ y)) × (k % cap ≡ m % cap)
slots_apart n cap p q x y k m pos a b e = let t = lay.slots_apart cap (ring_of n p q) (ring_of n x y) k m pos e in (lay.one_ring n p q x y a b t.0, t.1)

-- two counts of one window have two slots
pub counts_apart : (n cap p q g k m : ℕ) → 0 < cap → g ≤ k → k < g + cap → g ≤ m → m < g + cap → k ≢ m → slot_place n cap p q k ≢ slot_place n cap p q m
counts_apart n cap p q g k m pos a b c d ne e = let i : ℕ = ring_of n p q in
    dite (dec_le k m) (λ le. lay.counts_apart cap i k m pos (omega arith) (omega arith) e) (λ no. let lt = lt_of_not-le no in lay.counts_apart cap i m k pos lt (omega arith) (sym e))

pub next_turn : (n cap p q k : ℕ) → slot_place n cap p q (k + cap) ≡ slot_place n cap p q k
next_turn n cap p q k = lay.next_turn cap (ring_of n p q) k

pub slot_below : (n cap p q k : ℕ) → 0 < cap → IsPair n p q → slot_place n cap p q k < ring_count n * cap
slot_below n cap p q k pos a = lay.slot_below n cap (ring_of n p q) k pos (lay.ring_below n p q a)

pub head_below : (n p q : ℕ) → IsPair n p q → head_word_of n p q < 2 * ring_count n
head_below n p q a = let i : ℕ = ring_of n p q in let m : ℕ = ring_count n in let l : i < m = lay.ring_below n p q a in let g : 2 * i < 2 * m = omega arith in g

pub tail_below : (n p q : ℕ) → IsPair n p q → tail_of n p q < 2 * ring_count n
tail_below n p q a = let i : ℕ = ring_of n p q in let m : ℕ = ring_count n in let l : i < m = lay.ring_below n p q a in let g : 2 * i + 1 < 2 * m = omega arith in g
