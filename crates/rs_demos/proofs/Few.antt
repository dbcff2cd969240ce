-- The exchanges of a demo are few.
use Rattle.std.proofs.Common.{◌≡◌, ℕ, suc, zero, ◌+◌, ◌-◌, ◌≤◌, true, nat_le, List, ◌++◌, length, refl, sym, ap, ◌∙◌, arith}
use Rattle.std.specs.List.{list_all, range_with_len}
use Rattle.std.proofs.lemmas.Bool.{leb-true}
use Rattle.std.proofs.lemmas.List.{length-append, length-map}
use Rattle.rs_model.specs.declared.limits.TheConstants.{MOST_ROLES}
use Rattle.rs_demos.specs.Sessions.{butterfly_exchanges, next_in_ring, numbers_from, previous_in_ring, ring_exchanges, ring_pairs}
use Rattle.rs_demos.proofs.Ranges.{within}

rings : list_all (λ (n : ℕ). nat_le (length (ring_exchanges n)) 256) (range_with_len 1 16) ≡ true
rings = refl

pub few_in_ring : (n : ℕ) → 1 ≤ n → n ≤ MOST_ROLES → length (ring_exchanges n) ≤ 256
few_in_ring n low high = leb-true (length (ring_exchanges n)) 256 (within (λ (n : ℕ). nat_le (length (ring_exchanges n)) 256) 1 16 n rings low (omega (arith, high)))

butterflies : list_all (λ (n : ℕ). nat_le (length (butterfly_exchanges n)) 256) (range_with_len 0 17) ≡ true
butterflies = refl

pub few_in_butterfly : (n : ℕ) → n ≤ MOST_ROLES → length (butterfly_exchanges n) ≤ 256
few_in_butterfly n high = leb-true (length (butterfly_exchanges n)) 256 (within (λ (n : ℕ). nat_le (length (butterfly_exchanges n)) 256) 0 17 n butterflies (omega arith) (omega (arith, high)))

range_length : (a many : ℕ) → length (range_with_len a many) ≡ many
range_length a zero = refl
range_length a (suc many) = ap (λ (z : ℕ). suc z) (range_length (a + 1) many)

pub few_pairs : (n i : ℕ) → n ≤ MOST_ROLES → length (ring_pairs n i) ≤ 256
few_pairs n i high =
    let e : length (ring_pairs n i) ≡ n - 1 = length-map (numbers_from 1 (n - 1)) (λ (round : ℕ). (next_in_ring n i, previous_in_ring n i)) ∙ range_length 1 (n - 1) in
    omega (arith, e, high)

-- the first part of what is few
pub few_first : {X : Type 0} (xs ys whole : List X) → xs ++ ys ≡ whole → length whole ≤ 256 → length xs ≤ 256
few_first xs ys whole e few =
    let many : length xs + length ys ≡ length whole = sym (length-append xs ys) ∙ ap length e in
    omega (arith, many, few)
