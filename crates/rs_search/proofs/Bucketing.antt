-- The share of a size that a number below a factor picks.
use Rattle.std.proofs.Common.{ℕ, ◌<◌, ◌*◌, ◌/◌, ◌^◌, arith}
use Rattle.std.proofs.lemmas.Nat.{div_below, mul-lt, shr_below}
use Rattle.std.proofs.Math.Nat.{mul-lt-mul_of_pos_right}

half_below : (n : ℕ) → n < 2 ^ 64 → n / 2 ^ 32 < 2 ^ 32
half_below n h = shr_below n 32 32 h

-- it fits
pub share_fits : (n size : ℕ) → n < 2 ^ 64 → size < 2 ^ 32 → n / 2 ^ 32 * size < 2 ^ 64
share_fits n size h some = let l = mul-lt (n / 2 ^ 32) size (2 ^ 32) (2 ^ 32) (half_below n h) some in omega arith

share_product : (half size : ℕ) → half < 2 ^ 32 → 0 < size → half * size < size * 2 ^ 32
share_product half size h some = let l : half * size < 2 ^ 32 * size = mul-lt-mul_of_pos_right h some in omega arith

-- it is below the size
pub share_below : (n size : ℕ) → n < 2 ^ 64 → 0 < size → n / 2 ^ 32 * size / 2 ^ 32 < size
share_below n size h some = div_below (n / 2 ^ 32 * size) (2 ^ 32) size (omega arith) (share_product (n / 2 ^ 32) size (half_below n h) some)
