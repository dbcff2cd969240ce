-- Places of names are numbers of 32 bits.
use Rattle.std.proofs.Common.{◌≡◌, ℕ, ◌<◌, ◌≤◌, ◌^◌, List, Some, length, arith}
use Rattle.rs_model.specs.declared.limits.TheConstants.{MOST_LABELS}
use Rattle.rs_text.specs.Names.{place_of}
use Rattle.rs_text.proofs.Numbers as numbers

pub place_below : (names : List (List ℕ)) (word : List ℕ) (place : ℕ) → length names ≤ MOST_LABELS → place_of word names ≡ Some place → place < 2 ^ 32
place_below names word place few is = let below = numbers.place_below names word place is in omega arith
