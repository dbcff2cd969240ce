use Rattle.std.proofs.Common.{◌≡◌, ℕ, suc, ◌+◌, ◌<◌, List, [], ◌∷◌, length, Bool, true, false, if◌then◌else◌, Option, Some, arith}
use Rattle.std.specs.Str.{bytes_eq}
use Rattle.rs_text.specs.Names.{place_from, place_of}

some_is : (n k : ℕ) → Some n ≡ Some k → n ≡ k
some_is n k h = cc

below_if : (test : Bool) (n k m : ℕ) (p : Option ℕ) → 0 < m → (p ≡ Some k → k < n + m) → (if test then Some n else p) ≡ Some k → k < n + m
below_if true n k m p pos f h = let e : n ≡ k = some_is n k h in omega arith
below_if false n k m p pos f h = f h

below_from : (names : List (List ℕ)) (name : List ℕ) (n k : ℕ) → place_from n name names ≡ Some k → k < n + length names
below_from [] name n k h = cc
below_from (x ∷ names) name n k h =
    below_if (bytes_eq x name) n k (length (x ∷ names)) (place_from (suc n) name names) (omega arith) (λ g. let e : k < suc n + length names = below_from names name (suc n) k g in omega arith) h

-- a place is below the count of the names
pub place_below : (names : List (List ℕ)) (name : List ℕ) (k : ℕ) → place_of name names ≡ Some k → k < length names
place_below names name k h = let e : k < 0 + length names = below_from names name 0 k h in omega arith
