-- Public: names that are near each other, so that the one may be meant for the other.
use Rattle.std.specs.Prelude.{◌≡◌, ◌≢◌, ◌⊎◌, ℕ, ◌≤◌, Bool, true, false, ◌||◌, ◌&&◌, ◌==◌, nat_lt, List, [], ◌∷◌, ◌++◌, map, length, if◌then◌else◌, Option, Some, None}
use Rattle.std.specs.Char.{to_ascii_lowercase}
use Rattle.std.specs.Str.{bytes_eq, str_eq_ignore_ascii_case}

-- the names are the same but for the case of their ASCII letters
abbrev pub AreSameButForCase : List ℕ → List ℕ → Type 0
AreSameButForCase one other = map to_ascii_lowercase one ≡ map to_ascii_lowercase other

-- one byte of the first name is another one in the second
pub record ReplacesOne (one other : List ℕ) : Type 0 where
  pub before : List ℕ
  pub byte : ℕ
  pub instead : ℕ
  pub behind : List ℕ
  pub one_is : one ≡ before ++ byte ∷ behind
  pub other_is : other ≡ before ++ instead ∷ behind

-- the first name has one byte more
pub record HasOneMore (one other : List ℕ) : Type 0 where
  pub before : List ℕ
  pub byte : ℕ
  pub behind : List ℕ
  pub one_is : one ≡ before ++ byte ∷ behind
  pub other_is : other ≡ before ++ behind

-- two neighbouring bytes of the first name change places in the second
pub record SwapsTwo (one other : List ℕ) : Type 0 where
  pub before : List ℕ
  pub first : ℕ
  pub second : ℕ
  pub behind : List ℕ
  pub one_is : one ≡ before ++ first ∷ second ∷ behind
  pub other_is : other ≡ before ++ second ∷ first ∷ behind

-- one byte is replaced, two neighbours change places, or one byte is more or less
abbrev pub DifferByOne : List ℕ → List ℕ → Type 0
DifferByOne one other = ReplacesOne one other ⊎ (SwapsTwo one other ⊎ (HasOneMore one other ⊎ HasOneMore other one))

-- the names differ, and are the same but for the case of their letters or, where one of them has three bytes at least, differ
-- by one byte or by two neighbours that change places
abbrev pub IsNear : List ℕ → List ℕ → Type 0
IsNear one other = (one ≢ other) × (AreSameButForCase one other ⊎ (((3 ≤ length one) ⊎ (3 ≤ length other)) × DifferByOne one other))

-- whether each name begins with the byte that comes second in the other, where x and y come first, and goes on the same behind it
abbrev pub are_swapped : ℕ → List ℕ → ℕ → List ℕ → Bool
are_swapped x [] y ys = false
are_swapped x (b ∷ xs) y [] = false
are_swapped x (b ∷ xs) y (c ∷ ys) = (b == y) && ((c == x) && bytes_eq xs ys)

-- whether names differ by one that begin with the bytes x and y, which differ
abbrev pub differ_here : ℕ → List ℕ → ℕ → List ℕ → Bool
differ_here x xs y ys = bytes_eq xs ys || (bytes_eq xs (y ∷ ys) || (bytes_eq (x ∷ xs) ys || are_swapped x xs y ys))

-- whether the rests from the first difference on differ by one; not where there is no difference
abbrev pub differ_by_one : List ℕ → List ℕ → Bool
differ_by_one [] [] = false
differ_by_one [] (y ∷ ys) = length ys == 0
differ_by_one (x ∷ xs) [] = length xs == 0
differ_by_one (x ∷ xs) (y ∷ ys) = if x == y then differ_by_one xs ys else differ_here x xs y ys

-- whether the names are near each other
abbrev pub is_near : List ℕ → List ℕ → Bool
is_near one other =
    if bytes_eq one other then false
    else if str_eq_ignore_ascii_case one other then true
    else if nat_lt (length one) 3 && nat_lt (length other) 3 then false else differ_by_one one other

-- how far near names are from each other: not at all where they are the same but for the case of their letters, else by one
abbrev pub distance : List ℕ → List ℕ → Option ℕ
distance one other = if is_near one other then Some (if str_eq_ignore_ascii_case one other then 0 else 1) else None
