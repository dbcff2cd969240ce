-- Public: what each demo computes of its input, said without any run.
use Rattle.std.specs.Prelude.{◌≡◌, ℕ, ◌-◌, ◌%◌, ℤ, pos, ◌+ℤ◌, neg_ℤ, List, [], ◌∷◌, ◌++◌, map, ◌==◌, if◌then◌else◌, bit_and, count_ones}
use Rattle.std.specs.List.{enumerate_from, join_with_byte}
use Rattle.std.specs.Fmt.{signed_decimal}
use Rattle.std.specs.Int.{w64, int_wrap}
use Rattle.rs_demos.specs.Numbers.{AreAsked}
use Rattle.rs_model.specs.declared.demos.Demo.{Demo}
use Rattle.rs_model.specs.declared.demos.Demo.TheVariants as demo

-- each byte b as 255 - b
abbrev pub inverse_bytes : List ℕ → List ℕ
inverse_bytes bytes = map (λ (b : ℕ). 255 - b) bytes

-- what 64 bits keep of a number
abbrev pub in_64_bits : ℤ → ℤ
in_64_bits z = int_wrap w64 z

-- the sum of the numbers
abbrev pub sum_of_numbers : List ℤ → ℤ
sum_of_numbers [] = pos 0
sum_of_numbers (z ∷ zs) = z +ℤ sum_of_numbers zs

-- the number at place j with the sign that it has at place i: minus where i and j have an odd number of set bits in
-- common
abbrev pub signed_at : ℕ → ℕ → ℤ → ℤ
signed_at i j z = if count_ones (bit_and i j) % 2 == 1 then neg_ℤ z else z

-- the Walsh-Hadamard transform of the numbers, at place i: the sum of all, each with its sign
abbrev pub transform_at : List ℤ → ℕ → ℤ
transform_at zs i = sum_of_numbers (map (λ (x : ℕ × ℤ). signed_at i x.0 x.1) (enumerate_from 0 zs))

-- the sum of the numbers, once for each of them
abbrev pub sums_of : List ℤ → List ℤ
sums_of zs = map (λ (z : ℤ). in_64_bits (sum_of_numbers zs)) zs

-- the transform at each place
abbrev pub transform_of : List ℤ → List ℤ
transform_of zs = map (λ (x : ℕ × ℤ). in_64_bits (transform_at zs x.0)) (enumerate_from 0 zs)

-- results in decimal, separated by one space, and LF
abbrev pub results_text : List ℤ → List ℕ
results_text zs = join_with_byte 32 (map signed_decimal zs) ++ (10 ∷ [])

-- what the demo computes of the bytes
abbrev pub Computes : Demo → List ℕ → List ℕ → Type 0
Computes demo.Double bytes output = output ≡ inverse_bytes bytes
Computes demo.Stream bytes output = output ≡ bytes
Computes demo.Ring bytes output = (zs : List ℤ) × AreAsked demo.Ring bytes zs × (output ≡ results_text (sums_of zs))
Computes demo.Butterfly bytes output = (zs : List ℤ) × AreAsked demo.Butterfly bytes zs × (output ≡ results_text (transform_of zs))
