-- Public: the number of a value of the sort `nat`, and 0 of any other value.
use Rattle.std.specs.Prelude.{◌≡◌, ℕ, ◌<◌, ◌^◌, nat_lt, true, false, Bool, refl}
use Rattle.std.proofs.Common.{ap, lit<, sym, ◌∙◌}
use Rattle.std.proofs.lemmas.Bool.{ltb-true, lt-ltb}
use mathlib.Core.HLevel.{Σ_prop_path}
use native.Mathlib.Bridge.{le_prop}
use Rattle.rs_model.specs.Sorts.{HasSort}
use Rattle.rs_model.specs.declared.values.Sort.TheVariants as sort
use Rattle.rs_model.specs.declared.values.Value.{Value}
use Rattle.rs_model.specs.declared.values.Value.TheVariants as value
use Rattle.rs_typed.specs.declared.numbers.Nat.{Nat}

-- the number, where it is small enough by that test, and else 0
abbrev pub nat_if : (n : ℕ) (small : Bool) → nat_lt n (2 ^ 63) ≡ small → Nat
nat_if n true test = record { number = n; small = ltb-true n (2 ^ 63) test }
nat_if n false test = record { number = 0; small = lit< tt }

-- the number that a value of the sort `nat` carries, and 0 of any other value
abbrev pub nat_of : Value → Nat
nat_of (value.Natural n) = nat_if n (nat_lt n (2 ^ 63)) refl
nat_of _ = record { number = 0; small = lit< tt }

-- two are equal that have the same number
pub nat_by_number : (a b : Nat) → a.number ≡ b.number → a ≡ b
nat_by_number a b same =
    ap (λ (t : (n : ℕ) × (n < 2 ^ 63)). record { number = t.0; small = t.1 }) (Σ_prop_path (λ (n : ℕ). le_prop) same)

-- a number below 2^63 stays as it is
pub nat_if-number : (n : ℕ) (small : Bool) (test : nat_lt n (2 ^ 63) ≡ small) → n < 2 ^ 63 → (nat_if n small test).number ≡ n
nat_if-number n true test low = refl
nat_if-number n false test low = absurd (true_is_false (sym (lt-ltb n (2 ^ 63) low) ∙ test))
  where
    true_is_false : true ≡ false → ⊥
    true_is_false e = cc

-- as a value it has the sort `nat`
pub nat_has_sort : (n : Nat) → HasSort (value.Natural n.number) sort.Natural
nat_has_sort n = lt-ltb n.number (2 ^ 63) n.small

-- and that value carries the number again
pub nat_comes_back : (n : Nat) → nat_of (value.Natural n.number) ≡ n
nat_comes_back n = nat_by_number (nat_of (value.Natural n.number)) n (nat_if-number n.number (nat_lt n.number (2 ^ 63)) refl n.small)
