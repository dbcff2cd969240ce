-- Steps: the law of the actor that draws: it chooses an arm that is there, and a value of its sort.
use Rattle.std.proofs.Common.{◌≡◌, ℕ, zero, suc, ◌+◌, ◌*◌, ◌<◌, ◌%◌, ◌^◌, List, [], ◌∷◌, Option, Some, slice_get, length, refl, sym, subst, arith}
use Rattle.std.proofs.lemmas.Bool.{lt-ltb}
use Rattle.std.proofs.lemmas.Nat.{mod_below}
use Rattle.rs_model.specs.Sorts.{HasSort}
use Rattle.rs_model.specs.declared.graph.Arm.{Arm}
use Rattle.rs_model.specs.declared.values.Sort.{Sort}
use Rattle.rs_model.specs.declared.values.Sort.TheVariants as sort
use Rattle.rs_core.specs.Actors.{ChoosesWell}
use Rattle.rs_core.specs.Draws.{after, draw, draw_value, value_for, by_draws}

-- a draw is below 32,768
draw_low : (x : ℕ) → draw x < 32768
draw_low x =
    let low = mod_below (x * 1103515245 + 12345) (2 ^ 31) (omega arith) in
    omega arith

-- a value that is drawn has its sort
has_sort : (s : Sort) (x : ℕ) → HasSort (draw_value s x) s
has_sort sort.Unit x = refl
has_sort sort.Flag x = refl
has_sort sort.Natural x = let low = draw_low x in lt-ltb (draw x) (2 ^ 63) (omega arith)
has_sort sort.Whole x = refl
has_sort sort.Octets x = refl
has_sort sort.Numbers x = refl

-- an arm stands at each place below the length
arm_at : (arms : List Arm) (p : ℕ) → p < length arms → (a : Arm) × (slice_get arms p ≡ Some a)
arm_at [] p h = absurd (omega arith)
arm_at (a ∷ arms) zero h = (a, refl)
arm_at (a ∷ arms) (suc p) h = arm_at arms p (omega arith)

-- a list of arms that isn't empty has a length above 0
pub some_length : (arms : List Arm) → (arms ≡ [] → ⊥) → 0 < length arms
some_length [] some = absurd (some refl)
some_length (a ∷ arms) some = omega arith

-- the actor that draws chooses an arm that is there, and a value of its sort
pub draws_well : ChoosesWell by_draws
draws_well x arms some =
    let low = mod_below (draw x) (length arms) (some_length arms some) in
    let arm = arm_at arms (draw x % length arms) low in
    let P : Option Arm → Type 0 = λ z. HasSort (value_for z (after x)) arm.0.sort in
    (arm.0, arm.1, subst P (sym arm.1) (has_sort arm.0.sort (after x)))
