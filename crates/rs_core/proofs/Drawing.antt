-- What the actor that draws has still to draw.
use Rattle.std.proofs.Common.{◌≡◌, ℕ, suc, ◌+◌, ◌-◌, ◌<◌, ◌%◌, List, [], ◌∷◌, ◌++◌, Option, slice_get, slice_index_or, length, ap, sym, ◌∙◌, append_assoc, arith}
use Rattle.std.proofs.lemmas.Option.{get_or_from_slice_get}
use Rattle.rs_model.specs.declared.graph.Arm.{Arm}
use Rattle.rs_core.specs.Draws.{after, draw, after_many, draw_whole, draw_octets, draw_numbers, draw_value, after_value, value_for, after_arm}
use Rattle.rs_core.proofs.Ends.{get_there}

pub octets_on : (many i x : ℕ) → i < many → draw_octets (many - i) x ≡ draw x % 256 ∷ draw_octets (many - (i + 1)) (after x)
octets_on many i x h = let e : many - i ≡ suc (many - (i + 1)) = omega arith in ap (λ (n : ℕ). draw_octets n x) e

pub numbers_on : (many i x : ℕ) → i < many → draw_numbers (many - i) x ≡ draw_whole x ∷ draw_numbers (many - (i + 1)) (after x)
numbers_on many i x h = let e : many - i ≡ suc (many - (i + 1)) = omega arith in ap (λ (n : ℕ). draw_numbers n x) e

pub after_on : (many i x : ℕ) → i < many → after_many (many - i) x ≡ after_many (many - (i + 1)) (after x)
after_on many i x h = let e : many - i ≡ suc (many - (i + 1)) = omega arith in ap (λ (n : ℕ). after_many n x) e

pub drawn_on : {X : Type 0} (ys xs rest all : List X) (d : X) → ys ≡ xs ++ (d ∷ []) → xs ++ (d ∷ rest) ≡ all → ys ++ rest ≡ all
drawn_on ys xs rest all d e h = ap (λ (z : List _). z ++ rest) e ∙ append_assoc xs (d ∷ []) rest ∙ h

pub value_at : (arms : List Arm) (i x : ℕ) (other : Arm) → i < length arms → value_for (slice_get arms i) x ≡ draw_value (slice_index_or arms i other).sort x
value_at arms i x other h =
    let a = get_there arms i h in
    ap (λ (z : Option Arm). value_for z x) a.1 ∙ ap (λ (z : Arm). draw_value z.sort x) (sym (get_or_from_slice_get arms i a.0 other a.1))

pub after_at : (arms : List Arm) (i x : ℕ) (other : Arm) → i < length arms → after_arm (slice_get arms i) x ≡ after_value (slice_index_or arms i other).sort x
after_at arms i x other h =
    let a = get_there arms i h in
    ap (λ (z : Option Arm). after_arm z x) a.1 ∙ ap (λ (z : Arm). after_value z.sort x) (sym (get_or_from_slice_get arms i a.0 other a.1))
