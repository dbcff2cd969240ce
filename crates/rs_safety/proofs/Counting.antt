-- The room as the code finds it.
use Rattle.std.proofs.Common.{◌≡◌, inl, inr, ℕ, suc, ◌+◌, ◌*◌, ◌^◌, ◌<◌, ◌≤◌, List, [], ◌∷◌, Some, slice_get, drop, map, max, length, refl, sym, ap, ◌∙◌, ap₂, arith}
use Rattle.std.proofs.lemmas.Bool.{cases_order}
use Rattle.std.proofs.lemmas.List.{drop_all}
use Rattle.std.proofs.lemmas.Option.{slice_get-map}
use Rattle.std.proofs.Math.Nat.{max-eq_left, max-eq_right, mul-le-mul_right}
use Rattle.rs_derive.proofs.Loops.{drop_here}
use Rattle.rs_derive.specs.Data.{Derivation_data}
use Rattle.rs_derive.specs.Figures.{greatest}
use Rattle.rs_safety.specs.Figures.{figures_of, lag_by, room_by}
use Rattle.rs_safety.specs.Room.{longest, lag, room_of}
use Rattle.rs_safety.specs.declared.rooms.Figures.{Figures}

-- the first n are counted
pub record CountsTo (fs : List Figures) (count owed late : ℕ) : Type 0 where
  pub owes : greatest (map (λ (f : Figures). f.owed) (drop count fs)) owed ≡ greatest (map (λ (f : Figures). f.owed) fs) 0
  pub lags : greatest (map lag_by (drop count fs)) late ≡ greatest (map lag_by fs) 0
  pub soon : late ≤ 255 * 2 ^ 32

-- one more of a list
pub greatest_on : {A : Type 0} (f : A → ℕ) (xs : List A) (count m : ℕ) (x : A) → slice_get xs count ≡ Some x
    → greatest (map f (drop (count + 1) xs)) (max m (f x)) ≡ greatest (map f (drop count xs)) m
greatest_on f xs count m x h = ap (λ z. greatest (map f z) m) (sym (drop_here xs count x h))

-- all of a list
pub greatest_all : {A : Type 0} (f : A → ℕ) (xs : List A) (count m : ℕ) → greatest (map f (drop count xs)) m ≡ greatest (map f xs) 0 → length xs ≤ count → m ≡ greatest (map f xs) 0
greatest_all f xs count m e h = ap (λ z. greatest (map f z) m) (sym (drop_all count xs h)) ∙ e

pub at_most_both : (m x k : ℕ) → m ≤ k → x ≤ k → max m x ≤ k
at_most_both m x k hm hx = elim (cases_order m x) [
  | inl e ↦ (let r : max m x ≡ m = max-eq_left (omega (arith, e)) in omega (arith, r))
  | inr h ↦ elim h [
    | inl e ↦ (let r : max m x ≡ x = max-eq_right (omega (arith, e)) in omega (arith, r))
    | inr e ↦ (let r : max m x ≡ m = max-eq_left (omega (arith, e)) in omega (arith, r))
  ]
]

pub product : (owed rank : ℕ) → owed < 2 ^ 8 → rank < 2 ^ 32 → owed * suc rank ≤ 255 * 2 ^ 32
product owed rank h k =
    let x : owed * suc rank ≤ 255 * suc rank = mul-le-mul_right (suc rank) (omega (arith, h)) in
    omega (arith, x, k)

-- one more is
pub counts_on : (fs : List Figures) (count owed late : ℕ) (f : Figures) (owed' late' : ℕ) → slice_get fs count ≡ Some f → owed' ≡ max owed f.owed → late' ≡ max late (lag_by f) → late' ≤ 255 * 2 ^ 32
    → CountsTo fs count owed late → CountsTo fs (count + 1) owed' late'
counts_on fs count owed late f owed' late' h o l soon to = record {
  owes = ap (greatest (map (λ (g : Figures). g.owed) (drop (count + 1) fs))) o ∙ greatest_on (λ (g : Figures). g.owed) fs count owed f h ∙ to.owes;
  lags = ap (greatest (map lag_by (drop (count + 1) fs))) l ∙ greatest_on lag_by fs count late f h ∙ to.lags;
  soon = soon;
}

-- all are
pub counted : (fs : List Figures) (count owed late : ℕ) → CountsTo fs count owed late → length fs ≤ count → 1 + owed + late ≡ room_by fs
counted fs count owed late to h =
    ap₂ (λ x y. 1 + x + y) (greatest_all (λ (f : Figures). f.owed) fs count owed to.owes h) (greatest_all lag_by fs count late to.lags h)

owed_of : (ds : List Derivation_data) → map (λ (f : Figures). f.owed) (map figures_of ds) ≡ map longest ds
owed_of [] = refl
owed_of (d ∷ ds) = ap (λ z. longest d ∷ z) (owed_of ds)

lags_of : (ds : List Derivation_data) → map lag_by (map figures_of ds) ≡ map lag ds
lags_of [] = refl
lags_of (d ∷ ds) = ap (λ z. lag d ∷ z) (lags_of ds)

-- the room by the figures of derivations is theirs
pub room_by_shown : (ds : List Derivation_data) → room_by (map figures_of ds) ≡ room_of ds
room_by_shown ds = ap₂ (λ x y. 1 + greatest x 0 + greatest y 0) (owed_of ds) (lags_of ds)

-- what stands at a place
pub figures_at : (ds : List Derivation_data) (n : ℕ) (d : Derivation_data) → slice_get ds n ≡ Some d → slice_get (map figures_of ds) n ≡ Some (figures_of d)
figures_at ds n d h = rw (slice_get-map figures_of ds n, h) refl
