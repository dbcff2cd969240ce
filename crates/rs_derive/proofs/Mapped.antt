-- Elements of a list after a function.
use Rattle.std.proofs.Common.{◌≡◌, ℕ, zero, suc, List, [], ◌∷◌, map, slice_get, Some, refl, ap}
use Rattle.std.proofs.lemmas.Option.{none-some, same_Some}

pub map_at : {X Y : Type 0} (f : X → Y) (xs : List X) (i : ℕ) (x : X) → slice_get xs i ≡ Some x → slice_get (map f xs) i ≡ Some (f x)
map_at f [] i x e = absurd (none-some x e)
map_at f (y ∷ xs) zero x e = ap (λ z. Some (f z)) (same_Some y x e)
map_at f (y ∷ xs) (suc i) x e = map_at f xs i x e

pub map_of : {X Y : Type 0} (f : X → Y) (xs : List X) (i : ℕ) (y : Y) → slice_get (map f xs) i ≡ Some y → (x : X) × (slice_get xs i ≡ Some x) × (f x ≡ y)
map_of f [] i y e = absurd (none-some y e)
map_of f (x ∷ xs) zero y e = (x, refl, same_Some (f x) y e)
map_of f (x ∷ xs) (suc i) y e = map_of f xs i y e
