-- The first that passes a test, of two lists one behind the other.
use Rattle.std.proofs.Common.{◌≡◌, ℕ, ◌+◌, ◌++◌, List, [], ◌∷◌, Bool, true, false, cond, drop, refl, sym, ap, ◌∙◌, slice_get, is_some, Option, Some, None}
use Rattle.std.specs.List.{find, flat_map}
use Rattle.rs_graph.proofs.Growth.{drop_here}
use Rattle.rs_model.specs.FirstFailed.{or_later}

-- what is picked before the others is picked before both
picked : {A : Type 0} (b : Bool) (x : A) (one other : Option A) → cond b (Some x) (or_later one other) ≡ or_later (cond b (Some x) one) other
picked true x one other = refl
picked false x one other = refl

-- it is the first of the one list, else that of the other
pub find_in_both : {A : Type 0} (p : A → Bool) (xs ys : List A) → find p (xs ++ ys) ≡ or_later (find p xs) (find p ys)
find_in_both p [] ys = refl
find_in_both p (x ∷ xs) ys = ap (λ z. cond (p x) (Some x) z) (find_in_both p xs ys) ∙ picked (p x) x (find p xs) (find p ys)

-- of what is given for each from the place on, it is the first of what is given there, else that behind the place
find_here : {A B : Type 0} (p : B → Bool) (g : A → List B) (ns : List A) (i : ℕ) (n : A) → slice_get ns i ≡ Some n
    → find p (flat_map g (drop i ns)) ≡ or_later (find p (g n)) (find p (flat_map g (drop (i + 1) ns)))
find_here p g ns i n at = ap (λ z. find p (flat_map g z)) (drop_here ns i n at) ∙ find_in_both p (g n) (flat_map g (drop (i + 1) ns))

first_is : {A : Type 0} (o later : Option A) → is_some o ≡ true → or_later o later ≡ o
first_is None later s = cc s
first_is (Some x) later s = refl

later_is : {A : Type 0} (o later : Option A) → is_some o ≡ false → or_later o later ≡ later
later_is None later s = refl
later_is (Some x) later s = cc s

-- so where one is given at the place, it is that one
pub found_here : {A B : Type 0} (p : B → Bool) (g : A → List B) (ns : List A) (i : ℕ) (n : A) (o : Option B) → slice_get ns i ≡ Some n → o ≡ find p (g n)
    → is_some o ≡ true → o ≡ find p (flat_map g (drop i ns))
found_here p g ns i n o at is some =
    sym (find_here p g ns i n at ∙ ap (λ z. or_later z (find p (flat_map g (drop (i + 1) ns)))) (sym is)
    ∙ first_is o (find p (flat_map g (drop (i + 1) ns))) some)

-- and where none is given there, it is that behind the place
pub found_later : {A B : Type 0} (p : B → Bool) (g : A → List B) (ns : List A) (i : ℕ) (n : A) (o : Option B) → slice_get ns i ≡ Some n → o ≡ find p (g n)
    → is_some o ≡ false → find p (flat_map g (drop (i + 1) ns)) ≡ find p (flat_map g (drop i ns))
found_later p g ns i n o at is none =
    sym (find_here p g ns i n at ∙ ap (λ z. or_later z (find p (flat_map g (drop (i + 1) ns)))) (sym is)
    ∙ later_is o (find p (flat_map g (drop (i + 1) ns))) none)
