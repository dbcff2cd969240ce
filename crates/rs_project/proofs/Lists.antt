-- Members of lists, by recursion, and places in lists.
use Rattle.std.proofs.Common.{◌≡◌, ◌⊎◌, inl, inr, ℕ, zero, suc, ◌<◌, List, [], ◌∷◌, ◌++◌, length, map, take, Some, slice_get, get_or, refl, sym, ap, ◌∙◌, subst, arith}
use Rattle.std.proofs.Math.Seq.{take-append_seam}
use Rattle.std.specs.List.{Contains}
use Rattle.rs_graph.specs.Lists.{Among}

pub contained : {A : Type 0} (xs : List A) (x : A) → Contains xs x → Among xs x
contained [] x h = absurd (omega (arith, h.1))
contained (y ∷ ys) x (zero, h, e) = inl e
contained (y ∷ ys) x (suc k, h, e) = inr (contained ys x (k, omega arith, e))

pub contains : {A : Type 0} (xs : List A) (x : A) → Among xs x → Contains xs x
contains [] x h = absurd h
contains (y ∷ ys) x (inl e) = (0, omega arith, e)
contains (y ∷ ys) x (inr h) = let r = contains ys x h in (suc r.0, omega (arith, r.1), r.2)

pub among_left : {A : Type 0} (xs ys : List A) (x : A) → Among xs x → Among (xs ++ ys) x
among_left [] ys x h = absurd h
among_left (z ∷ xs) ys x (inl e) = inl e
among_left (z ∷ xs) ys x (inr h) = inr (among_left xs ys x h)

pub among_right : {A : Type 0} (xs ys : List A) (x : A) → Among ys x → Among (xs ++ ys) x
among_right [] ys x h = h
among_right (z ∷ xs) ys x h = inr (among_right xs ys x h)

pub among_split : {A : Type 0} (xs ys : List A) (x : A) → Among (xs ++ ys) x → Among xs x ⊎ Among ys x
among_split [] ys x h = inr h
among_split (z ∷ xs) ys x (inl e) = inl (inl e)
among_split (z ∷ xs) ys x (inr h) = elim (among_split xs ys x h) [ inl a ↦ inl (inr a) | inr b ↦ inr b ]

-- members by their places
pub among_at : {A : Type 0} (xs : List A) (x : A) → Among xs x → (i : ℕ) × (slice_get xs i ≡ Some x)
among_at [] x h = absurd h
among_at (y ∷ ys) x (inl e) = (zero, ap Some e)
among_at (y ∷ ys) x (inr h) = let r = among_at ys x h in (suc r.0, r.1)

pub at_among : {A : Type 0} (xs : List A) (i : ℕ) (x : A) → slice_get xs i ≡ Some x → Among xs x
at_among [] i x e = absurd (cc (e))
at_among (y ∷ ys) zero x e = inl (cc (e))
at_among (y ∷ ys) (suc i) x e = inr (at_among ys i x e)

pub at_short : {A : Type 0} (xs : List A) (i : ℕ) (x : A) → slice_get xs i ≡ Some x → i < length xs
at_short [] i x e = absurd (cc (e))
at_short (y ∷ ys) zero x e = omega arith
at_short (y ∷ ys) (suc i) x e = let k = at_short ys i x e in omega arith

pub at_within : {A : Type 0} (xs : List A) (i : ℕ) → i < length xs → (x : A) × (slice_get xs i ≡ Some x)
at_within [] i h = let bad : ⊥ = omega arith in absurd bad
at_within (y ∷ ys) zero h = (y, refl)
at_within (y ∷ ys) (suc i) h = at_within ys i (omega arith)

pub at_map : {A B : Type 0} (f : A → B) (xs : List A) (i : ℕ) (x : A) → slice_get xs i ≡ Some x → slice_get (map f xs) i ≡ Some (f x)
at_map f [] i x e = absurd (cc (e))
at_map f (y ∷ ys) zero x e = (let q : y ≡ x = cc (e) in ap (λ z. Some (f z)) q)
at_map f (y ∷ ys) (suc i) x e = at_map f ys i x e

pub at_read : {A : Type 0} (xs : List A) (i : ℕ) (x d : A) → slice_get xs i ≡ Some x → get_or xs i d ≡ x
at_read [] i x d e = absurd (cc (e))
at_read (y ∷ ys) zero x d e = cc (e)
at_read (y ∷ ys) (suc i) x d e = at_read ys i x d e

pub read_at : {A : Type 0} (xs : List A) (i : ℕ) (d x : A) → i < length xs → get_or xs i d ≡ x → slice_get xs i ≡ Some x
read_at [] i d x h e = let bad : ⊥ = omega arith in absurd bad
read_at (y ∷ ys) zero d x h e = ap Some e
read_at (y ∷ ys) (suc i) d x h e = read_at ys i d x (omega arith) e

pub read_self : {A : Type 0} (xs : List A) (i : ℕ) (x : A) → i < length xs → x ≡ get_or xs i x → slice_get xs i ≡ Some x
read_self xs i x h e = read_at xs i x x h (sym e)

-- what was read of a list that is another one
pub read_via : {A : Type 0} (xs ys : List A) (i : ℕ) (x : A) → ys ≡ xs → i < length xs → x ≡ get_or ys i x → slice_get xs i ≡ Some x
read_via {A} xs ys i x e h r = let P : List A → Type 0 = λ z. x ≡ get_or z i x in read_self xs i x h (subst P e r)

-- a list of that length that was written over another one
pub written_over : {A : Type 0} (count : ℕ) (xs ys : List A) → count ≡ length xs → take count (xs ++ ys) ≡ xs
written_over count xs ys e = ap (λ (z : ℕ). take z (xs ++ ys)) e ∙ take-append_seam xs ys
