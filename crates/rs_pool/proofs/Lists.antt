-- Lists by place, and from their ends.
use Rattle.std.proofs.Common.{◌≡◌, ℕ, zero, suc, List, [], ◌∷◌, ◌++◌, length, map, reverse, get_or, slice_get, All, IfSome, Option, Some, None, refl, sym, ap, ◌∙◌, subst, arith}
use Rattle.std.proofs.lemmas.List.{append_assoc, reverse-append}
use Rattle.std.proofs.lemmas.List.Elements.{All-head, All-nil, All-push, All-tail}
use Rattle.std.proofs.lemmas.Option.{get_or_from_slice_get, same_Some, slice_get-get_or, slice_get_within}
use mathlib.Core.Option.{some, some-injective, some-ne-none}
use lib.ListN.{get_elem?}

pub elem_of : {A : Type 0} (xs : List A) (i : ℕ) (x : A) → slice_get xs i ≡ Some x → get_elem? xs i ≡ some x
elem_of [] i x e = absurd (cc (e))
elem_of (y ∷ ys) zero x e = ap some (same_Some y x e)
elem_of (y ∷ ys) (suc i) x e = elem_of ys i x e

pub of_elem : {A : Type 0} (xs : List A) (i : ℕ) (x : A) → get_elem? xs i ≡ some x → slice_get xs i ≡ Some x
of_elem [] i x e = absurd (some-ne-none x (sym e))
of_elem (y ∷ ys) zero x e = ap Some (some-injective y x e)
of_elem (y ∷ ys) (suc i) x e = of_elem ys i x e

pub get_map : {A B : Type 0} (f : A → B) (xs : List A) (i : ℕ) (x : A) → slice_get xs i ≡ Some x → slice_get (map f xs) i ≡ Some (f x)
get_map f [] i x e = absurd (cc (e))
get_map f (y ∷ ys) zero x e = ap (λ z. Some (f z)) (same_Some y x e)
get_map f (y ∷ ys) (suc i) x e = get_map f ys i x e

pub map_back : {A B : Type 0} (f : A → B) (xs : List A) (i : ℕ) (y : B) → slice_get (map f xs) i ≡ Some y → (x : A) × (slice_get xs i ≡ Some x) × (f x ≡ y)
map_back f [] i y e = absurd (cc (e))
map_back f (x ∷ xs) zero y e = (x, refl, same_Some (f x) y e)
map_back f (x ∷ xs) (suc i) y e = map_back f xs i y e

pub all_at : {A : Type 0} (P : A → Type 0) (xs : List A) (i : ℕ) (x : A) → All P xs → slice_get xs i ≡ Some x → P x
all_at P xs i x h e = subst P (get_or_from_slice_get xs i x x e) (h i x (slice_get_within xs i x e))

pub all_from : {A : Type 0} (P : A → Type 0) (xs : List A) → ((i : ℕ) (x : A) → slice_get xs i ≡ Some x → P x) → All P xs
all_from P xs h k d less = h k (get_or xs k d) (slice_get-get_or xs k d less)

pub if_some_at : {A : Type 0} (o : Option A) (x : A) (F : A → Type 0) → o ≡ Some x → IfSome o F → F x
if_some_at None x F e h = absurd (cc (e))
if_some_at (Some y) x F e h = subst F (same_Some y x e) h

-- from the end
pub back_last : {A : Type 0} (xs ys : List A) (x : A) → xs ≡ ys ++ x ∷ [] → reverse xs ≡ x ∷ reverse ys
back_last xs ys x e = ap reverse e ∙ reverse-append ys (x ∷ [])

pub all_reverse : {A : Type 0} (P : A → Type 0) (xs : List A) → All P xs → All P (reverse xs)
all_reverse P [] h = All-nil P
all_reverse P (x ∷ xs) h = subst (All P) (sym (reverse-append (x ∷ []) xs)) (All-push P (reverse xs) x (all_reverse P xs (All-tail P x xs h)) (All-head P x xs h))

pub all_none : {A : Type 0} (P : A → Type 0) (xs : List A) → length xs ≡ 0 → All P xs
all_none P [] e = All-nil P
all_none P (x ∷ xs) e = absurd (omega arith)

-- what is made of the items goes from the end of a list, one by one, to the end of another
pub begins_map : {A B : Type 0} (f : A → B) (out : List B) (ins all : List A) → out ≡ [] → reverse ins ≡ all → out ++ map f (reverse ins) ≡ map f all
begins_map f out ins all none same = λ i. none i ++ map f (same i)

pub goes_on_map : {A B : Type 0} (f : A → B) (out out' : List B) (ins ins' : List A) (x : A) (y : B) (all : List B) → out ++ map f (reverse ins) ≡ all → ins ≡ ins' ++ x ∷ [] → y ≡ f x
    → out' ≡ out ++ y ∷ [] → out' ++ map f (reverse ins') ≡ all
goes_on_map f out out' ins ins' x y all was popped is grown =
    ap (λ o. o ++ map f (reverse ins')) grown ∙ append_assoc out (y ∷ []) (map f (reverse ins')) ∙ ap (λ z. out ++ (z ∷ map f (reverse ins'))) is
    ∙ ap (λ r. out ++ map f r) (sym (back_last ins ins' x popped)) ∙ was

pub moves_back : {A B : Type 0} (f : A → B) (xs xs' : List B) (ys ys' : List A) (x : A) (z : B) (all : List B) → xs ++ map f (reverse ys) ≡ all → xs ≡ xs' ++ z ∷ [] → z ≡ f x → ys' ≡ ys ++ x ∷ []
    → xs' ++ map f (reverse ys') ≡ all
moves_back f xs xs' ys ys' x z all was popped is grown =
    ap (λ r. xs' ++ map f r) (back_last ys' ys x grown) ∙ ap (λ u. xs' ++ (u ∷ map f (reverse ys))) (sym is) ∙ sym (append_assoc xs' (z ∷ []) (map f (reverse ys)))
    ∙ ap (λ o. o ++ map f (reverse ys)) (sym popped) ∙ was

-- the last of slots that are all filled
pub record HasLast {A : Type 0} (xs : List (Option A)) (x : Option A) : Type 0 where
  pub rest : List A
  pub last : A
  pub rest_is : xs ≡ map Some rest
  pub last_is : x ≡ Some last

pub last_of : {A : Type 0} (xs : List (Option A)) (x : Option A) (all : List A) → xs ++ x ∷ [] ≡ map Some all → HasLast xs x
last_of [] x [] e = absurd (cc (e))
last_of [] x (a ∷ more) e = record { rest = []; last = a; rest_is = refl; last_is = cc (e) }
last_of (y ∷ ys) x [] e = absurd (cc (e))
last_of (y ∷ ys) x (a ∷ more) e =
    let r = last_of ys x more (cc (e)) in let first : y ≡ Some a = cc (e) in record { rest = a ∷ r.rest; last = r.last; rest_is = (λ i. first i ∷ r.rest_is i); last_is = r.last_is }
