-- Several spots are named one by one.
use Rattle.std.proofs.Common.{◌≡◌, ◌⊎◌, inl, inr, ℕ, ◌<◌, ◌≤◌, ◌+◌, List, [], ◌∷◌, ◌++◌, length, map, refl, sym, ap, ◌∙◌, subst, arith, zero, suc, None, Some, Option, slice_get, get_or, take, Result}
use Rattle.std.proofs.Common.{Ok, Err, OnErr, ◌^◌, append-nil, append_assoc, length-append}
use Rattle.std.proofs.lemmas.Option.{none-some, same_Some}
use Rattle.rs_model.specs.declared.graph.Arm.{Arm}
use Rattle.rs_model.specs.declared.machines.Act.{Act}
use Rattle.rs_derive.proofs.Mapped.{map_at}
use Rattle.rs_derive.specs.Due.{both_at}
use Rattle.rs_derive.specs.Moves.{Spot, arm_of, spot}
use Rattle.rs_graph.specs.Naming.{Adds, AreNamed, Grown}
use Rattle.rs_graph.specs.Lists.{Among, concat}
use Rattle.rs_graph.proofs.Growth.{in_at, take_on}
use Rattle.rs_search.proofs.Alike.{grown_all_of}
use Rattle.rs_search.proofs.Turning.{arm_at, map_step}
use Rattle.rs_search.proofs.Verdicts.{names_length}

-- the spot at a place stays there
pub stays_at : (old ys cur : List Spot) (k : ℕ) (p q : Spot) → slice_get old k ≡ Some p → Grown old ys cur → slice_get cur k ≡ Some q → q ≡ p
stays_at old ys cur k p q e g h = same_Some q p (sym h ∙ g.kept k p e)

among_take : (f : Arm → Spot) (xs : List Arm) (i : ℕ) (x : Spot) → Among (map f (take i xs)) x → Among (map f xs) x
among_take f [] zero x m = absurd m
among_take f [] (suc i) x m = absurd m
among_take f (y ∷ xs) zero x m = absurd m
among_take f (y ∷ xs) (suc i) x (inl e) = inl e
among_take f (y ∷ xs) (suc i) x (inr m) = inr (among_take f xs i x m)

-- what the caller gets where there is an error
pub on_err : {T E : Type 0} {P : Type 0} (r : Result T E) → P → OnErr r P
on_err (Ok x) p = tt
on_err (Err e) p = p

pub grown_none : (old : List Spot) → Grown old [] old
grown_none old = record { once = λ o. o; only = λ n x e. inl e; kept = λ n x e. e }

pub grown_one : (old new : List Spot) (r : Spot) → Adds old r new → Grown old (r ∷ []) new
grown_one old new r adds = grown_all_of old [] old new r (r ∷ []) (grown_none old) adds (λ x m. absurd m) (inl refl)

-- one arm more; its label is told first, so that it is known which arm it is
pub named_arm : (f : Spot → Arm → Spot) (old cur new : List Spot) (xs : List Arm) (i : ℕ) (d : Arm) → (get_or xs i d).label.0 < 2 ^ 16 → (p q r : Spot) (row row' : List ℕ) → i < length xs
    → r ≡ f q (get_or xs i d) → q ≡ p
    → ((ys : List Spot) → AreNamed old ys cur row → AreNamed old (ys ++ r ∷ []) new row') → AreNamed old (map (f p) (take i xs)) cur row → AreNamed old (map (f p) (take (i + 1) xs)) new row'
named_arm f old cur new xs i d lab p q r row row' lt e eq h n =
    subst (λ (z : List Spot). AreNamed old z new row')
    (map_step (f p) xs i (get_or xs i d) (map (f p) (take i xs)) (map (f p) (take i xs) ++ r ∷ []) r (arm_at xs i d lt) refl (e ∙ ap (λ (z : Spot). f z (get_or xs i d)) eq) refl)
    (h (map (f p) (take i xs)) n)

pub grown_arm : (f : Spot → Arm → Spot) (old cur new : List Spot) (xs : List Arm) (i : ℕ) (d : Arm) → (get_or xs i d).label.0 < 2 ^ 16 → (p q r : Spot) → i < length xs → r ≡ f q (get_or xs i d)
    → q ≡ p
    → Adds cur r new → Grown old (map (f p) (take i xs)) cur → Grown old (map (f p) xs) new
grown_arm f old cur new xs i d lab p q r lt e eq adds n =
    grown_all_of old (map (f p) (take i xs)) cur new r (map (f p) xs) n adds (among_take (f p) xs i)
    (subst (λ (z : Spot). Among (map (f p) xs) z) (sym (e ∙ ap (λ (z : Spot). f z (get_or xs i d)) eq))
    (in_at (map (f p) xs) i (f p (get_or xs i d)) (map_at (f p) xs i (get_or xs i d) (arm_at xs i d lt))))

-- several lists, one after the other
concat_push : (f : Arm → List Spot) (xs : List Arm) (x : Arm) → concat (map f (xs ++ x ∷ [])) ≡ concat (map f xs) ++ f x
concat_push f [] x = append_nil (f x)
  where
    append_nil : (ys : List Spot) → ys ++ [] ≡ ys
    append_nil [] = refl
    append_nil (y ∷ ys) = ap (λ (z : List Spot). y ∷ z) (append_nil ys)
concat_push f (y ∷ xs) x = ap (λ (z : List Spot). f y ++ z) (concat_push f xs x) ∙ sym (append_assoc (f y) (concat (map f xs)) (f x))

pub named_arms : (f : Arm → List Spot) (old cur new : List Spot) (xs : List Arm) (i : ℕ) (a : Arm) (row row' : List ℕ) → slice_get xs i ≡ Some a
    → ((ys : List Spot) → AreNamed old ys cur row → AreNamed old (ys ++ f a) new row') → AreNamed old (concat (map f (take i xs))) cur row → AreNamed old (concat (map f (take (i + 1) xs))) new row'
named_arms f old cur new xs i a row row' g h n =
    subst (λ (z : List Spot). AreNamed old z new row') (sym (ap (λ (z : List Arm). concat (map f z)) (take_on xs i a g) ∙ concat_push f (take i xs) a)) (h (concat (map f (take i xs))) n)

among_or : (xs ys : List Spot) (x : Spot) → Among (xs ++ ys) x → Among xs x ⊎ Among ys x
among_or [] ys x h = inr h
among_or (y ∷ xs) ys x (inl e) = inl (inl e)
among_or (y ∷ xs) ys x (inr h) = elim (among_or xs ys x h) [ inl a ↦ inl (inr a) | inr a ↦ inr a ]

in_front : (xs ys : List Spot) (x : Spot) → Among xs x → Among (xs ++ ys) x
in_front [] ys x h = absurd h
in_front (y ∷ xs) ys x (inl e) = inl e
in_front (y ∷ xs) ys x (inr h) = inr (in_front xs ys x h)

in_back : (xs ys : List Spot) (x : Spot) → Among ys x → Among (xs ++ ys) x
in_back [] ys x h = h
in_back (y ∷ xs) ys x h = inr (in_back xs ys x h)

among_taken : (f : Arm → List Spot) (xs : List Arm) (i : ℕ) (x : Spot) → Among (concat (map f (take i xs))) x → Among (concat (map f xs)) x
among_taken f [] zero x m = absurd m
among_taken f [] (suc i) x m = absurd m
among_taken f (y ∷ xs) zero x m = absurd m
among_taken f (y ∷ xs) (suc i) x m = elim (among_or (f y) (concat (map f (take i xs))) x m) [
  | inl a ↦ in_front (f y) (concat (map f xs)) x a
  | inr a ↦ in_back (f y) (concat (map f xs)) x (among_taken f xs i x a)
]

among_one : (f : Arm → List Spot) (xs : List Arm) (i : ℕ) (a : Arm) (x : Spot) → slice_get xs i ≡ Some a → Among (f a) x → Among (concat (map f xs)) x
among_one f [] i a x e m = absurd (none-some a e)
among_one f (y ∷ xs) zero a x e m = in_front (f y) (concat (map f xs)) x (subst (λ (z : Arm). Among (f z) x) (sym (same_Some y a e)) m)
among_one f (y ∷ xs) (suc i) a x e m = in_back (f y) (concat (map f xs)) x (among_one f xs i a x e m)

-- what grew by some and then by others
pub grown_arms : (f : Arm → List Spot) (old cur new : List Spot) (xs : List Arm) (i : ℕ) (a : Arm) → slice_get xs i ≡ Some a
    → Grown cur (f a) new → Grown old (concat (map f (take i xs))) cur → Grown old (concat (map f xs)) new
grown_arms f old cur new xs i a g h n = record {
  once = λ o. h.once (n.once o);
  only = λ j x e. elim (h.only j x e) [
    | inl c ↦ (elim (n.only j x c) [ inl o ↦ inl o | inr m ↦ inr (among_taken f xs i x m) ])
    | inr m ↦ inr (among_one f xs i a x g m)
  ];
  kept = λ j x e. h.kept j x (n.kept j x e);
}

-- how many numbers there are
map_take_short : (f : Arm → Spot) (xs : List Arm) (i : ℕ) → length (map f (take i xs)) ≤ i
map_take_short f [] zero = omega arith
map_take_short f [] (suc i) = omega arith
map_take_short f (x ∷ xs) zero = omega arith
map_take_short f (x ∷ xs) (suc i) = let k = map_take_short f xs i in omega arith

pub row_short : (f : Arm → Spot) (old new : List Spot) (xs : List Arm) (i : ℕ) (row : List ℕ) → AreNamed old (map f (take i xs)) new row → length row ≤ i
row_short f old new xs i row n = let e = names_length new row (map f (take i xs)) n.names in let k = map_take_short f xs i in omega arith

concat_take_short : (f : Arm → List Spot) → ((a : Arm) → length (f a) ≤ 1) → (xs : List Arm) (i : ℕ) → length (concat (map f (take i xs))) ≤ i
concat_take_short f h [] zero = omega arith
concat_take_short f h [] (suc i) = omega arith
concat_take_short f h (x ∷ xs) zero = omega arith
concat_take_short f h (x ∷ xs) (suc i) = let k = concat_take_short f h xs i in let l = length-append (f x) (concat (map f (take i xs))) in let o = h x in omega arith

pub rows_of_arms_short : (f : Arm → List Spot) → ((a : Arm) → length (f a) ≤ 1) → (old new : List Spot) (xs : List Arm) (i : ℕ) (row : List ℕ) → AreNamed old (concat (map f (take i xs))) new row
    → length row ≤ i
rows_of_arms_short f h old new xs i row n = let e = names_length new row (concat (map f (take i xs))) n.names in let k = concat_take_short f h xs i in omega arith

pub both_short : (pending : List Act) (a : Arm) (o : Option Arm) → length (both_at pending a o) ≤ 1
both_short pending a None = omega arith
both_short pending a (Some b) = omega arith

-- an arm that both send, where the projection has it
pub both_is : (pending : List Act) (a b : Arm) (o : Option Arm) (r : Spot) → o ≡ Some b → r ≡ spot a.next pending b.next → both_at pending a o ≡ r ∷ []
both_is pending a b o r eo er = ap (λ (z : Option Arm). both_at pending a z) eo ∙ ap (λ (z : Spot). z ∷ []) (sym er)

-- the only arm that both send
pub both_one : (pending : List Act) (theirs arms : List Arm) (d : Arm) (o : Option Arm) → 0 < length arms → length arms < 2 → o ≡ arm_of theirs (get_or arms 0 d).label
    → both_at pending (get_or arms 0 d) o ≡ concat (map (λ a. both_at pending a (arm_of theirs a.label)) arms)
both_one pending theirs [] d o some few e = let bad : ⊥ = omega arith in absurd bad
both_one pending theirs (x ∷ []) d o some few e = ap (λ (z : Option Arm). both_at pending x z) e ∙ sym (append-nil (both_at pending x (arm_of theirs x.label)))
both_one pending theirs (x ∷ y ∷ xs) d o some few e = let bad : ⊥ = omega arith in absurd bad

pub named_both : (pending : List Act) (theirs : List Arm) (old cur new : List Spot) (xs : List Arm) (i : ℕ) (d : Arm) → (get_or xs i d).label.0 < 2 ^ 16 → (o : Option Arm) (row row' : List ℕ)
    → i < length xs
    → o ≡ arm_of theirs (get_or xs i d).label → ((ys : List Spot) → AreNamed old ys cur row → AreNamed old (ys ++ both_at pending (get_or xs i d) o) new row')
    → AreNamed old (concat (map (λ a. both_at pending a (arm_of theirs a.label)) (take i xs))) cur row
    → AreNamed old (concat (map (λ a. both_at pending a (arm_of theirs a.label)) (take (i + 1) xs))) new row'
named_both pending theirs old cur new xs i d lab o row row' lt eo h n =
    named_arms (λ a. both_at pending a (arm_of theirs a.label)) old cur new xs i (get_or xs i d) row row' (arm_at xs i d lt)
    (λ ys a. subst (λ (z : Option Arm). AreNamed old (ys ++ both_at pending (get_or xs i d) z) new row') eo (h ys a)) n

pub grown_both : (pending : List Act) (theirs : List Arm) (old cur new : List Spot) (xs : List Arm) (i : ℕ) (d : Arm) → (get_or xs i d).label.0 < 2 ^ 16 → (o : Option Arm) → i < length xs
    → o ≡ arm_of theirs (get_or xs i d).label → Grown cur (both_at pending (get_or xs i d) o) new
    → Grown old (concat (map (λ a. both_at pending a (arm_of theirs a.label)) (take i xs))) cur → Grown old (concat (map (λ a. both_at pending a (arm_of theirs a.label)) xs)) new
grown_both pending theirs old cur new xs i d lab o lt eo h n =
    grown_arms (λ a. both_at pending a (arm_of theirs a.label)) old cur new xs i (get_or xs i d) (arm_at xs i d lt)
    (subst (λ (z : Option Arm). Grown cur (both_at pending (get_or xs i d) z) new) eo h) n
