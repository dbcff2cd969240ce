-- The different lists of pending acts, and their numbers.
use Rattle.std.proofs.Common.{◌≡◌, ◌⊎◌, inl, inr, ℕ, zero, suc, ◌+◌, ◌<◌, ◌≤◌, List, [], ◌∷◌, ◌++◌, length, map, Bool, true, false, ◌||◌, if◌then◌else◌, Some, slice_get, refl, sym, ap, ◌∙◌, subst, arith}
use Rattle.std.proofs.Common.{length-append}
use Rattle.std.proofs.lemmas.List.{map_push}
use Rattle.std.proofs.lemmas.Option.{none-some, same_Some, get_or_from_slice_get}
use Rattle.std.specs.List.{AllByRecursion}
use Rattle.rs_model.specs.declared.machines.Act.{Act}
use Rattle.rs_graph.proofs.Growth.{at_short}
use Rattle.rs_derive.proofs.Acts.{acts_are, acts_same}
use Rattle.rs_derive.proofs.Mapped.{map_at}
use Rattle.rs_derivations.specs.Derivations.{acts_of_number}
use Rattle.rs_derive.specs.Targets.{same_acts}
use Rattle.rs_derivations.specs.ListTables.{AreNumbered}
use Rattle.rs_derivations.specs.PendingLists.{is_one_of, with_list, with_lists, number_from, list_number}
use Rattle.rs_model.proofs.Lists.{either_at}

-- ---- one of these

listed_or : (a b : Bool) → (a || b) ≡ true → (a ≡ true) ⊎ (b ≡ true)
listed_or true b h = inl refl
listed_or false b h = inr h

neither : (a b : Bool) → (a || b) ≡ false → (a ≡ false) × (b ≡ false)
neither true b h = absurd (cc h)
neither false b h = (refl, h)

either : (a b : Bool) → b ≡ true → (a || b) ≡ true
either true b h = refl
either false b h = h

pub stands : (lists : List (List Act)) (p : ℕ) (acts : List Act) → slice_get lists p ≡ Some acts → is_one_of lists acts ≡ true
stands [] p acts e = absurd (none-some acts e)
stands (x ∷ xs) zero acts e = rw (same_Some x acts e, acts_same acts) refl
stands (x ∷ xs) (suc p) acts e = either (same_acts x acts) (is_one_of xs acts) (stands xs p acts e)

one_more : (xs ys : List (List Act)) (acts : List Act) → is_one_of xs acts ≡ true → is_one_of (xs ++ ys) acts ≡ true
one_more [] ys acts h = absurd (cc h)
one_more (x ∷ xs) ys acts h = elim (listed_or (same_acts x acts) (is_one_of xs acts) h) [
  | inl e ↦ rw e refl
  | inr e ↦ either (same_acts x acts) (is_one_of (xs ++ ys) acts) (one_more xs ys acts e)
]

is_last : (xs : List (List Act)) (acts : List Act) → is_one_of (xs ++ acts ∷ []) acts ≡ true
is_last [] acts = rw (acts_same acts) refl
is_last (x ∷ xs) acts = either (same_acts x acts) (is_one_of (xs ++ acts ∷ []) acts) (is_last xs acts)

-- ---- numbers

-- a list that is there keeps its number
kept_by : (b : Bool) (x : List Act) (xs ys : List (List Act)) (n : ℕ) (acts : List Act) → same_acts x acts ≡ b → (b || is_one_of xs acts) ≡ true
    → (is_one_of xs acts ≡ true → number_from (suc n) (xs ++ ys) acts ≡ number_from (suc n) xs acts) → number_from n (x ∷ xs ++ ys) acts ≡ number_from n (x ∷ xs) acts
kept_by true x xs ys n acts e h k = rw e refl
kept_by false x xs ys n acts e h k = rw e (k h)

pub number_kept : (xs ys : List (List Act)) (n : ℕ) (acts : List Act) → is_one_of xs acts ≡ true → number_from n (xs ++ ys) acts ≡ number_from n xs acts
number_kept [] ys n acts h = absurd (cc h)
number_kept (x ∷ xs) ys n acts h = kept_by (same_acts x acts) x xs ys n acts refl h (λ k. number_kept xs ys (suc n) acts k)

-- a list that isn't there has the number that it has after
pub number_behind : (xs ys : List (List Act)) (n : ℕ) (acts : List Act) → is_one_of xs acts ≡ false → number_from n (xs ++ ys) acts ≡ number_from (length xs + n) ys acts
number_behind [] ys n acts h = ap (λ (z : ℕ). number_from z ys acts) (omega arith)
number_behind (x ∷ xs) ys n acts h =
    let k = neither (same_acts x acts) (is_one_of xs acts) h in
    rw k.0 (number_behind xs ys (suc n) acts k.1 ∙ ap (λ (z : ℕ). number_from z ys acts) (omega arith))

pub number_none : (xs : List (List Act)) (n : ℕ) (acts : List Act) → is_one_of xs acts ≡ false → number_from n xs acts ≡ 0
number_none [] n acts h = refl
number_none (x ∷ xs) n acts h =
    let k = neither (same_acts x acts) (is_one_of xs acts) h in
    rw k.0 (number_none xs (suc n) acts k.1)

number_new : (xs : List (List Act)) (acts : List Act) → is_one_of xs acts ≡ false → number_from 1 (xs ++ acts ∷ []) acts ≡ suc (length xs)
number_new xs acts h = number_behind xs (acts ∷ []) 1 acts h ∙ rw (acts_same acts) (omega arith)

-- the number of a list that is there is that of its place
pub record HasPlace (xs : List (List Act)) (n : ℕ) (acts : List Act) : Type 0 where
  pub place : ℕ
  pub there : slice_get xs place ≡ Some acts
  pub number : number_from n xs acts ≡ n + place

later : (xs : List (List Act)) (x : List Act) (n : ℕ) (acts : List Act) → same_acts x acts ≡ false → HasPlace xs (suc n) acts → HasPlace (x ∷ xs) n acts
later xs x n acts e h = record {
  place = suc h.place;
  there = h.there;
  number = (let k = h.number in rw e (k ∙ omega arith));
}

place_by : (b : Bool) (x : List Act) (xs : List (List Act)) (n : ℕ) (acts : List Act) → same_acts x acts ≡ b → (b || is_one_of xs acts) ≡ true
    → (is_one_of xs acts ≡ true → HasPlace xs (suc n) acts) → HasPlace (x ∷ xs) n acts
place_by true x xs n acts e h k = record { place = 0; there = ap Some (acts_are x acts e); number = rw e (omega arith) }
place_by false x xs n acts e h k = later xs x n acts e (k h)

pub has_place : (xs : List (List Act)) (n : ℕ) (acts : List Act) → is_one_of xs acts ≡ true → HasPlace xs n acts
has_place [] n acts h = absurd (cc h)
has_place (x ∷ xs) n acts h = place_by (same_acts x acts) x xs n acts refl h (λ k. has_place xs (suc n) acts k)

-- ---- each stands once

pub none_numbered : AreNumbered []
none_numbered p acts e = absurd (none-some acts e)

pub numbered_on : (xs : List (List Act)) (new : List Act) → AreNumbered xs → is_one_of xs new ≡ false → AreNumbered (xs ++ new ∷ [])
numbered_on xs new h absent p acts e = elim (either_at xs new p acts e) [
  | inl old ↦ number_kept xs (new ∷ []) 1 acts (stands xs p acts old) ∙ h p acts old
  | inr last ↦ subst (λ (z : List Act). number_from 1 (xs ++ new ∷ []) z ≡ suc p) last.1 (number_new xs new absent ∙ ap suc (sym last.0))
]

-- ---- the lists grown

pub with_none : (lists : List (List Act)) (acts : List Act) → length acts ≡ 0 → with_list lists acts ≡ lists
with_none lists [] h = refl
with_none lists (a ∷ acts) h = absurd (omega arith)

with_old : (lists : List (List Act)) (acts : List Act) → is_one_of lists acts ≡ true → with_list lists acts ≡ lists
with_old lists [] h = refl
with_old lists (a ∷ acts) h = ap (λ z. if z then lists else lists ++ (a ∷ acts) ∷ []) h

pub with_new : (lists : List (List Act)) (acts : List Act) → 0 < length acts → is_one_of lists acts ≡ false → with_list lists acts ≡ lists ++ acts ∷ []
with_new lists [] h k = absurd (omega arith)
with_new lists (a ∷ acts) h k = ap (λ z. if z then lists else lists ++ (a ∷ acts) ∷ []) k

pub number_is_from : (lists : List (List Act)) (acts : List Act) → 0 < length acts → list_number lists acts ≡ number_from 1 lists acts
number_is_from lists [] h = absurd (omega arith)
number_is_from lists (a ∷ acts) h = refl

numbered_by : (b : Bool) (lists : List (List Act)) (acts : List Act) → is_one_of lists acts ≡ b → 0 < number_from 1 lists acts → b ≡ true
numbered_by true lists acts e h = refl
numbered_by false lists acts e h = absurd (let k = number_none lists 1 acts e in omega arith)

unnumbered_by : (b : Bool) (lists : List (List Act)) (acts : List Act) → is_one_of lists acts ≡ b → number_from 1 lists acts ≡ 0 → b ≡ false
unnumbered_by false lists acts e h = refl
unnumbered_by true lists acts e h = absurd (let k = (has_place lists 1 acts e).number in omega arith)

-- a list that has a number, or has no acts, isn't added
pub with_numbered : (lists : List (List Act)) (acts : List Act) → 0 < list_number lists acts → with_list lists acts ≡ lists
with_numbered lists [] h = refl
with_numbered lists (a ∷ acts) h = with_old lists (a ∷ acts) (numbered_by (is_one_of lists (a ∷ acts)) lists (a ∷ acts) refl h)

-- a list of acts that has none is new
pub without_number : (lists : List (List Act)) (acts : List Act) → 0 < length acts → list_number lists acts ≡ 0 → is_one_of lists acts ≡ false
without_number lists acts some h = unnumbered_by (is_one_of lists acts) lists acts refl (sym (number_is_from lists acts some) ∙ h)

-- ---- all lists of nodes

one_kept_by : (b : Bool) (lists : List (List Act)) (x acts : List Act) → is_one_of lists acts ≡ true → is_one_of (if b then lists else lists ++ x ∷ []) acts ≡ true
one_kept_by true lists x acts h = h
one_kept_by false lists x acts h = one_more lists (x ∷ []) acts h

one_kept : (lists : List (List Act)) (x acts : List Act) → is_one_of lists acts ≡ true → is_one_of (with_list lists x) acts ≡ true
one_kept lists [] acts h = h
one_kept lists (a ∷ x) acts h = one_kept_by (is_one_of lists (a ∷ x)) lists (a ∷ x) acts h

new_by : (b : Bool) (lists : List (List Act)) (x : List Act) → is_one_of lists x ≡ b → is_one_of (if b then lists else lists ++ x ∷ []) x ≡ true
new_by true lists x e = e
new_by false lists x e = is_last lists x

-- a list is one of these where it has acts
abbrev pub IsListed : List (List Act) → List Act → Type 0
IsListed lists [] = Unit {0}
IsListed lists (a ∷ acts) = is_one_of lists (a ∷ acts) ≡ true

new_listed : (lists : List (List Act)) (x : List Act) → IsListed (with_list lists x) x
new_listed lists [] = tt
new_listed lists (a ∷ x) = new_by (is_one_of lists (a ∷ x)) lists (a ∷ x) refl

all_kept : (lists xs : List (List Act)) (acts : List Act) → is_one_of lists acts ≡ true → is_one_of (with_lists lists xs) acts ≡ true
all_kept lists [] acts h = h
all_kept lists (x ∷ xs) acts h = all_kept (with_list lists x) xs acts (one_kept lists x acts h)

listed_kept : (lists xs : List (List Act)) (acts : List Act) → IsListed lists acts → IsListed (with_lists lists xs) acts
listed_kept lists xs [] h = tt
listed_kept lists xs (a ∷ acts) h = all_kept lists xs (a ∷ acts) h

-- each of the lists that were put there is one of them, where it has acts
pub all_listed : (lists xs : List (List Act)) → AllByRecursion (IsListed (with_lists lists xs)) xs
all_listed lists [] = tt
all_listed lists (x ∷ xs) = (listed_kept (with_list lists x) xs x (new_listed lists x), all_listed (with_list lists x) xs)

one_longer : (b : Bool) (lists : List (List Act)) (x : List Act) → length (if b then lists else lists ++ x ∷ []) ≤ length lists + 1
one_longer true lists x = omega arith
one_longer false lists x = let l = length-append lists (x ∷ []) in omega arith

longer : (lists : List (List Act)) (x : List Act) → length (with_list lists x) ≤ length lists + 1
longer lists [] = omega arith
longer lists (a ∷ x) = one_longer (is_one_of lists (a ∷ x)) lists (a ∷ x)

-- there are no more lists than were put there
pub few_lists : (lists xs : List (List Act)) → length (with_lists lists xs) ≤ length lists + length xs
few_lists lists [] = omega arith
few_lists lists (x ∷ xs) = let k = longer lists x in let l = few_lists (with_list lists x) xs in omega arith

pushed : {X : Type 0} (P : X → Type 0) (xs : List X) (x : X) → AllByRecursion P xs → P x → AllByRecursion P (xs ++ x ∷ [])
pushed P [] x h k = (k, tt)
pushed P (y ∷ xs) x h k = (h.0, pushed P xs x h.1 k)

each_by : (b : Bool) (P : List Act → Type 0) (lists : List (List Act)) (x : List Act) → AllByRecursion P lists → P x → AllByRecursion P (if b then lists else lists ++ x ∷ [])
each_by true P lists x h k = h
each_by false P lists x h k = pushed P lists x h k

each_with : (P : List Act → Type 0) (lists : List (List Act)) (x : List Act) → AllByRecursion P lists → (0 < length x → P x) → AllByRecursion P (with_list lists x)
each_with P lists [] h k = h
each_with P lists (a ∷ x) h k = each_by (is_one_of lists (a ∷ x)) P lists (a ∷ x) h (k (omega arith))

-- what holds of each list with acts that was put there holds of each list
pub each_list : (P : List Act → Type 0) (lists xs : List (List Act)) → AllByRecursion P lists → AllByRecursion (λ x. 0 < length x → P x) xs → AllByRecursion P (with_lists lists xs)
each_list P lists [] h k = h
each_list P lists (x ∷ xs) h k = each_list P (with_list lists x) xs (each_with P lists x h k.0) k.1

-- a list is found again by its number
pub found_again : {B : Type 0} (f : List Act → List B) (lists : List (List Act)) (acts : List Act) → f [] ≡ [] → IsListed lists acts → acts_of_number (map f lists) (list_number lists acts) ≡ f acts
found_again f lists [] none h = sym none
found_again f lists (a ∷ acts) none h =
    let p = has_place lists 1 (a ∷ acts) h in
    let number : number_from 1 lists (a ∷ acts) ≡ suc p.place = p.number ∙ omega arith in
    ap (λ (z : ℕ). acts_of_number (map f lists) z) number ∙ get_or_from_slice_get (map f lists) p.place (f (a ∷ acts)) [] (map_at f lists p.place (a ∷ acts) p.there)

pub number_within : (lists : List (List Act)) (acts : List Act) → IsListed lists acts → list_number lists acts ≤ length lists
number_within lists [] h = omega arith
number_within lists (a ∷ acts) h =
    let p = has_place lists 1 (a ∷ acts) h in
    let number = p.number in
    let short : p.place < length lists = at_short lists p.place (a ∷ acts) p.there in
    omega arith

-- ---- lists whose acts are changed, so that those that differ still do

abbrev changed : (Act → Act) → List (List Act) → List (List Act)
changed f lists = map (λ acts. map f acts) lists

-- lists that differ still do
abbrev pub TellsApart : (Act → Act) → (List Act → Type 0) → Type 0
TellsApart f Q = (x y : List Act) → Q x → Q y → same_acts (map f x) (map f y) ≡ same_acts x y

one_changed : (f : Act → Act) (Q : List Act → Type 0) (lists : List (List Act)) (x : List Act) → TellsApart f Q → AllByRecursion Q lists → Q x
    → is_one_of (changed f lists) (map f x) ≡ is_one_of lists x
one_changed f Q [] x t h q = refl
one_changed f Q (y ∷ lists) x t h q =
    ap (λ z. z || is_one_of (changed f lists) (map f x)) (t y x h.0 q) ∙ ap (λ z. same_acts y x || z) (one_changed f Q lists x t h.1 q)

put_by : (b : Bool) (f : Act → Act) (lists : List (List Act)) (x : List Act)
    → changed f (if b then lists else lists ++ x ∷ []) ≡ (if b then changed f lists else changed f lists ++ map f x ∷ [])
put_by true f lists x = refl
put_by false f lists x = map_push (λ acts. map f acts) lists x

put_changed : (f : Act → Act) (Q : List Act → Type 0) (lists : List (List Act)) (x : List Act) → TellsApart f Q → AllByRecursion Q lists → Q x
    → changed f (with_list lists x) ≡ with_list (changed f lists) (map f x)
put_changed f Q lists [] t h q = refl
put_changed f Q lists (a ∷ x) t h q =
    put_by (is_one_of lists (a ∷ x)) f lists (a ∷ x) ∙ ap (λ z. if z then changed f lists else changed f lists ++ map f (a ∷ x) ∷ []) (sym (one_changed f Q lists (a ∷ x) t h q))

-- so the different lists are the same ones, changed
pub all_changed : (f : Act → Act) (Q : List Act → Type 0) (lists xs : List (List Act)) → TellsApart f Q → AllByRecursion Q lists → AllByRecursion Q xs
    → changed f (with_lists lists xs) ≡ with_lists (changed f lists) (changed f xs)
all_changed f Q lists [] t h k = refl
all_changed f Q lists (x ∷ xs) t h k =
    all_changed f Q (with_list lists x) xs t (each_with Q lists x h (λ some. k.0)) k.1 ∙ ap (λ z. with_lists z (changed f xs)) (put_changed f Q lists x t h k.0)

from_changed : (f : Act → Act) (Q : List Act → Type 0) (lists : List (List Act)) (n : ℕ) (x : List Act) → TellsApart f Q → AllByRecursion Q lists → Q x
    → number_from n (changed f lists) (map f x) ≡ number_from n lists x
from_changed f Q [] n x t h q = refl
from_changed f Q (y ∷ lists) n x t h q =
    ap (λ z. if z then n else number_from (suc n) (changed f lists) (map f x)) (t y x h.0 q) ∙ ap (λ z. if same_acts y x then n else z) (from_changed f Q lists (suc n) x t h.1 q)

-- and have the same numbers
pub number_changed : (f : Act → Act) (Q : List Act → Type 0) (lists : List (List Act)) (x : List Act) → TellsApart f Q → AllByRecursion Q lists → Q x
    → list_number (changed f lists) (map f x) ≡ list_number lists x
number_changed f Q lists [] t h q = refl
number_changed f Q lists (a ∷ x) t h q = from_changed f Q lists 1 (a ∷ x) t h q
