-- Exactly one answer is right, and the code's search finds it.
use Rattle.std.proofs.Common.{◌≡◌, ℕ, zero, suc, ◌+◌, ◌<◌, List, [], ◌∷◌, ◌++◌, length, Bool, true, false, not, cond, ◌==◌, Some, slice_get, ⊎_elim, sym, refl, ap, subst, ◌∙◌, arith, append_assoc}
use Rattle.std.proofs.Common.{length-append}
use Rattle.std.proofs.lemmas.Bool.{cases_order, false≢true}
use Rattle.std.proofs.lemmas.List.{append-nil}
use Rattle.std.proofs.lemmas.Option.{none-some, same_Some}
use Rattle.rs_model.specs.declared.graph.Role.{Role}
use Rattle.rs_model.specs.declared.machines.Act.{Act}
use Rattle.rs_model.specs.declared.machines.Act.TheVariants.{Puts, Takes}
use Rattle.rs_prefix.specs.Earliest.{has, may_overtake, IsFreeTo, IsFound, IsBlocked, IsAbsent, Finds}
use Rattle.rs_prefix.specs.Search.{earliest, earliest_from}
use Rattle.rs_prefix.specs.declared.earliest.Found.{Found}
use Rattle.rs_prefix.specs.declared.earliest.Found.TheVariants.{At, Blocked, Absent}
use Rattle.rs_prefix.specs.declared.earliest.ActKind.{ActKind}
use Rattle.rs_prefix.specs.declared.earliest.ActKind.TheVariants.{Send, Receive}

get_front : {A : Type 0} (xs ys : List A) (i : ℕ) → i < length xs → slice_get (xs ++ ys) i ≡ slice_get xs i
get_front [] ys i h = absurd (omega arith)
get_front (x ∷ xs) ys zero h = refl
get_front (x ∷ xs) ys (suc i) h = get_front xs ys i (omega arith)

get_here : {A : Type 0} (xs : List A) (y : A) (ys : List A) → slice_get (xs ++ y ∷ ys) (length xs) ≡ Some y
get_here [] y ys = refl
get_here (x ∷ xs) y ys = get_here xs y ys

not_true : (b : Bool) → not b ≡ true → b ≡ false
not_true true e = absurd (false≢true e)
not_true false e = refl

-- an act of a kind with a peer may not overtake another such act
pub others : (kind : ActKind) (q : Role) (a : Act) → may_overtake kind q a ≡ true → has kind q a ≡ false
others Send q (Puts p l s) e = not_true (p.0 == q.0) e
others Send q (Takes p l s) e = refl
others Receive q (Puts p l s) e = refl
others Receive q (Takes p l s) e = not_true (p.0 == q.0) e

-- what the search finds is right

free_front : (front : List Act) (kind : ActKind) (q : Role) (rest : List Act) → IsAbsent front kind q
    → IsFreeTo (front ++ rest) kind q (length front)
free_front front kind q rest free i a h g = free i a (sym (get_front front rest i h) ∙ g)

free_more : (front : List Act) (kind : ActKind) (q : Role) (a : Act) → IsAbsent front kind q → may_overtake kind q a ≡ true
    → IsAbsent (front ++ a ∷ []) kind q
free_more [] kind q a free e zero b g = ap (λ x. may_overtake kind q x) (sym (same_Some a b g)) ∙ e
free_more [] kind q a free e (suc i) b g = absurd (none-some b g)
free_more (x ∷ front) kind q a free e zero b g = free zero b g
free_more (x ∷ front) kind q a free e (suc i) b g = free_more front kind q a (λ j c h. free (suc j) c h) e i b g

one_step : (front : List Act) (kind : ActKind) (q : Role) (a : Act) (rest : List Act) (later : Found) (h m : Bool) → has kind q a ≡ h
    → may_overtake kind q a ≡ m → IsAbsent front kind q
    → (m ≡ true → Finds (front ++ a ∷ rest) kind q later)
    → Finds (front ++ a ∷ rest) kind q (cond h (At (length front)) (cond m later (Blocked (length front))))
one_step front kind q a rest later true m eh em free on =
    record { act = a; stands = get_here front a rest; same = eh; free = free_front front kind q (a ∷ rest) free }
one_step front kind q a rest later false true eh em free on = on refl
one_step front kind q a rest later false false eh em free on =
    record { act = a; stands = get_here front a rest; other = eh; blocks = em; free = free_front front kind q (a ∷ rest) free }

sound : (pending : List Act) (kind : ActKind) (q : Role) (front : List Act) → IsAbsent front kind q
    → Finds (front ++ pending) kind q (earliest_from pending kind q (length front))
sound [] kind q front free = subst (λ xs. IsAbsent xs kind q) (sym (append-nil front)) free
sound (a ∷ rest) kind q front free =
    one_step front kind q a rest (earliest_from rest kind q (length front + 1)) (has kind q a) (may_overtake kind q a) refl refl free
    (λ e.
    subst (λ n. Finds (front ++ a ∷ rest) kind q (earliest_from rest kind q n)) (length-append front (a ∷ []))
    (subst (λ xs. Finds xs kind q (earliest_from rest kind q (length (front ++ a ∷ [])))) (append_assoc front (a ∷ []) rest)
    (sound rest kind q (front ++ a ∷ []) (free_more front kind q a free e))))

pub right : (pending : List Act) (kind : ActKind) (q : Role) → Finds pending kind q (earliest pending kind q)
right pending kind q = sound pending kind q [] (λ i a g. absurd (none-some a g))

-- there is one right answer at most

record Stops (pending : List Act) (kind : ActKind) (q : Role) (place : ℕ) : Type 0 where
  act : Act
  stands : slice_get pending place ≡ Some act
  blocks : may_overtake kind q act ≡ false
  free : IsFreeTo pending kind q place

no_way : (kind : ActKind) (q : Role) (a : Act) (b : Bool) → may_overtake kind q a ≡ b → has kind q a ≡ true → b ≡ false
no_way kind q a true e h = absurd (false≢true (sym (others kind q a e) ∙ h))
no_way kind q a false e h = refl

stops_found : (pending : List Act) (kind : ActKind) (q : Role) (n : ℕ) → IsFound pending kind q n → Stops pending kind q n
stops_found pending kind q n f =
    record { act = f.act; stands = f.stands; blocks = no_way kind q f.act (may_overtake kind q f.act) refl f.same; free = f.free }

stops_blocked : (pending : List Act) (kind : ActKind) (q : Role) (n : ℕ) → IsBlocked pending kind q n → Stops pending kind q n
stops_blocked pending kind q n f = record { act = f.act; stands = f.stands; blocks = f.blocks; free = f.free }

not_before : (pending : List Act) (kind : ActKind) (q : Role) (n m : ℕ) → Stops pending kind q n → Stops pending kind q m → n < m → ⊥
not_before pending kind q n m s t h = false≢true (sym s.blocks ∙ t.free n s.act h s.stands)

same_place : (pending : List Act) (kind : ActKind) (q : Role) (n m : ℕ) → Stops pending kind q n → Stops pending kind q m → n ≡ m
same_place pending kind q n m s t =
    ⊎_elim (λ h. h)
    (λ h.
    ⊎_elim (λ k. absurd (not_before pending kind q n m s t k)) (λ k. absurd (not_before pending kind q m n t s k)) h)
    (cases_order n m)

no_stop : (pending : List Act) (kind : ActKind) (q : Role) (n : ℕ) → Stops pending kind q n → IsAbsent pending kind q → ⊥
no_stop pending kind q n s free = false≢true (sym s.blocks ∙ free n s.act s.stands)

two_ways : (pending : List Act) (kind : ActKind) (q : Role) (n m : ℕ) → IsFound pending kind q n → IsBlocked pending kind q m → ⊥
two_ways pending kind q n m f b =
    let e : n ≡ m = same_place pending kind q n m (stops_found pending kind q n f) (stops_blocked pending kind q m b) in
    let k : f.act ≡ b.act = same_Some f.act b.act (sym f.stands ∙ ap (λ x. slice_get pending x) e ∙ b.stands) in
    false≢true (sym b.other ∙ ap (λ x. has kind q x) (sym k) ∙ f.same)

pub one : (pending : List Act) (kind : ActKind) (q : Role) (f g : Found) → Finds pending kind q f → Finds pending kind q g → f ≡ g
one pending kind q (At n) (At m) a b = ap At (same_place pending kind q n m (stops_found pending kind q n a) (stops_found pending kind q m b))
one pending kind q (At n) (Blocked m) a b = absurd (two_ways pending kind q n m a b)
one pending kind q (At n) Absent a b = absurd (no_stop pending kind q n (stops_found pending kind q n a) b)
one pending kind q (Blocked n) (At m) a b = absurd (two_ways pending kind q m n b a)
one pending kind q (Blocked n) (Blocked m) a b = ap Blocked (same_place pending kind q n m (stops_blocked pending kind q n a) (stops_blocked pending kind q m b))
one pending kind q (Blocked n) Absent a b = absurd (no_stop pending kind q n (stops_blocked pending kind q n a) b)
one pending kind q Absent (At m) a b = absurd (no_stop pending kind q m (stops_found pending kind q m b) a)
one pending kind q Absent (Blocked m) a b = absurd (no_stop pending kind q m (stops_blocked pending kind q m b) a)
one pending kind q Absent Absent a b = refl

pub is : (pending : List Act) (kind : ActKind) (q : Role) (f : Found) → Finds pending kind q f → earliest pending kind q ≡ f
is pending kind q f a = one pending kind q (earliest pending kind q) f (right pending kind q) a

pub is_right : (pending : List Act) (kind : ActKind) (q : Role) (f : Found) → earliest pending kind q ≡ f → Finds pending kind q f
is_right pending kind q f e = subst (λ x. Finds pending kind q x) e (right pending kind q)

pub first : (pending : List Act) (kind : ActKind) (q : Role) (n : ℕ) → IsFound pending kind q n → (i : ℕ) (a : Act) → i < n
    → slice_get pending i ≡ Some a → has kind q a ≡ false
first pending kind q n f i a h g = others kind q a (f.free i a h g)

pub none : (pending : List Act) (kind : ActKind) (q : Role) → IsAbsent pending kind q → (i : ℕ) (a : Act)
    → slice_get pending i ≡ Some a → has kind q a ≡ false
none pending kind q free i a g = others kind q a (free i a g)
