-- What holds of the first failed test of a list, and of labels that stand twice.
use Rattle.std.proofs.Common.{◌≡◌, ◌⊎◌, ℕ, zero, suc, ◌+◌, ◌<◌, List, [], ◌∷◌, ◌++◌, length, Bool, true, false, not, cond, eqb, ltb, leb, ◌==◌, ◌||◌, Option, Some, None, slice_get, inl, inr, ⊎_elim}
use Rattle.std.proofs.Common.{sym, refl, ap, subst, ◌∙◌, arith, append_assoc, length-append}
use Rattle.std.proofs.lemmas.Bool.{cases_order, cases_lt, lt-ltb, le-ltb, le-leb, lt-leb, eq-eqb, ne_eqb, eqb-true, eqb-false, or_cases, or_parts, false≢true}
use Rattle.std.proofs.lemmas.Option.{none-some, same_Some, slice_get_within}
use Rattle.std.specs.List.{list_any}
use Rattle.rs_model.specs.Repeats.{first_repeat}
use Rattle.rs_model.specs.Faults.{StandsTwice}
use Rattle.rs_model.specs.FirstFailed.{Test, first_failed, or_later, label_fault, label_tests, next_tests}
use Rattle.rs_model.specs.declared.graph.Arm.{Arm}
use Rattle.rs_model.specs.declared.graph.Label.{Label}
use Rattle.rs_model.specs.declared.graph.Role.{Role}

-- choices of what is told
pub or_some : {F : Type 0} (a b : Option F) (f : F) → or_later a b ≡ Some f → (a ≡ Some f) ⊎ (b ≡ Some f)
or_some None b f e = inr e
or_some (Some g) b f e = inl e

pub or_none : {F : Type 0} (a b : Option F) → or_later a b ≡ None → (a ≡ None) × (b ≡ None)
or_none None b e = (refl, e)
or_none (Some g) b e = absurd (none-some g (sym e))

pub cond_is : {A : Type 0} (b : Bool) (x y z : A) → cond b x y ≡ z → ((b ≡ true) × (x ≡ z)) ⊎ ((b ≡ false) × (y ≡ z))
cond_is true x y z e = inl (refl, e)
cond_is false x y z e = inr (refl, e)

pub label_is : {F : Type 0} (told : Label → F) (o : Option Label) (f : F) → label_fault told o ≡ Some f
    → (l : Label) × (o ≡ Some l) × (told l ≡ f)
label_is told None f e = absurd (none-some f e)
label_is told (Some l) f e = (l, refl, same_Some (told l) f e)

pub label_none : {F : Type 0} (told : Label → F) (o : Option Label) → label_fault told o ≡ None → o ≡ None
label_none told None e = refl
label_none told (Some l) e = absurd (none-some (told l) (sym e))

-- lists

pub get_front : {A : Type 0} (xs ys : List A) (i : ℕ) → i < length xs → slice_get (xs ++ ys) i ≡ slice_get xs i
get_front [] ys i h = absurd (omega arith)
get_front (x ∷ xs) ys zero h = refl
get_front (x ∷ xs) ys (suc i) h = get_front xs ys i (omega arith)

pub get_here : {A : Type 0} (xs : List A) (y : A) (ys : List A) → slice_get (xs ++ y ∷ ys) (length xs) ≡ Some y
get_here [] y ys = refl
get_here (x ∷ xs) y ys = get_here xs y ys

pub any_place : {A : Type 0} (p : A → Bool) (xs : List A) → list_any p xs ≡ true
    → (i : ℕ) × (x : A) × (slice_get xs i ≡ Some x) × (p x ≡ true)
any_place p [] e = absurd (false≢true e)
any_place p (x ∷ xs) e =
    ⊎_elim (λ h. (zero, x, refl, h))
    (λ h. let r = any_place p xs h in (suc r.0, r.1, r.2, r.3)) (or_cases (p x) (list_any p xs) e)

pub any_not : {A : Type 0} (p : A → Bool) (xs : List A) (i : ℕ) (x : A) → list_any p xs ≡ false → slice_get xs i ≡ Some x
    → p x ≡ false
any_not p [] i x e g = absurd (none-some x g)
any_not p (y ∷ xs) zero x e g =
    ap p (sym (same_Some y x g)) ∙ (or_parts (p y) (list_any p xs) e).0
any_not p (y ∷ xs) (suc i) x e g = any_not p xs i x (or_parts (p y) (list_any p xs) e).1 g

-- roles and labels are their numbers

pub role_same : (p q : Role) → p.0 ≡ q.0 → p ≡ q
role_same p q e = let role : ℕ → Role = λ n. record { 0 = n } in ap role e

pub label_same : (l k : Label) → l.0 ≡ k.0 → l ≡ k
label_same l k e = let label : ℕ → Label = λ n. record { 0 = n } in ap label e

-- labels

pub stands_twice : (later earlier : List Arm) (l : Label) → first_repeat later earlier ≡ Some l
    → StandsTwice (earlier ++ later) l
stands_twice [] earlier l e = absurd (none-some l e)
stands_twice (a ∷ later) earlier l e =
    ⊎_elim
    (λ h. let r = any_place (λ b. b.label.0 == a.label.0) earlier h.0 in
    let k : a.label ≡ l = same_Some a.label l h.1 in
    let w : r.0 < length earlier = slice_get_within earlier r.0 r.1 r.2 in
    record {
      first = r.0;
      second = length earlier;
      one = r.1;
      other = a;
      order = w;
      at_first = get_front earlier (a ∷ later) r.0 w ∙ r.2;
      at_second = get_here earlier a later;
      its_first = label_same r.1.label a.label (eqb-true r.1.label.0 a.label.0 r.3) ∙ k;
      its_second = k;
    })
    (λ h. subst (λ x. StandsTwice x l) (append_assoc earlier (a ∷ []) later)
    (stands_twice later (earlier ++ a ∷ []) l h.1))
    (cond_is (list_any (λ b. b.label.0 == a.label.0) earlier) (Some a.label)
    (first_repeat later (earlier ++ a ∷ [])) (Some l) e)

pub apart : (later earlier : List Arm) → first_repeat later earlier ≡ None → (i j : ℕ) (a b : Arm)
    → slice_get later j ≡ Some b → slice_get (earlier ++ later) i ≡ Some a → i < length earlier + j
    → a.label ≡ b.label → ⊥
apart [] earlier e i j a b gb ga h l = none-some b gb
apart (c ∷ later) earlier e i zero a b gb ga h l =
    ⊎_elim (λ w. none-some c.label (sym w.1))
    (λ w.
    eqb-false a.label.0 c.label.0
    (any_not (λ x. x.label.0 == c.label.0) earlier i a w.0
    (sym (get_front earlier (c ∷ later) i (omega arith)) ∙ ga))
    (ap (λ x. x.0) (l ∙ ap (λ x. x.label) (sym (same_Some c b gb)))))
    (cond_is (list_any (λ x. x.label.0 == c.label.0) earlier) (Some c.label)
    (first_repeat later (earlier ++ c ∷ [])) None e)
apart (c ∷ later) earlier e i (suc j) a b gb ga h l =
    ⊎_elim (λ w. none-some c.label (sym w.1))
    (λ w.
    apart later (earlier ++ c ∷ []) w.1 i j a b gb
    (ap (λ x. slice_get x i) (append_assoc earlier (c ∷ []) later) ∙ ga)
    (omega (arith, length-append earlier (c ∷ []))) l)
    (cond_is (list_any (λ x. x.label.0 == c.label.0) earlier) (Some c.label)
    (first_repeat later (earlier ++ c ∷ [])) None e)

pub once : (arms : List Arm) → first_repeat arms [] ≡ None → (i j : ℕ) (a b : Arm) → slice_get arms i ≡ Some a
    → slice_get arms j ≡ Some b → a.label ≡ b.label → i ≡ j
once arms e i j a b ga gb l =
    ⊎_elim (λ h. h)
    (λ h.
    ⊎_elim (λ k. absurd (apart arms [] e i j a b gb ga (omega arith) l))
    (λ k. absurd (apart arms [] e j i b a ga gb (omega arith) (sym l))) h)
    (cases_order i j)

-- the first failed of some tests

pub passed_or : {F : Type 0} (p : Bool) (x y z : Option F) (f : F) → x ≡ or_later y z
    → cond p x (Some f) ≡ or_later (cond p y (Some f)) z
passed_or true x y z f e = e
passed_or false x y z f e = refl

pub failed_append : {F : Type 0} (a b : List (Test F)) → first_failed (a ++ b) ≡ or_later (first_failed a) (first_failed b)
failed_append [] b = refl
failed_append (t ∷ ts) b =
    passed_or t.passes (first_failed (ts ++ b)) (first_failed ts) (first_failed b) t.fault (failed_append ts b)

label_told : {F : Type 0} (told : Label → F) (q : Bool) (x : Option F) (y : Option Label) (l : Label) → x ≡ label_fault told y
    → cond (not q) x (Some (told l)) ≡ label_fault told (cond q (Some l) y)
label_told told true x y l e = refl
label_told told false x y l e = e

pub labels_told : {F : Type 0} (told : Label → F) (later earlier : List Arm)
    → first_failed (label_tests told later earlier) ≡ label_fault told (first_repeat later earlier)
labels_told told [] earlier = refl
labels_told told (a ∷ later) earlier =
    label_told told (list_any (λ b. eqb b.label.0 a.label.0) earlier)
    (first_failed (label_tests told later (earlier ++ a ∷ []))) (first_repeat later (earlier ++ a ∷ [])) a.label
    (labels_told told later (earlier ++ a ∷ []))

pub not_past : (n count : ℕ) → leb count n ≡ not (ltb n count)
not_past n count =
    ⊎_elim (λ h. lt-leb count n h ∙ ap not (sym (lt-ltb n count h)))
    (λ h. le-leb count n h ∙ ap not (sym (le-ltb n count h))) (cases_lt n count)

pub next_told : {F : Type 0} (p q r : Bool) (x : Option F) (f : F) → q ≡ not p
    → x ≡ cond r (Some f) None → cond p x (Some f) ≡ cond (q || r) (Some f) None
next_told true q r x f e g = rw e g
next_told false q r x f e g = rw e refl

pub nexts_told : {F : Type 0} (fault : F) (count : ℕ) (arms : List Arm)
    → first_failed (next_tests fault count arms) ≡ cond (list_any (λ b. leb count b.next) arms) (Some fault) None
nexts_told fault count [] = refl
nexts_told fault count (a ∷ arms) =
    next_told (ltb a.next count) (leb count a.next) (list_any (λ b. leb count b.next) arms)
    (first_failed (next_tests fault count arms)) fault (not_past a.next count) (nexts_told fault count arms)

pub some_arms : (n : ℕ) → eqb n 0 ≡ not (ltb 0 n)
some_arms n =
    ⊎_elim (λ h. ne_eqb n 0 (λ e. omega arith) ∙ ap not (sym (lt-ltb 0 n h)))
    (λ h. eq-eqb n 0 (omega arith) ∙ ap not (sym (le-ltb 0 n h))) (cases_lt 0 n)
