-- Tests of equality of sorts, acts and lists of acts.
use Rattle.std.proofs.Common.{◌≡◌, ℕ, zero, suc, ◌+◌, ◌<◌, List, [], ◌∷◌, ◌++◌, length, take, drop, Bool, true, false, eqb, ◌&&◌, sym, refl, ap, subst, ◌∙◌, arith}
use Rattle.std.proofs.lemmas.Bool.{eqb-true, eq-eqb, and_parts, false≢true}
use Rattle.std.proofs.Math.Seq.{drop-nil}
use Rattle.rs_model.specs.Serving.{sort_number}
use Rattle.rs_model.specs.declared.graph.Label.{Label}
use Rattle.rs_model.specs.declared.graph.Role.{Role}
use Rattle.rs_model.specs.declared.machines.Act.{Act}
use Rattle.rs_model.specs.declared.machines.Act.TheVariants.{Puts, Takes}
use Rattle.rs_model.specs.declared.values.Sort.{Sort}
use Rattle.rs_model.specs.declared.values.Sort.TheVariants as sort
use Rattle.rs_prefix.specs.Earliest.{without}
use Rattle.rs_derive.specs.Targets.{same_act, same_acts}

sort_at : ℕ → Sort
sort_at zero = sort.Unit
sort_at (suc zero) = sort.Flag
sort_at (suc (suc zero)) = sort.Natural
sort_at (suc (suc (suc zero))) = sort.Whole
sort_at (suc (suc (suc (suc zero)))) = sort.Octets
sort_at (suc (suc (suc (suc (suc n))))) = sort.Numbers

sort_back : (s : Sort) → sort_at (sort_number s) ≡ s
unfolding sort_at
sort_back sort.Unit = refl
sort_back sort.Flag = refl
sort_back sort.Natural = refl
sort_back sort.Whole = refl
sort_back sort.Octets = refl
sort_back sort.Numbers = refl

pub sort_is : (s t : Sort) → eqb (sort_number s) (sort_number t) ≡ true → s ≡ t
sort_is s t e = sym (sort_back s) ∙ ap sort_at (eqb-true (sort_number s) (sort_number t) e) ∙ sort_back t

pub role_is : (p q : Role) → eqb p.0 q.0 ≡ true → p ≡ q
role_is p q e = let role : ℕ → Role = λ n. record { 0 = n } in ap role (eqb-true p.0 q.0 e)

pub label_is : (l k : Label) → eqb l.0 k.0 ≡ true → l ≡ k
label_is l k e = let label : ℕ → Label = λ n. record { 0 = n } in ap label (eqb-true l.0 k.0 e)

three : {A B C D : Type 0} (f : A → B → C → D) (a a' : A) (b b' : B) (c c' : C) → a ≡ a' → b ≡ b' → c ≡ c' → f a b c ≡ f a' b' c'
three f a a' b b' c c' p q r = rw (p, q, r) refl

pub act_is : (a b : Act) → same_act a b ≡ true → a ≡ b
act_is (Puts p l s) (Puts q k t) e =
    let x = and_parts (eqb p.0 q.0) (eqb l.0 k.0 && eqb (sort_number s) (sort_number t)) e in
    let y = and_parts (eqb l.0 k.0) (eqb (sort_number s) (sort_number t)) x.1 in
    three Puts p q l k s t (role_is p q x.0) (label_is l k y.0) (sort_is s t y.1)
act_is (Takes p l s) (Takes q k t) e =
    let x = and_parts (eqb p.0 q.0) (eqb l.0 k.0 && eqb (sort_number s) (sort_number t)) e in
    let y = and_parts (eqb l.0 k.0) (eqb (sort_number s) (sort_number t)) x.1 in
    three Takes p q l k s t (role_is p q x.0) (label_is l k y.0) (sort_is s t y.1)
act_is (Puts p l s) (Takes q k t) e = absurd (false≢true e)
act_is (Takes p l s) (Puts q k t) e = absurd (false≢true e)

pub act_same : (a : Act) → same_act a a ≡ true
act_same (Puts p l s) =
    rw (eq-eqb p.0 p.0 refl, eq-eqb l.0 l.0 refl, eq-eqb (sort_number s) (sort_number s) refl) refl
act_same (Takes p l s) =
    rw (eq-eqb p.0 p.0 refl, eq-eqb l.0 l.0 refl, eq-eqb (sort_number s) (sort_number s) refl) refl

pub acts_are : (xs ys : List Act) → same_acts xs ys ≡ true → xs ≡ ys
acts_are [] [] e = refl
acts_are [] (y ∷ ys) e = absurd (false≢true e)
acts_are (x ∷ xs) [] e = absurd (false≢true e)
acts_are (x ∷ xs) (y ∷ ys) e =
    let k = and_parts (same_act x y) (same_acts xs ys) e in
    rw (act_is x y k.0, acts_are xs ys k.1) refl

pub acts_same : (xs : List Act) → same_acts xs xs ≡ true
acts_same [] = refl
acts_same (x ∷ xs) = rw (act_same x, acts_same xs) refl

pub bools : (a b : Bool) → (a ≡ true → b ≡ true) → (b ≡ true → a ≡ true) → a ≡ b
bools true b f g = sym (f refl)
bools false true f g = g refl
bools false false f g = refl

pub tested : (r : Bool) (xs ys : List Act) → (r ≡ true → xs ≡ ys) → (xs ≡ ys → r ≡ true) → r ≡ same_acts xs ys
tested r xs ys f g =
    bools r (same_acts xs ys) (λ e. subst (λ zs. same_acts xs zs ≡ true) (f e) (acts_same xs)) (λ e. g (acts_are xs ys e))

-- a joined list, part by part

and_and : (a b c : Bool) → (a && (b && c)) ≡ ((a && b) && c)
and_and true b c = refl
and_and false b c = refl

pub joined : (xs ys zs : List Act)
    → same_acts xs (ys ++ zs) ≡ (same_acts (take (length ys) xs) ys && same_acts (drop (length ys) xs) zs)
joined xs [] zs = refl
joined [] (y ∷ ys) zs = refl
joined (x ∷ xs) (y ∷ ys) zs =
    ap (λ b. same_act x y && b) (joined xs ys zs)
    ∙ and_and (same_act x y) (same_acts (take (length ys) xs) ys) (same_acts (drop (length ys) xs) zs)

no_more : (a b : Bool) → b ≡ false → (a && b) ≡ false
no_more true b e = e
no_more false b e = refl

pub too_short : (xs ys zs : List Act) → length xs < length ys → same_acts xs (ys ++ zs) ≡ false
too_short xs [] zs h = absurd (omega arith)
too_short [] (y ∷ ys) zs h = refl
too_short (x ∷ xs) (y ∷ ys) zs h = no_more (same_act x y) (same_acts xs (ys ++ zs)) (too_short xs ys zs (omega arith))

pub join_then : (acts front back ours later : List Act) (r s : Bool) → ours ≡ take (length front) acts
    → later ≡ drop (length front) acts → r ≡ same_acts ours front → s ≡ same_acts later back → r ≡ true
    → s ≡ same_acts acts (front ++ back)
join_then acts front back ours later r s eo el er es t =
    es ∙ ap (λ x. same_acts x back) el
    ∙ sym (ap (λ b. b && same_acts (drop (length front) acts) back) (sym (ap (λ x. same_acts x front) eo) ∙ sym er ∙ t))
    ∙ sym (joined acts front back)

pub join_else : (acts front back ours : List Act) (r : Bool) → ours ≡ take (length front) acts
    → r ≡ same_acts ours front → r ≡ false → r ≡ same_acts acts (front ++ back)
join_else acts front back ours r eo er f =
    f ∙ sym (ap (λ b. b && same_acts (drop (length front) acts) back) (sym (ap (λ x. same_acts x front) eo) ∙ sym er ∙ f))
    ∙ sym (joined acts front back)

more : {A : Type 0} (n : ℕ) (xs : List A) (x : A) → drop 1 (drop n xs) ≡ drop (n + 1) xs → drop 1 (drop (suc n) (x ∷ xs)) ≡ drop (suc n + 1) (x ∷ xs)
more n xs x e = let k : suc n + 1 ≡ suc (n + 1) = omega arith in e ∙ ap (λ m. drop m (x ∷ xs)) (sym k)

pub drop_one : {A : Type 0} (n : ℕ) (xs : List A) → drop 1 (drop n xs) ≡ drop (n + 1) xs
drop_one zero xs = refl
drop_one (suc n) [] = sym (drop-nil (suc n + 1))
drop_one (suc n) (x ∷ xs) = more n xs x (drop_one n xs)

-- the one act that is owed is made

pub alone : (a : Act) (bs : List Act) (place : ℕ) → place ≡ 0 → length bs ≡ 0 → without (a ∷ bs) place ≡ []
alone a [] place e l = rw e refl
alone a (b ∷ bs) place e l = absurd (omega arith)

pub none_left : (r : Bool) (acts pending : List Act) (place : ℕ) → length pending ≡ 1 → place < length pending → (r ≡ true → length acts ≡ 0) → (length acts ≡ 0 → r ≡ true)
    → r ≡ same_acts acts (without pending place)
none_left r acts [] place l lt f g = absurd (omega arith)
none_left r [] (b ∷ bs) place l lt f g = g refl ∙ sym (ap (λ (z : List Act). same_acts [] z) (alone b bs place (omega arith) (omega arith)))
none_left r (a ∷ as') (b ∷ bs) place l lt f g =
    bools r false (λ e. let z = f e in absurd (omega arith)) (λ e. absurd (false≢true e)) ∙ sym (ap (λ (z : List Act). same_acts (a ∷ as') z) (alone b bs place (omega arith) (omega arith)))
