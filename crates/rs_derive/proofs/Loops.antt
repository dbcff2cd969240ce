-- The loops over arms and nexts, step by step.
use Rattle.std.proofs.Common.{◌≡◌, ◌≢◌, ◌⊎◌, ℕ, zero, suc, ◌+◌, ◌<◌, ◌≤◌, List, [], ◌∷◌, length, map, drop, Bool, true, false, cond, eqb, get_or, min, Option, Some, None, slice_get, inl, inr, ⊎_elim}
use Rattle.std.proofs.Common.{sym, refl, ap, ◌∙◌, arith}
use Rattle.std.proofs.Math.Nat.{min-le_left, min-le_right, min-eq_left, min-eq_right}
use Rattle.std.proofs.lemmas.Bool.{cases_order, eqb-true, eq-eqb, false≢true}
use Rattle.std.proofs.lemmas.Option.{none-some, same_Some, slice_get-get_or}
use Rattle.std.proofs.lemmas.List.{drop_all}
use Rattle.rs_model.specs.declared.graph.Arm.{Arm}
use Rattle.rs_model.specs.FirstFailed.{or_later}
use Rattle.rs_derive.specs.Checks.{edge_at, edge_fault, nexts_fault, fault_of_count}
use Rattle.rs_derive.specs.Data.{DNode_data}
use Rattle.rs_derive.specs.Moves.{Spot}
use Rattle.rs_derive.specs.declared.faults.DeriveFault.{DeriveFault}
use Rattle.rs_derive.specs.declared.faults.DeriveFault.TheVariants.{WrongNext}

pub drop_here : {A : Type 0} (xs : List A) (k : ℕ) (x : A) → slice_get xs k ≡ Some x → drop k xs ≡ x ∷ drop (k + 1) xs
drop_here [] k x g = absurd (none-some x g)
drop_here (y ∷ xs) zero x g = let e : y ≡ x = same_Some y x g in rw e refl
drop_here (y ∷ xs) (suc k) x g = let n : suc k + 1 ≡ suc (k + 1) = omega arith in drop_here xs k x g ∙ ap (λ m. x ∷ drop m (y ∷ xs)) (sym n)

-- what is read at a place
pub read_at : {A : Type 0} (xs ys : List A) (k n : ℕ) (x : A) → x ≡ get_or xs k x → k < length xs → xs ≡ ys → k ≡ n → slice_get ys n ≡ Some x
read_at xs ys k n x e h exs ek =
    sym (ap (λ zs. slice_get zs n) exs) ∙ sym (ap (λ m. slice_get xs m) ek) ∙ slice_get-get_or xs k x h ∙ ap Some (sym e)

pub step_on : (f : Arm → List Spot) (nodes : List DNode_data) (keeps : Bool) (rank i : ℕ) (arms : List Arm) (nexts : List ℕ) (k : ℕ) (a : Arm) (j : ℕ) (whole : Option DeriveFault)
    → slice_get arms k ≡ Some a → slice_get nexts k ≡ Some j → edge_fault keeps rank i k (f a) (slice_get nodes j) ≡ None
    → nexts_fault nodes keeps rank i (map f (drop k arms)) (drop k nexts) k ≡ whole
    → nexts_fault nodes keeps rank i (map f (drop (k + 1) arms)) (drop (k + 1) nexts) (k + 1) ≡ whole
step_on f nodes keeps rank i arms nexts k a j whole ga gj e inv =
    let later : Option DeriveFault = nexts_fault nodes keeps rank i (map f (drop (k + 1) arms)) (drop (k + 1) nexts) (k + 1) in
    ap (λ o. or_later o later) (sym e)
    ∙ ap (λ xs. nexts_fault nodes keeps rank i (map f xs) (j ∷ drop (k + 1) nexts) k) (sym (drop_here arms k a ga))
    ∙ ap (λ js. nexts_fault nodes keeps rank i (map f (drop k arms)) js k) (sym (drop_here nexts k j gj))
    ∙ inv

pub step_out : (f : Arm → List Spot) (nodes : List DNode_data) (keeps : Bool) (rank i : ℕ) (arms : List Arm) (nexts : List ℕ) (k : ℕ) (a : Arm) (j : ℕ) (whole : Option DeriveFault)
    (fault : DeriveFault)
    → slice_get arms k ≡ Some a → slice_get nexts k ≡ Some j → edge_fault keeps rank i k (f a) (slice_get nodes j) ≡ Some fault
    → nexts_fault nodes keeps rank i (map f (drop k arms)) (drop k nexts) k ≡ whole → Some fault ≡ whole
step_out f nodes keeps rank i arms nexts k a j whole fault ga gj e inv =
    let later : Option DeriveFault = nexts_fault nodes keeps rank i (map f (drop (k + 1) arms)) (drop (k + 1) nexts) (k + 1) in
    ap (λ o. or_later o later) (sym e)
    ∙ ap (λ xs. nexts_fault nodes keeps rank i (map f xs) (j ∷ drop (k + 1) nexts) k) (sym (drop_here arms k a ga))
    ∙ ap (λ js. nexts_fault nodes keeps rank i (map f (drop k arms)) js k) (sym (drop_here nexts k j gj))
    ∙ inv

there : {A : Type 0} (xs : List A) (k : ℕ) → k < length xs → (x : A) × (slice_get xs k ≡ Some x)
there [] k h = absurd (omega arith)
there (x ∷ xs) zero h = (x, refl)
there (x ∷ xs) (suc k) h = there xs k (omega arith)

told_at : (f : Arm → List Spot) (nodes : List DNode_data) (keeps : Bool) (rank i k : ℕ) (a : Arm) (j : ℕ) (oa : Option Arm) (oj : Option ℕ) (r : Option DeriveFault)
    → oa ≡ Some a → oj ≡ Some j → edge_at f nodes keeps rank i k oa oj ≡ r → edge_fault keeps rank i k (f a) (slice_get nodes j) ≡ r
told_at f nodes keeps rank i k a j oa oj r ea ej e =
    ap (λ o. edge_at f nodes keeps rank i k (Some a) o) (sym ej) ∙ ap (λ o. edge_at f nodes keeps rank i k o oj) (sym ea) ∙ e

pub stepped : (f : Arm → List Spot) (nodes : List DNode_data) (keeps : Bool) (rank i : ℕ) (arms : List Arm) (nexts : List ℕ) (k : ℕ) (whole : Option DeriveFault)
    → k < length arms → k < length nexts → edge_at f nodes keeps rank i k (slice_get arms k) (slice_get nexts k) ≡ None
    → nexts_fault nodes keeps rank i (map f (drop k arms)) (drop k nexts) k ≡ whole
    → nexts_fault nodes keeps rank i (map f (drop (k + 1) arms)) (drop (k + 1) nexts) (k + 1) ≡ whole
stepped f nodes keeps rank i arms nexts k whole ha hj e inv =
    let a = there arms k ha in
    let j = there nexts k hj in
    step_on f nodes keeps rank i arms nexts k a.0 j.0 whole a.1 j.1 (told_at f nodes keeps rank i k a.0 j.0 (slice_get arms k) (slice_get nexts k) None a.1 j.1 e) inv

pub left : (f : Arm → List Spot) (nodes : List DNode_data) (keeps : Bool) (rank i : ℕ) (arms : List Arm) (nexts : List ℕ) (k : ℕ) (whole : Option DeriveFault) (fault : DeriveFault)
    → k < length arms → k < length nexts → edge_at f nodes keeps rank i k (slice_get arms k) (slice_get nexts k) ≡ Some fault
    → nexts_fault nodes keeps rank i (map f (drop k arms)) (drop k nexts) k ≡ whole → Some fault ≡ whole
left f nodes keeps rank i arms nexts k whole fault ha hj e inv =
    let a = there arms k ha in
    let j = there nexts k hj in
    step_out f nodes keeps rank i arms nexts k a.0 j.0 whole fault a.1 j.1 (told_at f nodes keeps rank i k a.0 j.0 (slice_get arms k) (slice_get nexts k) (Some fault) a.1 j.1 e) inv

-- where one of the two lists is at its end

differ : (f : Arm → List Spot) (nodes : List DNode_data) (keeps : Bool) (rank i : ℕ) (arms : List Arm) (nexts : List ℕ) (p k : ℕ)
    → p ≤ length arms → p ≤ length nexts → (length arms ≤ p) ⊎ (length nexts ≤ p) → length arms ≢ length nexts
    → Some (WrongNext i k) ≡ nexts_fault nodes keeps rank i (map f (drop p arms)) (drop p nexts) k
differ f nodes keeps rank i [] [] zero k a b e ne = absurd (ne refl)
differ f nodes keeps rank i [] (j ∷ js) zero k a b e ne = refl
differ f nodes keeps rank i (x ∷ xs) [] zero k a b e ne = refl
differ f nodes keeps rank i (x ∷ xs) (j ∷ js) zero k a b e ne = absurd (⊎_elim (λ h. (let z : ⊥ = omega arith in z)) (λ h. (let z : ⊥ = omega arith in z)) e)
differ f nodes keeps rank i [] nexts (suc p) k a b e ne = absurd (omega arith)
differ f nodes keeps rank i (x ∷ xs) [] (suc p) k a b e ne = absurd (omega arith)
differ f nodes keeps rank i (x ∷ xs) (j ∷ js) (suc p) k a b e ne =
    differ f nodes keeps rank i xs js p k (omega arith) (omega arith) (⊎_elim (λ h. inl (omega arith)) (λ h. inr (omega arith)) e) (λ q. ne (ap suc q))

agree : (f : Arm → List Spot) (nodes : List DNode_data) (keeps : Bool) (rank i : ℕ) (arms : List Arm) (nexts : List ℕ) (p k : ℕ)
    → length arms ≤ p → length nexts ≤ p → None ≡ nexts_fault nodes keeps rank i (map f (drop p arms)) (drop p nexts) k
agree f nodes keeps rank i arms nexts p k a b =
    ap (λ xs. nexts_fault nodes keeps rank i (map f xs) [] k) (sym (drop_all p arms a))
    ∙ ap (λ js. nexts_fault nodes keeps rank i (map f (drop p arms)) js k) (sym (drop_all p nexts b))

same : {n m : ℕ} → n ≡ m → eqb n m ≡ true
same k = eq-eqb _ _ k

counted_as : (f : Arm → List Spot) (nodes : List DNode_data) (keeps : Bool) (rank i : ℕ) (arms : List Arm) (nexts : List ℕ) (p : ℕ) (b : Bool)
    → eqb (length arms) (length nexts) ≡ b → p ≤ length arms → p ≤ length nexts → (length arms ≤ p) ⊎ (length nexts ≤ p)
    → cond b None (Some (WrongNext i p)) ≡ nexts_fault nodes keeps rank i (map f (drop p arms)) (drop p nexts) p
counted_as f nodes keeps rank i arms nexts p true e a b h =
    let k : length arms ≡ length nexts = eqb-true (length arms) (length nexts) e in
    let m : length arms ≤ p = ⊎_elim (λ x. x) (λ x. omega arith) h in
    agree f nodes keeps rank i arms nexts p p m (omega arith)
counted_as f nodes keeps rank i arms nexts p false e a b h =
    differ f nodes keeps rank i arms nexts p p a b h (λ k. false≢true (sym e ∙ same k))

at_least_one : (n m : ℕ) → (n ≤ min n m) ⊎ (m ≤ min n m)
at_least_one n m =
    ⊎_elim (λ e. (let k : min n m ≡ n = min-eq_left (omega arith) in inl (omega arith)))
    (λ w.
    ⊎_elim (λ l. (let k : min n m ≡ n = min-eq_left (omega arith) in inl (omega arith)))
    (λ l. (let k : min n m ≡ m = min-eq_right (omega arith) in inr (omega arith))) w)
    (cases_order n m)

pub at_count : (f : Arm → List Spot) (nodes : List DNode_data) (keeps : Bool) (rank i : ℕ) (arms : List Arm) (nexts : List ℕ) (p due : ℕ) (whole : Option DeriveFault)
    → p ≡ due → due ≡ min (length arms) (length nexts)
    → nexts_fault nodes keeps rank i (map f (drop p arms)) (drop p nexts) p ≡ whole → fault_of_count i due (length arms) (length nexts) ≡ whole
at_count f nodes keeps rank i arms nexts p due whole pd m inv =
    let l : min (length arms) (length nexts) ≤ length arms = min-le_left (length arms) (length nexts) in
    let r : min (length arms) (length nexts) ≤ length nexts = min-le_right (length arms) (length nexts) in
    let a : p ≤ length arms = omega arith in
    let b : p ≤ length nexts = omega arith in
    let h : (length arms ≤ p) ⊎ (length nexts ≤ p) =
    ⊎_elim (λ k. inl (omega arith)) (λ k. inr (omega arith)) (at_least_one (length arms) (length nexts)) in
    ap (λ k. fault_of_count i k (length arms) (length nexts)) (sym pd) ∙ counted_as f nodes keeps rank i arms nexts p (eqb (length arms) (length nexts)) refl a b h ∙ inv
