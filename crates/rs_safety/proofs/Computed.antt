-- Projections of small protocols, tested by computation. The tests are for protocols in which every walk comes, within
-- so many steps, to a talk of the role or to an end; of others they say nothing.
use Rattle.std.proofs.Common.{◌≡◌, ◌≢◌, inl, inr, ℕ, zero, suc, ◌+◌, ◌<◌, ◌≤◌, Bool, true, false, not, ◌&&◌, ◌||◌, ◌==◌, nat_lt, List, [], ◌∷◌, ◌++◌, map, length, get_or, Option, Some, None}
use Rattle.std.proofs.Common.{slice_get, refl, sym, ap, ap₂, ◌∙◌, subst, subst₂, arith, length-append, if◌then◌else◌}
use Rattle.std.specs.List.{AllPairs, flat_map, list_all, list_any}
use Rattle.std.proofs.lemmas.Bool.{and_parts, ltb-true, false≢true}
use Rattle.std.proofs.lemmas.Bool.Decides.{eqb_tells}
use Rattle.rs_model.specs.Data.{Protocol_data}
use Rattle.rs_model.specs.Serving.{sort_number}
use Rattle.rs_model.specs.declared.graph.Arm.{Arm}
use Rattle.rs_model.specs.declared.graph.Label.{Label}
use Rattle.rs_model.specs.declared.graph.Node.{Node}
use Rattle.rs_model.specs.declared.graph.Node.TheVariants.{Finished, Talk}
use Rattle.rs_model.specs.declared.graph.Role.{Role}
use Rattle.rs_model.specs.declared.machines.State.{State}
use Rattle.rs_model.specs.declared.machines.State.TheVariants.{Done, Puts, Takes}
use Rattle.rs_model.specs.declared.values.Sort.{Sort}
use Rattle.rs_model.specs.Talks.{Talks}
use Rattle.rs_project.specs.Clashes.{agree_nodes}
use Rattle.rs_project.specs.Data.{Projection_data}
use Rattle.rs_project.specs.Graph.{PathStep, LeadsTo, IsPath, Involves, IsIdle, PassesBy, AllPassBy, MeetsFirst, MeetsTheEnd, IsUnreached}
use Rattle.rs_derive.proofs.Acts.{sort_is}
use Rattle.rs_graph.specs.Lists.{Among}
use Rattle.rs_project.specs.Marks.{StartMeets, StartEnds, involves_role, nexts_of_node}
use Rattle.rs_project.specs.Numbered.{nexts_of}
use Rattle.rs_project.specs.Projection.{IsSet, LabelChoice, choice_of, merged_choices, Agree, MeetsBehind, EndsBehind, AreArmsOf, IsStateOf, IsDone, IsPuts, IsTakes, IsProjection, AreProjections}
use Rattle.rs_project.specs.Refusals.{IsFront}
use Rattle.rs_project.proofs.Agreeing.{agree_sound}
use Rattle.rs_project.proofs.Behind.{starts_of, front_behind}
use Rattle.rs_project.proofs.Lists.{contained, contains, at_among, at_map, at_short}
use Rattle.rs_project.proofs.Numbers.{flat_from, flat_to}
use Rattle.rs_project.proofs.Steps.{front_root}
use Rattle.rs_project.proofs.Surveys.{or_split, or_left, or_right, role_by, role_eq, involves_by}
use Rattle.rs_safety.proofs.Fronts.{meets_itself, meets_on, ends_itself, ends_on, Met, Here, There, met, Ended, Rests, Later, ended}
use Rattle.rs_safety.proofs.Walks.{step_of, numbered}

-- tests of lists

all_each : {A : Type 0} (f : A → Bool) (xs : List A) → list_all f xs ≡ true → (x : A) → Among xs x → f x ≡ true
all_each f [] h x m = absurd m
all_each f (y ∷ ys) h x (inl e) = let P : Bool → Type 0 = λ z. z ≡ true in subst P (ap f e) (and_parts (f y) (list_all f ys) h).0
all_each f (y ∷ ys) h x (inr m) = all_each f ys (and_parts (f y) (list_all f ys) h).1 x m

and_both : (a b : Bool) → a ≡ true → b ≡ true → (a && b) ≡ true
and_both true b h k = k
and_both false b h k = absurd (cc (h))

each_all : {A : Type 0} (f : A → Bool) (xs : List A) → ((x : A) → Among xs x → f x ≡ true) → list_all f xs ≡ true
each_all f [] h = refl
each_all f (x ∷ xs) h = and_both (f x) (list_all f xs) (h x (inl refl)) (each_all f xs (λ y m. h y (inr m)))

any_some : {A : Type 0} (f : A → Bool) (xs : List A) → list_any f xs ≡ true → (x : A) × Among xs x × (f x ≡ true)
any_some f [] h = absurd (cc (h))
any_some f (x ∷ xs) h = elim (or_split (f x) (list_any f xs) h) [
  | inl e ↦ (x, inl refl, e)
  | inr k ↦ (let r = any_some f xs k in (r.0, inr r.1, r.2))
]

some_any : {A : Type 0} (f : A → Bool) (xs : List A) (x : A) → Among xs x → f x ≡ true → list_any f xs ≡ true
some_any f [] x m h = absurd m
some_any f (y ∷ ys) x (inl e) h = let P : Bool → Type 0 = λ z. z ≡ true in or_left (f y) (list_any f ys) (subst P (ap f (sym e)) h)
some_any f (y ∷ ys) x (inr m) h = or_right (f y) (list_any f ys) (some_any f ys x m h)

eq_by : (x y : ℕ) → (x == y) ≡ true → x ≡ y
eq_by x y h = elim (eqb_tells x y) [ inl t ↦ t.1 | inr t ↦ absurd (cc (h, t.0)) ]

abbrev has : List ℕ → ℕ → Bool
has xs x = list_any (λ y. y == x) xs

has_among : (xs : List ℕ) (x : ℕ) → has xs x ≡ true → Among xs x
has_among xs x h = let r = any_some (λ y. y == x) xs h in let P : ℕ → Type 0 = λ z. Among xs z in subst P (eq_by r.0 x r.2) r.1

abbrev rises : List ℕ → Bool
rises [] = true
rises (x ∷ xs) = list_all (λ y. nat_lt x y) xs && rises xs

at_place : (xs : List ℕ) (i d : ℕ) → i < length xs → Among xs (get_or xs i d)
at_place [] i d h = absurd (omega arith)
at_place (x ∷ xs) zero d h = inl refl
at_place (x ∷ xs) (suc i) d h = inr (at_place xs i d (omega arith))

rising : (xs : List ℕ) → rises xs ≡ true → AllPairs (λ (n m : ℕ). n < m) xs
rising [] h i j d lt w = absurd (omega (arith, w))
rising (x ∷ xs) h i zero d lt w = absurd (omega (arith, lt))
rising (x ∷ xs) h zero (suc j) d lt w =
    let p = and_parts (list_all (λ y. nat_lt x y) xs) (rises xs) h in
    ltb-true x (get_or xs j d) (all_each (λ y. nat_lt x y) xs p.0 (get_or xs j d) (at_place xs j d (omega (arith, w))))
rising (x ∷ xs) h (suc i) (suc j) d lt w =
    rising xs (and_parts (list_all (λ y. nat_lt x y) xs) (rises xs) h).1 i j d (omega (arith, lt)) (omega (arith, w))

abbrev is_none : List ℕ → Bool
is_none [] = true
is_none (x ∷ xs) = false

-- there are no members exactly where the end may be met
abbrev ends_right : List ℕ → Bool → Bool
ends_right [] e = e
ends_right (x ∷ xs) e = not e

ends_one : (xs : List ℕ) (e : Bool) → ends_right xs e ≡ true → xs ≡ [] → e ≡ true
ends_one [] e h k = h
ends_one (x ∷ xs) e h k = absurd (cc (k))

ends_other : (xs : List ℕ) (e : Bool) → ends_right xs e ≡ true → e ≡ true → xs ≡ []
ends_other [] e h k = refl
ends_other (x ∷ xs) true h k = absurd (cc (h))
ends_other (x ∷ xs) false h k = absurd (cc (k))

-- steps

abbrev behind : Option Node → List ℕ
behind None = []
behind (Some node) = nexts_of_node node

abbrev nexts_at : Protocol_data → ℕ → List ℕ
nexts_at pr g = behind (slice_get pr.nodes g)

abbrev involves_at : Role → Option Node → Bool
involves_at role None = false
involves_at role (Some node) = involves_role role node

abbrev is_involved : Protocol_data → Role → ℕ → Bool
is_involved pr role g = involves_at role (slice_get pr.nodes g)

step_to : (pr : Protocol_data) (g i k : ℕ) → LeadsTo pr g i k → Among (nexts_at pr g) k
step_to pr g i k l =
    let f : Arm → ℕ = λ (a : Arm). a.next in
    let P : ℕ → Type 0 = λ z. Among (nexts_of l.arms) z in
    let Q : Option Node → Type 0 = λ o. Among (behind o) k in
    subst Q (sym l.talks) (subst P l.leads (at_among (map f l.arms) i (f l.arm) (at_map f l.arms i l.arm l.stands)))

arm_from : (arms : List Arm) (k : ℕ) → Among (nexts_of arms) k → (i : ℕ) × (x : Arm) × (slice_get arms i ≡ Some x) × (x.next ≡ k)
arm_from [] k h = absurd h
arm_from (x ∷ xs) k (inl e) = (0, x, refl, e)
arm_from (x ∷ xs) k (inr h) = let r = arm_from xs k h in (suc r.0, r.1, r.2, r.3)

step_from : (pr : Protocol_data) (g k : ℕ) → Among (nexts_at pr g) k → (i : ℕ) × LeadsTo pr g i k
step_from pr g k h = go (slice_get pr.nodes g) refl h
  where
    go : (o : Option Node) → slice_get pr.nodes g ≡ o → Among (behind o) k → (i : ℕ) × LeadsTo pr g i k
    go None e m = absurd m
    go (Some Finished) e m = absurd m
    go (Some (Talk s r arms)) e m =
        let x = arm_from arms k m in
        (x.0, record { sender = s; receiver = r; arms = arms; arm = x.1; talks = e; stands = x.2; leads = x.3 })

involved_is : (pr : Protocol_data) (role : Role) (g : ℕ) → is_involved pr role g ≡ true → Involves pr role g
involved_is pr role g h = go (slice_get pr.nodes g) refl h
  where
    go : (o : Option Node) → slice_get pr.nodes g ≡ o → involves_at role o ≡ true → Involves pr role g
    go None e k = absurd (cc (k))
    go (Some node) e k = involves_by pr role g node e k

is_involved_shown : (pr : Protocol_data) (role : Role) (g : ℕ) → Involves pr role g → is_involved pr role g ≡ true
is_involved_shown pr role g inv =
    let P : Option Node → Type 0 = λ o. involves_at role o ≡ true in
    subst P (sym inv.talks) (elim inv.part [
      | inl e ↦ or_left (inv.sender.0 == role.0) (inv.receiver.0 == role.0) (role_eq inv.sender role e)
      | inr e ↦ or_right (inv.sender.0 == role.0) (inv.receiver.0 == role.0) (role_eq inv.receiver role e)
    ])

-- what is met from a node

-- every walk from g comes to a talk of the role or to an end within fewer than n steps
abbrev settles : Protocol_data → Role → ℕ → ℕ → Bool
settles pr role zero g = false
settles pr role (suc n) g = is_involved pr role g || list_all (λ k. settles pr role n k) (nexts_at pr g)

-- no talk of the role can be reached
abbrev is_idle : Protocol_data → Role → ℕ → ℕ → Bool
is_idle pr role zero g = false
is_idle pr role (suc n) g = not (is_involved pr role g) && list_all (λ k. is_idle pr role n k) (nexts_at pr g)

-- the talks that are first met
abbrev firsts : Protocol_data → Role → ℕ → ℕ → List ℕ
firsts pr role zero g = []
firsts pr role (suc n) g = if is_involved pr role g then g ∷ [] else flat_map (λ k. firsts pr role n k) (nexts_at pr g)

-- the end may be met
abbrev may_end : Protocol_data → Role → ℕ → ℕ → Bool
may_end pr role zero g = false
may_end pr role (suc n) g = is_idle pr role (suc n) g || (not (is_involved pr role g) && list_any (λ k. may_end pr role n k) (nexts_at pr g))

not_true : (b : Bool) → not b ≡ true → b ≡ false
not_true true h = absurd (cc (h))
not_true false h = refl

settles_on : (pr : Protocol_data) (role : Role) (n g : ℕ) → settles pr role (suc n) g ≡ true → is_involved pr role g ≡ false
    → (k : ℕ) → Among (nexts_at pr g) k → settles pr role n k ≡ true
settles_on pr role n g h e k m = elim (or_split (is_involved pr role g) (list_all (λ z. settles pr role n z) (nexts_at pr g)) h) [
  | inl i ↦ absurd (false≢true (sym e ∙ i))
  | inr a ↦ all_each (λ z. settles pr role n z) (nexts_at pr g) a k m
]

uninvolved : (pr : Protocol_data) (role : Role) (g : ℕ) → is_involved pr role g ≡ false → Involves pr role g → ⊥
uninvolved pr role g e inv = false≢true (sym e ∙ is_involved_shown pr role g inv)

is_uninvolved : (pr : Protocol_data) (role : Role) (g : ℕ) → (Involves pr role g → ⊥) → is_involved pr role g ≡ false
is_uninvolved pr role g no' = go (is_involved pr role g) refl
  where
    go : (b : Bool) → is_involved pr role g ≡ b → is_involved pr role g ≡ false
    go true e = absurd (no' (involved_is pr role g e))
    go false e = e

idle : (pr : Protocol_data) (role : Role) (n g : ℕ) → is_idle pr role n g ≡ true → IsIdle pr role g
idle pr role zero g h talk reached inv = absurd (cc (h))
idle pr role (suc n) g h talk ([], path) inv =
    let p = and_parts (not (is_involved pr role g)) (list_all (λ z. is_idle pr role n z) (nexts_at pr g)) h in
    let P : ℕ → Type 0 = λ z. Involves pr role z in
    uninvolved pr role g (not_true (is_involved pr role g) p.0) (subst P (sym path) inv)
idle pr role (suc n) g h talk (s ∷ ss, path) inv =
    let p = and_parts (not (is_involved pr role g)) (list_all (λ z. is_idle pr role n z) (nexts_at pr g)) h in
    idle pr role n path.0 (all_each (λ z. is_idle pr role n z) (nexts_at pr g) p.1 path.0 (step_to pr g s.place path.0 path.2)) talk (ss, path.3) inv

is_idle_shown : (pr : Protocol_data) (role : Role) (n g : ℕ) → settles pr role n g ≡ true → IsIdle pr role g → is_idle pr role n g ≡ true
is_idle_shown pr role zero g h i = absurd (cc (h))
is_idle_shown pr role (suc n) g h i =
    let e : is_involved pr role g ≡ false = is_uninvolved pr role g (λ inv. i g ([], refl) inv) in
    and_both (not (is_involved pr role g)) (list_all (λ z. is_idle pr role n z) (nexts_at pr g)) (ap not e)
    (each_all (λ z. is_idle pr role n z) (nexts_at pr g) (λ k m. (let l = step_from pr g k m in
    is_idle_shown pr role n k (settles_on pr role n g h e k m) (λ talk r inv. i talk (step_of g l.0 ∷ r.0, (k, refl, l.1, r.1)) inv))))

first_is : (pr : Protocol_data) (role : Role) (n g h : ℕ) → Among (firsts pr role n g) h → MeetsFirst pr role g h
first_is pr role zero g h m = absurd m
first_is pr role (suc n) g h m = go (λ k m'. first_is pr role n k h m') (is_involved pr role g) refl m
  where
    go : ((k : ℕ) → Among (firsts pr role n k) h → MeetsFirst pr role k h) → (b : Bool) → is_involved pr role g ≡ b
        → Among (if b then g ∷ [] else flat_map (λ k. firsts pr role n k) (nexts_at pr g)) h → MeetsFirst pr role g h
    go next true e (inl k) = let P : ℕ → Type 0 = λ z. MeetsFirst pr role g z in subst P k (meets_itself pr role g (involved_is pr role g e))
    go next true e (inr k) = absurd k
    go next false e k =
        let r = flat_from (λ z. firsts pr role n z) (nexts_at pr g) h k in
        let l = step_from pr g r.0 r.1 in
        let f = next r.0 r.2 in
        meets_on pr role g l.0 r.0 h record { uninvolved = uninvolved pr role g e; awaited = λ i. i h (step_of g l.0 ∷ f.steps, (r.0, refl, l.1, f.path)) f.involved } l.1 f

is_first : (pr : Protocol_data) (role : Role) (n g h : ℕ) → settles pr role n g ≡ true → MeetsFirst pr role g h → Among (firsts pr role n g) h
is_first pr role zero g h s m = absurd (cc (s))
is_first pr role (suc n) g h s m = go (λ k s' m'. is_first pr role n k h s' m') (is_involved pr role g) refl (met pr role g h m)
  where
    go : ((k : ℕ) → settles pr role n k ≡ true → MeetsFirst pr role k h → Among (firsts pr role n k) h) → (b : Bool)
        → is_involved pr role g ≡ b → Met pr role g h
        → Among (if b then g ∷ [] else flat_map (λ k. firsts pr role n k) (nexts_at pr g)) h
    go next true e (Here k) = inl k
    go next true e (There a k un l m') = absurd (un (involved_is pr role g e))
    go next false e (Here k) = let P : ℕ → Type 0 = λ z. Involves pr role z in absurd (uninvolved pr role g e (subst P (sym k) m.involved))
    go next false e (There a k un l m') =
        let in' = step_to pr g a k l in
        flat_to (λ z. firsts pr role n z) (nexts_at pr g) k h in' (next k (settles_on pr role n g s e k in') m')

end_is : (pr : Protocol_data) (role : Role) (n g : ℕ) → settles pr role n g ≡ true → may_end pr role n g ≡ true → MeetsTheEnd pr role g
end_is pr role zero g s h = absurd (cc (h))
end_is pr role (suc n) g s h = go (λ k s' h'. end_is pr role n k s' h') (is_idle pr role (suc n) g) refl
  where
    go : ((k : ℕ) → settles pr role n k ≡ true → may_end pr role n k ≡ true → MeetsTheEnd pr role k) → (b : Bool)
        → is_idle pr role (suc n) g ≡ b → MeetsTheEnd pr role g
    go next true e = ends_itself pr role g (idle pr role (suc n) g e)
    go next false e = elim (or_split (is_idle pr role (suc n) g) (not (is_involved pr role g) && list_any (λ k. may_end pr role n k) (nexts_at pr g)) h) [
      | inl i ↦ absurd (false≢true (sym e ∙ i))
      | inr b ↦ (let p = and_parts (not (is_involved pr role g)) (list_any (λ k. may_end pr role n k) (nexts_at pr g)) b in
          let un = not_true (is_involved pr role g) p.0 in
          let r = any_some (λ k. may_end pr role n k) (nexts_at pr g) p.1 in
          let l = step_from pr g r.0 r.1 in
          ends_on pr role g l.0 r.0 record { uninvolved = uninvolved pr role g un; awaited = λ i. false≢true (sym e ∙ is_idle_shown pr role (suc n) g s i) } l.1
          (next r.0 (settles_on pr role n g s un r.0 r.1) r.2))
    ]

is_end : (pr : Protocol_data) (role : Role) (n g : ℕ) → settles pr role n g ≡ true → MeetsTheEnd pr role g → may_end pr role n g ≡ true
is_end pr role zero g s m = absurd (cc (s))
is_end pr role (suc n) g s m = go (λ k s' m'. is_end pr role n k s' m') (ended pr role g m)
  where
    go : ((k : ℕ) → settles pr role n k ≡ true → MeetsTheEnd pr role k → may_end pr role n k ≡ true) → Ended pr role g
        → may_end pr role (suc n) g ≡ true
    go next (Rests i) = or_left (is_idle pr role (suc n) g) (not (is_involved pr role g) && list_any (λ k. may_end pr role n k) (nexts_at pr g)) (is_idle_shown pr role (suc n) g s i)
    go next (Later a k pass l m') =
        let e = is_uninvolved pr role g pass.uninvolved in
        let in' = step_to pr g a k l in
        or_right (is_idle pr role (suc n) g) (not (is_involved pr role g) && list_any (λ z. may_end pr role n z) (nexts_at pr g))
        (and_both (not (is_involved pr role g)) (list_any (λ z. may_end pr role n z) (nexts_at pr g)) (ap not e)
        (some_any (λ z. may_end pr role n z) (nexts_at pr g) k in' (next k (settles_on pr role n g s e k in') m')))

-- no cycle passes by a role for which every walk settles

path_append : (pr : Protocol_data) (ss ts : List PathStep) (g h k : ℕ) → IsPath pr g ss h → IsPath pr h ts k → IsPath pr g (ss ++ ts) k
path_append pr [] ts g h k p q = let P : ℕ → Type 0 = λ z. IsPath pr z ts k in subst P (sym p) q
path_append pr (s ∷ ss) ts g h k p q = (p.0, p.1, p.2, path_append pr ss ts p.0 h k p.3 q)

pass_append : (pr : Protocol_data) (role : Role) (ss ts : List PathStep) → AllPassBy pr role ss → AllPassBy pr role ts → AllPassBy pr role (ss ++ ts)
pass_append pr role [] ts p q = q
pass_append pr role (s ∷ ss) ts p q = (p.0, pass_append pr role ss ts p.1 q)

too_long : (pr : Protocol_data) (role : Role) (n g h : ℕ) (ss : List PathStep) → settles pr role n g ≡ true → IsPath pr g ss h
    → AllPassBy pr role ss → n ≤ length ss → ⊥
too_long pr role zero g h ss s p a l = cc (s)
too_long pr role (suc n) g h [] s p a l = absurd (omega (arith, l))
too_long pr role (suc n) g h (x ∷ xs) s p a l =
    let P : ℕ → Type 0 = λ z. PassesBy pr role z in
    let pass : PassesBy pr role g = subst P p.1 a.0 in
    too_long pr role n p.0 h xs (settles_on pr role n g s (is_uninvolved pr role g pass.uninvolved) p.0 (step_to pr g x.place p.0 p.2)) p.3 a.1 (omega (arith, l))

around : (pr : Protocol_data) (role : Role) (g : ℕ) (ss : List PathStep) → ss ≢ [] → IsPath pr g ss g → AllPassBy pr role ss
    → (n : ℕ) → (ts : List PathStep) × IsPath pr g ts g × AllPassBy pr role ts × (n ≤ length ts)
around pr role g ss some p a zero = ([], refl, tt, omega arith)
around pr role g ss some p a (suc n) =
    let r = around pr role g ss some p a n in
    (ss ++ r.0, path_append pr ss r.0 g g g p r.1, pass_append pr role ss r.0 a r.2, longer ss r.0 some r.3)
  where
    longer : (xs ts : List PathStep) → xs ≢ [] → n ≤ length ts → suc n ≤ length (xs ++ ts)
    longer [] ts ne l = absurd (ne refl)
    longer (x ∷ xs) ts ne l = let e = length-append xs ts in omega (arith, e, l)

no_cycle : (pr : Protocol_data) (role : Role) (n g : ℕ) → settles pr role n g ≡ true → IsUnreached pr role g → ⊥
no_cycle pr role n g s u =
    let r = around pr role g u.steps u.some u.cycle u.around n in
    too_long pr role n g g r.0 s r.1 r.2 r.3

abbrev below : ℕ → List ℕ
below zero = []
below (suc k) = k ∷ below k

among_below : (n k : ℕ) → k < n → Among (below n) k
among_below zero k h = absurd (omega arith)
among_below (suc n) k h = elim (eqb_tells n k) [ inl t ↦ inl t.1 | inr t ↦ inr (among_below n k (omega (arith, t.1, h))) ]

starts_within : (pr : Protocol_data) (role : Role) (g : ℕ) → IsUnreached pr role g → g < length pr.nodes
starts_within pr role g u = go u.steps u.some u.cycle
  where
    go : (ss : List PathStep) → ss ≢ [] → IsPath pr g ss g → g < length pr.nodes
    go [] ne p = absurd (ne refl)
    go (s ∷ ss) ne p = at_short pr.nodes g (Talk p.2.sender p.2.receiver p.2.arms) p.2.talks

-- sets

abbrev all_firsts : Protocol_data → Role → ℕ → List ℕ → List ℕ
all_firsts pr role n starts = flat_map (λ g. firsts pr role n g) starts

abbrev any_ends : Protocol_data → Role → ℕ → List ℕ → Bool
any_ends pr role n starts = list_any (λ g. may_end pr role n g) starts

-- the members are all that is first met from the starts
abbrev is_front : Protocol_data → Role → ℕ → List ℕ → List ℕ → Bool
is_front pr role n starts members =
    list_all (λ g. settles pr role n g) starts
    && (rises members && (list_all (λ t. has (all_firsts pr role n starts) t) members && list_all (λ t. has members t) (all_firsts pr role n starts)))

front_is : (pr : Protocol_data) (role : Role) (n : ℕ) (starts members : List ℕ) → is_front pr role n starts members ≡ true
    → IsFront (record { talks = members; ends = any_ends pr role n starts }) (StartMeets pr role starts) (StartEnds pr role starts)
front_is pr role n starts members h =
    let settle = λ (g : ℕ). settles pr role n g in
    let ours = λ (t : ℕ). has (all_firsts pr role n starts) t in
    let theirs = λ (t : ℕ). has members t in
    let p = and_parts (list_all settle starts) (rises members && (list_all ours members && list_all theirs (all_firsts pr role n starts))) h in
    let q = and_parts (rises members) (list_all ours members && list_all theirs (all_firsts pr role n starts)) p.1 in
    let r = and_parts (list_all ours members) (list_all theirs (all_firsts pr role n starts)) q.1 in
    record {
      rising = rising members q.0;
      talks = λ t. (
        (λ c. (let m = has_among (all_firsts pr role n starts) t (all_each ours members r.0 t (contained members t c)) in
            let f = flat_from (λ g. firsts pr role n g) starts t m in
            record { start = f.0; among = f.1; meets = first_is pr role n f.0 t f.2 })),
        (λ m. contains members t (has_among members t (all_each theirs (all_firsts pr role n starts) r.1 t
            (flat_to (λ g. firsts pr role n g) starts m.start t m.among (is_first pr role n m.start t (all_each settle starts p.0 m.start m.among) m.meets))))),
      );
      ends = (
        (λ e. (let x = any_some (λ g. may_end pr role n g) starts e in
            record { start = x.0; among = x.1; ends = end_is pr role n x.0 (all_each settle starts p.0 x.0 x.1) x.2 })),
        (λ m. some_any (λ g. may_end pr role n g) starts m.start m.among (is_end pr role n m.start (all_each settle starts p.0 m.start m.among) m.ends)),
      );
    }

-- a front without a clash between a talk and the end is a set
set_of : (sets : List (List ℕ)) (t : ℕ) (members : List ℕ) (e : Bool) (M : ℕ → Type 0) (E : Type 0)
    → slice_get sets t ≡ Some members → ends_right members e ≡ true
    → IsFront (record { talks = members; ends = e }) M E → IsSet sets t M E
set_of sets t members e M E is right f = record {
  members = members;
  stands = is;
  rising = f.rising;
  talks = f.talks;
  ends = ((λ k. f.ends.0 (ends_one members e right k)), (λ m. ends_other members e right (f.ends.1 m)));
}

-- the set of that number is all that is met from the starts
abbrev is_set_at : Protocol_data → Role → ℕ → List ℕ → Option (List ℕ) → Bool
is_set_at pr role n starts None = false
is_set_at pr role n starts (Some members) = is_front pr role n starts members && ends_right members (any_ends pr role n starts)

abbrev is_set : Protocol_data → Role → ℕ → List (List ℕ) → ℕ → List ℕ → Bool
is_set pr role n sets t starts = is_set_at pr role n starts (slice_get sets t)

root_set : (pr : Protocol_data) (role : Role) (n : ℕ) (sets : List (List ℕ)) (t : ℕ) → is_set pr role n sets t (pr.root ∷ []) ≡ true
    → IsSet sets t (MeetsFirst pr role pr.root) (MeetsTheEnd pr role pr.root)
root_set pr role n sets t h = go (slice_get sets t) refl h
  where
    go : (o : Option (List ℕ)) → slice_get sets t ≡ o → is_set_at pr role n (pr.root ∷ []) o ≡ true
        → IsSet sets t (MeetsFirst pr role pr.root) (MeetsTheEnd pr role pr.root)
    go None e k = absurd (cc (k))
    go (Some members) e k =
        let p = and_parts (is_front pr role n (pr.root ∷ []) members) (ends_right members (any_ends pr role n (pr.root ∷ []))) k in
        set_of sets t members (any_ends pr role n (pr.root ∷ [])) (MeetsFirst pr role pr.root) (MeetsTheEnd pr role pr.root) e p.1
        (front_root pr role record { talks = members; ends = any_ends pr role n (pr.root ∷ []) } (front_is pr role n (pr.root ∷ []) members p.0))

behind_set : (pr : Protocol_data) (role : Role) (n : ℕ) (sets : List (List ℕ)) (t : ℕ) (of : List ℕ) (label : Label)
    → is_set pr role n sets t (starts_of pr of label) ≡ true
    → IsSet sets t (MeetsBehind pr role of label) (EndsBehind pr role of label)
behind_set pr role n sets t of label h = go (slice_get sets t) refl h
  where
    go : (o : Option (List ℕ)) → slice_get sets t ≡ o → is_set_at pr role n (starts_of pr of label) o ≡ true
        → IsSet sets t (MeetsBehind pr role of label) (EndsBehind pr role of label)
    go None e k = absurd (cc (k))
    go (Some members) e k =
        let starts = starts_of pr of label in
        let p = and_parts (is_front pr role n starts members) (ends_right members (any_ends pr role n starts)) k in
        set_of sets t members (any_ends pr role n starts) (MeetsBehind pr role of label) (EndsBehind pr role of label) e p.1
        (front_behind pr role of label record { talks = members; ends = any_ends pr role n starts } (front_is pr role n starts members p.0))

-- states

abbrev same_choice : LabelChoice → LabelChoice → Bool
same_choice a b = (a.label.0 == b.label.0) && (sort_number a.sort == sort_number b.sort)

abbrev same_choices : List LabelChoice → List LabelChoice → Bool
same_choices [] [] = true
same_choices [] (b ∷ bs) = false
same_choices (a ∷ as') [] = false
same_choices (a ∷ as') (b ∷ bs) = same_choice a b && same_choices as' bs

choice_is : (a b : LabelChoice) → same_choice a b ≡ true → a ≡ b
choice_is a b h =
    let p = and_parts (a.label.0 == b.label.0) (sort_number a.sort == sort_number b.sort) h in
    let label : ℕ → Label = λ z. record { 0 = z } in
    let l : a.label ≡ b.label = ap label (eq_by a.label.0 b.label.0 p.0) in
    let s : a.sort ≡ b.sort = sort_is a.sort b.sort p.1 in
    let choice : Label → Sort → LabelChoice = λ x y. record { label = x; sort = y } in
    ap₂ choice l s

choices_are : (xs ys : List LabelChoice) → same_choices xs ys ≡ true → xs ≡ ys
choices_are [] [] h = refl
choices_are [] (y ∷ ys) h = absurd (cc (h))
choices_are (x ∷ xs) [] h = absurd (cc (h))
choices_are (x ∷ xs) (y ∷ ys) h =
    let p = and_parts (same_choice x y) (same_choices xs ys) h in
    ap₂ (λ (u : LabelChoice) (v : List LabelChoice). u ∷ v) (choice_is x y p.0) (choices_are xs ys p.1)

-- the node is a talk from the one to the other
abbrev talks_between : Role → Role → Option Node → Bool
talks_between s r None = false
talks_between s r (Some Finished) = false
talks_between s r (Some (Talk x y arms)) = (x.0 == s.0) && (y.0 == r.0)

talks_is : (pr : Protocol_data) (s r : Role) (t : ℕ) → talks_between s r (slice_get pr.nodes t) ≡ true → (theirs : List Arm) × Talks pr t s r theirs
talks_is pr s r t h = go (slice_get pr.nodes t) refl h
  where
    go : (o : Option Node) → slice_get pr.nodes t ≡ o → talks_between s r o ≡ true → (theirs : List Arm) × Talks pr t s r theirs
    go None e k = absurd (cc (k))
    go (Some Finished) e k = absurd (cc (k))
    go (Some (Talk x y arms)) e k =
        let p = and_parts (x.0 == s.0) (y.0 == r.0) k in
        let P : Role → Role → Type 0 = λ u v. slice_get pr.nodes t ≡ Some (Talk u v arms) in
        (arms, subst₂ P (role_by x s p.0) (role_by y r p.1) e)

abbrev agree_at : Role → Option Node → Option Node → Bool
agree_at role (Some n) (Some m) = agree_nodes role n m
agree_at role (Some n) None = false
agree_at role None m = false

agree_is : (pr : Protocol_data) (role : Role) (g h : ℕ) → agree_at role (slice_get pr.nodes g) (slice_get pr.nodes h) ≡ true → Agree pr role g h
agree_is pr role g h k = go (slice_get pr.nodes g) (slice_get pr.nodes h) refl refl k
  where
    go : (o q : Option Node) → slice_get pr.nodes g ≡ o → slice_get pr.nodes h ≡ q → agree_at role o q ≡ true → Agree pr role g h
    go (Some n) (Some m) a b e = agree_sound pr role g h n m a b e
    go (Some n) None a b e = absurd (cc (e))
    go None q a b e = absurd (cc (e))

abbrev all_agree : Protocol_data → Role → List ℕ → Bool
all_agree pr role members = list_all (λ g. list_all (λ h. agree_at role (slice_get pr.nodes g) (slice_get pr.nodes h)) members) members

abbrev arms_right : Protocol_data → Role → ℕ → List (List ℕ) → List ℕ → List Arm → Bool
arms_right pr role n sets members arms =
    same_choices (map choice_of arms) (merged_choices pr members) && list_all (λ (a : Arm). is_set pr role n sets a.next (starts_of pr members a.label)) arms

arms_are : (pr : Protocol_data) (role : Role) (n : ℕ) (sets : List (List ℕ)) (members : List ℕ) (arms : List Arm)
    → arms_right pr role n sets members arms ≡ true → AreArmsOf pr role sets members arms
arms_are pr role n sets members arms h =
    let p = and_parts (same_choices (map choice_of arms) (merged_choices pr members)) (list_all (λ (a : Arm). is_set pr role n sets a.next (starts_of pr members a.label)) arms) h in
    record {
      choices = choices_are (map choice_of arms) (merged_choices pr members) p.0;
      nexts = λ place arm s. behind_set pr role n sets arm.next members arm.label
          (all_each (λ (a : Arm). is_set pr role n sets a.next (starts_of pr members a.label)) arms p.1 arm (at_among arms place arm s));
    }

abbrev state_right : Protocol_data → Role → ℕ → List (List ℕ) → List ℕ → State → Bool
state_right pr role n sets members Done = is_none members
state_right pr role n sets members (Puts peer arms) =
    not (is_none members) && (list_all (λ t. talks_between role peer (slice_get pr.nodes t)) members && arms_right pr role n sets members arms)
state_right pr role n sets members (Takes peer arms) =
    not (is_none members) && (list_all (λ t. talks_between peer role (slice_get pr.nodes t)) members && arms_right pr role n sets members arms)

some_members : (xs : List ℕ) → not (is_none xs) ≡ true → xs ≢ []
some_members [] h e = cc (h)
some_members (x ∷ xs) h e = cc (e)

no_members : (xs : List ℕ) → is_none xs ≡ true → xs ≡ []
no_members [] h = refl
no_members (x ∷ xs) h = absurd (cc (h))

state_is : (pr : Protocol_data) (role : Role) (n : ℕ) (sets : List (List ℕ)) (members : List ℕ) (st : State)
    → state_right pr role n sets members st ≡ true → IsStateOf pr role sets members st
state_is pr role n sets members Done h = IsDone (no_members members h) refl
state_is pr role n sets members (Puts peer arms) h =
    let talks = λ (t : ℕ). talks_between role peer (slice_get pr.nodes t) in
    let p = and_parts (not (is_none members)) (list_all talks members && arms_right pr role n sets members arms) h in
    let q = and_parts (list_all talks members) (arms_right pr role n sets members arms) p.1 in
    IsPuts peer arms (some_members members p.0) (λ t m. talks_is pr role peer t (all_each talks members q.0 t (contained members t m))) refl (arms_are pr role n sets members arms q.1)
state_is pr role n sets members (Takes peer arms) h =
    let talks = λ (t : ℕ). talks_between peer role (slice_get pr.nodes t) in
    let p = and_parts (not (is_none members)) (list_all talks members && arms_right pr role n sets members arms) h in
    let q = and_parts (list_all talks members) (arms_right pr role n sets members arms) p.1 in
    IsTakes peer arms (some_members members p.0) (λ t m. talks_is pr peer role t (all_each talks members q.0 t (contained members t m))) refl (arms_are pr role n sets members arms q.1)

-- the states are those of the sets, one by one
abbrev rows_right : Protocol_data → Role → ℕ → List (List ℕ) → List (List ℕ) → List State → Bool
rows_right pr role n sets [] [] = true
rows_right pr role n sets [] (st ∷ states) = false
rows_right pr role n sets (members ∷ later) [] = false
rows_right pr role n sets (members ∷ later) (st ∷ states) = (all_agree pr role members && state_right pr role n sets members st) && rows_right pr role n sets later states

rows_many : (pr : Protocol_data) (role : Role) (n : ℕ) (sets rows : List (List ℕ)) (states : List State)
    → rows_right pr role n sets rows states ≡ true → length states ≡ length rows
rows_many pr role n sets [] [] h = refl
rows_many pr role n sets [] (st ∷ states) h = absurd (cc (h))
rows_many pr role n sets (members ∷ later) [] h = absurd (cc (h))
rows_many pr role n sets (members ∷ later) (st ∷ states) h =
    ap suc (rows_many pr role n sets later states (and_parts (all_agree pr role members && state_right pr role n sets members st) (rows_right pr role n sets later states) h).1)

rows_agree : (pr : Protocol_data) (role : Role) (n : ℕ) (sets rows : List (List ℕ)) (states : List State)
    → rows_right pr role n sets rows states ≡ true
    → (t : ℕ) (members : List ℕ) → slice_get rows t ≡ Some members → all_agree pr role members ≡ true
rows_agree pr role n sets [] states h t members s = absurd (cc (s))
rows_agree pr role n sets (ms ∷ later) [] h t members s = absurd (cc (h))
rows_agree pr role n sets (ms ∷ later) (st ∷ states) h zero members s =
    let p = and_parts (all_agree pr role ms && state_right pr role n sets ms st) (rows_right pr role n sets later states) h in
    let e : ms ≡ members = cc (s) in
    let P : List ℕ → Type 0 = λ z. all_agree pr role z ≡ true in
    subst P e (and_parts (all_agree pr role ms) (state_right pr role n sets ms st) p.0).0
rows_agree pr role n sets (ms ∷ later) (st ∷ states) h (suc t) members s =
    rows_agree pr role n sets later states (and_parts (all_agree pr role ms && state_right pr role n sets ms st) (rows_right pr role n sets later states) h).1 t members s

rows_states : (pr : Protocol_data) (role : Role) (n : ℕ) (sets rows : List (List ℕ)) (states : List State)
    → rows_right pr role n sets rows states ≡ true
    → (t : ℕ) (members : List ℕ) (st : State) → slice_get rows t ≡ Some members → slice_get states t ≡ Some st
    → state_right pr role n sets members st ≡ true
rows_states pr role n sets [] states h t members st s k = absurd (cc (s))
rows_states pr role n sets (ms ∷ later) [] h t members st s k = absurd (cc (h))
rows_states pr role n sets (ms ∷ later) (x ∷ states) h zero members st s k =
    let p = and_parts (all_agree pr role ms && state_right pr role n sets ms x) (rows_right pr role n sets later states) h in
    let e : ms ≡ members = cc (s) in
    let f : x ≡ st = cc (k) in
    let P : List ℕ → State → Type 0 = λ y z. state_right pr role n sets y z ≡ true in
    subst₂ P e f (and_parts (all_agree pr role ms) (state_right pr role n sets ms x) p.0).1
rows_states pr role n sets (ms ∷ later) (x ∷ states) h (suc t) members st s k =
    rows_states pr role n sets later states (and_parts (all_agree pr role ms && state_right pr role n sets ms x) (rows_right pr role n sets later states) h).1 t members st s k

-- projections

abbrev pub is_projection : Protocol_data → ℕ → Role → Projection_data → Bool
is_projection pr n role pj =
    (pj.machine.role.0 == role.0)
    && ((pj.machine.start == 0)
    && (list_all (λ g. settles pr role n g) (below (length pr.nodes))
    && (is_set pr role n pj.sets 0 (pr.root ∷ []) && rows_right pr role n pj.sets pj.sets pj.machine.states)))

pub projection_is : (pr : Protocol_data) (n : ℕ) (role : Role) (pj : Projection_data) → is_projection pr n role pj ≡ true → IsProjection pr role pj
projection_is pr n role pj h =
    let settle = λ (g : ℕ). settles pr role n g in
    let rows = rows_right pr role n pj.sets pj.sets pj.machine.states in
    let first = is_set pr role n pj.sets 0 (pr.root ∷ []) in
    let p = and_parts (pj.machine.role.0 == role.0) ((pj.machine.start == 0) && (list_all settle (below (length pr.nodes)) && (first && rows))) h in
    let q = and_parts (pj.machine.start == 0) (list_all settle (below (length pr.nodes)) && (first && rows)) p.1 in
    let r = and_parts (list_all settle (below (length pr.nodes))) (first && rows) q.1 in
    let s = and_parts first rows r.1 in
    record {
      onto = role_by pj.machine.role role p.0;
      start = eq_by pj.machine.start 0 q.0;
      none_unreached = λ g u. no_cycle pr role n g (all_each settle (below (length pr.nodes)) r.0 g (among_below (length pr.nodes) g (starts_within pr role g u))) u;
      first = root_set pr role n pj.sets 0 s.0;
      agree = λ t members at one other a b.
          let all = rows_agree pr role n pj.sets pj.sets pj.machine.states s.1 t members at in
          let inner = λ (g : ℕ). list_all (λ h. agree_at role (slice_get pr.nodes g) (slice_get pr.nodes h)) members in
          agree_is pr role one other (all_each (λ h. agree_at role (slice_get pr.nodes one) (slice_get pr.nodes h)) members
          (all_each inner members all one (contained members one a)) other (contained members other b));
      all = rows_many pr role n pj.sets pj.sets pj.machine.states s.1;
      states = λ t members st at k. state_is pr role n pj.sets members st (rows_states pr role n pj.sets pj.sets pj.machine.states s.1 t members st at k);
    }

-- one for each role from p on
abbrev pub are_projections : Protocol_data → ℕ → ℕ → List Projection_data → Bool
are_projections pr n p [] = true
are_projections pr n p (x ∷ xs) = is_projection pr n (numbered p) x && are_projections pr n (suc p) xs

each_is : (pr : Protocol_data) (n p : ℕ) (pjs : List Projection_data) → are_projections pr n p pjs ≡ true
    → (i : ℕ) (pj : Projection_data) → slice_get pjs i ≡ Some pj → IsProjection pr (numbered (p + i)) pj
each_is pr n p [] h i pj s = absurd (cc (s))
each_is pr n p (x ∷ xs) h zero pj s =
    let a = and_parts (is_projection pr n (numbered p) x) (are_projections pr n (suc p) xs) h in
    let e : x ≡ pj = cc (s) in
    let k : p ≡ p + 0 = omega arith in
    let P : ℕ → Projection_data → Type 0 = λ y z. IsProjection pr (numbered y) z in
    subst₂ P k e (projection_is pr n (numbered p) x a.0)
each_is pr n p (x ∷ xs) h (suc i) pj s =
    let a = and_parts (is_projection pr n (numbered p) x) (are_projections pr n (suc p) xs) h in
    let k : suc p + i ≡ p + suc i = omega arith in
    let P : ℕ → Type 0 = λ y. IsProjection pr (numbered y) pj in
    subst P k (each_is pr n (suc p) xs a.1 i pj s)

pub projections_are : (pr : Protocol_data) (n : ℕ) (pjs : List Projection_data) → length pjs ≡ pr.roles
    → are_projections pr n 0 pjs ≡ true → AreProjections pr pjs
projections_are pr n pjs many h = record {
  many = many;
  each = λ p pj s.
      let k : 0 + p ≡ p = omega arith in
      let P : ℕ → Type 0 = λ y. IsProjection pr (numbered y) pj in
      subst P k (each_is pr n 0 pjs h p pj s);
}
