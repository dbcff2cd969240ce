-- There is one projection at most, and none where there is a refusal.
use Rattle.std.proofs.Common.{◌≡◌, ◌≢◌, ◌⊎◌, inl, inr, ℕ, zero, suc, ◌+◌, ◌<◌, ◌≤◌, Bool, true, false, List, [], ◌∷◌, ◌++◌, length, map, Some, slice_get, refl, sym, ap, ap₂, ◌∙◌, subst, subst₂}
use Rattle.std.proofs.Common.{arith, length-append}
use Rattle.std.specs.List.{Contains}
use Rattle.std.proofs.lemmas.Bool.{cases_lt}
use Rattle.rs_model.specs.Data.{Protocol_data}
use Rattle.rs_model.specs.declared.graph.Arm.{Arm}
use Rattle.rs_model.specs.declared.graph.Role.{Role}
use Rattle.rs_model.specs.declared.machines.State.{State}
use Rattle.rs_model.specs.declared.machines.State.TheVariants.{Puts, Takes}
use Rattle.rs_wellformed.specs.WellFormed.{IsWellFormed}
use Rattle.rs_project.specs.Data.{Front_data, Projection_data}
use Rattle.rs_project.specs.Graph.{MeetsFirst, MeetsTheEnd}
use Rattle.rs_graph.specs.Order.{Worked, AllDone, Next}
use Rattle.rs_project.specs.Numbered.{IsNumberedProjection, nexts_of, nexts_behind}
use Rattle.rs_project.specs.Projection.{IsSet, LabelChoice, choice_of, merged_choices, MeetsBehind, EndsBehind, IsStateOf, IsDone, IsPuts, IsTakes}
use Rattle.rs_project.specs.Refusals.{IsFrontAt, Merges, AreBehind, FirstRefusal}
use Rattle.rs_project.specs.declared.projecting.ProjFault.{ProjFault}
use Rattle.rs_project.specs.declared.projecting.ProjFault.TheVariants.{Unmergeable, Unreached, TooManyStates, NoMemory}
use Rattle.rs_project.proofs.Lists.{at_short, at_within, at_map, contains}
use Rattle.rs_project.proofs.Lockstep.{Same, Rows, rows_from, Alike, clash_not_merged, cut, rows_cut, append_same}
use Rattle.rs_project.proofs.OneAnswer.{Work, work_of, level, beyond, no_overflow}

is_nil : List ℕ → Bool
is_nil [] = true
is_nil (x ∷ xs) = false

nil_is : (xs : List ℕ) → is_nil xs ≡ true → xs ≡ []
unfolding is_nil
nil_is [] h = refl
nil_is (x ∷ xs) h = absurd (cc (h))

is_nil_shown : (xs : List ℕ) → xs ≡ [] → is_nil xs ≡ true
unfolding is_nil
is_nil_shown [] h = refl
is_nil_shown (x ∷ xs) h = absurd (cc (h))

abbrev front_of : List ℕ → Front_data
front_of xs = record { talks = xs; ends = is_nil xs }

abbrev fronts_of : List (List ℕ) → List Front_data
fronts_of sets = map front_of sets

fronts_at : (sets : List (List ℕ)) (k : ℕ) (f : Front_data) → slice_get (fronts_of sets) k ≡ Some f → (xs : List ℕ) × (slice_get sets k ≡ Some xs) × (front_of xs ≡ f)
fronts_at [] k f h = absurd (cc (h))
fronts_at (x ∷ sets) zero f h = (x, refl, cc (h))
fronts_at (x ∷ sets) (suc k) f h = fronts_at sets k f h

fronts_length : (sets : List (List ℕ)) → length (fronts_of sets) ≡ length sets
fronts_length [] = refl
fronts_length (x ∷ sets) = ap suc (fronts_length sets)

set_front : (sets : List (List ℕ)) (n : ℕ) (M : ℕ → Type 0) (E : Type 0) → IsSet sets n M E → IsFrontAt (fronts_of sets) n M E
set_front sets n M E s = record {
  front = front_of s.members;
  stands = at_map front_of sets n s.members s.stands;
  is_front = record {
    rising = s.rising;
    talks = s.talks;
    ends = ((λ e. s.ends.0 (nil_is s.members e)), (λ m. is_nil_shown s.members (s.ends.1 m)));
  };
}

arms_behind : (pr : Protocol_data) (role : Role) (sets : List (List ℕ)) (members : List ℕ) (arms : List Arm)
    → ((place : ℕ) (a : Arm) → slice_get arms place ≡ Some a → IsSet sets a.next (MeetsBehind pr role members a.label) (EndsBehind pr role members a.label))
    → AreBehind pr role (fronts_of sets) members (map choice_of arms) (nexts_of arms)
arms_behind pr role sets members [] h = tt
arms_behind pr role sets members (a ∷ arms) h =
    (set_front sets a.next (MeetsBehind pr role members a.label) (EndsBehind pr role members a.label) (h 0 a refl), arms_behind pr role sets members arms (λ p b at. h (suc p) b at))

state_behind : (pr : Protocol_data) (role : Role) (sets : List (List ℕ)) (members : List ℕ) (st : State) → IsStateOf pr role sets members st
    → AreBehind pr role (fronts_of sets) members (merged_choices pr members) (nexts_behind st)
state_behind pr role sets members st (IsDone n d) =
    let P : State → Type 0 = λ z. AreBehind pr role (fronts_of sets) members (merged_choices pr members) (nexts_behind z) in
    let Q : List ℕ → Type 0 = λ z. AreBehind pr role (fronts_of sets) members (merged_choices pr z) [] in
    subst P (sym d) (subst Q (sym n) tt)
state_behind pr role sets members st (IsPuts peer arms n each d ar) =
    let P : State → Type 0 = λ z. AreBehind pr role (fronts_of sets) members (merged_choices pr members) (nexts_behind z) in
    let Q : List LabelChoice → Type 0 = λ z. AreBehind pr role (fronts_of sets) members z (nexts_of arms) in
    subst P (sym d) (subst Q ar.choices (arms_behind pr role sets members arms ar.nexts))
state_behind pr role sets members st (IsTakes peer arms n each d ar) =
    let P : State → Type 0 = λ z. AreBehind pr role (fronts_of sets) members (merged_choices pr members) (nexts_behind z) in
    let Q : List LabelChoice → Type 0 = λ z. AreBehind pr role (fronts_of sets) members z (nexts_of arms) in
    subst P (sym d) (subst Q ar.choices (arms_behind pr role sets members arms ar.nexts))

rows_at : (states : List State) (k : ℕ) (r : List ℕ) → slice_get (map nexts_behind states) k ≡ Some r → (st : State) × (slice_get states k ≡ Some st) × (nexts_behind st ≡ r)
rows_at [] k r h = absurd (cc (h))
rows_at (x ∷ states) zero r h = (x, refl, cc (h))
rows_at (x ∷ states) (suc k) r h = rows_at states k r h

rows_length : (states : List State) → length (map nexts_behind states) ≡ length states
rows_length [] = refl
rows_length (x ∷ states) = ap suc (rows_length states)

append_none : (rows : List (List ℕ)) → rows ++ [] ≡ rows
append_none [] = refl
append_none (x ∷ rows) = ap (λ z. x ∷ z) (append_none rows)

each_of : (pr : Protocol_data) (role : Role) (p : Projection_data) → IsNumberedProjection pr role p → (k : ℕ) (f : Front_data) (r : List ℕ) → slice_get (fronts_of p.sets) k ≡ Some f
    → slice_get (map nexts_behind p.machine.states) k ≡ Some r
    → Merges pr role f × AreBehind pr role (fronts_of p.sets) f.talks (merged_choices pr f.talks) r
each_of pr role p h k f r hf hr =
    let x = fronts_at p.sets k f hf in
    let s = rows_at p.machine.states k r hr in
    let P : Front_data → List ℕ → Type 0 = λ y z. Merges pr role y × AreBehind pr role (fronts_of p.sets) y.talks (merged_choices pr y.talks) z in
    subst₂ P x.2 s.2 (
      record { agree = h.is_projection.agree k x.0 x.1; alone = λ e. nil_is x.0 e },
      state_behind pr role p.sets x.0 s.0 (h.is_projection.states k x.0 s.0 x.1 s.1),
    )

work_whole : (pr : Protocol_data) (role : Role) (p : Projection_data) → IsNumberedProjection pr role p → Work pr role (fronts_of p.sets) (map nexts_behind p.machine.states) []
work_whole pr role p h = record {
  first = set_front p.sets 0 (MeetsFirst pr role pr.root) (MeetsTheEnd pr role pr.root) h.is_projection.first;
  once = λ i j f a b. (let x = fronts_at p.sets i f a in let y = fronts_at p.sets j f b in
      let e : x.0 ≡ y.0 = ap (λ (z : Front_data). z.talks) (x.2 ∙ sym y.2) in
      h.once i j y.0 (x.1 ∙ ap Some e) y.1);
  bounded = (let l = fronts_length p.sets in let f = h.bounded in omega (arith, l, f));
  order = (let P : List (List ℕ) → ℕ → Type 0 = λ y z. Worked 0 1 y z in subst₂ P (sym (append_none (map nexts_behind p.machine.states))) (sym (fronts_length p.sets)) h.order);
  behind =
      rows_from pr role (fronts_of p.sets) 0 (map nexts_behind p.machine.states)
      (λ j f r hr hf. (let e : 0 + j ≡ j = omega arith in let P : ℕ → Type 0 = λ z. slice_get (fronts_of p.sets) z ≡ Some f in
      (each_of pr role p h j f r (subst P e hf) hr).1));
  each = each_of pr role p h;
}

whole_length : (pr : Protocol_data) (role : Role) (p : Projection_data) → IsNumberedProjection pr role p → length (fronts_of p.sets) ≡ length (map nexts_behind p.machine.states)
whole_length pr role p h = fronts_length p.sets ∙ sym h.is_projection.all ∙ sym (rows_length p.machine.states)

-- nothing goes on where the one work is done
no_more : (fs gs : List Front_data) (k : ℕ) (r : List ℕ) (more : List (List ℕ)) → length gs ≡ k → Alike fs gs k (r ∷ more) [] (length fs) (length gs) → ⊥
no_more fs gs k r more e a = go a.known a.one a.other
  where
    go : (known : ℕ) → Worked k known (r ∷ more) (length fs) → Worked k known [] (length gs) → ⊥
    go known (Next _ _ mid _ _ _ lt nu w) (AllDone _ _) = absurd (omega (arith, e, lt))

at_left_rows : (xs ys : List (List ℕ)) (i : ℕ) (x : List ℕ) → slice_get xs i ≡ Some x → slice_get (xs ++ ys) i ≡ Some x
at_left_rows [] ys i x h = absurd (cc (h))
at_left_rows (z ∷ xs) ys zero x h = h
at_left_rows (z ∷ xs) ys (suc i) x h = at_left_rows xs ys i x h

-- no other work has more rows, or is still at one
no_longer : (pr : Protocol_data) (role : Role) (fs gs : List Front_data) (rows rows' tail : List (List ℕ)) → Work pr role fs rows tail → Work pr role gs rows' [] → length gs ≡ length rows'
    → length rows' ≤ length rows
    → (length rows' < length rows) ⊎ ((r : List ℕ) × (more : List (List ℕ)) × (tail ≡ r ∷ more)) → ⊥
no_longer pr role fs gs rows rows' tail w v e le other =
    let c = cut rows (length rows') le in
    let P : List (List ℕ) → Type 0 = λ z. Worked 0 1 (z ++ tail) (length fs) in
    let Q : List (List ℕ) → Type 0 = λ z. Worked 0 1 z (length fs) in
    let R : List (List ℕ) → Type 0 = λ z. Rows pr role fs 0 z in
    let u : Work pr role fs c.0 (c.1 ++ tail) = record {
      first = w.first;
      once = w.once;
      bounded = w.bounded;
      order = subst Q (append_same c.0 c.1 tail) (subst P c.2 w.order);
      behind = rows_cut pr role fs 0 c.0 c.1 (subst R c.2 w.behind);
      each = λ k g s hg hs. w.each k g s hg (let T : List (List ℕ) → Type 0 = λ z. slice_get z k ≡ Some s in subst T (sym c.2) (at_left_rows c.0 c.1 k s hs));
    } in
    let a = level pr role fs gs c.0 rows' (c.1 ++ tail) [] u v c.3 in
    go (length c.0) c.1 a.1 (e ∙ sym c.3) (elim other [
      | inl l ↦ inl (let q = ap (λ (z : List (List ℕ)). length z) c.2 in let k = length-append c.0 c.1 in let m = c.3 in omega (arith, q, k, m, l))
      | inr t ↦ inr t
    ])
  where
    go : (k : ℕ) (rest : List (List ℕ)) → Alike fs gs k (rest ++ tail) [] (length fs) (length gs) → length gs ≡ k → (0 < length rest) ⊎ ((r : List ℕ) × (more : List (List ℕ)) × (tail ≡ r ∷ more)) → ⊥
    go k [] a l (inl z) = absurd (omega (arith, z))
    go k [] a l (inr t) = let S : List (List ℕ) → Type 0 = λ z. Alike fs gs k z [] (length fs) (length gs) in no_more fs gs k t.0 t.1 l (subst S t.2 a)
    go k (r ∷ rest) a l x = no_more fs gs k r (rest ++ tail) l a

pub not_both_shown : (pr : Protocol_data) (role : Role) (p : Projection_data) (e : ProjFault) → IsNumberedProjection pr role p → FirstRefusal pr role e → ⊥
not_both_shown pr role p (Unreached r n) h f = h.is_projection.none_unreached n f.1
not_both_shown pr role p NoMemory h f = f
not_both_shown pr role p (Unmergeable r a b) h f =
    let c = f.2 in
    let w = work_of pr role c.fronts c.rows [] c.front c.comes in
    let v = work_whole pr role p h in
    elim (cases_lt (length c.rows) (length (map nexts_behind p.machine.states))) [
      | inl l ↦ clash_not_merged pr role c.front a b c.clash (beyond pr role c.fronts (fronts_of p.sets) c.rows (map nexts_behind p.machine.states) [] [] c.front w v c.comes.here l).merges
      | inr l ↦ no_longer pr role c.fronts (fronts_of p.sets) c.rows (map nexts_behind p.machine.states) ([] ∷ []) w v (whole_length pr role p h) l (inr ([], [], refl))
    ]
not_both_shown pr role p (TooManyStates r) h f =
    let t = f.2 in
    let w = work_of pr role t.fronts t.rows t.row t.front t.comes in
    let v = work_whole pr role p h in
    elim (cases_lt (length t.rows) (length (map nexts_behind p.machine.states))) [
      | inl l ↦ no_overflow pr role t (fronts_of p.sets) v.once v.bounded (beyond pr role t.fronts (fronts_of p.sets) t.rows (map nexts_behind p.machine.states) [] t.row t.front w v t.comes.here l)
      | inr l ↦ no_longer pr role t.fronts (fronts_of p.sets) t.rows (map nexts_behind p.machine.states) (t.row ∷ []) w v (whole_length pr role p h) l (inr (t.row, [], refl))
    ]

-- lists that agree place by place
same_all : {A : Type 0} (xs ys : List A) → length xs ≡ length ys → ((i : ℕ) (x y : A) → slice_get xs i ≡ Some x → slice_get ys i ≡ Some y → x ≡ y) → xs ≡ ys
same_all [] [] l f = refl
same_all [] (y ∷ ys) l f = absurd (omega (arith, l))
same_all (x ∷ xs) [] l f = absurd (omega (arith, l))
same_all (x ∷ xs) (y ∷ ys) l f = ap₂ (λ u us. u ∷ us) (f 0 x y refl refl) (same_all xs ys (omega (arith, l)) (λ i a b p q. f (suc i) a b p q))

same_arms : (arms theirs : List Arm) → map choice_of arms ≡ map choice_of theirs → nexts_of arms ≡ nexts_of theirs → arms ≡ theirs
same_arms [] [] c n = refl
same_arms [] (b ∷ bs) c n = absurd (cc (c))
same_arms (a ∷ as') [] c n = absurd (cc (c))
same_arms (a ∷ as') (b ∷ bs) c n =
    let ec : choice_of a ≡ choice_of b = cc (c) in
    let en : a.next ≡ b.next = cc (n) in
    let mk : LabelChoice → ℕ → Arm = λ x y. record { label = x.label; sort = x.sort; next = y } in
    ap₂ (λ (u : Arm) (us : List Arm). u ∷ us) (ap₂ mk ec en) (same_arms as' bs (cc (c)) (cc (n)))

some_member : (members : List ℕ) → members ≢ [] → (talk : ℕ) × Contains members talk
some_member [] ne = absurd (ne refl)
some_member (x ∷ xs) ne = (x, contains (x ∷ xs) x (inl refl))

same_state : (pr : Protocol_data) (role : Role) (sets sets' : List (List ℕ)) (members : List ℕ) (st st' : State) → IsWellFormed pr → nexts_behind st ≡ nexts_behind st'
    → IsStateOf pr role sets members st → IsStateOf pr role sets' members st' → st ≡ st'
same_state pr role sets sets' members st st' wf e (IsDone n d) (IsDone n' d') = d ∙ sym d'
same_state pr role sets sets' members st st' wf e (IsDone n d) (IsPuts q arms n' each d' ar) = absurd (n' n)
same_state pr role sets sets' members st st' wf e (IsDone n d) (IsTakes q arms n' each d' ar) = absurd (n' n)
same_state pr role sets sets' members st st' wf e (IsPuts q arms n each d ar) (IsDone n' d') = absurd (n n')
same_state pr role sets sets' members st st' wf e (IsTakes q arms n each d ar) (IsDone n' d') = absurd (n n')
same_state pr role sets sets' members st st' wf e (IsPuts q arms n each d ar) (IsPuts q' arms' n' each' d' ar') =
    let m = some_member members n in
    let t = each m.0 m.1 in let t' = each' m.0 m.1 in
    let eq : q ≡ q' = (let x = t.1 in let y = t'.1 in cc (x, y)) in
    let ea = same_arms arms arms' (ar.choices ∙ sym ar'.choices) (sym (ap nexts_behind d) ∙ e ∙ ap nexts_behind d') in
    let mk : Role → List Arm → State = λ x y. Puts x y in
    d ∙ ap₂ mk eq ea ∙ sym d'
same_state pr role sets sets' members st st' wf e (IsTakes q arms n each d ar) (IsTakes q' arms' n' each' d' ar') =
    let m = some_member members n in
    let t = each m.0 m.1 in let t' = each' m.0 m.1 in
    let eq : q ≡ q' = (let x = t.1 in let y = t'.1 in cc (x, y)) in
    let ea = same_arms arms arms' (ar.choices ∙ sym ar'.choices) (sym (ap nexts_behind d) ∙ e ∙ ap nexts_behind d') in
    let mk : Role → List Arm → State = λ x y. Takes x y in
    d ∙ ap₂ mk eq ea ∙ sym d'
same_state pr role sets sets' members st st' wf e (IsPuts q arms n each d ar) (IsTakes q' arms' n' each' d' ar') =
    let m = some_member members n in
    let t = each m.0 m.1 in let t' = each' m.0 m.1 in
    let eq : q ≡ role = (let x = t.1 in let y = t'.1 in cc (x, y)) in
    absurd ((wf.talks m.0 role q t.0 t.1).others (sym eq))
same_state pr role sets sets' members st st' wf e (IsTakes q arms n each d ar) (IsPuts q' arms' n' each' d' ar') =
    let m = some_member members n in
    let t = each m.0 m.1 in let t' = each' m.0 m.1 in
    let eq : q ≡ role = (let x = t.1 in let y = t'.1 in cc (x, y)) in
    absurd ((wf.talks m.0 q role t.0 t.1).others eq)

pub one_projection : (pr : Protocol_data) (role : Role) (p q : Projection_data) → IsWellFormed pr → IsNumberedProjection pr role p → IsNumberedProjection pr role q → p ≡ q
one_projection pr role p q wf h k =
    let v = work_whole pr role p h in
    let w = work_whole pr role q k in
    let rows = map nexts_behind p.machine.states in
    let rows' = map nexts_behind q.machine.states in
    let l : length rows ≡ length rows' = elim (cases_lt (length rows) (length rows')) [
      | inl x ↦ absurd (no_longer pr role (fronts_of q.sets) (fronts_of p.sets) rows' rows [] w v (whole_length pr role p h) (omega (arith, x)) (inl x))
      | inr x ↦ elim (cases_lt (length rows') (length rows)) [
        | inl y ↦ absurd (no_longer pr role (fronts_of p.sets) (fronts_of q.sets) rows rows' [] v w (whole_length pr role q k) (omega (arith, y)) (inl y))
        | inr y ↦ omega (arith, x, y)
      ]
    ] in
    let a = level pr role (fronts_of p.sets) (fronts_of q.sets) rows rows' [] [] v w l in
    let sets : p.sets ≡ q.sets
    = same_all p.sets q.sets (let x = whole_length pr role p h in let y = whole_length pr role q k in let f = fronts_length p.sets in let g = fronts_length q.sets in omega (arith, l, x, y, f, g))
    (λ i xs ys hx hy. at i xs ys hx hy a.1.known a.1.one a.1.same) in
    let states : p.machine.states ≡ q.machine.states = same_all p.machine.states q.machine.states (sym (rows_length p.machine.states) ∙ l ∙ rows_length q.machine.states)
    (λ i s t hs ht. (
    let b = at_within p.sets i (let x = at_short p.machine.states i s hs in let y = h.is_projection.all in omega (arith, x, y)) in
    let P : List (List ℕ) → Type 0 = λ z. slice_get z i ≡ Some b.0 in
    let rs = at_map nexts_behind p.machine.states i s hs in
    let rt = at_map nexts_behind q.machine.states i t ht in
    let R : List (List ℕ) → Type 0 = λ z. slice_get z i ≡ Some (nexts_behind s) in
    let rs' = subst R a.0 rs in
    let e : nexts_behind s ≡ nexts_behind t = cc (rs', rt) in
    same_state pr role p.sets q.sets b.0 s t wf e (h.is_projection.states i b.0 s b.1 hs) (k.is_projection.states i b.0 t (subst P sets b.1) ht))) in
    let mk : Role → List State → ℕ → List (List ℕ) → Projection_data = λ r ss n xs. record { machine = record { role = r; states = ss; start = n }; sets = xs } in
    ap (λ z. mk z p.machine.states p.machine.start p.sets) (h.is_projection.onto ∙ sym k.is_projection.onto)
    ∙ ap (λ z. mk q.machine.role z p.machine.start p.sets) states
    ∙ ap (λ z. mk q.machine.role q.machine.states z p.sets) (h.is_projection.start ∙ sym k.is_projection.start)
    ∙ ap (λ z. mk q.machine.role q.machine.states q.machine.start z) sets
  where
    at : (i : ℕ) (xs ys : List ℕ) → slice_get p.sets i ≡ Some xs → slice_get q.sets i ≡ Some ys → (known : ℕ) → Worked (length (map nexts_behind p.machine.states)) known [] (length (fronts_of p.sets))
        → Same (fronts_of p.sets) (fronts_of q.sets) known → xs ≡ ys
    at i xs ys hx hy known (AllDone _ _) same =
        let f = fronts_length p.sets in
        let s = same i (let x = at_short p.sets i xs hx in omega (arith, f, x)) in
        let u = at_map front_of p.sets i xs hx in
        let v = at_map front_of q.sets i ys hy in
        let e : front_of xs ≡ s.0 = (let z = s.1 in cc (u, z)) in
        let e' : front_of ys ≡ s.0 = (let z = s.2 in cc (v, z)) in
        ap (λ (z : Front_data). z.talks) (e ∙ sym e')
