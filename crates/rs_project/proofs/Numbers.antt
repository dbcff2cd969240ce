-- Fronts by their numbers.
use Rattle.std.proofs.lemmas.List.{take_all}
use Rattle.std.proofs.Common.{◌≡◌, ◌⊎◌, inl, inr, ℕ, zero, suc, ◌+◌, ◌<◌, ◌≤◌, Bool, true, false, List, [], ◌∷◌, ◌++◌, length, map, take, drop, Option, Some, None, slice_get, refl, sym, ap, ap₂, ◌∙◌}
use Rattle.std.proofs.Common.{subst, subst₂, arith, if◌then◌else◌, ◌==◌, length-append}
use Rattle.std.specs.List.{AllPairs, flat_map, list_any}
use Rattle.rs_model.specs.Data.{Protocol_data}
use Rattle.rs_model.specs.declared.graph.Arm.{Arm}
use Rattle.rs_model.specs.declared.graph.Label.{Label}
use Rattle.rs_model.specs.declared.graph.Node.{Node}
use Rattle.rs_model.specs.declared.graph.Node.TheVariants.{Finished, Talk}
use Rattle.rs_model.specs.declared.graph.Role.{Role}
use Rattle.rs_project.specs.Data.{Front_data}
use Rattle.rs_project.specs.Graph.{Involves}
use Rattle.rs_graph.specs.Lists.{Among}
use Rattle.rs_project.specs.Marks.{IsSurvey, Survey_data}
use Rattle.rs_graph.specs.Order.{Once, Numbered, NoMore, Known, New, Worked, AllDone, Next}
use Rattle.rs_project.specs.Numbered.{nexts_of}
use Rattle.rs_project.specs.Projection.{LabelChoice, choice_of, choices_of, first_choices, merged_choices, LeadsOn, MeetsBehind, EndsBehind}
use Rattle.rs_project.specs.Refusals.{IsFront, IsFrontAt, AreBehind}
use Rattle.rs_project.specs.Working.{IsFrontBehind, FrontIsNew, KeepsFronts, AddsFront, AreFoundFronts, FindsNone, ArmsFault, Discovers, TooManyAt}
use Rattle.rs_project.specs.declared.projecting.ProjFault.{ProjFault}
use Rattle.rs_project.specs.declared.projecting.ProjFault.TheVariants.{Unmergeable, Unreached, TooManyStates, NoMemory}
use Rattle.rs_project.proofs.Lists.{contained, contains, at_among, at_short, among_left, among_split, at_map}
use Rattle.rs_project.proofs.Meetings.{meets_some}

-- the number of the front after a label
pub record FindsFront (protocol : Protocol_data) (role : Role) (old : List Front_data) (talks : List ℕ) (label : Label) (new : List Front_data) (n : ℕ) : Type 0 where
  pub front : Front_data
  pub is_front : IsFrontBehind protocol role talks label front
  pub adds : AddsFront old front new n

-- what a fault of finding the front after the label tells
abbrev pub FindFault : Protocol_data → Role → List Front_data → List ℕ → Label → ProjFault → Type 0
FindFault protocol role old talks label (TooManyStates r) = (r ≡ role) × FindsNone protocol role old talks label
FindFault protocol role old talks label (Unmergeable r a b) = ⊥
FindFault protocol role old talks label (Unreached r n) = ⊥
FindFault protocol role old talks label NoMemory = Unit {0}

-- each number is below those after it
abbrev pub Rises : List ℕ → Type 0
Rises [] = Unit {0}
Rises (x ∷ xs) = ((y : ℕ) → Among xs y → x < y) × Rises xs

pub rises : (xs : List ℕ) → AllPairs (λ (n m : ℕ). n < m) xs → Rises xs
rises [] all = tt
rises (x ∷ xs) all = (
  (λ y m. (let at = contains xs y m in let P : ℕ → Type 0 = λ z. x < z in subst P at.2 (all 0 (suc at.0) y (omega arith) (omega (arith, at.1))))),
  rises xs (λ i j d lt h. all (suc i) (suc j) d (omega (arith, lt)) (omega (arith, h))),
)

-- rising lists with the same members are the same
pub same_list : (xs ys : List ℕ) → Rises xs → Rises ys → ((h : ℕ) → Among xs h → Among ys h) → ((h : ℕ) → Among ys h → Among xs h) → xs ≡ ys
same_list [] [] r q f g = refl
same_list [] (y ∷ ys) r q f g = absurd (g y (inl refl))
same_list (x ∷ xs) [] r q f g = absurd (f x (inl refl))
same_list (x ∷ xs) (y ∷ ys) r q f g = ap₂ (λ (u : ℕ) (us : List ℕ). u ∷ us) head (same_list xs ys r.1 q.1 forth back)
  where
    head : x ≡ y
    head = elim (f x (inl refl)) [
      | inl e ↦ sym e
      | inr m ↦ elim (g y (inl refl)) [
        | inl e ↦ e
        | inr n ↦ (let a = q.0 x m in let b = r.0 y n in absurd (omega (arith, a, b)))
      ]
    ]

    forth : (h : ℕ) → Among xs h → Among ys h
    forth h m = elim (f h (inr m)) [ inl e ↦ (let a = r.0 h m in let s = head in absurd (omega (arith, a, e, s))) | inr n ↦ n ]

    back : (h : ℕ) → Among ys h → Among xs h
    back h m = elim (g h (inr m)) [ inl e ↦ (let a = q.0 h m in let s = head in absurd (omega (arith, a, e, s))) | inr n ↦ n ]

same_bool : (a b : Bool) → (a ≡ true → b ≡ true) → (b ≡ true → a ≡ true) → a ≡ b
same_bool true true f g = refl
same_bool false false f g = refl
same_bool true false f g = absurd (cc (f refl))
same_bool false true f g = absurd (cc (g refl))

-- what can be met tells the front
pub same_front : (f g : Front_data) (M : ℕ → Type 0) (E : Type 0) → IsFront f M E → IsFront g M E → f ≡ g
same_front f g M E a b =
    let mk : List ℕ → Bool → Front_data = λ x y. record { talks = x; ends = y } in
    ap₂ mk
    (same_list f.talks g.talks (rises f.talks a.rising) (rises g.talks b.rising)
    (λ h m. contained g.talks h ((b.talks h).1 ((a.talks h).0 (contains f.talks h m))))
    (λ h m. contained f.talks h ((a.talks h).1 ((b.talks h).0 (contains g.talks h m)))))
    (same_bool f.ends g.ends (λ e. b.ends.1 (a.ends.0 e)) (λ e. a.ends.1 (b.ends.0 e)))

-- numbers
pub at_left : {A : Type 0} (xs ys : List A) (i : ℕ) (x : A) → slice_get xs i ≡ Some x → slice_get (xs ++ ys) i ≡ Some x
at_left [] ys i x h = absurd (cc (h))
at_left (z ∷ xs) ys zero x h = h
at_left (z ∷ xs) ys (suc i) x h = at_left xs ys i x h

pub at_last : {A : Type 0} (xs : List A) (x : A) → slice_get (xs ++ (x ∷ [])) (length xs) ≡ Some x
at_last [] x = refl
at_last (z ∷ xs) x = at_last xs x

pub at_push : {A : Type 0} (xs : List A) (y : A) (i : ℕ) (x : A) → slice_get (xs ++ (y ∷ [])) i ≡ Some x → (slice_get xs i ≡ Some x) ⊎ ((i ≡ length xs) × (y ≡ x))
at_push [] y zero x h = inr (refl, cc (h))
at_push [] y (suc i) x h = absurd (cc (h))
at_push (z ∷ xs) y zero x h = inl h
at_push (z ∷ xs) y (suc i) x h = elim (at_push xs y i x h) [ inl k ↦ inl k | inr p ↦ inr (ap suc p.0, p.1) ]

pub once_push : (fs : List Front_data) (f : Front_data) → Once fs → FrontIsNew fs f → Once (fs ++ (f ∷ []))
once_push fs f once new = λ i j x a b. elim (at_push fs f i x a) [
  | inl p ↦ elim (at_push fs f j x b) [ inl q ↦ once i j x p q | inr q ↦ absurd (new i (p ∙ ap Some (sym q.1))) ]
  | inr p ↦ elim (at_push fs f j x b) [ inl q ↦ absurd (new j (q ∙ ap Some (sym p.1))) | inr q ↦ p.0 ∙ sym q.0 ]
]

pub numbered_known : (known after n : ℕ) (ns : List ℕ) → Numbered known ns after → n < after → Numbered known (ns ++ (n ∷ [])) after
numbered_known known _ n _ (NoMore _) h = Known known n known [] h (NoMore known)
numbered_known known after n _ (Known _ m _ ns lt k) h = Known known m after (ns ++ (n ∷ [])) lt (numbered_known known after n ns k h)
numbered_known known after n _ (New _ _ ns k) h = New known after (ns ++ (n ∷ [])) (numbered_known (suc known) after n ns k h)

pub numbered_new : (known after : ℕ) (ns : List ℕ) → Numbered known ns after → Numbered known (ns ++ (after ∷ [])) (suc after)
numbered_new known _ _ (NoMore _) = New known (suc known) [] (NoMore (suc known))
numbered_new known after _ (Known _ m _ ns lt k) = Known known m (suc after) (ns ++ (after ∷ [])) lt (numbered_new known after ns k)
numbered_new known after _ (New _ _ ns k) = New known (suc after) (ns ++ (after ∷ [])) (numbered_new (suc known) after ns k)

pub worked_push : (k known mid after : ℕ) (rows : List (List ℕ)) (row : List ℕ) → Worked k known rows mid → k + length rows < mid → Numbered mid row after → Worked k known (rows ++ (row ∷ [])) after
worked_push k known _ after _ row (AllDone _ _) h n = Next k known after after row [] (omega arith) n (AllDone (suc k) after)
worked_push k known mid after _ row (Next _ _ m _ r rows lt nu w) h n = Next k known m after r (rows ++ (row ∷ [])) lt nu (worked_push (suc k) m mid after rows row w (omega arith) n)

-- rows of numbers after choices
pub behind_kept : (pr : Protocol_data) (role : Role) (old new : List Front_data) (talks : List ℕ) → KeepsFronts old new → (cs : List LabelChoice) (ns : List ℕ) → AreBehind pr role old talks cs ns
    → AreBehind pr role new talks cs ns
behind_kept pr role old new talks kept [] [] h = tt
behind_kept pr role old new talks kept [] (n ∷ ns) h = absurd h
behind_kept pr role old new talks kept (c ∷ cs) [] h = absurd h
behind_kept pr role old new talks kept (c ∷ cs) (n ∷ ns) h =
    (record { front = h.0.front; stands = kept n h.0.front h.0.stands; is_front = h.0.is_front }, behind_kept pr role old new talks kept cs ns h.1)

pub behind_push : (pr : Protocol_data) (role : Role) (fs : List Front_data) (talks : List ℕ) (cs : List LabelChoice) (ns : List ℕ) (c : LabelChoice) (n : ℕ) → AreBehind pr role fs talks cs ns
    → IsFrontAt fs n (MeetsBehind pr role talks c.label) (EndsBehind pr role talks c.label) → AreBehind pr role fs talks (cs ++ (c ∷ [])) (ns ++ (n ∷ []))
behind_push pr role fs talks [] [] c n h at = (at, tt)
behind_push pr role fs talks [] (m ∷ ns) c n h at = absurd h
behind_push pr role fs talks (d ∷ cs) [] c n h at = absurd h
behind_push pr role fs talks (d ∷ cs) (m ∷ ns) c n h at = (h.0, behind_push pr role fs talks cs ns c n h.1 at)

pub keeps_adds : (old new : List Front_data) (f : Front_data) (n : ℕ) → AddsFront old f new n → KeepsFronts old new
keeps_adds old new f n (inl p) = λ k g h. (let P : List Front_data → Type 0 = λ z. slice_get z k ≡ Some g in subst P (sym p.1) h)
keeps_adds old new f n (inr p) = λ k g h. (let P : List Front_data → Type 0 = λ z. slice_get z k ≡ Some g in subst P (sym p.1) (at_left old (f ∷ []) k g h))

pub stands_adds : (old new : List Front_data) (f : Front_data) (n : ℕ) → AddsFront old f new n → slice_get new n ≡ Some f
stands_adds old new f n (inl p) = let P : List Front_data → Type 0 = λ z. slice_get z n ≡ Some f in subst P (sym p.1) p.0
stands_adds old new f n (inr p) =
    let P : List Front_data → Type 0 = λ z. slice_get z n ≡ Some f in
    let Q : ℕ → Type 0 = λ z. slice_get (old ++ (f ∷ [])) z ≡ Some f in
    subst P (sym p.1) (subst Q (sym p.0) (at_last old f))

pub found_adds : (pr : Protocol_data) (role : Role) (old new : List Front_data) (f : Front_data) (n : ℕ) → AreFoundFronts pr role old → ((t : ℕ) → Among f.talks t → Involves pr role t)
    → (f.talks ≡ [] → f.ends ≡ true) → AddsFront old f new n → AreFoundFronts pr role new
found_adds pr role old new f n found right told (inl p) = let P : List Front_data → Type 0 = λ z. AreFoundFronts pr role z in subst P (sym p.1) found
found_adds pr role old new f n found right told (inr p) =
    let P : List Front_data → Type 0 = λ z. AreFoundFronts pr role z in
    subst P (sym p.1) record {
      once = once_push old f found.once p.3;
      bounded = (let l = length-append old (f ∷ []) in let w = p.2 in omega (arith, l, w));
      right = λ k g t h m. elim (at_push old f k g h) [
        | inl q ↦ found.right k g t q m
        | inr q ↦ (let Q : Front_data → Type 0 = λ z. Among z.talks t in right t (subst Q (sym q.1) m))
      ];
      told = λ k g h e. elim (at_push old f k g h) [
        | inl q ↦ found.told k g q e
        | inr q ↦ (let Q : Front_data → Type 0 = λ z. z.talks ≡ [] in let R : Front_data → Type 0 = λ z. z.ends ≡ true in subst R q.1 (told (subst Q (sym q.1) e)))
      ];
    }

numbered_adds : (known : ℕ) (old new : List Front_data) (f : Front_data) (n : ℕ) (ns : List ℕ) → Numbered known ns (length old) → AddsFront old f new n → Numbered known (ns ++ (n ∷ [])) (length new)
numbered_adds known old new f n ns nu (inl p) =
    let P : List Front_data → Type 0 = λ z. Numbered known (ns ++ (n ∷ [])) (length z) in
    subst P (sym p.1) (numbered_known known (length old) n ns nu (at_short old n f p.0))
numbered_adds known old new f n ns nu (inr p) =
    let P : List Front_data → Type 0 = λ z. Numbered known (ns ++ (n ∷ [])) (length z) in
    let Q : ℕ → Type 0 = λ z. Numbered known (ns ++ (n ∷ [])) z in
    let R : ℕ → Type 0 = λ z. Numbered known (ns ++ (z ∷ [])) (suc (length old)) in
    let l : suc (length old) ≡ length (old ++ (f ∷ [])) = (let k = length-append old (f ∷ []) in omega (arith, k)) in
    subst P (sym p.1) (subst Q l (subst R (sym p.0) (numbered_new known (length old) ns nu)))

-- the label stands at an arm of some member
choice_from : (cs earlier : List LabelChoice) (c : LabelChoice) → Among (first_choices cs earlier) c → Among cs c
choice_from [] earlier c h = absurd h
choice_from (x ∷ cs) earlier c h = go (list_any (λ b. b.label.0 == x.label.0) earlier) (λ k. choice_from cs earlier c k) (λ k. choice_from cs (earlier ++ (x ∷ [])) c k) h
  where
    go : (b : Bool) → (Among (first_choices cs earlier) c → Among cs c) → (Among (first_choices cs (earlier ++ (x ∷ []))) c → Among cs c)
        → Among (if b then first_choices cs earlier else x ∷ first_choices cs (earlier ++ (x ∷ []))) c → Among (x ∷ cs) c
    go true skip keep k = inr (skip k)
    go false skip keep (inl e) = inl e
    go false skip keep (inr k) = inr (keep k)

pub flat_from : {B : Type 0} (f : ℕ → List B) (xs : List ℕ) (y : B) → Among (flat_map f xs) y → (x : ℕ) × Among xs x × Among (f x) y
flat_from f [] y h = absurd h
flat_from f (x ∷ xs) y h = elim (among_split (f x) (flat_map f xs) y h) [
  | inl k ↦ (x, inl refl, k)
  | inr k ↦ (let r = flat_from f xs y k in (r.0, inr r.1, r.2))
]

pub flat_to : {B : Type 0} (f : ℕ → List B) (xs : List ℕ) (x : ℕ) (y : B) → Among xs x → Among (f x) y → Among (flat_map f xs) y
flat_to f [] x y h k = absurd h
flat_to {B} f (z ∷ xs) x y (inl e) k = let P : ℕ → Type 0 = λ w. Among (f w) y in among_left (f z) (flat_map f xs) y (subst P (sym e) k)
flat_to f (z ∷ xs) x y (inr h) k = among_right' (f z) (flat_map f xs) y (flat_to f xs x y h k)
  where
    among_right' : {A : Type 0} (us vs : List A) (u : A) → Among vs u → Among (us ++ vs) u
    among_right' [] vs u m = m
    among_right' (w ∷ us) vs u m = inr (among_right' us vs u m)

arm_from : (arms : List Arm) (c : LabelChoice) → Among (map choice_of arms) c → (place : ℕ) × (a : Arm) × (slice_get arms place ≡ Some a) × (choice_of a ≡ c)
arm_from [] c h = absurd h
arm_from (a ∷ arms) c (inl e) = (zero, a, refl, e)
arm_from (a ∷ arms) c (inr h) = let r = arm_from arms c h in (suc r.0, r.1, r.2, r.3)

node_choice : (pr : Protocol_data) (talks : List ℕ) (t : ℕ) (c : LabelChoice) (o : Option Node) → Among talks t → slice_get pr.nodes t ≡ o → Among (choices_of o) c
    → (next : ℕ) × LeadsOn pr talks c.label next
node_choice pr talks t c None m at h = absurd h
node_choice pr talks t c (Some Finished) m at h = absurd h
node_choice pr talks t c (Some (Talk sender receiver arms)) m at h =
    let r = arm_from arms c h in (
      r.1.next,
      record {
        talk = t;
        member = contains talks t m;
        place = r.0;
        step = record { sender = sender; receiver = receiver; arms = arms; arm = r.1; talks = at; stands = r.2; leads = refl };
        its_label = ap (λ (z : LabelChoice). z.label) r.3;
      },
    )

pub choice_leads : (pr : Protocol_data) (talks : List ℕ) (c : LabelChoice) → Among (merged_choices pr talks) c → (next : ℕ) × LeadsOn pr talks c.label next
choice_leads pr talks c h =
    let f : ℕ → List LabelChoice = λ n. choices_of (slice_get pr.nodes n) in
    let r = flat_from f talks c (choice_from (flat_map f talks) [] c h) in
    node_choice pr talks r.0 c (slice_get pr.nodes r.0) r.1 refl r.2

-- what is met after a label that stands at an arm isn't nothing
pub told_behind : (pr : Protocol_data) (role : Role) (sv : Survey_data) (talks : List ℕ) (label : Label) (next : ℕ) (f : Front_data) → IsSurvey pr role sv → LeadsOn pr talks label next
    → IsFrontBehind pr role talks label f → f.talks ≡ [] → f.ends ≡ true
told_behind pr role sv talks label next f is on front e = elim (meets_some pr role sv is next) [
  | inl m ↦ (let P : List ℕ → Type 0 = λ z. Among z m.0 in absurd (subst P e (contained f.talks m.0 ((front.talks m.0).1 (next, on, m.1)))))
  | inr m ↦ front.ends.1 (next, on, m)
]

right_behind : (pr : Protocol_data) (role : Role) (talks : List ℕ) (label : Label) (f : Front_data) → IsFrontBehind pr role talks label f → (t : ℕ) → Among f.talks t → Involves pr role t
right_behind pr role talks label f front t m = ((front.talks t).0 (contains f.talks t m)).2.involved

pub discovers_none : (pr : Protocol_data) (role : Role) (fs : List Front_data) (talks : List ℕ) → AreFoundFronts pr role fs → Discovers pr role fs talks [] fs []
discovers_none pr role fs talks found = record { found = found; kept = λ n f h. h; numbered = NoMore (length fs); behind = tt }

pub discovers_more : (pr : Protocol_data) (role : Role) (sv : Survey_data) (old mid new : List Front_data) (talks : List ℕ) (cs : List LabelChoice) (c : LabelChoice) (row : List ℕ) (n : ℕ)
    → IsSurvey pr role sv
    → Among (merged_choices pr talks) c → Discovers pr role old talks cs mid row → FindsFront pr role mid talks c.label new n → Discovers pr role old talks (cs ++ (c ∷ [])) new (row ++ (n ∷ []))
discovers_more pr role sv old mid new talks cs c row n is m d f =
    let on = choice_leads pr talks c m in
    let k = keeps_adds mid new f.front n f.adds in
    record {
      found = found_adds pr role mid new f.front n d.found (right_behind pr role talks c.label f.front f.is_front) (told_behind pr role sv talks c.label on.0 f.front is on.1 f.is_front) f.adds;
      kept = λ i g h. k i g (d.kept i g h);
      numbered = numbered_adds (length old) mid new f.front n row d.numbered f.adds;
      behind = behind_push pr role new talks cs row c n (behind_kept pr role mid new talks k cs row d.behind)
          record { front = f.front; stands = stands_adds mid new f.front n f.adds; is_front = f.is_front };
    }

take_more : (arms : List Arm) (i : ℕ) (a : Arm) → slice_get arms i ≡ Some a → map choice_of (take (suc i) arms) ≡ map choice_of (take i arms) ++ (choice_of a ∷ [])
take_more [] i a h = absurd (cc (h))
take_more (x ∷ arms) zero a h = (let e : x ≡ a = cc (h) in ap (λ z. choice_of z ∷ []) e)
take_more (x ∷ arms) (suc i) a h = ap (λ z. choice_of x ∷ z) (take_more arms i a h)

split_at : (arms : List Arm) (i : ℕ) (a : Arm) → slice_get arms i ≡ Some a → map choice_of arms ≡ map choice_of (take i arms) ++ (choice_of a ∷ map choice_of (drop (suc i) arms))
split_at [] i a h = absurd (cc (h))
split_at (x ∷ arms) zero a h = (let e : x ≡ a = cc (h) in ap (λ z. choice_of z ∷ map choice_of arms) e)
split_at (x ∷ arms) (suc i) a h = ap (λ z. choice_of x ∷ z) (split_at arms i a h)

nexts_last : (arms : List Arm) (a : Arm) → nexts_of (arms ++ (a ∷ [])) ≡ nexts_of arms ++ (a.next ∷ [])
nexts_last [] a = refl
nexts_last (x ∷ arms) a = ap (λ z. x.next ∷ z) (nexts_last arms a)

choices_last : (arms : List Arm) (a : Arm) → map choice_of (arms ++ (a ∷ [])) ≡ map choice_of arms ++ (choice_of a ∷ [])
choices_last [] a = refl
choices_last (x ∷ arms) a = ap (λ z. choice_of x ∷ z) (choices_last arms a)

pub among_choices : (choices : List Arm) (i : ℕ) (a : Arm) → slice_get choices i ≡ Some a → Among (map choice_of choices) (choice_of a)
among_choices choices i a h = at_among (map choice_of choices) i (choice_of a) (at_map choice_of choices i a h)

-- one arm more
pub arm_more : (pr : Protocol_data) (role : Role) (sv : Survey_data) (old mid new : List Front_data) (talks : List ℕ) (choices : List Arm) (i : ℕ) (a : Arm) (arms more : List Arm) (n : ℕ)
    → IsSurvey pr role sv
    → map choice_of choices ≡ merged_choices pr talks → slice_get choices i ≡ Some a
    → more ≡ arms ++ (record { label = a.label; sort = a.sort; next = n } ∷ [])
    → Discovers pr role old talks (map choice_of (take i choices)) mid (nexts_of arms) → FindsFront pr role mid talks a.label new n
    → Discovers pr role old talks (map choice_of (take (i + 1) choices)) new (nexts_of more)
arm_more pr role sv old mid new talks choices i a arms more n is e at m d f =
    let P : List LabelChoice → Type 0 = λ z. Among z (choice_of a) in
    let Q : List LabelChoice → List ℕ → Type 0 = λ y z. Discovers pr role old talks y new z in
    let j : suc i ≡ i + 1 = omega arith in
    let R : ℕ → Type 0 = λ z. Discovers pr role old talks (map choice_of (take z choices)) new (nexts_of more) in
    subst R j (subst₂ Q (sym (take_more choices i a at)) (sym (ap nexts_of m ∙ nexts_last arms record { label = a.label; sort = a.sort; next = n }))
    (discovers_more pr role sv old mid new talks (map choice_of (take i choices)) (choice_of a) (nexts_of arms) n is (subst P e (among_choices choices i a at)) d f))

pub same_more : (choices : List Arm) (i : ℕ) (a : Arm) (arms more : List Arm) (n : ℕ) → slice_get choices i ≡ Some a
    → more ≡ arms ++ (record { label = a.label; sort = a.sort; next = n } ∷ []) → map choice_of arms ≡ map choice_of (take i choices) → map choice_of more ≡ map choice_of (take (i + 1) choices)
same_more choices i a arms more n at m e =
    let j : suc i ≡ i + 1 = omega arith in
    let R : ℕ → Type 0 = λ z. map choice_of more ≡ map choice_of (take z choices) in
    subst R j (ap (λ (z : List Arm). map choice_of z) m ∙ choices_last arms record { label = a.label; sort = a.sort; next = n } ∙ ap (λ z. z ++ (choice_of a ∷ [])) e ∙ sym (take_more choices i a at))

pub too_many : (pr : Protocol_data) (role : Role) (old mid : List Front_data) (talks : List ℕ) (choices : List Arm) (i : ℕ) (a : Arm) (row : List ℕ) → slice_get choices i ≡ Some a
    → Discovers pr role old talks (map choice_of (take i choices)) mid row → FindsNone pr role mid talks a.label → TooManyAt pr role old talks (map choice_of choices)
too_many pr role old mid talks choices i a row at d f = record {
  fronts = mid;
  row = row;
  before = map choice_of (take i choices);
  choice = choice_of a;
  after = map choice_of (drop (suc i) choices);
  split = split_at choices i a at;
  discovers = d;
  none = f;
}

pub arms_fault : (pr : Protocol_data) (role : Role) (old mid : List Front_data) (talks : List ℕ) (choices : List Arm) (i : ℕ) (a : Arm) (row : List ℕ) → slice_get choices i ≡ Some a
    → Discovers pr role old talks (map choice_of (take i choices)) mid row → (e : ProjFault) → FindFault pr role mid talks a.label e → ArmsFault pr role old talks (map choice_of choices) e
arms_fault pr role old mid talks choices i a row at d (Unmergeable r x y) h = absurd h
arms_fault pr role old mid talks choices i a row at d (Unreached r n) h = absurd h
arms_fault pr role old mid talks choices i a row at d (TooManyStates r) h = (h.0, too_many pr role old mid talks choices i a row at d h.1)
arms_fault pr role old mid talks choices i a row at d NoMemory h = tt

pub taken_all : (arms : List Arm) (i : ℕ) → length arms ≤ i → map choice_of (take i arms) ≡ map choice_of arms
taken_all arms i e = ap (λ (z : List Arm). map choice_of z) (take_all i arms e)
