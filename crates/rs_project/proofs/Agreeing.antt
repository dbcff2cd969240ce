-- Which talks agree.
use Rattle.std.proofs.Common.{◌≡◌, ◌⊎◌, ◌<◌, inl, inr, ℕ, zero, suc, ◌+◌, ◌≤◌, Bool, true, false, not, ◌&&◌, ◌||◌, ◌==◌, List, [], ◌∷◌, length, map, get_or, Option, Some, None, slice_get, refl, sym}
use Rattle.std.proofs.Common.{ap, ap₂, ◌∙◌, subst, subst₂, arith, if◌then◌else◌}
use Rattle.std.specs.List.{list_any}
use Rattle.std.proofs.lemmas.Bool.{cases_lt}
use Rattle.std.proofs.lemmas.Bool.Decides.{eqb_tells}
use Rattle.rs_model.specs.Data.{Protocol_data}
use Rattle.rs_model.specs.Serving.{sort_number}
use Rattle.rs_model.specs.declared.graph.Arm.{Arm}
use Rattle.rs_model.specs.declared.graph.Label.{Label}
use Rattle.rs_model.specs.declared.graph.Node.{Node}
use Rattle.rs_model.specs.declared.graph.Node.TheVariants.{Finished, Talk}
use Rattle.rs_model.specs.declared.graph.Role.{Role}
use Rattle.rs_model.specs.declared.values.Sort.{Sort}
use Rattle.rs_model.specs.declared.values.Sort.TheVariants as sort
use Rattle.rs_model.specs.Talks.{Talks}
use Rattle.rs_wellformed.specs.WellFormed.{IsWellFormed}
use Rattle.rs_project.specs.Clashes.{is_choice, is_other_sort, has_all, same_sorts, both_send, both_receive, agree_nodes, AgreeAt, AgreeBefore, AllAgree, TalksClash, HasEndAlone, is_sender_in}
use Rattle.rs_project.specs.Data.{Front_data}
use Rattle.rs_project.specs.Graph.{Involves}
use Rattle.rs_graph.specs.Lists.{Among}
use Rattle.rs_project.specs.Projection.{LabelChoice, choice_of, HaveSameChoices, HaveSameSorts, Agree, BothSend, BothReceive}
use Rattle.rs_project.specs.Refusals.{FirstClash, OfTalks, OfTheEnd, Merges}
use Rattle.rs_project.proofs.Lists.{contained, contains, among_at, at_read, at_short, at_within}
use Rattle.rs_project.proofs.Surveys.{role_by, or_split, or_left, or_right}

sort_at : ℕ → Sort
sort_at n = if n == 0 then sort.Unit else if n == 1 then sort.Flag else if n == 2 then sort.Natural else if n == 3 then sort.Whole else if n == 4 then sort.Octets else sort.Numbers

sort_back : (s : Sort) → sort_at (sort_number s) ≡ s
unfolding sort_at
sort_back sort.Unit = refl
sort_back sort.Flag = refl
sort_back sort.Natural = refl
sort_back sort.Whole = refl
sort_back sort.Octets = refl
sort_back sort.Numbers = refl

sort_same : (s t : Sort) → sort_number s ≡ sort_number t → s ≡ t
sort_same s t e = sym (sort_back s) ∙ ap sort_at e ∙ sort_back t

and_first : (a b : Bool) → (a && b) ≡ true → a ≡ true
and_first true b h = refl
and_first false b h = absurd (cc (h))

and_last : (a b : Bool) → (a && b) ≡ true → b ≡ true
and_last true b h = h
and_last false b h = absurd (cc (h))

and_both : (a b : Bool) → a ≡ true → b ≡ true → (a && b) ≡ true
and_both true b h k = k
and_both false b h k = absurd (cc (h))

eq_by : (x y : ℕ) → (x == y) ≡ true → x ≡ y
eq_by x y h = elim (eqb_tells x y) [ inl t ↦ t.1 | inr t ↦ absurd (cc (h, t.0)) ]

by_eq : (x y : ℕ) → x ≡ y → (x == y) ≡ true
by_eq x y e = elim (eqb_tells x y) [ inl t ↦ t.0 | inr t ↦ absurd (t.1 e) ]

not_eq : (x y : ℕ) → (x ≡ y → ⊥) → not (x == y) ≡ true
not_eq x y n = elim (eqb_tells x y) [ inl t ↦ absurd (n t.1) | inr t ↦ ap not t.0 ]

label_by : (x y : Label) → x.0 ≡ y.0 → x ≡ y
label_by x y e = let mk : ℕ → Label = λ p. record { 0 = p } in ap mk e

label_to : (x y : Label) → x ≡ y → x.0 ≡ y.0
label_to x y e = ap (λ (z : Label). z.0) e

choice_same : (a b : Arm) → is_choice a b ≡ true → choice_of a ≡ choice_of b
choice_same a b h =
    let l = label_by a.label b.label (eq_by a.label.0 b.label.0 (and_first (a.label.0 == b.label.0) (sort_number a.sort == sort_number b.sort) h)) in
    let s = sort_same a.sort b.sort (eq_by (sort_number a.sort) (sort_number b.sort) (and_last (a.label.0 == b.label.0) (sort_number a.sort == sort_number b.sort) h)) in
    let mk : Label → Sort → LabelChoice = λ x y. record { label = x; sort = y } in
    ap₂ mk l s

same_choice : (a b : Arm) → choice_of a ≡ choice_of b → is_choice a b ≡ true
same_choice a b e = and_both (a.label.0 == b.label.0) (sort_number a.sort == sort_number b.sort)
    (by_eq a.label.0 b.label.0 (ap (λ (z : LabelChoice). z.label.0) e)) (by_eq (sort_number a.sort) (sort_number b.sort) (ap (λ (z : LabelChoice). sort_number z.sort) e))

any_choice : (theirs : List Arm) (a : Arm) → list_any (λ b. is_choice b a) theirs ≡ true → Among (map choice_of theirs) (choice_of a)
any_choice [] a h = absurd (cc (h))
any_choice (b ∷ theirs) a h = elim (or_split (is_choice b a) (list_any (λ z. is_choice z a) theirs) h) [
  | inl k ↦ inl (choice_same b a k)
  | inr k ↦ inr (any_choice theirs a k)
]

choice_any : (theirs : List Arm) (a : Arm) → Among (map choice_of theirs) (choice_of a) → list_any (λ b. is_choice b a) theirs ≡ true
choice_any [] a h = absurd h
choice_any (b ∷ theirs) a (inl e) = or_left (is_choice b a) (list_any (λ z. is_choice z a) theirs) (same_choice b a e)
choice_any (b ∷ theirs) a (inr h) = or_right (is_choice b a) (list_any (λ z. is_choice z a) theirs) (choice_any theirs a h)

if_true : (b r : Bool) → (if b then r else false) ≡ true → (b ≡ true) × (r ≡ true)
if_true true r h = (refl, h)
if_true false r h = absurd (cc (h))

true_if : (b r : Bool) → b ≡ true → r ≡ true → (if b then r else false) ≡ true
true_if true r h k = k
true_if false r h k = absurd (cc (h))

has-all : (theirs ours : List Arm) → has_all theirs ours ≡ true → (c : LabelChoice) → Among (map choice_of ours) c → Among (map choice_of theirs) c
has-all theirs [] h c m = absurd m
has-all theirs (a ∷ ours) h c (inl e) =
    let P : LabelChoice → Type 0 = λ z. Among (map choice_of theirs) z in
    subst P e (any_choice theirs a (if_true (list_any (λ b. is_choice b a) theirs) (has_all theirs ours) h).0)
has-all theirs (a ∷ ours) h c (inr m) = has-all theirs ours (if_true (list_any (λ b. is_choice b a) theirs) (has_all theirs ours) h).1 c m

all_had : (theirs ours : List Arm) → ((c : LabelChoice) → Among (map choice_of ours) c → Among (map choice_of theirs) c) → has_all theirs ours ≡ true
all_had theirs [] f = refl
all_had theirs (a ∷ ours) f = true_if (list_any (λ b. is_choice b a) theirs) (has_all theirs ours) (choice_any theirs a (f (choice_of a) (inl refl))) (all_had theirs ours (λ c m. f c (inr m)))

other_by : (b a : Arm) → b.label ≡ a.label → (b.sort ≡ a.sort → ⊥) → is_other_sort b a ≡ true
other_by b a l n = and_both (b.label.0 == a.label.0) (not (sort_number b.sort == sort_number a.sort)) (by_eq b.label.0 a.label.0 (label_to b.label a.label l))
    (not_eq (sort_number b.sort) (sort_number a.sort) (λ e. n (sort_same b.sort a.sort e)))

not_true : (b : Bool) → not b ≡ true → b ≡ true → ⊥
not_true true h k = cc (h)
not_true false h k = cc (k)

other_is : (b a : Arm) → is_other_sort b a ≡ true → (b.label ≡ a.label) × (b.sort ≡ a.sort → ⊥)
other_is b a h = (
  label_by b.label a.label (eq_by b.label.0 a.label.0 (and_first (b.label.0 == a.label.0) (not (sort_number b.sort == sort_number a.sort)) h)),
  (λ e. not_true (sort_number b.sort == sort_number a.sort) (and_last (b.label.0 == a.label.0) (not (sort_number b.sort == sort_number a.sort)) h)
      (by_eq (sort_number b.sort) (sort_number a.sort) (ap (λ (z : Sort). sort_number z) e))),
)

sort_decide : (s t : Sort) → (s ≡ t) ⊎ (s ≡ t → ⊥)
sort_decide s t = elim (eqb_tells (sort_number s) (sort_number t)) [ inl e ↦ inl (sort_same s t e.1) | inr n ↦ inr (λ e. n.1 (ap (λ (z : Sort). sort_number z) e)) ]

pub or_none_left : (a b : Bool) → (a || b) ≡ false → a ≡ false
or_none_left false b h = refl
or_none_left true b h = absurd (cc (h))

pub or_none_right : (a b : Bool) → (a || b) ≡ false → b ≡ false
or_none_right false b h = h
or_none_right true b h = absurd (cc (h))

none_other : (theirs : List Arm) (a : Arm) → list_any (λ b. is_other_sort b a) theirs ≡ false → (b : LabelChoice) → Among (map choice_of theirs) b → a.label ≡ b.label → a.sort ≡ b.sort
none_other [] a h b m l = absurd m
none_other (x ∷ theirs) a h b (inl e) l = elim (sort_decide x.sort a.sort) [
  | inl s ↦ sym s ∙ ap (λ (z : LabelChoice). z.sort) e
  | inr n ↦ (let o = other_by x a (ap (λ (z : LabelChoice). z.label) e ∙ sym l) n in
      let f = or_none_left (is_other_sort x a) (list_any (λ z. is_other_sort z a) theirs) h in absurd (cc (o, f)))
]
none_other (x ∷ theirs) a h b (inr m) l = none_other theirs a (or_none_right (is_other_sort x a) (list_any (λ z. is_other_sort z a) theirs) h) b m l

some_other : (theirs : List Arm) (a : Arm) → list_any (λ b. is_other_sort b a) theirs ≡ true → (b : LabelChoice) × Among (map choice_of theirs) b × (b.label ≡ a.label) × (b.sort ≡ a.sort → ⊥)
some_other [] a h = absurd (cc (h))
some_other (x ∷ theirs) a h = elim (or_split (is_other_sort x a) (list_any (λ z. is_other_sort z a) theirs) h) [
  | inl k ↦ (let o = other_is x a k in (choice_of x, inl refl, o.0, o.1))
  | inr k ↦ (let r = some_other theirs a k in (r.0, inr r.1, r.2, r.3))
]

if_false : (b r : Bool) → (if b then false else r) ≡ true → (b ≡ false) × (r ≡ true)
if_false false r h = (refl, h)
if_false true r h = absurd (cc (h))

sorts_same : (theirs ours : List Arm) → same_sorts theirs ours ≡ true → (a b : LabelChoice) → Among (map choice_of ours) a → Among (map choice_of theirs) b → a.label ≡ b.label → a.sort ≡ b.sort
sorts_same theirs [] h a b m k l = absurd m
sorts_same theirs (x ∷ ours) h a b (inl e) k l =
    ap (λ (z : LabelChoice). z.sort) (sym e)
    ∙ none_other theirs x (if_false (list_any (λ z. is_other_sort z x) theirs) (same_sorts theirs ours) h).0 b k (ap (λ (z : LabelChoice). z.label) e ∙ l)
sorts_same theirs (x ∷ ours) h a b (inr m) k l = sorts_same theirs ours (if_false (list_any (λ z. is_other_sort z x) theirs) (same_sorts theirs ours) h).1 a b m k l

same_sorts_shown : (theirs ours : List Arm) → ((a b : LabelChoice) → Among (map choice_of ours) a → Among (map choice_of theirs) b → a.label ≡ b.label → a.sort ≡ b.sort) → same_sorts theirs ours
    ≡ true
same_sorts_shown theirs [] f = refl
same_sorts_shown theirs (x ∷ ours) f = go (list_any (λ z. is_other_sort z x) theirs) refl (same_sorts_shown theirs ours (λ a b m k l. f a b (inr m) k l))
  where
    go : (b : Bool) → list_any (λ z. is_other_sort z x) theirs ≡ b → same_sorts theirs ours ≡ true → (if b then false else same_sorts theirs ours) ≡ true
    go false e rest = rest
    go true e rest = let r = some_other theirs x e in absurd (r.3 (sym (f (choice_of x) r.0 (inl refl) r.1 (sym r.2))))

same_choices : (arms theirs : List Arm) → has_all theirs arms ≡ true → has_all arms theirs ≡ true → HaveSameChoices arms theirs
same_choices arms theirs h k = λ c. (
  (λ m. contains (map choice_of theirs) c (has-all theirs arms h c (contained (map choice_of arms) c m))),
  (λ m. contains (map choice_of arms) c (has-all arms theirs k c (contained (map choice_of theirs) c m))),
)

send_agree : (pr : Protocol_data) (role : Role) (one other : ℕ) (n m : Node) → slice_get pr.nodes one ≡ Some n → slice_get pr.nodes other ≡ Some m → both_send role n m ≡ true → Agree pr role one other
send_agree pr role one other Finished m a b h = absurd (cc (h))
send_agree pr role one other (Talk s r arms) Finished a b h = absurd (cc (h))
send_agree pr role one other (Talk s r arms) (Talk t q theirs) a b h =
    let h2 = and_last (s.0 == role.0) ((t.0 == role.0) && ((r.0 == q.0) && (has_all theirs arms && has_all arms theirs))) h in
    let h3 = and_last (t.0 == role.0) ((r.0 == q.0) && (has_all theirs arms && has_all arms theirs)) h2 in
    let h4 = and_last (r.0 == q.0) (has_all theirs arms && has_all arms theirs) h3 in
    let es = role_by s role (and_first (s.0 == role.0) ((t.0 == role.0) && ((r.0 == q.0) && (has_all theirs arms && has_all arms theirs))) h) in
    let et = role_by t role (and_first (t.0 == role.0) ((r.0 == q.0) && (has_all theirs arms && has_all arms theirs)) h2) in
    let er = role_by r q (and_first (r.0 == q.0) (has_all theirs arms && has_all arms theirs) h3) in
    let P : Role → Type 0 = λ z. slice_get pr.nodes one ≡ Some (Talk z r arms) in
    let Q : Role → Role → Type 0 = λ y z. slice_get pr.nodes other ≡ Some (Talk y z theirs) in
    BothSend r arms theirs (subst P es a) (subst₂ Q et (sym er) b)
    (same_choices arms theirs (and_first (has_all theirs arms) (has_all arms theirs) h4) (and_last (has_all theirs arms) (has_all arms theirs) h4))

receive_agree : (pr : Protocol_data) (role : Role) (one other : ℕ) (n m : Node) → slice_get pr.nodes one ≡ Some n → slice_get pr.nodes other ≡ Some m → both_receive role n m ≡ true
    → Agree pr role one other
receive_agree pr role one other Finished m a b h = absurd (cc (h))
receive_agree pr role one other (Talk s r arms) Finished a b h = absurd (cc (h))
receive_agree pr role one other (Talk s r arms) (Talk t q theirs) a b h =
    let h2 = and_last (r.0 == role.0) ((q.0 == role.0) && ((s.0 == t.0) && same_sorts theirs arms)) h in
    let h3 = and_last (q.0 == role.0) ((s.0 == t.0) && same_sorts theirs arms) h2 in
    let er = role_by r role (and_first (r.0 == role.0) ((q.0 == role.0) && ((s.0 == t.0) && same_sorts theirs arms)) h) in
    let eq = role_by q role (and_first (q.0 == role.0) ((s.0 == t.0) && same_sorts theirs arms) h2) in
    let es = role_by s t (and_first (s.0 == t.0) (same_sorts theirs arms) h3) in
    let P : Role → Type 0 = λ z. slice_get pr.nodes one ≡ Some (Talk s z arms) in
    let Q : Role → Role → Type 0 = λ y z. slice_get pr.nodes other ≡ Some (Talk y z theirs) in
    BothReceive s arms theirs (subst P er a) (subst₂ Q (sym es) eq b)
    (λ x y m k l. sorts_same theirs arms (and_last (s.0 == t.0) (same_sorts theirs arms) h3) x y (contained (map choice_of arms) x m) (contained (map choice_of theirs) y k) l)

pub agree_sound : (pr : Protocol_data) (role : Role) (one other : ℕ) (n m : Node) → slice_get pr.nodes one ≡ Some n → slice_get pr.nodes other ≡ Some m → agree_nodes role n m ≡ true
    → Agree pr role one other
agree_sound pr role one other n m a b h = elim (or_split (both_send role n m) (both_receive role n m) h) [
  | inl k ↦ send_agree pr role one other n m a b k
  | inr k ↦ receive_agree pr role one other n m a b k
]

pub agree_whole : (pr : Protocol_data) (role : Role) (one other : ℕ) (n m : Node) → slice_get pr.nodes one ≡ Some n → slice_get pr.nodes other ≡ Some m → Agree pr role one other
    → agree_nodes role n m ≡ true
agree_whole pr role one other n m a b (BothSend peer arms theirs t u same) =
    let en : Talk role peer arms ≡ n = cc (a, t) in
    let em : Talk role peer theirs ≡ m = cc (b, u) in
    let P : Node → Node → Type 0 = λ x y. agree_nodes role x y ≡ true in
    let r = by_eq role.0 role.0 refl in
    let p = by_eq peer.0 peer.0 refl in
    subst₂ P en em (or_left (both_send role (Talk role peer arms) (Talk role peer theirs)) (both_receive role (Talk role peer arms) (Talk role peer theirs))
    (and_both (role.0 == role.0) ((role.0 == role.0) && ((peer.0 == peer.0) && (has_all theirs arms && has_all arms theirs))) r
    (and_both (role.0 == role.0) ((peer.0 == peer.0) && (has_all theirs arms && has_all arms theirs)) r
    (and_both (peer.0 == peer.0) (has_all theirs arms && has_all arms theirs) p
    (and_both (has_all theirs arms) (has_all arms theirs)
    (all_had theirs arms (λ c k. contained (map choice_of theirs) c ((same c).0 (contains (map choice_of arms) c k))))
    (all_had arms theirs (λ c k. contained (map choice_of arms) c ((same c).1 (contains (map choice_of theirs) c k)))))))))
agree_whole pr role one other n m a b (BothReceive peer arms theirs t u same) =
    let en : Talk peer role arms ≡ n = cc (a, t) in
    let em : Talk peer role theirs ≡ m = cc (b, u) in
    let P : Node → Node → Type 0 = λ x y. agree_nodes role x y ≡ true in
    let r = by_eq role.0 role.0 refl in
    let p = by_eq peer.0 peer.0 refl in
    subst₂ P en em (or_right (both_send role (Talk peer role arms) (Talk peer role theirs)) (both_receive role (Talk peer role arms) (Talk peer role theirs))
    (and_both (role.0 == role.0) ((role.0 == role.0) && ((peer.0 == peer.0) && same_sorts theirs arms)) r
    (and_both (role.0 == role.0) ((peer.0 == peer.0) && same_sorts theirs arms) r
    (and_both (peer.0 == peer.0) (same_sorts theirs arms) p
    (same_sorts_shown theirs arms (λ x y k l e. same x y (contains (map choice_of arms) x k) (contains (map choice_of theirs) y l) e))))))

pub agree_turned : (pr : Protocol_data) (role : Role) (one other : ℕ) → Agree pr role one other → Agree pr role other one
agree_turned pr role one other (BothSend peer arms theirs t u same) = BothSend peer theirs arms u t (λ c. ((same c).1, (same c).0))
agree_turned pr role one other (BothReceive peer arms theirs t u same) = BothReceive peer theirs arms u t (λ x y m k e. sym (same y x k m (sym e)))

at_unmap : (arms : List Arm) (i : ℕ) (c : LabelChoice) → slice_get (map choice_of arms) i ≡ Some c → (a : Arm) × (slice_get arms i ≡ Some a) × (choice_of a ≡ c)
at_unmap [] i c h = absurd (cc (h))
at_unmap (x ∷ arms) zero c h = (x, refl, cc (h))
at_unmap (x ∷ arms) (suc i) c h = at_unmap arms i c h

one_sort : (arms : List Arm) → ((i j : ℕ) (a b : Arm) → slice_get arms i ≡ Some a → slice_get arms j ≡ Some b → a.label ≡ b.label → i ≡ j) → HaveSameSorts arms arms
one_sort arms once = λ x y m k e.
    let p = among_at (map choice_of arms) x (contained (map choice_of arms) x m) in
    let q = among_at (map choice_of arms) y (contained (map choice_of arms) y k) in
    let a = at_unmap arms p.0 x p.1 in
    let b = at_unmap arms q.0 y q.1 in
    let same = once p.0 q.0 a.0 b.0 a.1 b.1 (ap (λ (z : LabelChoice). z.label) a.2 ∙ e ∙ sym (ap (λ (z : LabelChoice). z.label) b.2)) in
    let P : ℕ → Type 0 = λ z. slice_get (map choice_of arms) z ≡ Some y in
    let q' = subst P (sym same) q.1 in
    let xy : x ≡ y = cc (p.1, q') in
    ap (λ (z : LabelChoice). z.sort) xy

pub agree_self : (pr : Protocol_data) (role : Role) (n : ℕ) → IsWellFormed pr → Involves pr role n → Agree pr role n n
agree_self pr role n wf i = elim i.part [
  | inl e ↦ (let P : Role → Type 0 = λ z. Talks pr n z i.receiver i.arms in let t = subst P e i.talks in
      BothSend i.receiver i.arms i.arms t t (λ c. ((λ h. h), (λ h. h))))
  | inr e ↦ (let P : Role → Type 0 = λ z. Talks pr n i.sender z i.arms in let t = subst P e i.talks in
      BothReceive i.sender i.arms i.arms t t (one_sort i.arms (wf.talks n i.sender i.receiver i.arms i.talks).once))
]

pub agrees_at : (pr : Protocol_data) (role : Role) (talks : List ℕ) (h k : ℕ) → Agree pr role (get_or talks h 0) (get_or talks k 0) → AgreeAt pr role talks h k
agrees_at pr role talks h k a = λ c d hc hd.
    let P : ℕ → ℕ → Type 0 = λ x y. Agree pr role x y in subst₂ P (at_read talks h c 0 hc) (at_read talks k d 0 hd) a

pub clashes_at : (pr : Protocol_data) (role : Role) (talks : List ℕ) (h k : ℕ) → (Agree pr role (get_or talks h 0) (get_or talks k 0) → ⊥) → (c d : ℕ) → slice_get talks h ≡ Some c
    → slice_get talks k ≡ Some d
    → Agree pr role c d → ⊥
clashes_at pr role talks h k n c d hc hd a = let P : ℕ → ℕ → Type 0 = λ x y. Agree pr role x y in n (subst₂ P (sym (at_read talks h c 0 hc)) (sym (at_read talks k d 0 hd)) a)

pub before_more : (pr : Protocol_data) (role : Role) (talks : List ℕ) (e k : ℕ) → AgreeBefore pr role talks e k → Agree pr role (get_or talks e 0) (get_or talks k 0)
    → AgreeBefore pr role talks (e + 1) k
before_more pr role talks e k b a = λ h lt. elim (cases_lt h e) [
  | inl l ↦ b h l
  | inr l ↦ (let same : e ≡ h = omega (arith, l, lt) in let P : ℕ → Type 0 = λ z. AgreeAt pr role talks z k in subst P same (agrees_at pr role talks e k a))
]

pub all_more : (pr : Protocol_data) (role : Role) (talks : List ℕ) (k : ℕ) → AllAgree pr role talks k → AgreeBefore pr role talks k k → AllAgree pr role talks (k + 1)
all_more pr role talks k all b = λ h j lt le. elim (cases_lt j k) [
  | inl l ↦ all h j lt l
  | inr l ↦ (let same : k ≡ j = omega (arith, l, le) in let P : ℕ → Type 0 = λ z. AgreeAt pr role talks h z in subst P same (b h (omega (arith, lt, l, le))))
]

pub all_all : (pr : Protocol_data) (role : Role) (talks : List ℕ) (k : ℕ) → length talks ≤ k → AllAgree pr role talks k → AllAgree pr role talks (length talks)
all_all pr role talks k le all = λ h j lt jl. all h j lt (omega (arith, jl, le))

pub first_of_talks : (pr : Protocol_data) (role : Role) (front : Front_data) (a : ℕ) (b : Option ℕ) → TalksClash pr role front.talks a b → FirstClash pr role front a b
first_of_talks pr role front a b t =
    let P : Option ℕ → Type 0 = λ z. FirstClash pr role front a z in
    subst P (sym t.b_is) (OfTalks t.later t.i t.k t.a_stands t.b_stands t.clashes.before (t.clashes.clash a t.later t.a_stands t.b_stands)
    (λ c d h k hc hd lt w. elim w [
      | inl l ↦ t.earlier h k lt l c d hc hd
      | inr l ↦ (let Q : ℕ → Type 0 = λ z. slice_get front.talks z ≡ Some d in t.clashes.first h l.1 c d hc (subst Q l.0 hd))
    ]))

pub first_of_end : (pr : Protocol_data) (role : Role) (front : Front_data) (a : ℕ) (b : Option ℕ) → AllAgree pr role front.talks (length front.talks)
    → front.ends ≡ true → slice_get front.talks 0 ≡ Some a → b ≡ None → FirstClash pr role front a b
first_of_end pr role front a b all e s n =
    let P : Option ℕ → Type 0 = λ z. FirstClash pr role front a z in
    subst P (sym n) (OfTheEnd e s (λ c d h k hc hd lt. all h k lt (at_short front.talks k d hd) c d hc hd))

pub merges_by : (pr : Protocol_data) (role : Role) (front : Front_data) → IsWellFormed pr → ((t : ℕ) → Among front.talks t → Involves pr role t) → AllAgree pr role front.talks (length front.talks)
    → HasEndAlone front → Merges pr role front
merges_by pr role front wf inv all alone = record {
  agree = λ c d mc md.
      let x = contained front.talks c mc in
      let y = contained front.talks d md in
      let p = among_at front.talks c x in
      let q = among_at front.talks d y in
      elim (cases_lt p.0 q.0) [
        | inl l ↦ all p.0 q.0 l (at_short front.talks q.0 d q.1) c d p.1 q.1
        | inr l ↦ elim (cases_lt q.0 p.0) [
          | inl k ↦ agree_turned pr role d c (all q.0 p.0 k (at_short front.talks p.0 c p.1) d c q.1 p.1)
          | inr k ↦ (let same : p.0 ≡ q.0 = omega (arith, l, k) in
              let P : ℕ → Type 0 = λ z. slice_get front.talks z ≡ Some c in
              let r = subst P same p.1 in
              let cd : c ≡ d = cc (r, q.1) in
              let Q : ℕ → Type 0 = λ z. Agree pr role c z in
              subst Q cd (agree_self pr role c wf (inv c x)))
        ]
      ];
  alone = alone;
}

-- where the role sends, what agrees with one talk agrees with each other
through_send : (pr : Protocol_data) (role receiver : Role) (arms : List Arm) (f c d : ℕ) → Talks pr f role receiver arms → (role ≡ receiver → ⊥) → Agree pr role f c → Agree pr role f d
    → Agree pr role c d
through_send pr role receiver arms f c d t apart (BothSend p xs bs t1 u1 s1) (BothSend q cs ds t2 u2 s2) =
    let pq : p ≡ q = cc (t1, t2) in
    let same : xs ≡ cs = cc (t1, t2) in
    let P : Role → Type 0 = λ z. Talks pr d role z ds in
    let Q : List Arm → Type 0 = λ z. HaveSameChoices z ds in
    let s3 = subst Q (sym same) s2 in
    BothSend p bs ds u1 (subst P (sym pq) u2) (λ x. ((λ h. (s3 x).0 ((s1 x).1 h)), (λ h. (s1 x).0 ((s3 x).1 h))))
through_send pr role receiver arms f c d t apart (BothSend p xs bs t1 u1 s1) (BothReceive q cs ds t2 u2 s2) = (let e : role ≡ receiver = cc (t, t2) in absurd (apart e))
through_send pr role receiver arms f c d t apart (BothReceive p xs bs t1 u1 s1) other = (let e : role ≡ receiver = cc (t, t1) in absurd (apart e))

first_sends : (pr : Protocol_data) (role : Role) (f c d : ℕ) (node : Node) → IsWellFormed pr → slice_get pr.nodes f ≡ Some node → is_sender_in role node ≡ true → Agree pr role f c → Agree pr role f d
    → Agree pr role c d
first_sends pr role f c d Finished wf is h a b = absurd (cc (h))
first_sends pr role f c d (Talk s r arms) wf is h a b =
    let e = role_by s role h in
    let P : Role → Type 0 = λ z. slice_get pr.nodes f ≡ Some (Talk z r arms) in
    let t = subst P e is in
    through_send pr role r arms f c d t ((wf.talks f role r arms t).others) a b

pub one_for_all : (pr : Protocol_data) (role : Role) (talks : List ℕ) (k : ℕ) (node : Node) → IsWellFormed pr → slice_get pr.nodes (get_or talks 0 0) ≡ Some node → is_sender_in role node ≡ true
    → k < length talks
    → AllAgree pr role talks k → AgreeBefore pr role talks 1 k → AgreeBefore pr role talks k k
one_for_all pr role talks k node wf is h short all before zero lt = before zero (omega arith)
one_for_all pr role talks k node wf is h short all before (suc i) lt = λ c d hc hd.
    let first = at_within talks 0 (omega (arith, short)) in
    let f = first.0 in
    let P : ℕ → Type 0 = λ z. slice_get pr.nodes z ≡ Some node in
    first_sends pr role f c d node wf (subst P (at_read talks 0 f 0 first.1) is) h (all 0 (suc i) (omega arith) lt f c first.1 hc) (before 0 (omega arith) f d first.1 hd)

pub before_some : (pr : Protocol_data) (role : Role) (talks : List ℕ) (e m k : ℕ) → m ≤ e → AgreeBefore pr role talks e k → AgreeBefore pr role talks m k
before_some pr role talks e m k le b = λ h lt. b h (omega (arith, le, lt))

-- both of two talks agree
pub pair_agrees : (pr : Protocol_data) (role : Role) (talks : List ℕ) → length talks ≡ 2 → Agree pr role (get_or talks 0 0) (get_or talks 1 0) → AllAgree pr role talks (length talks)
pair_agrees pr role talks two a h k lt w =
    let first : 0 ≡ h = omega (arith, lt, w, two) in
    let last : 1 ≡ k = omega (arith, lt, w, two) in
    let P : ℕ → Type 0 = λ z. AgreeAt pr role talks z k in
    let Q : ℕ → Type 0 = λ z. AgreeAt pr role talks 0 z in
    subst P first (subst Q last (agrees_at pr role talks 0 1 a))
