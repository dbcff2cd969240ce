-- The spots of a machine that follows itself in one list: all of them, each once, and how many acts are owed at them.
use Rattle.std.proofs.Common.{◌≡◌, ◌⊎◌, inl, inr, ℕ, ◌≤◌, ◌+◌, Bool, true, false, List, [], ◌∷◌, ◌++◌, length, map, max, refl, sym, ap, ◌∙◌, subst, arith, zero, suc, Some, None, Option, slice_get, drop, length-append, if◌then◌else◌, ltb}
use Rattle.std.proofs.Math.Nat.{max-eq_left}
use Rattle.std.proofs.lemmas.Bool.{lt-ltb}
use Rattle.std.proofs.lemmas.List.{drop_all, map-append}
use Rattle.std.proofs.lemmas.Option.{none-some, same_Some}
use Rattle.rs_model.specs.Data.{Machine_data}
use Rattle.rs_model.specs.declared.graph.Arm.{Arm}
use Rattle.rs_model.specs.declared.graph.Label.{Label}
use Rattle.rs_model.specs.declared.graph.Role.{Role}
use Rattle.rs_model.specs.declared.machines.Act.{Act}
use Rattle.rs_model.specs.declared.machines.Act.TheVariants as act
use Rattle.rs_model.specs.declared.machines.State.{State}
use Rattle.rs_model.specs.declared.machines.State.TheVariants.{Done, Puts, Takes}
use Rattle.rs_derive.proofs.Mapped.{map_at, map_of}
use Rattle.rs_derive.specs.Derivations.{IsProper}
use Rattle.rs_derive.specs.Figures.{greatest}
use Rattle.rs_derive.specs.Moves.{Spot, owing_receive}
use Rattle.rs_derive.specs.Within.{HasLabelsOnce}
use Rattle.rs_graph.proofs.Growth.{at_in, at_short, at_within, drop_here, has_left, in_at}
use Rattle.rs_graph.specs.Lists.{Among}
use Rattle.rs_graph.specs.Order.{Once}
use Rattle.rs_search.proofs.Choices.{among_map}
use Rattle.rs_search.specs.Itself.{IsOfItself, Even, Owes, even}
use Rattle.rs_search.specs.OwnSpots.{owing_at}

-- lists one after the other

has_right : {X : Type 0} (xs ys : List X) (x : X) → Among ys x → Among (xs ++ ys) x
has_right [] ys x h = h
has_right (y ∷ xs) ys x h = inr (has_right xs ys x h)

in_either : {X : Type 0} (xs ys : List X) (x : X) → Among (xs ++ ys) x → Among xs x ⊎ Among ys x
in_either [] ys x h = inr h
in_either (y ∷ xs) ys x (inl e) = inl (inl e)
in_either (y ∷ xs) ys x (inr h) = elim (in_either xs ys x h) [ inl a ↦ inl (inr a) | inr a ↦ inr a ]

once_first : {X : Type 0} (x : X) (xs : List X) → Once xs → (Among xs x → ⊥) → Once (x ∷ xs)
once_first x xs once out zero zero y e f = refl
once_first x xs once out zero (suc j) y e f = absurd (out (in_at xs j x (f ∙ sym e)))
once_first x xs once out (suc i) zero y e f = absurd (out (in_at xs i x (e ∙ sym f)))
once_first x xs once out (suc i) (suc j) y e f = ap suc (once i j y e f)

once_both : {X : Type 0} (xs ys : List X) → Once xs → Once ys → ((x : X) → Among xs x → Among ys x → ⊥) → Once (xs ++ ys)
once_both [] ys ox oy apart = oy
once_both (x ∷ xs) ys ox oy apart =
    once_first x (xs ++ ys)
    (once_both xs ys (λ i j z a b. let e = ox (suc i) (suc j) z a b in omega arith) oy (λ z a b. apart z (inr a) b))
    (λ h. elim (in_either xs ys x h) [
      | inl a ↦ (let p = at_in xs x a in let e = ox zero (suc p.0) x refl p.1 in let bad : ⊥ = omega arith in bad)
      | inr b ↦ apart x (inl refl) b
    ])

-- the spots at these states, which have the numbers from k on: both stand at one, or an act is owed that the one has passed
abbrev pub own_spots : ℕ → List State → List Spot
own_spots k [] = []
own_spots k (st ∷ states) = even k ∷ owing_at k st ++ own_spots (k + 1) states

-- what is owed at a state

record Owing (s : ℕ) (st : State) (x : Spot) : Type 0 where
  pub peer : Role
  pub arms : List Arm
  pub place : ℕ
  pub arm : Arm
  pub state : st ≡ Takes peer arms
  pub stands : slice_get arms place ≡ Some arm
  pub is : x ≡ owing_receive (even s) peer arm

owing_of : (s : ℕ) (st : State) (x : Spot) → Among (owing_at s st) x → Owing s st x
owing_of s Done x h = absurd h
owing_of s (Puts q arms) x h = absurd h
owing_of s (Takes q arms) x h = let a = among_map (λ (b : Arm). owing_receive (even s) q b) arms x h in
    record { peer = q; arms = arms; place = a.0; arm = a.1; state = refl; stands = a.2; is = sym a.3 }

owing_state : (s : ℕ) (st : State) (x : Spot) → Among (owing_at s st) x → x.state ≡ s
owing_state s st x h = let o = owing_of s st x h in ap (λ (p : Spot). p.state) o.is

owing_one : (s : ℕ) (st : State) (x : Spot) → Among (owing_at s st) x → length x.pending ≡ 1
owing_one s st x h = let o = owing_of s st x h in ap (λ (p : Spot). length p.pending) o.is

pub owing_in : (s i : ℕ) (q : Role) (arms : List Arm) (b : Arm) → slice_get arms i ≡ Some b → Among (owing_at s (Takes q arms)) (owing_receive (even s) q b)
owing_in s i q arms b e = in_at (map (λ (a : Arm). owing_receive (even s) q a) arms) i (owing_receive (even s) q b) (map_at (λ (a : Arm). owing_receive (even s) q a) arms i b e)

abbrev first_label : List Act → Option Label
first_label [] = None
first_label (act.Puts q l so ∷ later) = Some l
first_label (act.Takes q l so ∷ later) = Some l

owing_label : (s : ℕ) (q : Role) (a b : Arm) → owing_receive (even s) q a ≡ owing_receive (even s) q b → a.label ≡ b.label
owing_label s q a b e = same_Some a.label b.label (ap (λ (p : Spot). first_label p.pending) e)

owing_once : (s : ℕ) (st : State) → ((q : Role) (arms : List Arm) → st ≡ Takes q arms → HasLabelsOnce arms) → Once (owing_at s st)
owing_once s Done h = λ i j x e f. absurd (none-some x e)
owing_once s (Puts q arms) h = λ i j x e f. absurd (none-some x e)
owing_once s (Takes q arms) h = λ i j x e f. (
    let a = map_of (λ (b : Arm). owing_receive (even s) q b) arms i x e in
    let b = map_of (λ (b : Arm). owing_receive (even s) q b) arms j x f in
    h q arms refl i j a.0 b.0 a.1 b.1 (owing_label s q a.0 b.0 (a.2 ∙ sym b.2)))

-- what stands in the list of all

own_from : (k : ℕ) (states : List State) (x : Spot) → Among (own_spots k states) x → k ≤ x.state
own_from k [] x h = absurd h
own_from k (st ∷ states) x (inl e) = let q = ap (λ (p : Spot). p.state) e in omega arith
own_from k (st ∷ states) x (inr h) = elim (in_either (owing_at k st) (own_spots (k + 1) states) x h) [
  | inl a ↦ (let q = owing_state k st x a in omega arith)
  | inr a ↦ (let q = own_from (k + 1) states x a in omega arith)
]

own_once_from : (k : ℕ) (states : List State) → ((i : ℕ) (q : Role) (arms : List Arm) → slice_get states i ≡ Some (Takes q arms) → HasLabelsOnce arms) → Once (own_spots k states)
own_once_from k [] h = λ i j x e f. absurd (none-some x e)
own_once_from k (st ∷ states) h =
    once_first (even k) (owing_at k st ++ own_spots (k + 1) states)
    (once_both (owing_at k st) (own_spots (k + 1) states) (owing_once k st (λ q arms e. h 0 q arms (ap Some e))) (own_once_from (k + 1) states (λ i q arms e. h (suc i) q arms e))
    (λ x a b. let s = owing_state k st x a in let l = own_from (k + 1) states x b in let bad : ⊥ = omega arith in bad))
    (λ m. elim (in_either (owing_at k st) (own_spots (k + 1) states) (even k) m) [
      | inl a ↦ (let bad : 0 ≡ 1 = owing_one k st (even k) a in let no : ⊥ = omega arith in no)
      | inr b ↦ (let l = own_from (k + 1) states (even k) b in let bad : ⊥ = omega arith in bad)
    ])

-- each spot of a machine that follows itself stands once among them
pub own_once : (m : Machine_data) → IsProper m → Once (own_spots 0 m.states)
own_once m w = own_once_from 0 m.states (λ i q arms e. (w.1.takes i q arms e).once)

own_kind_from : (m : Machine_data) (k : ℕ) (states : List State) → ((i : ℕ) (st : State) → slice_get states i ≡ Some st → slice_get m.states (k + i) ≡ Some st) → (x : Spot)
    → Among (own_spots k states) x → IsOfItself m x
own_kind_from m k [] there x h = absurd h
own_kind_from m k (st ∷ states) there x h = elim h [
  | inl e ↦ Even k (at_short m.states k st here) (sym e)
  | inr later ↦ elim (in_either (owing_at k st) (own_spots (k + 1) states) x later) [
    | inl a ↦ (let o = owing_of k st x a in Owes k o.place o.peer o.arms o.arm (here ∙ ap Some o.state) o.stands o.is)
    | inr a ↦ own_kind_from m (k + 1) states (λ i s e. let n : k + suc i ≡ k + 1 + i = omega arith in subst (λ (z : ℕ). slice_get m.states z ≡ Some s) n (there (suc i) s e)) x a
  ]
]
  where
    here : slice_get m.states k ≡ Some st
    here = let n : k + 0 ≡ k = omega arith in subst (λ (z : ℕ). slice_get m.states z ≡ Some st) n (there 0 st refl)

pub own_kind : (m : Machine_data) (x : Spot) → Among (own_spots 0 m.states) x → IsOfItself m x
own_kind m = own_kind_from m 0 m.states (λ i st e. let n : i ≡ 0 + i = omega arith in subst (λ (z : ℕ). slice_get m.states z ≡ Some st) n e)

own_at : (k i : ℕ) (states : List State) (st : State) (x : Spot) → slice_get states i ≡ Some st → (even (k + i) ≡ x) ⊎ Among (owing_at (k + i) st) x → Among (own_spots k states) x
own_at k i [] st x e h = absurd (none-some st e)
own_at k zero (s ∷ states) st x e h =
    let n : k + 0 ≡ k = omega arith in
    let q : s ≡ st = same_Some s st e in
    elim (subst (λ (z : ℕ). (even z ≡ x) ⊎ Among (owing_at z st) x) n h) [
      | inl a ↦ inl a
      | inr a ↦ inr (has_left (owing_at k s) (own_spots (k + 1) states) x (subst (λ (z : State). Among (owing_at k z) x) (sym q) a))
    ]
own_at k (suc i) (s ∷ states) st x e h =
    let n : k + suc i ≡ k + 1 + i = omega arith in
    inr (has_right (owing_at k s) (own_spots (k + 1) states) x (own_at (k + 1) i states st x e (subst (λ (z : ℕ). (even z ≡ x) ⊎ Among (owing_at z st) x) n h)))

pub own_all : (m : Machine_data) (x : Spot) → IsOfItself m x → Among (own_spots 0 m.states) x
own_all m x (Even s lt e) =
    let st = at_within m.states s lt in
    let n : 0 + s ≡ s = omega arith in
    own_at 0 s m.states st.0 x st.1 (inl (ap even n ∙ sym e))
own_all m x (Owes s i q arms b es eb e) =
    let n : s ≡ 0 + s = omega arith in
    own_at 0 s m.states (Takes q arms) x es (inr (subst (λ (z : ℕ). Among (owing_at z (Takes q arms)) x) n (subst (λ (p : Spot). Among (owing_at s (Takes q arms)) p) (sym e) (owing_in s i q arms b eb))))

-- how many there are, state by state

own_behind : (states : List State) (k : ℕ) (st : State) → slice_get states k ≡ Some st → own_spots k (drop k states) ≡ even k ∷ owing_at k st ++ own_spots (k + 1) (drop (k + 1) states)
own_behind states k st e = ap (own_spots k) (drop_here states k st e)

pub count_on : (states : List State) (k : ℕ) (st : State) (nodes owing total : ℕ) → slice_get states k ≡ Some st → owing ≡ length (owing_at k st)
    → nodes + length (own_spots k (drop k states)) ≡ total → nodes + (owing + 1) + length (own_spots (k + 1) (drop (k + 1) states)) ≡ total
count_on states k st nodes owing total e o h =
    let l = ap (λ (z : List Spot). length z) (own_behind states k st e) in
    let a = length-append (owing_at k st) (own_spots (k + 1) (drop (k + 1) states)) in
    omega arith

pub count_all : (states : List State) (k nodes total : ℕ) → length states ≤ k → nodes + length (own_spots k (drop k states)) ≡ total → nodes ≡ total
count_all states k nodes total le h = let e = ap (λ (z : List State). length (own_spots k z)) (drop_all k states le) in omega arith

-- how many acts are owed at most

abbrev pub owed : Spot → ℕ
owed p = length p.pending

abbrev pub flag : Bool → ℕ
flag b = if b then 1 else 0

greatest_both : (xs ys : List ℕ) (m : ℕ) → greatest (xs ++ ys) m ≡ greatest ys (greatest xs m)
greatest_both [] ys m = refl
greatest_both (x ∷ xs) ys m = greatest_both xs ys (max m x)

ones : (xs : List Spot) → ((x : Spot) → Among xs x → owed x ≡ 1) → greatest (map owed xs) 1 ≡ 1
ones [] h = refl
ones (x ∷ xs) h = ap (λ (z : ℕ). greatest (map owed xs) (max 1 z)) (h x (inl refl)) ∙ ones xs (λ y m. h y (inr m))

some_ones : (xs : List Spot) → ((x : Spot) → Among xs x → owed x ≡ 1) → flag (ltb 0 (length xs)) ≡ greatest (map owed xs) 0
some_ones [] h = refl
some_ones (x ∷ xs) h =
    ap flag (lt-ltb 0 (suc (length xs)) (omega arith)) ∙ sym (ap (λ (z : ℕ). greatest (map owed xs) (max 0 z)) (h x (inl refl)) ∙ ones xs (λ y m. h y (inr m)))

-- where some act is owed before, none more is owed at a state; where none is, one is if the state receives
pub flag_kept : (k : ℕ) (st : State) (before after : Bool) → before ≡ true → after ≡ before → flag after ≡ greatest (map owed (owing_at k st)) (flag before)
flag_kept k st before after e same =
    ap flag (same ∙ e) ∙ sym (ones (owing_at k st) (owing_one k st)) ∙ ap (λ (b : Bool). greatest (map owed (owing_at k st)) (flag b)) (sym e)

pub flag_new : (k : ℕ) (st : State) (owing : ℕ) (before after : Bool) → before ≡ false → after ≡ ltb 0 owing → owing ≡ length (owing_at k st)
    → flag after ≡ greatest (map owed (owing_at k st)) (flag before)
flag_new k st owing before after e is' count =
    ap flag is' ∙ ap (λ (z : ℕ). flag (ltb 0 z)) count ∙ some_ones (owing_at k st) (owing_one k st) ∙ ap (λ (b : Bool). greatest (map owed (owing_at k st)) (flag b)) (sym e)

pub owes_on : (states : List State) (k : ℕ) (st : State) (before after total : ℕ) → slice_get states k ≡ Some st → after ≡ greatest (map owed (owing_at k st)) before
    → greatest (map owed (own_spots k (drop k states))) before ≡ total → greatest (map owed (own_spots (k + 1) (drop (k + 1) states))) after ≡ total
owes_on states k st before after total e is' h =
    let here = owing_at k st in
    let later = own_spots (k + 1) (drop (k + 1) states) in
    let z : max before 0 ≡ before = max-eq_left (omega arith) in
    ap (λ (n : ℕ). greatest (map owed later) n) is'
    ∙ sym (greatest_both (map owed here) (map owed later) before)
    ∙ ap (λ (ns : List ℕ). greatest ns before) (sym (map-append owed here later))
    ∙ ap (λ (n : ℕ). greatest (map owed (here ++ later)) n) (sym z)
    ∙ ap (λ (ps : List Spot). greatest (map owed ps) before) (sym (own_behind states k st e))
    ∙ h

pub owes_all : (states : List State) (k before total : ℕ) → length states ≤ k → greatest (map owed (own_spots k (drop k states))) before ≡ total → before ≡ total
owes_all states k before total le h = sym (ap (λ (z : List State). greatest (map owed (own_spots k z)) before) (drop_all k states le)) ∙ h
