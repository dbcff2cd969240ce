-- What a turn does to a scene: what is drawn of a role and what is left of it stay the same together.
use Rattle.std.proofs.Common.{◌≡◌, ◌≢◌, ◌⊎◌, inl, inr, ℕ, zero, suc, ◌+◌, ◌-◌, ◌<◌, ◌≤◌, Bool, true, false, nat_lt, ◌==◌, if◌then◌else◌, List, [], ◌∷◌, ◌++◌, drop, length, map, append_assoc, Option, Some, None, slice_get, slice_index_or, slice_set, refl, sym, ap, ◌∙◌, subst, arith}
use Rattle.std.proofs.lemmas.Bool.{lt-ltb, le-ltb, ltb-true}
use Rattle.std.proofs.lemmas.Bool.Decides.{eqb_tells}
use Rattle.std.proofs.lemmas.List.{append-nil, get_or-set_same, get_or-set_other, length-set}
use Rattle.rs_model.specs.declared.graph.Label.{Label}
use Rattle.rs_model.specs.declared.graph.Role.{Role}
use Rattle.rs_model.specs.declared.machines.Act.{Act}
use Rattle.rs_model.specs.declared.machines.Act.TheVariants as act
use Rattle.rs_model.specs.declared.values.Sort.{Sort}
use Rattle.rs_run_pictures.specs.Rounds.{Scene_data, acts_by, made, made_if_possible, many_waiting, next_act, round, rounds, rounds_for, turn, turns, with_waiting}
use Rattle.rs_run_pictures.specs.declared.scenes.DrawnAct.{DrawnAct}

-- the acts of a role that are left
abbrev pub left_of : Scene_data → ℕ → List Act
left_of s p = slice_index_or s.left p []

-- what is drawn of the role, and what is left of it
abbrev pub all_of : Scene_data → ℕ → List Act
all_of s p = acts_by p s.drawn ++ left_of s p

-- ---- turns by cases

-- a list that has a first item
abbrev pub Starts : List Act → Act → List Act → Type 0
Starts xs a later = xs ≡ a ∷ later

pub turn_of_none : (capacity p : ℕ) (s : Scene_data) → left_of s p ≡ [] → turn capacity p s ≡ s
turn_of_none capacity p s e = ap (λ (xs : List Act). made_if_possible capacity p (slice_get xs 0) s) e

pub turn_of_some : (capacity p : ℕ) (s : Scene_data) (a : Act) (later : List Act) → Starts (left_of s p) a later → turn capacity p s ≡ made_if_possible capacity p (Some a) s
turn_of_some capacity p s a later e = ap (λ (xs : List Act). made_if_possible capacity p (slice_get xs 0) s) e

if_true : {A : Type 0} (b : Bool) (x y : A) → b ≡ true → (if b then x else y) ≡ x
if_true b x y e = ap (λ (z : Bool). if z then x else y) e

if_false : {A : Type 0} (b : Bool) (x y : A) → b ≡ false → (if b then x else y) ≡ y
if_false b x y e = ap (λ (z : Bool). if z then x else y) e

pub send_made : (capacity p : ℕ) (s : Scene_data) (peer : Role) (l : Label) (so : Sort) → many_waiting s.waiting p peer.0 < capacity
    → made_if_possible capacity p (Some (act.Puts peer l so)) s ≡ made s p (act.Puts peer l so) p peer.0 (many_waiting s.waiting p peer.0 + 1)
send_made capacity p s peer l so low = if_true (nat_lt (many_waiting s.waiting p peer.0) capacity) _ s (lt-ltb _ capacity low)

pub send_waits : (capacity p : ℕ) (s : Scene_data) (peer : Role) (l : Label) (so : Sort) → capacity ≤ many_waiting s.waiting p peer.0
    → made_if_possible capacity p (Some (act.Puts peer l so)) s ≡ s
send_waits capacity p s peer l so full = if_false (nat_lt (many_waiting s.waiting p peer.0) capacity) _ s (le-ltb _ capacity full)

pub receive_made : (capacity p : ℕ) (s : Scene_data) (peer : Role) (l : Label) (so : Sort) → 0 < many_waiting s.waiting peer.0 p
    → made_if_possible capacity p (Some (act.Takes peer l so)) s ≡ made s p (act.Takes peer l so) peer.0 p (many_waiting s.waiting peer.0 p - 1)
receive_made capacity p s peer l so some = if_true (nat_lt 0 (many_waiting s.waiting peer.0 p)) _ s (lt-ltb 0 _ some)

pub receive_waits : (capacity p : ℕ) (s : Scene_data) (peer : Role) (l : Label) (so : Sort) → many_waiting s.waiting peer.0 p ≤ 0
    → made_if_possible capacity p (Some (act.Takes peer l so)) s ≡ s
receive_waits capacity p s peer l so none = if_false (nat_lt 0 (many_waiting s.waiting peer.0 p)) _ s (le-ltb 0 _ none)

-- ---- what an act that is made leaves

pub within : (xs : List (List Act)) (p : ℕ) (a : Act) (later : List Act) → slice_index_or xs p [] ≡ a ∷ later → p < length xs
within [] p a later e = absurd (cc e)
within (x ∷ xs) zero a later e = omega arith
within (x ∷ xs) (suc p) a later e = let h = within xs p a later e in omega arith

pub left_same : (s : Scene_data) (p : ℕ) (a : Act) (later : List Act) (x y many : ℕ) → Starts (left_of s p) a later → left_of (made s p a x y many) p ≡ later
left_same s p a later x y many e = get_or-set_same s.left p (drop 1 (left_of s p)) [] (within s.left p a later e) ∙ ap (λ (z : List Act). drop 1 z) e

pub left_other : (s : Scene_data) (p r : ℕ) (a : Act) (x y many : ℕ) → r ≢ p → left_of (made s p a x y many) r ≡ left_of s r
left_other s p r a x y many ne = get_or-set_other s.left p r (drop 1 (left_of s p)) [] ne

eq_same : (x y : ℕ) → x ≡ y → (x == y) ≡ true
eq_same x y e = elim (eqb_tells x y) [ inl t ↦ t.0 | inr t ↦ absurd (t.1 e) ]

eq_other : (x y : ℕ) → x ≢ y → (x == y) ≡ false
eq_other x y ne = elim (eqb_tells x y) [ inl t ↦ absurd (ne t.1) | inr t ↦ t.0 ]

-- one item more, or not, before lists
one_before : {A : Type 0} (b : Bool) (x : A) (zs ys ws : List A) → zs ≡ ys ++ ws → (if b then x ∷ zs else zs) ≡ (if b then x ∷ ys else ys) ++ ws
one_before true x zs ys ws e = ap (λ z. x ∷ z) e
one_before false x zs ys ws e = e

one_before_same : {A : Type 0} (b : Bool) (x : A) (zs ys : List A) → zs ≡ ys → (if b then x ∷ zs else zs) ≡ (if b then x ∷ ys else ys)
one_before_same b x zs ys e = ap (λ z. if b then x ∷ z else z) e

by_same : (p role many : ℕ) (a : Act) (ds : List DrawnAct) → role ≡ p → acts_by p (ds ++ (record { role = role; act = a; waiting = many } ∷ [])) ≡ acts_by p ds ++ (a ∷ [])
by_same p role many a [] e = if_true (role == p) (a ∷ []) [] (eq_same role p e)
by_same p role many a (d ∷ ds) e = one_before (d.role == p) d.act (acts_by p (ds ++ (record { role = role; act = a; waiting = many } ∷ []))) (acts_by p ds) (a ∷ []) (by_same p role many a ds e)

by_other : (p role many : ℕ) (a : Act) (ds : List DrawnAct) → role ≢ p → acts_by p (ds ++ (record { role = role; act = a; waiting = many } ∷ [])) ≡ acts_by p ds
by_other p role many a [] ne = if_false (role == p) (a ∷ []) [] (eq_other role p ne)
by_other p role many a (d ∷ ds) ne = one_before_same (d.role == p) d.act (acts_by p (ds ++ (record { role = role; act = a; waiting = many } ∷ []))) (acts_by p ds) (by_other p role many a ds ne)

made_keeps : (s : Scene_data) (p : ℕ) (a : Act) (later : List Act) (x y many r : ℕ) → Starts (left_of s p) a later → all_of (made s p a x y many) r ≡ all_of s r
made_keeps s p a later x y many r e = elim (eqb_tells p r) [
  | inl t ↦ subst (λ (z : ℕ). all_of (made s p a x y many) z ≡ all_of s z) t.1 (
      ap (λ z. acts_by p (made s p a x y many).drawn ++ z) (left_same s p a later x y many e)
      ∙ ap (λ z. z ++ later) (by_same p p many a s.drawn refl)
      ∙ append_assoc (acts_by p s.drawn) (a ∷ []) later
      ∙ ap (λ z. acts_by p s.drawn ++ z) (sym e))
  | inr t ↦ ap (λ z. acts_by r (made s p a x y many).drawn ++ z) (left_other s p r a x y many (λ h. t.1 (sym h)))
      ∙ ap (λ z. z ++ left_of s r) (by_other r p many a s.drawn t.1)
]

turn_keeps : (capacity p : ℕ) (s : Scene_data) (r : ℕ) (xs : List Act) → left_of s p ≡ xs → all_of (turn capacity p s) r ≡ all_of s r
turn_keeps capacity p s r [] e = ap (λ (z : Scene_data). all_of z r) (turn_of_none capacity p s e)
turn_keeps capacity p s r (act.Puts peer l so ∷ later) e =
    ap (λ (z : Scene_data). all_of z r) (turn_of_some capacity p s (act.Puts peer l so) later e) ∙ go (nat_lt (many_waiting s.waiting p peer.0) capacity)
  where
    go : (b : Bool) → all_of (if b then made s p (act.Puts peer l so) p peer.0 (many_waiting s.waiting p peer.0 + 1) else s) r ≡ all_of s r
    go true = made_keeps s p (act.Puts peer l so) later p peer.0 (many_waiting s.waiting p peer.0 + 1) r e
    go false = refl
turn_keeps capacity p s r (act.Takes peer l so ∷ later) e =
    ap (λ (z : Scene_data). all_of z r) (turn_of_some capacity p s (act.Takes peer l so) later e) ∙ go (nat_lt 0 (many_waiting s.waiting peer.0 p))
  where
    go : (b : Bool) → all_of (if b then made s p (act.Takes peer l so) peer.0 p (many_waiting s.waiting peer.0 p - 1) else s) r ≡ all_of s r
    go true = made_keeps s p (act.Takes peer l so) later peer.0 p (many_waiting s.waiting peer.0 p - 1) r e
    go false = refl

turns_keep : (capacity many : ℕ) (s : Scene_data) (r : ℕ) → all_of (turns capacity many s) r ≡ all_of s r
turns_keep capacity zero s r = refl
turns_keep capacity (suc many) s r = turn_keeps capacity many (turns capacity many s) r (left_of (turns capacity many s) many) refl ∙ turns_keep capacity many s r

-- rounds change neither
pub rounds_keep : (capacity many : ℕ) (s : Scene_data) (r : ℕ) → all_of (rounds capacity many s) r ≡ all_of s r
rounds_keep capacity zero s r = refl
rounds_keep capacity (suc many) s r =
    let t = rounds capacity many s in
    turns_keep capacity (length t.left) t r ∙ rounds_keep capacity many s r

-- ---- rounds from the front

pub rounds_front : (capacity many : ℕ) (s : Scene_data) → rounds capacity (suc many) s ≡ rounds capacity many (round capacity s)
rounds_front capacity zero s = refl
rounds_front capacity (suc many) s = ap (λ (z : Scene_data). round capacity z) (rounds_front capacity many s)

-- the sum of numbers
abbrev pub added : List ℕ → ℕ
added [] = 0
added (n ∷ ns) = n + added ns

rounds_added : (capacity n m : ℕ) (s : Scene_data) → rounds capacity (n + m) s ≡ rounds capacity m (rounds capacity n s)
rounds_added capacity n zero s = (let e : n + 0 ≡ n = omega arith in ap (λ (z : ℕ). rounds capacity z s) e)
rounds_added capacity n (suc m) s =
    let e : n + suc m ≡ suc (n + m) = omega arith in ap (λ (z : ℕ). rounds capacity z s) e ∙ ap (λ (z : Scene_data). round capacity z) (rounds_added capacity n m s)

pub rounds_in_all : (capacity : ℕ) (ns : List ℕ) (s : Scene_data) → rounds_for capacity ns s ≡ rounds capacity (added ns) s
rounds_in_all capacity [] s = refl
rounds_in_all capacity (n ∷ ns) s = rounds_in_all capacity ns (rounds capacity n s) ∙ sym (rounds_added capacity n (added ns) s)

-- ---- where nothing is left, nothing changes

-- nothing is left to draw
abbrev pub Finished : Scene_data → Type 0
Finished s = (p : ℕ) → left_of s p ≡ []

pub turns_finished : (capacity many : ℕ) (s : Scene_data) → Finished s → turns capacity many s ≡ s
turns_finished capacity zero s h = refl
turns_finished capacity (suc many) s h = ap (λ (z : Scene_data). turn capacity many z) (turns_finished capacity many s h) ∙ turn_of_none capacity many s (h many)

pub rounds_finished : (capacity many : ℕ) (s : Scene_data) → Finished s → rounds capacity many s ≡ s
rounds_finished capacity zero s h = refl
rounds_finished capacity (suc many) s h = ap (λ (z : Scene_data). round capacity z) (rounds_finished capacity many s h) ∙ turns_finished capacity (length s.left) s h

-- the turns of later roles as well
pub later_finished : (capacity p j : ℕ) (s : Scene_data) → Finished (turns capacity p s) → turns capacity (p + j) s ≡ turns capacity p s
later_finished capacity p zero s h = (let e : p + 0 ≡ p = omega arith in ap (λ (z : ℕ). turns capacity z s) e)
later_finished capacity p (suc j) s h =
    let e : p + suc j ≡ suc (p + j) = omega arith in
    ap (λ (z : ℕ). turns capacity z s) e ∙ ap (λ (z : Scene_data). turn capacity (p + j) z) (later_finished capacity p j s h) ∙ turn_of_none capacity (p + j) (turns capacity p s) (h (p + j))
