-- The turns that are computed are the moves of the table.
use Rattle.std.proofs.Common.{◌≡◌, ◌⊎◌, inl, inr, ℕ, ◌<◌, ◌≤◌, Bool, true, false, List, [], ◌∷◌, ◌++◌, length, refl, sym, ap, ◌∙◌, subst, arith, ◌+◌, suc, zero, Some, None, Option, slice_get, map}
use Rattle.std.proofs.Common.{if◌then◌else◌, eqb, nat_lt, ◌||◌, take, drop, length-append}
use Rattle.std.proofs.lemmas.Bool.{cases_lt, ltb-true, lt-ltb, ne_eqb, and_parts, false≢true}
use Rattle.std.proofs.lemmas.Option.{none-some, same_Some}
use Rattle.rs_model.specs.Data.{Machine_data}
use Rattle.rs_model.specs.declared.graph.Arm.{Arm}
use Rattle.rs_model.specs.declared.graph.Role.{Role}
use Rattle.rs_model.specs.declared.machines.Act.{Act}
use Rattle.rs_model.specs.declared.machines.Act.TheVariants as act
use Rattle.rs_prefix.specs.Earliest.{without}
use Rattle.rs_derive.proofs.Mapped.{map_at, map_of}
use Rattle.rs_derive.proofs.Rows.{by_rule, complete, sound, served}
use Rattle.rs_derive.proofs.Ruled.{fitting}
use Rattle.rs_derive.specs.Due.{Chosen, Due, both_at, due, nexts_by}
use Rattle.rs_derive.specs.Moves.{Spot, arm_of, owing_receive, owing_send, spot}
use Rattle.rs_derive.specs.Rules.{RuleFits, all_serve, arms_at, arms_of, serves_some}
use Rattle.rs_derive.specs.declared.rules.Rule.{Rule}
use Rattle.rs_derive.specs.declared.rules.Rule.TheVariants.{Stops, Pays, SendsBoth, Guesses, Follows}
use Rattle.rs_search.specs.Candidates.{MeetsACut, MoveWithin}
use Rattle.rs_graph.specs.Graphs.{moves_of}
use Rattle.rs_graph.proofs.Growth.{at_in, has_left, in_at}
use Rattle.rs_graph.specs.Lists.{Among, concat}
use Rattle.rs_search.specs.Turns.{turn_with_cut, no_turn, owes_more, turn_of, turn_within}

-- what a function gives for members
pub among_map : {X Y : Type 0} (f : X → Y) (xs : List X) (y : Y) → Among (map f xs) y → (i : ℕ) × (x : X) × (slice_get xs i ≡ Some x) × (f x ≡ y)
among_map f xs y m = let i = at_in (map f xs) y m in let a = map_of f xs i.0 y i.1 in (i.0, a.0, a.1, a.2)

-- one spot for each next
abbrev pub Single : List (List Spot) → Type 0
Single [] = Unit {0}
Single ([] ∷ ds) = ⊥
Single ((r ∷ []) ∷ ds) = Single ds
Single ((r ∷ s ∷ ss) ∷ ds) = ⊥

-- all results owe as many acts, at most one more than the spot
pub record Level (count : ℕ) (spots : List Spot) : Type 0 where
  pub owes : ℕ
  pub all : (r : Spot) → Among spots r → length r.pending ≡ owes
  pub bounded : owes ≤ suc count

pub record IsSimple (count : ℕ) (nexts : List (List Spot)) : Type 0 where
  pub form : Single nexts ⊎ ((ds : List Spot) × (nexts ≡ ds ∷ []))
  pub level : Level count (concat nexts)

one_level : (count : ℕ) (r : Spot) → length r.pending ≤ suc count → Level count (concat ((r ∷ []) ∷ []))
one_level count r h = record { owes = length r.pending; all = λ x m. elim m [ inl e ↦ ap (λ (z : Spot). length z.pending) (sym e) | inr k ↦ absurd k ]; bounded = h }

split_length : (n : ℕ) (xs : List Act) → length (take n xs) + length (drop (n + 1) xs) ≤ length xs
split_length zero [] = omega arith
split_length (suc n) [] = let e : suc n + 1 ≡ suc (n + 1) = omega arith in rw e (omega arith)
split_length zero (x ∷ xs) = omega arith
split_length (suc n) (x ∷ xs) = let k = split_length n xs in let e : suc n + 1 ≡ suc (n + 1) = omega arith in rw e (omega arith)

pub without_length : (xs : List Act) (n : ℕ) → length (without xs n) ≤ length xs
without_length xs n = let k = split_length n xs in let l = length-append (take n xs) (drop (n + 1) xs) in omega arith

push_length : (p : Spot) (x : Act) → length (p.pending ++ (x ∷ [])) ≡ suc (length p.pending)
push_length p x = let k = length-append p.pending (x ∷ []) in omega arith

pub among_nil : (xs : List Spot) (r : Spot) → Among (xs ++ []) r → Among xs r
among_nil [] r h = h
among_nil (x ∷ xs) r (inl e) = inl e
among_nil (x ∷ xs) r (inr h) = inr (among_nil xs r h)

pub guess_level : (p : Spot) (q : Role) (theirs : List Arm) (r : Spot) → Among (map (λ b. owing_send p q b) theirs) r → length r.pending ≡ suc (length p.pending)
guess_level p q [] r h = absurd h
guess_level p q (b ∷ theirs) r (inl e) = ap (λ (z : Spot). length z.pending) (sym e) ∙ push_length p (act.Puts q b.label b.sort)
guess_level p q (b ∷ theirs) r (inr h) = guess_level p q theirs r h

pub follow_level : (p : Spot) (q : Role) (theirs : List Arm) (r : Spot) → Among (concat (map (λ b. owing_receive p q b ∷ []) theirs)) r → length r.pending ≡ suc (length p.pending)
follow_level p q [] r h = absurd h
follow_level p q (b ∷ theirs) r (inl e) = ap (λ (z : Spot). length z.pending) (sym e) ∙ push_length p (act.Takes q b.label b.sort)
follow_level p q (b ∷ theirs) r (inr h) = follow_level p q theirs r h

pub follow_single : (p : Spot) (q : Role) (theirs : List Arm) → Single (map (λ b. owing_receive p q b ∷ []) theirs)
follow_single p q [] = tt
follow_single p q (b ∷ theirs) = follow_single p q theirs

pub both_single : (theirs : List Arm) (pending : List Act) (arms : List Arm) → all_serve theirs arms ≡ true → Single (map (λ a. both_at pending a (arm_of theirs a.label)) arms)
both_single theirs pending [] e = tt
both_single theirs pending (a ∷ arms) e =
    let k = and_parts (serves_some a (arm_of theirs a.label)) (all_serve theirs arms) e in
    let s = served a (arm_of theirs a.label) k.0 in
    let P : Option Arm → Type 0 = λ o. Single (both_at pending a o ∷ map (λ a. both_at pending a (arm_of theirs a.label)) arms) in
    subst P (sym s.1) (both_single theirs pending arms k.1)

pub both_level : (theirs : List Arm) (pending : List Act) (arms : List Arm) (r : Spot) → Among (concat (map (λ a. both_at pending a (arm_of theirs a.label)) arms)) r
    → length r.pending ≡ length pending
both_level theirs pending [] r h = absurd h
both_level theirs pending (a ∷ arms) r h = go (arm_of theirs a.label) (λ k. both_level theirs pending arms r k) h
  where
    go : (o : Option Arm) → (Among (concat (map (λ a. both_at pending a (arm_of theirs a.label)) arms)) r → length r.pending ≡ length pending)
        → Among (both_at pending a o ++ concat (map (λ a. both_at pending a (arm_of theirs a.label)) arms)) r → length r.pending ≡ length pending
    go None on k = on k
    go (Some b) on (inl e) = ap (λ (z : Spot). length z.pending) (sym e)
    go (Some b) on (inr k) = on k

simple_by : (p : Spot) (arms theirs : List Arm) (rule : Rule) → RuleFits p.pending arms theirs rule → IsSimple (length p.pending) (nexts_by p arms theirs rule)
simple_by p arms theirs Stops h = record { form = inl tt; level = record { owes = 0; all = λ r m. absurd m; bounded = omega arith } }
simple_by p arms theirs (Pays place a) h =
    record { form = inl tt; level = one_level (length p.pending) (spot a.next (without p.pending place) p.above) (let k = without_length p.pending place in omega arith) }
simple_by p arms theirs SendsBoth h =
    record { form = inl (both_single theirs p.pending arms h); level = record { owes = length p.pending; all = both_level theirs p.pending arms; bounded = omega arith } }
simple_by p arms theirs (Guesses q) h =
    record {
      form = inr (map (λ b. owing_send p q b) theirs, refl);
      level = record {
        owes = suc (length p.pending);
        all = λ r m. guess_level p q theirs r
            (among_nil (map (λ b. owing_send p q b) theirs) r m);
        bounded = omega arith;
      };
    }
simple_by p arms theirs (Follows q) h =
    record { form = inl (follow_single p q theirs); level = record { owes = suc (length p.pending); all = follow_level p q theirs; bounded = omega arith } }

-- what is due of the nexts of a spot is simple
pub simple : (sub above : Machine_data) (p : Spot) (d : Due) → due sub above p ≡ Some d → IsSimple (length p.pending) d.nexts
simple sub above p d e =
    let t = slice_get above.states p.above in
    let b = by_rule p (slice_get sub.states p.state) t d e in
    subst (λ (x : Due). IsSimple (length p.pending) x.nexts) (sym b.due_is) (simple_by p (arms_at b.state) (arms_of t) b.rule (fitting p.pending b.state t b.rule b.row))

single_chosen : (ds : List (List Spot)) → Single ds → Chosen ds (concat ds)
single_chosen [] h = tt
single_chosen ([] ∷ ds) h = absurd h
single_chosen ((r ∷ []) ∷ ds) h = ((zero, refl), single_chosen ds h)
single_chosen ((r ∷ s ∷ ss) ∷ ds) h = absurd h

single_is : (ds : List (List Spot)) (rs : List Spot) → Single ds → Chosen ds rs → rs ≡ concat ds
single_is [] [] h c = refl
single_is [] (r ∷ rs) h c = absurd c
single_is ([] ∷ ds) rs h c = absurd h
single_is ((s ∷ []) ∷ ds) [] h c = absurd c
single_is ((s ∷ []) ∷ ds) (r ∷ rs) h c = (let e : s ≡ r = first c.0.0 c.0.1 in ap (λ (z : Spot). z ∷ rs) (sym e) ∙ ap (λ (z : List Spot). s ∷ z) (single_is ds rs h c.1))
  where
    first : (i : ℕ) → slice_get (s ∷ []) i ≡ Some r → s ≡ r
    first zero g = same_Some s r g
    first (suc i) g = absurd (none-some r g)
single_is ((s ∷ t ∷ ss) ∷ ds) rs h c = absurd h

pub single_same : (ds : List (List Spot)) (rs rs' : List Spot) → Single ds → Chosen ds rs → Chosen ds rs' → rs ≡ rs'
single_same ds rs rs' h c c' = single_is ds rs h c ∙ sym (single_is ds rs' h c')

-- the moves that stand in the list are the choices
singles_have : (ds : List Spot) (rs : List Spot) → Among (map (λ (x : Spot). x ∷ []) ds) rs → (r : Spot) × (rs ≡ r ∷ []) × ((i : ℕ) × (slice_get ds i ≡ Some r))
singles_have ds rs h = let k = among_map (λ (x : Spot). x ∷ []) ds rs h in (k.1, sym k.3, (k.0, k.2))

have_singles : (ds : List Spot) (r : Spot) (i : ℕ) → slice_get ds i ≡ Some r → Among (map (λ (x : Spot). x ∷ []) ds) (r ∷ [])
have_singles ds r i e = in_at (map (λ (x : Spot). x ∷ []) ds) i (r ∷ []) (map_at (λ (x : Spot). x ∷ []) ds i r e)

pub append_nil : (xs : List Spot) → xs ++ [] ≡ xs
append_nil [] = refl
append_nil (x ∷ xs) = ap (λ (z : List Spot). x ∷ z) (append_nil xs)

two_more : (n : ℕ) → eqb (suc (suc n)) 1 ≡ false
two_more n = ne_eqb (suc (suc n)) 1 (λ e. let bad : ⊥ = omega arith in bad)

pub to_chosen : (count : ℕ) (ds : List (List Spot)) (rs : List Spot) → IsSimple count ds → Among (moves_of (eqb (length ds) 1) (concat ds)) rs → Chosen ds rs
to_chosen count [] rs s (inl e) = subst (λ (z : List Spot). Chosen [] z) e tt
to_chosen count [] rs s (inr k) = absurd k
to_chosen count (d ∷ []) rs s h =
    let h' : Among (map (λ (x : Spot). x ∷ []) d) rs = subst (λ (z : List Spot). Among (map (λ (x : Spot). x ∷ []) z) rs) (append_nil d) h in
    let k = singles_have d rs h' in subst (λ (z : List Spot). Chosen (d ∷ []) z) (sym k.1) ((k.2.0, k.2.1), tt)
to_chosen count (d ∷ e ∷ ds) rs s h = elim s.form [
  | inl f ↦ (let h' : Among (concat (d ∷ e ∷ ds) ∷ []) rs = subst (λ (b : Bool). Among (moves_of b (concat (d ∷ e ∷ ds))) rs)
      (two_more (length ds)) h in elim h' [ inl q ↦ subst (λ (z : List Spot). Chosen (d ∷ e ∷ ds) z) q (single_chosen (d ∷ e ∷ ds) f) | inr k ↦ absurd k ])
  | inr f ↦ (let bad : length (d ∷ e ∷ ds) ≡ 1 = ap (λ (z : List (List Spot)). length z) f.1 in let no : ⊥ = omega arith in absurd no)
]

pub from_chosen : (count : ℕ) (ds : List (List Spot)) (rs : List Spot) → IsSimple count ds → Chosen ds rs → Among (moves_of (eqb (length ds) 1) (concat ds)) rs
from_chosen count [] [] s c = inl refl
from_chosen count [] (r ∷ rs) s c = absurd c
from_chosen count (d ∷ []) [] s c = absurd c
from_chosen count (d ∷ []) (r ∷ t ∷ rs) s c = absurd c.1
from_chosen count (d ∷ []) (r ∷ []) s c = subst (λ (z : List Spot). Among (map (λ (x : Spot). x ∷ []) z) (r ∷ [])) (sym (append_nil d)) (have_singles d r c.0.0 c.0.1)
from_chosen count (d ∷ e ∷ ds) rs s c = elim s.form [
  | inl f ↦ subst (λ (b : Bool). Among (moves_of b (concat (d ∷ e ∷ ds))) rs) (sym (two_more (length ds))) (inl (sym (single_is (d ∷ e ∷ ds) rs f c)))
  | inr f ↦ (let bad : length (d ∷ e ∷ ds) ≡ 1 = ap (λ (z : List (List Spot)). length z) f.1 in let no : ⊥ = omega arith in absurd no)
]

-- results stand among the spots
pub chosen_among : (ds : List (List Spot)) (rs : List Spot) → Chosen ds rs → (r : Spot) → Among rs r → Among (concat ds) r
chosen_among [] [] c r m = absurd m
chosen_among [] (x ∷ rs) c r m = absurd c
chosen_among (d ∷ ds) [] c r m = absurd c
chosen_among (d ∷ ds) (x ∷ rs) c r (inl e) = has_left d (concat ds) r (in_at d c.0.0 r (c.0.1 ∙ ap Some e))
chosen_among (d ∷ ds) (x ∷ rs) c r (inr m) = right d (concat ds) r (chosen_among ds rs c.1 r m)
  where
    right : (xs ys : List Spot) (x : Spot) → Among ys x → Among (xs ++ ys) x
    right [] ys x h = h
    right (y ∷ xs) ys x h = inr (right xs ys x h)

-- a spot stands among the results of some move
among_chosen : (count : ℕ) (ds : List (List Spot)) (r : Spot) → IsSimple count ds → Among (concat ds) r → (rs : List Spot) × Chosen ds rs × Among rs r
among_chosen count ds r s m = elim s.form [
  | inl f ↦ (concat ds, single_chosen ds f, m)
  | inr f ↦ (let m' : Among f.0 r = among_nil f.0 r (subst (λ (z : List (List Spot)). Among (concat z) r) f.1 m) in
      let p = at_in f.0 r m' in (r ∷ [], subst (λ (z : List (List Spot)). Chosen z (r ∷ [])) (sym f.1) ((p.0, p.1), tt), inl refl))
]

-- owes_more is what it says
or_no : (a b : Bool) → (a || b) ≡ false → (a ≡ false) × (b ≡ false)
or_no true b e = absurd (false≢true (sym e))
or_no false b e = (refl, e)

pub or_yes : (a b : Bool) → (a || b) ≡ true → (a ≡ true) ⊎ (b ≡ true)
or_yes true b e = inl refl
or_yes false b e = inr e

pub more_no : (bound : ℕ) (spots : List Spot) → owes_more bound spots ≡ false → (r : Spot) → Among spots r → length r.pending ≤ bound
more_no bound [] e r m = absurd m
more_no bound (s ∷ spots) e r (inl q) = elim (cases_lt bound (length s.pending)) [
  | inl a ↦ (let t = lt-ltb bound (length s.pending) a in let k = or_no (nat_lt bound (length s.pending)) (owes_more bound spots) e in absurd (false≢true (sym k.0 ∙ t)))
  | inr a ↦ subst (λ (z : Spot). length z.pending ≤ bound) q a
]
more_no bound (s ∷ spots) e r (inr m) = more_no bound spots (or_no (nat_lt bound (length s.pending)) (owes_more bound spots) e).1 r m

pub more_yes : (bound : ℕ) (spots : List Spot) → owes_more bound spots ≡ true → (r : Spot) × Among spots r × (bound < length r.pending)
more_yes bound [] e = absurd (false≢true e)
more_yes bound (s ∷ spots) e = elim (or_yes (nat_lt bound (length s.pending)) (owes_more bound spots) e) [
  | inl a ↦ (s, inl refl, ltb-true bound (length s.pending) a)
  | inr a ↦ (let k = more_yes bound spots a in (k.0, inr k.1, k.2))
]

pub bool_cases : (b : Bool) → (b ≡ true) ⊎ (b ≡ false)
bool_cases true = inl refl
bool_cases false = inr refl

-- the moves of a spot within the bound, as lists of results
abbrev pub moves_at : Machine_data → Machine_data → ℕ → Spot → List (List Spot)
moves_at sub above bound p = moves_of (turn_within sub above bound p).any (turn_within sub above bound p).spots

-- each is a move of the table within the bound
pub to_move : (sub above : Machine_data) (bound : ℕ) (p : Spot) (rs : List Spot) → Among (moves_at sub above bound p) rs → MoveWithin sub above bound p rs
to_move sub above bound p rs h = go (due sub above p) refl h
  where
    go : (o : Option Due) → due sub above p ≡ o → Among (moves_of (turn_with_cut bound (turn_of o)).any (turn_with_cut bound (turn_of o)).spots) rs → MoveWithin sub above bound p rs
    go None e m = absurd m
    go (Some d) e m = elim (bool_cases (owes_more bound (concat d.nexts))) [
      | inl t ↦ (let m' : Among (moves_of (no_turn true).any (no_turn true).spots) rs = subst
          (λ (b : Bool). Among (moves_of (if b then no_turn true else turn_of (Some d)).any (if b then no_turn true else turn_of (Some d)).spots) rs) t m in absurd m')
      | inr f ↦ (let m' : Among (moves_of (eqb (length d.nexts) 1) (concat d.nexts)) rs = subst
          (λ (b : Bool). Among (moves_of (if b then no_turn true else turn_of (Some d)).any (if b then no_turn true else turn_of (Some d)).spots) rs) f m in
          let c = to_chosen (length p.pending) d.nexts rs (simple sub above p d e) m' in
          let s = sound sub above p d rs e c in
          record { makes = s.makes; move = s.move; short = λ r k. more_no bound (concat d.nexts) f r (chosen_among d.nexts rs c r k) })
    ]

no_results : (ds : List (List Spot)) (x : Spot) → Chosen ds [] → Among (concat ds) x → ⊥
no_results [] x c m = m
no_results (d ∷ ds) x c m = c

too_long : (bound owes : ℕ) (ds : List (List Spot)) (rs : List Spot) → Chosen ds rs → ((r : Spot) → Among rs r → length r.pending ≡ owes) → ((r : Spot) → Among rs r → length r.pending ≤ bound)
    → bound < owes
    → (x : Spot) → Among (concat ds) x → ⊥
too_long bound owes ds [] c all short lt x m = no_results ds x c m
too_long bound owes ds (r ∷ rs) c all short lt x m = let a = all r (inl refl) in let b = short r (inl refl) in let bad : ⊥ = omega arith in bad

-- each move of the table within the bound is there
pub from_move : (sub above : Machine_data) (bound : ℕ) (p : Spot) (rs : List Spot) → MoveWithin sub above bound p rs → Among (moves_at sub above bound p) rs
from_move sub above bound p rs m =
    let t = complete sub above p m.makes rs m.move in
    let s = simple sub above p t.d t.due_is in
    subst (λ (o : Option Due). Among (moves_of (turn_with_cut bound (turn_of o)).any (turn_with_cut bound (turn_of o)).spots) rs) (sym t.due_is)
    (elim (bool_cases (owes_more bound (concat t.d.nexts))) [
      | inl y ↦ (let k = more_yes bound (concat t.d.nexts) y in
          let q = s.level.all k.0 k.1 in absurd
          (too_long bound s.level.owes t.d.nexts rs t.picks (λ r h. s.level.all r (chosen_among t.d.nexts rs t.picks r h)) m.short (let a = k.2 in omega arith) k.0 k.1))
      | inr f ↦ subst (λ (b : Bool). Among (moves_of (if b then no_turn true else turn_of (Some t.d)).any (if b then no_turn true else turn_of (Some t.d)).spots) rs) (sym f)
          (from_chosen (length p.pending) t.d.nexts rs s t.picks)
    ])

-- a cut is what it says
pub to_cut : (sub above : Machine_data) (bound : ℕ) (p : Spot) → length p.pending ≤ bound → (turn_within sub above bound p).cut ≡ true → MeetsACut sub above bound p
to_cut sub above bound p le h = go (due sub above p) refl h
  where
    go : (o : Option Due) → due sub above p ≡ o → (turn_with_cut bound (turn_of o)).cut ≡ true → MeetsACut sub above bound p
    go None e m = absurd (false≢true m)
    go (Some d) e m = elim (bool_cases (owes_more bound (concat d.nexts))) [
      | inl y ↦ (let k = more_yes bound (concat d.nexts) y in
          let s = simple sub above p d e in
          let r = among_chosen (length p.pending) d.nexts k.0 s k.1 in
          let t = sound sub above p d r.0 e r.1 in
          let q = s.level.all k.0 k.1 in let f = s.level.bounded in let l = k.2 in
          record { full = omega arith; makes = t.makes; results = r.0; move = t.move; result = k.0; among = r.2; longer = k.2 })
      | inr n ↦ (let m' : false ≡ true = subst (λ (b : Bool). (if b then no_turn true else turn_of (Some d)).cut ≡ true) n m in absurd (false≢true m'))
    ]

pub from_cut : (sub above : Machine_data) (bound : ℕ) (p : Spot) → MeetsACut sub above bound p → (turn_within sub above bound p).cut ≡ true
from_cut sub above bound p c =
    let t = complete sub above p c.makes c.results c.move in
    subst (λ (o : Option Due). (turn_with_cut bound (turn_of o)).cut ≡ true) (sym t.due_is) (elim (bool_cases (owes_more bound (concat t.d.nexts))) [
      | inl y ↦ subst (λ (b : Bool). (if b then no_turn true else turn_of (Some t.d)).cut ≡ true) (sym y) refl
      | inr n ↦ (let k = more_no bound (concat t.d.nexts) n c.result (chosen_among t.d.nexts c.results t.picks c.result c.among) in let l = c.longer in let bad : ⊥ = omega arith in absurd bad)
    ])
