-- The histories of roles that send their numbers and get others, pair by pair.
use Rattle.std.proofs.Common.{◌≡◌, ℕ, suc, ◌+◌, Bool, true, false, ℤ, pos, List, [], ◌∷◌, Some, slice_get, refl, sym, ap, ◌∙◌, subst, subst₂, arith}
use Rattle.rs_model.specs.Data.{Machine_data}
use Rattle.rs_model.specs.declared.graph.Arm.{Arm}
use Rattle.rs_model.specs.declared.machines.State.{State}
use Rattle.rs_model.specs.declared.machines.State.TheVariants.{Done, Puts, Takes}
use Rattle.rs_model.specs.declared.values.Sort.TheVariants as sort
use Rattle.rs_model.specs.declared.values.Value.{Value}
use Rattle.rs_model.specs.declared.values.Value.TheVariants as value
use Rattle.rs_core.specs.Actors.{PlaysFrom}
use Rattle.rs_core.specs.Histories.{Action, Sent, Got, History}
use Rattle.rs_demos.specs.Acting.{by_demo, talker_behind_value}
use Rattle.rs_demos.specs.Sessions.{Exchange, role, arm, states_from}
use Rattle.rs_demos.specs.declared.actors.DemoTalker.{DemoTalker}
use Rattle.rs_demos.specs.declared.actors.DemoTalker.TheVariants as actor
use Rattle.rs_demos.proofs.Playing.{sent_at, got_at, no_got, no_sent, over, only_arm}

-- members hold a number

abbrev pub is_member : DemoTalker → Bool
is_member (actor.RingMember m) = true
is_member (actor.ButterflyMember m) = true
is_member _ = false

abbrev pub held : DemoTalker → ℤ
held (actor.RingMember m) = m.last
held (actor.ButterflyMember m) = m.held
held _ = pos 0

abbrev one_arm : ℕ → List Arm
one_arm next = arm 0 sort.Whole next ∷ []

chooses : (x : DemoTalker) (next : ℕ) → is_member x ≡ true → (by_demo.chooses x (one_arm next) ≡ (0, value.Whole (held x))) × (by_demo.asked x (one_arm next) ≡ x)
chooses (actor.RingMember m) next h = (refl, refl)
chooses (actor.ButterflyMember m) next h = (refl, refl)
chooses (actor.Source b) next h = absurd (cc (h))
chooses (actor.Kernel k) next h = absurd (cc (h))
chooses (actor.Sink b) next h = absurd (cc (h))

pub stays_member : (x : DemoTalker) (v : Value) → is_member x ≡ true → is_member (talker_behind_value x v) ≡ true
stays_member (actor.RingMember m) v h = refl
stays_member (actor.ButterflyMember m) v h = refl
stays_member (actor.Source b) v h = absurd (cc (h))
stays_member (actor.Kernel k) v h = absurd (cc (h))
stays_member (actor.Sink b) v h = absurd (cc (h))

-- pairs of acts

abbrev pub script_sent : Exchange → DemoTalker → Action
script_sent e x = Sent (role e.0) (record { 0 = 0 }) (value.Whole (held x))

abbrev pub script_got : Exchange → Value → Action
script_got e v = Got (role e.1) (record { 0 = 0 }) v

-- one pair of acts, and what comes after it
pub record Trade (e : Exchange) (Behind : DemoTalker → History → Type 0) (x : DemoTalker) (h : History) : Type 0 where
  pub came : Value
  pub later : History
  pub history_is : h ≡ script_sent e x ∷ script_got e came ∷ later
  pub rest : Behind (talker_behind_value x came) later

-- the history has these pairs of acts, one after the other, and leads from actor x to y
abbrev pub Trades : List Exchange → DemoTalker → DemoTalker → History → Type 0
Trades [] y x h = (h ≡ []) × (x ≡ y)
Trades (e ∷ es) y x h = Trade e (λ z k. Trades es y z k) x h

-- from place s on the machine has the states of these pairs
abbrev pub HasStates : Machine_data → ℕ → List Exchange → Type 0
HasStates m s es = (k : ℕ) → slice_get m.states (s + k) ≡ slice_get (states_from s es) k

here : (m : Machine_data) (s : ℕ) (es : List Exchange) → HasStates m s es → slice_get m.states s ≡ slice_get (states_from s es) 0
here m s es h = let e : s ≡ s + 0 = omega arith in ap (λ (i : ℕ). slice_get m.states i) e ∙ h 0

next_states : (m : Machine_data) (s : ℕ) (e : Exchange) (es : List Exchange) → HasStates m s (e ∷ es) → HasStates m (suc (suc s)) es
next_states m s e es h k = let f : suc (suc s) + k ≡ s + suc (suc k) = omega arith in ap (λ (i : ℕ). slice_get m.states i) f ∙ h (suc (suc k))

second : (m : Machine_data) (s : ℕ) (e : Exchange) (es : List Exchange) → HasStates m s (e ∷ es)
    → slice_get m.states (suc s) ≡ Some (Takes (role e.1) (one_arm (suc (suc s))))
second m s e es h = let f : suc s ≡ s + 1 = omega arith in ap (λ (i : ℕ). slice_get m.states i) f ∙ h 1

not_over : (m : Machine_data) (s t : ℕ) (st : State) → slice_get m.states s ≡ Some st → s ≡ t → slice_get m.states t ≡ Some Done → st ≡ Done
not_over m s t st here' e d =
    let P : ℕ → Type 0 = λ z. slice_get m.states z ≡ Some Done in
    let h : Some st ≡ Some Done = sym here' ∙ subst P (sym e) d in
    cc (h)

pub trades : (h : History) (es : List Exchange) (m : Machine_data) (s : ℕ) (x : DemoTalker) (t : ℕ) (y : DemoTalker) → is_member x ≡ true → HasStates m s es
    → PlaysFrom by_demo m s x h t y → slice_get m.states t ≡ Some Done → Trades es y x h
trades [] [] m s x t y mem st p d = (refl, p.1)
trades (a ∷ h) [] m s x t y mem st p d = absurd (over m s x a p.0 p.1 (here m s [] st) p.2)
trades [] (e ∷ es) m s x t y mem st p d = absurd (let k = not_over m s t (Puts (role e.0) (one_arm (suc s))) (here m s (e ∷ es) st) p.0 d in cc (k))
trades (Got r l v ∷ h) (e ∷ es) m s x t y mem st p d = absurd (no_got m s x (one_arm (suc s)) (role e.0) r l v p.0 p.1 (here m s (e ∷ es) st) p.2)
trades (Sent r l v ∷ []) (e ∷ es) m s x t y mem st p d =
    let g = sent_at m s x (one_arm (suc s)) (role e.0) r l v p.0 p.1 (here m s (e ∷ es) st) p.2 in
    let a = only_arm (arm 0 sort.Whole (suc s)) g.arm (by_demo.chooses x (one_arm (suc s))).0 g.picks in
    let n : suc s ≡ t = ap (λ (z : Arm). z.next) a ∙ g.goes ∙ p.3.0 in
    absurd (let k = not_over m (suc s) t (Takes (role e.1) (one_arm (suc (suc s)))) (second m s e es st) n d in cc (k))
trades (Sent r l v ∷ Sent r' l' v' ∷ h) (e ∷ es) m s x t y mem st p d =
    let g = sent_at m s x (one_arm (suc s)) (role e.0) r l v p.0 p.1 (here m s (e ∷ es) st) p.2 in
    let a = only_arm (arm 0 sort.Whole (suc s)) g.arm (by_demo.chooses x (one_arm (suc s))).0 g.picks in
    let n : suc s ≡ p.0 = ap (λ (z : Arm). z.next) a ∙ g.goes in
    let sec = ap (λ (i : ℕ). slice_get m.states i) (sym n) ∙ second m s e es st in
    absurd (no_sent m p.0 p.1 (one_arm (suc (suc s))) (role e.1) r' l' v' p.3.0 p.3.1 sec p.3.2)
trades (Sent r l v ∷ Got r' l' v' ∷ h) (e ∷ es) m s x t y mem st p d =
    let g = sent_at m s x (one_arm (suc s)) (role e.0) r l v p.0 p.1 (here m s (e ∷ es) st) p.2 in
    let c = chooses x (suc s) mem in
    let a = only_arm (arm 0 sort.Whole (suc s)) g.arm (by_demo.chooses x (one_arm (suc s))).0 g.picks in
    let n : suc s ≡ p.0 = ap (λ (z : Arm). z.next) a ∙ g.goes in
    let el : record { 0 = 0 } ≡ l = ap (λ (z : Arm). z.label) a ∙ g.label in
    let ev : value.Whole (held x) ≡ v = ap (λ (z : ℕ × Value). z.1) (sym c.0) ∙ g.value in
    let ex : x ≡ p.1 = sym c.1 ∙ g.becomes in
    let sec = ap (λ (i : ℕ). slice_get m.states i) (sym n) ∙ second m s e es st in
    let g' = got_at m p.0 p.1 (one_arm (suc (suc s))) (role e.1) r' l' v' p.3.0 p.3.1 sec p.3.2 in
    let a' = only_arm (arm 0 sort.Whole (suc (suc s))) g'.arm g'.place g'.follows in
    let n' : suc (suc s) ≡ p.3.0 = ap (λ (z : Arm). z.next) a' ∙ g'.goes in
    let el' : record { 0 = 0 } ≡ l' = ap (λ (z : Arm). z.label) a' ∙ g'.label in
    let ex' : talker_behind_value x v' ≡ p.3.1 = ap (λ (z : DemoTalker). talker_behind_value z v') ex ∙ g'.becomes in
    let P : ℕ → DemoTalker → Type 0 = λ i z. PlaysFrom by_demo m i z h t y in
    let on = subst₂ P (sym n') (sym ex') p.3.3 in
    let one : Sent r l v ≡ script_sent e x = cc (g.peer, el, ev) in
    let other : Got r' l' v' ≡ script_got e v' = cc (g'.peer, el') in
    record {
      came = v';
      later = h;
      history_is = cc (one, other);
      rest = trades h es m (suc (suc s)) (talker_behind_value x v') t y (stays_member x v' mem) (next_states m s e es st) on d;
    }
