-- What an actor's history says: where its machine stands, what the actor has become, and what comes next.
use Rattle.std.proofs.Common.{◌≡◌, ℕ, List, [], ◌∷◌, ◌++◌, Some, slice_get, refl, sym, ap, ◌∙◌, subst, subst₂, append-nil}
use Rattle.rs_model.specs.Data.{Machine_data}
use Rattle.rs_model.specs.WellFormed.{IsWellFormedMachine}
use Rattle.rs_model.specs.declared.graph.Arm.{Arm}
use Rattle.rs_model.specs.declared.graph.Label.{Label}
use Rattle.rs_model.specs.declared.graph.Role.{Role}
use Rattle.rs_model.specs.declared.machines.State.TheVariants.{Done, Puts, Takes}
use Rattle.rs_model.specs.declared.values.Value.{Value}
use Rattle.rs_core.specs.Configurations.{Configuration, Event, Send, Receive, Step, role_of}
use Rattle.rs_core.specs.Histories.{Action, Sent, Got, History, action_of}
use Rattle.rs_core.specs.Actors.{Behaviour, PlaysSent, PlaysGot, PlaysAction, PlaysFrom}
use Rattle.rs_core.proofs.Fifo.{Comparable, Shorter, Longer}
use Rattle.rs_core.proofs.Stands.{machine_at}

module _ {A : Type 0} (b : Behaviour A) where
  -- a history that is played in two parts
  pub record Halfway (m : Machine_data) (s : ℕ) (x : A) (xs ys : History) (t : ℕ) (y : A) : Type 0 where
    pub state : ℕ
    pub actor : A
    pub before : PlaysFrom b m s x xs state actor
    pub after : PlaysFrom b m state actor ys t y

  pub plays_split : (m : Machine_data) (s : ℕ) (x : A) (xs ys : History) (t : ℕ) (y : A) → PlaysFrom b m s x (xs ++ ys) t y
      → Halfway m s x xs ys t y
  plays_split m s x [] ys t y p = record { state = s; actor = x; before = (refl, refl); after = p }
  plays_split m s x (a ∷ xs) ys t y p =
      let r = plays_split m p.0 p.1 xs ys t y p.3 in
      record { state = r.state; actor = r.actor; before = (p.0, p.1, p.2, r.before); after = r.after }

  pub plays_join : (m : Machine_data) (s : ℕ) (x : A) (xs ys : History) (t u : ℕ) (y z : A) → PlaysFrom b m s x xs t y
      → PlaysFrom b m t y ys u z → PlaysFrom b m s x (xs ++ ys) u z
  plays_join m s x [] ys t u y z p q = let P : ℕ → A → Type 0 = λ i a. PlaysFrom b m i a ys u z in subst₂ P (sym p.0) (sym p.1) q
  plays_join m s x (a ∷ xs) ys t u y z p q = (p.0, p.1, p.2, plays_join m p.0 p.1 xs ys t u y z p.3 q)

  -- one action leads to one state and one actor
  sent_same : (m : Machine_data) (s : ℕ) (x : A) (r : Role) (l : Label) (v : Value) (t t' : ℕ) (y y' : A)
      → PlaysSent b m s x r l v t y → PlaysSent b m s x r l v t' y' → (t ≡ t') × (y ≡ y')
  sent_same m s x r l v t t' y y' p q =
      let e : Some (Puts r p.arms) ≡ Some (Puts r q.arms) = sym p.puts ∙ q.puts in
      let ea : p.arms ≡ q.arms = cc (e) in
      let arm : p.arm ≡ q.arm = cc (ea, p.picks, q.picks) in
      (sym p.goes ∙ ap (λ (z : Arm). z.next) arm ∙ q.goes, sym p.becomes ∙ ap (λ (z : List Arm). b.asked x z) ea ∙ q.becomes)

  got_same : (m : Machine_data) (roles : ℕ) (s : ℕ) (x : A) (r : Role) (l : Label) (v : Value) (t t' : ℕ) (y y' : A) → IsWellFormedMachine m roles
      → PlaysGot b m s x r l v t y → PlaysGot b m s x r l v t' y' → (t ≡ t') × (y ≡ y')
  got_same m roles s x r l v t t' y y' wf p q =
      let e : Some (Takes r p.arms) ≡ Some (Takes r q.arms) = sym p.takes ∙ q.takes in
      let ea : p.arms ≡ q.arms = cc (e) in
      let follows : slice_get q.arms p.place ≡ Some p.arm = cc (ea, p.follows) in
      let place : p.place ≡ q.place = (wf.takes s r q.arms q.takes).once p.place q.place p.arm q.arm follows q.follows (p.same_label ∙ sym q.same_label) in
      let arm : p.arm ≡ q.arm = cc (follows, q.follows, place) in
      let actor : b.told x p.arms p.place v ≡ b.told x q.arms q.place v = cc (ea, place) in
      (sym p.goes ∙ ap (λ (z : Arm). z.next) arm ∙ q.goes, sym p.becomes ∙ actor ∙ q.becomes)

  action_same : (m : Machine_data) (roles : ℕ) (s : ℕ) (x : A) (a : Action) (t t' : ℕ) (y y' : A) → IsWellFormedMachine m roles
      → PlaysAction b m s x a t y → PlaysAction b m s x a t' y' → (t ≡ t') × (y ≡ y')
  action_same m roles s x (Sent r l v) t t' y y' wf p q = sent_same m s x r l v t t' y y' p q
  action_same m roles s x (Got r l v) t t' y y' wf p q = got_same m roles s x r l v t t' y y' wf p q

  -- what an actor plays determines where its machine stands, and what it has become
  pub plays_same : (m : Machine_data) (roles : ℕ) (s : ℕ) (x : A) (xs : History) (t t' : ℕ) (y y' : A) → IsWellFormedMachine m roles
      → PlaysFrom b m s x xs t y → PlaysFrom b m s x xs t' y' → (t ≡ t') × (y ≡ y')
  plays_same m roles s x [] t t' y y' wf p q = (sym p.0 ∙ q.0, sym p.1 ∙ q.1)
  plays_same m roles s x (a ∷ xs) t t' y y' wf p q =
      let one = action_same m roles s x a p.0 q.0 p.1 q.1 wf p.2 q.2 in
      let P : ℕ → A → Type 0 = λ i z. PlaysFrom b m i z xs t y in
      plays_same m roles q.0 q.1 xs t t' y y' wf (subst₂ P one.0 one.1 p.3) q.3

  -- what comes next of one actor at one state
  pub data Alike (m : Machine_data) (s : ℕ) (a a' : Action) : Type 0 where
    Equal : a ≡ a' → Alike m s a a'
    BothGot : (q : Role) (l l' : Label) (v v' : Value) (arms : List Arm) → a ≡ Got q l v → a' ≡ Got q l' v'
        → slice_get m.states s ≡ Some (Takes q arms) → Alike m s a a'

  pub alike : (m : Machine_data) (s : ℕ) (x : A) (a a' : Action) (t t' : ℕ) (y y' : A) → PlaysAction b m s x a t y → PlaysAction b m s x a' t' y'
      → Alike m s a a'
  alike m s x (Sent r l v) (Sent r' l' v') t t' y y' p q =
      let e : Some (Puts r p.arms) ≡ Some (Puts r' q.arms) = sym p.puts ∙ q.puts in
      let er : r ≡ r' = cc (e) in
      let ea : p.arms ≡ q.arms = cc (e) in
      let arm : p.arm ≡ q.arm = cc (ea, p.picks, q.picks) in
      let el : l ≡ l' = cc (arm, p.same_label, q.same_label) in
      let ev : v ≡ v' = cc (ea, p.same_value, q.same_value) in
      Equal (cc (er, el, ev))
  alike m s x (Sent r l v) (Got r' l' v') t t' y y' p q = absurd (cc (p.puts, q.takes))
  alike m s x (Got r l v) (Sent r' l' v') t t' y y' p q = absurd (cc (p.takes, q.puts))
  alike m s x (Got r l v) (Got r' l' v') t t' y y' p q =
      let e : Some (Takes r p.arms) ≡ Some (Takes r' q.arms) = sym p.takes ∙ q.takes in
      let er : r ≡ r' = cc (e) in
      BothGot r' l l' v v' q.arms (cc (er)) refl q.takes

  -- a role that is Done does nothing more
  done_stays : (m : Machine_data) (s : ℕ) (x : A) (a : Action) (h : History) (t : ℕ) (y : A) → slice_get m.states s ≡ Some Done
      → PlaysFrom b m s x (a ∷ h) t y → ⊥
  done_stays m s x (Sent q l v) h t y d p = cc (d, p.2.puts)
  done_stays m s x (Got q l v) h t y d p = cc (d, p.2.takes)

  -- two histories of one actor, the first of which leads to Done and isn't longer, are one
  pub done_longest : (m : Machine_data) (roles : ℕ) (x : A) (h zs : History) (t u : ℕ) (y z : A) → IsWellFormedMachine m roles → PlaysFrom b m m.start x h t y
      → PlaysFrom b m m.start x (h ++ zs) u z → slice_get m.states t ≡ Some Done → zs ≡ []
  done_longest m roles x h [] t u y z wf p q d = refl
  done_longest m roles x h (a ∷ zs) t u y z wf p q d =
      let r = plays_split m m.start x h (a ∷ zs) u z q in
      let s = plays_same m roles m.start x h t r.state y r.actor wf p r.before in
      let Q : ℕ → Type 0 = λ w. slice_get m.states w ≡ Some Done in
      absurd (done_stays m r.state r.actor a zs u z (subst Q s.0 d) r.after)

  -- two comparable histories of one actor that both lead to Done are one, and so are the actors
  pub done_same : (m : Machine_data) (roles : ℕ) (x : A) (h k : History) (t u : ℕ) (y z : A) → IsWellFormedMachine m roles
      → PlaysFrom b m m.start x h t y → PlaysFrom b m m.start x k u z
      → slice_get m.states t ≡ Some Done → slice_get m.states u ≡ Some Done → Comparable h k → (h ≡ k) × (y ≡ z)
  done_same m roles x h k t u y z wf p q dt du (Shorter zs e) =
      let P : History → Type 0 = λ w. PlaysFrom b m m.start x w u z in
      let none = done_longest m roles x h zs t u y z wf p (subst P e q) dt in
      let eq : h ≡ k = sym (e ∙ ap (λ (w : History). h ++ w) none ∙ append-nil h) in
      let Q : History → Type 0 = λ w. PlaysFrom b m m.start x w t y in
      (eq, (plays_same m roles m.start x k t u y z wf (subst Q eq p) q).1)
  done_same m roles x h k t u y z wf p q dt du (Longer zs e) =
      let P : History → Type 0 = λ w. PlaysFrom b m m.start x w t y in
      let none = done_longest m roles x k zs u t z y wf q (subst P e p) du in
      let eq : h ≡ k = e ∙ ap (λ (w : History). k ++ w) none ∙ append-nil k in
      (eq, (plays_same m roles m.start x k t u y z wf (subst P eq p) q).1)

  -- the state to which an event leads is the one to which its action leads, since labels are there once
  pub step_state : (ms : List Machine_data) (c : Configuration) (e : Event) (d : Configuration) (step : Step ms c e d) (m : Machine_data) (roles : ℕ)
      → slice_get ms (role_of e) ≡ Some m → IsWellFormedMachine m roles → (x : A) (u : ℕ) (z : A)
      → PlaysAction b m (c.at (role_of e)) x (action_of ms c e d step) u z → u ≡ d.at (role_of e)
  step_state ms c (Send p place v) d step m roles is wf x u z pl =
      let st = machine_at ms c p.0 (Puts step.peer step.arms) m step.puts is in
      let e : Some (Puts step.peer step.arms) ≡ Some (Puts step.peer pl.arms) = sym st ∙ pl.puts in
      let ea : step.arms ≡ pl.arms = cc (e) in
      let picks : slice_get pl.arms place ≡ Some step.arm = cc (step.picks, ea) in
      let i : place ≡ (b.chooses x pl.arms).0 = (wf.puts (c.at p.0) step.peer pl.arms pl.puts).once place (b.chooses x pl.arms).0 step.arm pl.arm picks pl.picks (sym pl.same_label) in
      let arm : step.arm ≡ pl.arm = cc (picks, pl.picks, i) in
      sym pl.goes ∙ ap (λ (w : Arm). w.next) (sym arm) ∙ sym step.goes
  step_state ms c (Receive p) d step m roles is wf x u z pl =
      let st = machine_at ms c p.0 (Takes step.peer step.arms) m step.takes is in
      let e : Some (Takes step.peer step.arms) ≡ Some (Takes step.peer pl.arms) = sym st ∙ pl.takes in
      let ea : step.arms ≡ pl.arms = cc (e) in
      let follows : slice_get pl.arms step.place ≡ Some step.arm = cc (step.follows, ea) in
      let i : step.place ≡ pl.place = (wf.takes (c.at p.0) step.peer pl.arms pl.takes).once step.place pl.place step.arm pl.arm follows pl.follows (step.same_label ∙ sym pl.same_label) in
      let arm : step.arm ≡ pl.arm = cc (follows, pl.follows, i) in
      sym pl.goes ∙ ap (λ (w : Arm). w.next) (sym arm) ∙ sym step.goes
