-- What the play of an actor says at a state that is known.
use Rattle.std.proofs.Common.{◌≡◌, inl, inr, ℕ, zero, suc, List, [], ◌∷◌, Some, None, slice_get, refl, sym, ◌∙◌, subst}
use Rattle.std.proofs.lemmas.Bool.Decides.{eqb_tells}
use Rattle.rs_model.specs.Data.{Machine_data}
use Rattle.rs_model.specs.declared.graph.Arm.{Arm}
use Rattle.rs_model.specs.declared.graph.Label.{Label}
use Rattle.rs_model.specs.declared.graph.Role.{Role}
use Rattle.rs_model.specs.declared.machines.State.TheVariants.{Done, Puts, Takes}
use Rattle.rs_model.specs.declared.values.Value.{Value}
use Rattle.rs_core.specs.Actors.{PlaysSent, PlaysGot, PlaysAction}
use Rattle.rs_core.specs.Histories.{Action, Sent, Got, History}
use Rattle.rs_core.proofs.Fifo.{sents, gots}
use Rattle.rs_demos.specs.Acting.{by_demo, talker_behind_value}
use Rattle.rs_demos.specs.declared.actors.DemoTalker.{DemoTalker}

-- it is sent by one of these arms
pub record SentAt (x : DemoTalker) (arms : List Arm) (q r : Role) (l : Label) (v : Value) (t : ℕ) (y : DemoTalker) : Type 0 where
  pub peer : q ≡ r
  pub arm : Arm
  pub picks : slice_get arms (by_demo.chooses x arms).0 ≡ Some arm
  pub label : arm.label ≡ l
  pub value : (by_demo.chooses x arms).1 ≡ v
  pub goes : arm.next ≡ t
  pub becomes : by_demo.asked x arms ≡ y

pub sent_at : (m : Machine_data) (s : ℕ) (x : DemoTalker) (arms : List Arm) (q r : Role) (l : Label) (v : Value) (t : ℕ) (y : DemoTalker)
    → slice_get m.states s ≡ Some (Puts q arms) → PlaysSent by_demo m s x r l v t y → SentAt x arms q r l v t y
sent_at m s x arms q r l v t y st p =
    let e : Some (Puts q arms) ≡ Some (Puts r p.arms) = sym st ∙ p.puts in
    let er : q ≡ r = cc (e) in
    let ea : p.arms ≡ arms = cc (e) in
    let P : List Arm → Type 0 = λ z. slice_get z (by_demo.chooses x z).0 ≡ Some p.arm in
    let V : List Arm → Type 0 = λ z. (by_demo.chooses x z).1 ≡ v in
    let B : List Arm → Type 0 = λ z. by_demo.asked x z ≡ y in
    record { peer = er; arm = p.arm; picks = subst P ea p.picks; label = p.same_label; value = subst V ea p.same_value; goes = p.goes; becomes = subst B ea p.becomes }

-- it is taken by one of these arms
pub record GotAt (x : DemoTalker) (arms : List Arm) (q r : Role) (l : Label) (v : Value) (t : ℕ) (y : DemoTalker) : Type 0 where
  pub peer : q ≡ r
  pub place : ℕ
  pub arm : Arm
  pub follows : slice_get arms place ≡ Some arm
  pub label : arm.label ≡ l
  pub goes : arm.next ≡ t
  pub becomes : talker_behind_value x v ≡ y

pub got_at : (m : Machine_data) (s : ℕ) (x : DemoTalker) (arms : List Arm) (q r : Role) (l : Label) (v : Value) (t : ℕ) (y : DemoTalker)
    → slice_get m.states s ≡ Some (Takes q arms) → PlaysGot by_demo m s x r l v t y → GotAt x arms q r l v t y
got_at m s x arms q r l v t y st p =
    let e : Some (Takes q arms) ≡ Some (Takes r p.arms) = sym st ∙ p.takes in
    let er : q ≡ r = cc (e) in
    let ea : p.arms ≡ arms = cc (e) in
    let P : List Arm → Type 0 = λ z. slice_get z p.place ≡ Some p.arm in
    record { peer = er; place = p.place; arm = p.arm; follows = subst P ea p.follows; label = p.same_label; goes = p.goes; becomes = p.becomes }

pub no_got : (m : Machine_data) (s : ℕ) (x : DemoTalker) (arms : List Arm) (q r : Role) (l : Label) (v : Value) (t : ℕ) (y : DemoTalker)
    → slice_get m.states s ≡ Some (Puts q arms) → PlaysGot by_demo m s x r l v t y → ⊥
no_got m s x arms q r l v t y st p = let e : Some (Puts q arms) ≡ Some (Takes r p.arms) = sym st ∙ p.takes in cc (e)

pub no_sent : (m : Machine_data) (s : ℕ) (x : DemoTalker) (arms : List Arm) (q r : Role) (l : Label) (v : Value) (t : ℕ) (y : DemoTalker)
    → slice_get m.states s ≡ Some (Takes q arms) → PlaysSent by_demo m s x r l v t y → ⊥
no_sent m s x arms q r l v t y st p = let e : Some (Takes q arms) ≡ Some (Puts r p.arms) = sym st ∙ p.puts in cc (e)

pub over : (m : Machine_data) (s : ℕ) (x : DemoTalker) (a : Action) (t : ℕ) (y : DemoTalker)
    → slice_get m.states s ≡ Some Done → PlaysAction by_demo m s x a t y → ⊥
over m s x (Sent r l v) t y st p = let e : Some Done ≡ Some (Puts r p.arms) = sym st ∙ p.puts in cc (e)
over m s x (Got r l v) t y st p = let e : Some Done ≡ Some (Takes r p.arms) = sym st ∙ p.takes in cc (e)

pub only_arm : (a arm : Arm) (place : ℕ) → slice_get (a ∷ []) place ≡ Some arm → a ≡ arm
only_arm a arm zero e = cc (e)
only_arm a arm (suc place) e = absurd (cc (e))

pub data OneOf (a b arm : Arm) : Type 0 where
  First : a ≡ arm → OneOf a b arm
  Second : b ≡ arm → OneOf a b arm

pub one_of : (a b arm : Arm) (place : ℕ) → slice_get (a ∷ b ∷ []) place ≡ Some arm → OneOf a b arm
one_of a b arm zero e = First (cc (e))
one_of a b arm (suc zero) e = Second (cc (e))
one_of a b arm (suc (suc place)) e = absurd (cc (e))

pub sents_cons : (q : ℕ) (r : Role) (l : Label) (v : Value) (h : History) → r.0 ≡ q → sents q (Sent r l v ∷ h) ≡ record { label = l; value = v } ∷ sents q h
sents_cons q r l v h e = elim (eqb_tells r.0 q) [ inl t ↦ rw t.0 refl | inr t ↦ absurd (t.1 e) ]

pub sents_skip : (q : ℕ) (r : Role) (l : Label) (v : Value) (h : History) → (r.0 ≡ q → ⊥) → sents q (Sent r l v ∷ h) ≡ sents q h
sents_skip q r l v h n = elim (eqb_tells r.0 q) [ inl t ↦ absurd (n t.1) | inr t ↦ rw t.0 refl ]

pub gots_cons : (q : ℕ) (r : Role) (l : Label) (v : Value) (h : History) → r.0 ≡ q → gots q (Got r l v ∷ h) ≡ record { label = l; value = v } ∷ gots q h
gots_cons q r l v h e = elim (eqb_tells r.0 q) [ inl t ↦ rw t.0 refl | inr t ↦ absurd (t.1 e) ]

pub gots_skip : (q : ℕ) (r : Role) (l : Label) (v : Value) (h : History) → (r.0 ≡ q → ⊥) → gots q (Got r l v ∷ h) ≡ gots q h
gots_skip q r l v h n = elim (eqb_tells r.0 q) [ inl t ↦ absurd (n t.1) | inr t ↦ rw t.0 refl ]

pub nowhere : (m : Machine_data) (s : ℕ) (x : DemoTalker) (a : Action) (t : ℕ) (y : DemoTalker)
    → slice_get m.states s ≡ None → PlaysAction by_demo m s x a t y → ⊥
nowhere m s x (Sent r l v) t y st p = let e : None ≡ Some (Puts r p.arms) = sym st ∙ p.puts in cc (e)
nowhere m s x (Got r l v) t y st p = let e : None ≡ Some (Takes r p.arms) = sym st ∙ p.takes in cc (e)
