-- What the play of a talker's actor says of one act, and that it is what the talker says and hears.
use Rattle.std.proofs.Common.{◌≡◌, inl, inr, ℕ, zero, suc, ◌+◌, Bool, true, false, List, [], ◌∷◌, Option, Some, None, slice_get, refl, sym, ap, subst, if◌then◌else◌}
use Rattle.rs_model.proofs.Serving.{test_by_serves}
use Rattle.rs_model.specs.Data.{Machine_data}
use Rattle.rs_model.specs.Serving.{Serves, serves}
use Rattle.rs_model.specs.declared.graph.Arm.{Arm}
use Rattle.rs_model.specs.declared.graph.Label.{Label}
use Rattle.rs_model.specs.declared.graph.Role.{Role}
use Rattle.rs_model.specs.declared.machines.State.TheVariants.{Puts}
use Rattle.rs_model.specs.declared.values.Sort.{Sort}
use Rattle.rs_model.specs.declared.values.Sort.TheVariants as sort
use Rattle.rs_model.specs.declared.values.Value.{Value}
use Rattle.rs_core.specs.Actors.{Choice, KeepsChoice, Plays, PlaysSent, PlaysFrom}
use Rattle.rs_core.specs.Histories.{Sent, Got, History}
use Rattle.rs_actors.specs.Talking.{Conduct, carried, first_place, arm_for, empty_for, chosen_at, behind_choice, by_sorts}
use Rattle.rs_actors.specs.Talks.{HasKept, IsEmpty, Says, Talks}

-- what goes where there is no arm is empty
empty_first : (arms : List Arm) → IsEmpty (empty_for arms)
empty_first [] = (sort.Unit, refl)
empty_first (a ∷ arms) = (a.sort, refl)

-- what a send is: the value at hand, or an empty one where the state has no arm for that
pub data Spoken {T : Type 0} (c : Conduct T) (machine : Machine_data) (s : ℕ) (x : T) (v : Value) (y : T) : Type 0 where
  AtHand : v ≡ carried (c.at_hand x) → c.behind_sending x ≡ y → Spoken c machine s x v y
  Empty : (peer : Role) → (arms : List Arm) → slice_get machine.states s ≡ Some (Puts peer arms) → arm_for c x arms ≡ None → IsEmpty v → x ≡ y → Spoken c machine s x v y

pub spoken : {T : Type 0} (c : Conduct T) (machine : Machine_data) (s : ℕ) (x : T) (peer : Role) (label : Label) (v : Value) (t : ℕ) (y : T)
    → PlaysSent (by_sorts c) machine s x peer label v t y → Spoken c machine s x v y
spoken {T} c machine s x peer label v t y p = go (arm_for c x p.arms) refl p.same_value p.becomes
  where
    go : (o : Option ℕ) → arm_for c x p.arms ≡ o → (chosen_at c x p.arms o).1 ≡ v → behind_choice c x o ≡ y → Spoken c machine s x v y
    go (Some place) e f b = AtHand (sym f) b
    go None e f b = Empty peer p.arms p.puts e (subst IsEmpty f (empty_first p.arms)) b

says : {T : Type 0} (c : Conduct T) (machine : Machine_data) (s : ℕ) (x : T) (v : Value) (y : T) → Spoken c machine s x v y → Says c x v y
says c machine s x v y (AtHand e f) = inl (e, f)
says c machine s x v y (Empty peer arms st none e f) = inr (e, f)

-- what is played is said and heard
pub talks : {T : Type 0} (c : Conduct T) (machine : Machine_data) (h : History) (s t : ℕ) (x y : T) → PlaysFrom (by_sorts c) machine s x h t y → Talks c x h y
talks c machine [] s t x y p = p.1
talks c machine (Sent peer label v ∷ h) s t x y p =
    (p.1, says c machine s x v p.1 (spoken c machine s x peer label v p.0 p.1 p.2), talks c machine h p.0 t p.1 y p.3)
talks {T} c machine (Got peer label v ∷ h) s t x y p =
    talks c machine h p.0 t (c.behind_value x v) y (subst (λ (z : T). PlaysFrom (by_sorts c) machine p.0 z h t y) (sym p.2.becomes) p.3)

-- and so with a choice that is kept
pub record TalksKeeping {T : Type 0} (c : Conduct T) (x : T) (h : History) (kept : Option Choice) (y : T) : Type 0 where
  pub before : T
  pub talks : Talks c x h before
  pub has_kept : HasKept c before kept y

keeping : {T : Type 0} (c : Conduct T) (machine : Machine_data) (s : ℕ) (x : T) (kept : Option Choice) (y : T) → KeepsChoice (by_sorts c) machine s x kept y → HasKept c x kept y
keeping c machine s x None y k = k
keeping {T} c machine s x (Some o) y k = go (arm_for c x k.1) k.3 k.4
  where
    go : (a : Option ℕ) → chosen_at c x k.1 a ≡ o → behind_choice c x a ≡ y → Says c x o.1 y
    go (Some place) e b = inl (ap (λ (z : Choice). z.1) (sym e), b)
    go None e b = inr (subst (λ (z : Choice). IsEmpty z.1) e (empty_first k.1), b)

pub talks_keeping : {T : Type 0} (c : Conduct T) (machine : Machine_data) (x : T) (h : History) (kept : Option Choice) (y : T) → Plays (by_sorts c) machine x h kept y → TalksKeeping c x h kept y
talks_keeping c machine x h kept y p = record {
  before = p.actor;
  talks = talks c machine h machine.start p.state x p.actor p.plays;
  has_kept = keeping c machine p.state p.actor kept y p.keeps;
}

-- where no place is found, a value of the sort may stand at no arm
pub nowhere : (arms : List Arm) (s : Sort) (from place : ℕ) (arm : Arm) → first_place s from arms ≡ None → slice_get arms place ≡ Some arm → Serves s arm.sort → ⊥
nowhere [] s from place arm e stands serve = cc (stands)
nowhere (a ∷ arms) s from place arm e stands serve = go (λ n k st. nowhere arms s (from + 1) n arm k st serve) (serves s a.sort) place refl e stands
  where
    go : ((n : ℕ) → first_place s (from + 1) arms ≡ None → slice_get arms n ≡ Some arm → ⊥) → (b : Bool) (n : ℕ) → serves s a.sort ≡ b
        → (if b then Some from else first_place s (from + 1) arms) ≡ None → slice_get (a ∷ arms) n ≡ Some arm → ⊥
    go later true n h k st = cc (k)
    go later false zero h k st =
        let same : a ≡ arm = cc (st) in
        let t : serves s a.sort ≡ true = test_by_serves s a.sort (subst (λ (z : Arm). Serves s z.sort) (sym same) serve) in
        cc (h, t)
    go later false (suc n) h k st = later n k st
