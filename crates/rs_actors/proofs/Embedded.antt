-- A talker that stands in another type plays as it does alone.
use Rattle.std.proofs.Common.{◌≡◌, ℕ, List, [], ◌∷◌, Option, Some, None, slice_get, refl, sym, ap, ◌∙◌, subst}
use Rattle.rs_model.specs.Data.{Machine_data}
use Rattle.rs_model.specs.declared.graph.Arm.{Arm}
use Rattle.rs_model.specs.declared.graph.Label.{Label}
use Rattle.rs_model.specs.declared.graph.Role.{Role}
use Rattle.rs_model.specs.declared.values.Value.{Value}
use Rattle.rs_core.specs.Actors.{Choice, KeepsChoice, Plays, PlaysSent, PlaysGot, PlaysFrom}
use Rattle.rs_core.specs.Histories.{Sent, Got, History}
use Rattle.rs_actors.specs.Talking.{Conduct, sort_of, carried, arm_place, arm_for, chosen_at, behind_choice, by_sorts}

module _ {A B : Type 0} (c : Conduct A) (d : Conduct B) (f : A → B)
    (hand : (x : A) → d.at_hand (f x) ≡ c.at_hand x)
    (sending : (x : A) → d.behind_sending (f x) ≡ f (c.behind_sending x))
    (coming : (x : A) (v : Value) → d.behind_value (f x) v ≡ f (c.behind_value x v)) where
  same_arm : (x : A) (arms : List Arm) → arm_for d (f x) arms ≡ arm_for c x arms
  same_arm x arms = ap (λ (v : Value). arm_place (sort_of v) arms) (hand x)

  chosen_there : (x : A) (arms : List Arm) (o : Option ℕ) → chosen_at d (f x) arms o ≡ chosen_at c x arms o
  chosen_there x arms (Some place) = ap (λ (v : Value). (place, carried v)) (hand x)
  chosen_there x arms None = refl

  same_choice : (x : A) (arms : List Arm) → (by_sorts d).chooses (f x) arms ≡ (by_sorts c).chooses x arms
  same_choice x arms = chosen_there x arms (arm_for d (f x) arms) ∙ ap (λ (o : Option ℕ). chosen_at c x arms o) (same_arm x arms)

  behind_there : (x : A) (o : Option ℕ) → behind_choice d (f x) o ≡ f (behind_choice c x o)
  behind_there x (Some place) = sending x
  behind_there x None = refl

  same_behind : (x : A) (arms : List Arm) → (by_sorts d).asked (f x) arms ≡ f ((by_sorts c).asked x arms)
  same_behind x arms = behind_there x (arm_for d (f x) arms) ∙ ap (λ (o : Option ℕ). f (behind_choice c x o)) (same_arm x arms)

  record SentAlone (machine : Machine_data) (s : ℕ) (x : A) (peer : Role) (label : Label) (v : Value) (t : ℕ) (y : B) : Type 0 where
    pub alone : A
    pub is_it : y ≡ f alone
    pub plays : PlaysSent (by_sorts c) machine s x peer label v t alone

  sent_alone : (machine : Machine_data) (s : ℕ) (x : A) (peer : Role) (label : Label) (v : Value) (t : ℕ) (y : B)
      → PlaysSent (by_sorts d) machine s (f x) peer label v t y → SentAlone machine s x peer label v t y
  sent_alone machine s x peer label v t y p = record {
    alone = (by_sorts c).asked x p.arms;
    is_it = sym p.becomes ∙ same_behind x p.arms;
    plays = record {
      arms = p.arms;
      arm = p.arm;
      puts = p.puts;
      picks = subst (λ (o : Choice). slice_get p.arms o.0 ≡ Some p.arm) (same_choice x p.arms) p.picks;
      same_label = p.same_label;
      same_value = subst (λ (o : Choice). o.1 ≡ v) (same_choice x p.arms) p.same_value;
      goes = p.goes;
      becomes = refl;
    };
  }

  got_alone : (machine : Machine_data) (s : ℕ) (x : A) (peer : Role) (label : Label) (v : Value) (t : ℕ) (y : B)
      → PlaysGot (by_sorts d) machine s (f x) peer label v t y → PlaysGot (by_sorts c) machine s x peer label v t (c.behind_value x v)
  got_alone machine s x peer label v t y p = record {
    arms = p.arms;
    place = p.place;
    arm = p.arm;
    takes = p.takes;
    follows = p.follows;
    same_label = p.same_label;
    goes = p.goes;
    becomes = refl;
  }

  alone : (machine : Machine_data) (h : History) (s t : ℕ) (x : A) (y : B) → PlaysFrom (by_sorts d) machine s (f x) h t y
      → (z : A) × (y ≡ f z) × PlaysFrom (by_sorts c) machine s x h t z
  alone machine [] s t x y p = (x, sym p.1, (p.0, refl))
  alone machine (Sent peer label v ∷ h) s t x y p =
      let one = sent_alone machine s x peer label v p.0 p.1 p.2 in
      let rest = alone machine h p.0 t one.alone y (subst (λ (z : B). PlaysFrom (by_sorts d) machine p.0 z h t y) one.is_it p.3) in
      (rest.0, rest.1, (p.0, one.alone, one.plays, rest.2))
  alone machine (Got peer label v ∷ h) s t x y p =
      let one = got_alone machine s x peer label v p.0 p.1 p.2 in
      let same : p.1 ≡ f (c.behind_value x v) = sym p.2.becomes ∙ coming x v in
      let rest = alone machine h p.0 t (c.behind_value x v) y (subst (λ (z : B). PlaysFrom (by_sorts d) machine p.0 z h t y) same p.3) in
      (rest.0, rest.1, (p.0, c.behind_value x v, one, rest.2))

  record PlaysAlone (machine : Machine_data) (x : A) (h : History) (kept : Option Choice) (y : B) : Type 0 where
    pub one : A
    pub is_it : y ≡ f one
    pub plays : Plays (by_sorts c) machine x h kept one

  keeps_alone : (machine : Machine_data) (x : A) (h : History) (s : ℕ) (z : A) (kept : Option Choice) (y : B) → PlaysFrom (by_sorts c) machine machine.start x h s z
      → KeepsChoice (by_sorts d) machine s (f z) kept y → PlaysAlone machine x h kept y
  keeps_alone machine x h s z None y p k = record { one = z; is_it = sym k; plays = record { state = s; actor = z; plays = p; keeps = refl } }
  keeps_alone machine x h s z (Some o) y p k = record {
    one = (by_sorts c).asked z k.1;
    is_it = sym k.4 ∙ same_behind z k.1;
    plays = record { state = s; actor = z; plays = p; keeps = (k.0, k.1, k.2, sym (same_choice z k.1) ∙ k.3, refl) };
  }

  pub alone_keeping : (machine : Machine_data) (x : A) (h : History) (kept : Option Choice) (y : B) → Plays (by_sorts d) machine (f x) h kept y
      → (z : A) × (y ≡ f z) × Plays (by_sorts c) machine x h kept z
  alone_keeping machine x h kept y p =
      let one = alone machine h machine.start p.state x p.actor p.plays in
      let r = keeps_alone machine x h p.state one.0 kept y one.2 (subst (λ (z : B). KeepsChoice (by_sorts d) machine p.state z kept y) one.1 p.keeps) in
      (r.one, r.is_it, r.plays)
