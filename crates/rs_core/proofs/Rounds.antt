-- What holds at every moment of a plain run.
use Rattle.std.proofs.Common.{◌≡◌, ◌≢◌, inl, inr, ℕ, zero, suc, ◌<◌, ◌≤◌, Bool, true, false, List, [], ◌∷◌, ◌++◌, Option, Some, None, slice_get, length, refl, sym, ap, ◌∙◌, subst, subst₂, arith}
use Rattle.std.proofs.Common.{length-append}
use Rattle.std.proofs.lemmas.Bool.Decides.{eqb_tells}
use Rattle.std.proofs.lemmas.Bool.{cases_lt}
use Rattle.rs_model.specs.Data.{Machine_data}
use Rattle.rs_model.specs.declared.graph.Arm.{Arm}
use Rattle.rs_model.specs.declared.graph.Role.{Role}
use Rattle.rs_model.specs.declared.machines.State.{State}
use Rattle.rs_model.specs.declared.machines.State.TheVariants.{Done, Puts, Takes}
use Rattle.rs_core.specs.Configurations.{Configuration, Send, Receive, state_at}
use Rattle.rs_core.specs.Histories.{Action, Sent, Got, History}
use Rattle.rs_core.specs.Actors.{Choice, Behaviour, PlaysSent, PlaysGot, PlaysFrom, KeepsChoice}
use Rattle.rs_core.specs.Plain.{Moment, StartsWith, offer_of, OthersStay, TurnSends, TurnReceives, TurnKeeps, Acts, BySend, ByReceive, Rests, HasEnded, Waits, FindsFull, IsAtLimit, LimitedTurn}
use Rattle.rs_core.specs.Plain.{PassingTurn, Passes, Plays, Turns}
use Rattle.rs_core.proofs.Stands.{machine_at, numbered}
use Rattle.rs_core.proofs.Stories.{Told, no_histories, story_same, story_snoc}
use Rattle.rs_core.proofs.Played.{plays_join}

module _ {A : Type 0} (b : Behaviour A) where
  -- an actor has played its history up to the state in which its machine stands, and keeps its choice
  pub record Going (m : Machine_data) (actor : A) (h : History) (s : ℕ) (kept : Option Choice) (now : A) : Type 0 where
    pub before : A
    pub plays : PlaysFrom b m m.start actor h s before
    pub keeps : KeepsChoice b m s before kept now

  -- what holds at a moment: the histories are those of a run, the actors play them, and none is above the limit
  pub record Sound (ms : List Machine_data) (actors : ℕ → A) (limit : ℕ) (l : Moment A) : Type 0 where
    pub told : Told ms l.history l.at
    pub going : (p : ℕ) (m : Machine_data) → slice_get ms p ≡ Some m → Going m (actors p) (l.history p) (l.at.at p) (l.kept p) (l.actor p)
    pub bounded : (p : ℕ) → length (l.history p) ≤ limit

  pub sound_start : (ms : List Machine_data) (actors : ℕ → A) (limit : ℕ) (l : Moment A) → StartsWith ms actors l → Sound ms actors limit l
  sound_start ms actors limit l s = record {
    told = record { first = l.at; starts = s.at; events = []; story = (refl, s.history) };
    going = λ p m is.
        let h : PlaysFrom b m m.start (actors p) [] (l.at.at p) (actors p) = (sym (s.at.states p m is), refl) in
        let P : History → Type 0 = λ z. PlaysFrom b m m.start (actors p) z (l.at.at p) (actors p) in
        let Q : Option Choice → Type 0 = λ z. KeepsChoice b m (l.at.at p) (actors p) z (l.actor p) in
        record { before = actors p; plays = subst P (sym (s.history p)) h; keeps = subst Q (sym (s.kept p)) (sym (s.actor p)) };
    bounded = λ p. rw (s.history p) (omega arith);
  }

  -- what is offered is what the actor chooses after its history
  pub offer_is : (m : Machine_data) (s : ℕ) (x y z : A) (kept : Option Choice) (peer : Role) (arms : List Arm) (choice : Choice) → KeepsChoice b m s x kept y
      → slice_get m.states s ≡ Some (Puts peer arms) → offer_of b y kept arms ≡ (choice, z) → (b.chooses x arms ≡ choice) × (b.asked x arms ≡ z)
  offer_is m s x y z None peer arms choice k st o =
      (ap (λ (w : A). b.chooses w arms) k ∙ ap (λ (w : Choice × A). w.0) o, ap (λ (w : A). b.asked w arms) k ∙ ap (λ (w : Choice × A). w.1) o)
  offer_is m s x y z (Some c) peer arms choice k st o =
      let e : Some (Puts k.0 k.1) ≡ Some (Puts peer arms) = sym k.2 ∙ st in
      let ea : k.1 ≡ arms = cc (e) in (
        ap (λ (w : List Arm). b.chooses x w) (sym ea) ∙ k.3 ∙ ap (λ (w : Choice × A). w.0) o,
        ap (λ (w : List Arm). b.asked x w) (sym ea) ∙ k.4 ∙ ap (λ (w : Choice × A). w.1) o,
      )

  -- a role that receives keeps nothing
  pub keeps_none : (m : Machine_data) (s : ℕ) (x y : A) (kept : Option Choice) (peer : Role) (arms : List Arm) → KeepsChoice b m s x kept y
      → slice_get m.states s ≡ Some (Takes peer arms) → (kept ≡ None) × (x ≡ y)
  keeps_none m s x y None peer arms k st = (refl, k)
  keeps_none m s x y (Some c) peer arms k st = absurd (cc (k.2, st))

  -- the parts of the others stay
  others_go : (ms : List Machine_data) (actors : ℕ → A) (limit p q : ℕ) (l k : Moment A) (m : Machine_data) → Sound ms actors limit l → OthersStay p l k → q ≢ p
      → k.at.at q ≡ l.at.at q → slice_get ms q ≡ Some m → Going m (actors q) (k.history q) (k.at.at q) (k.kept q) (k.actor q)
  others_go ms actors limit p q l k m s o ne at is =
      let g = s.going q m is in
      let P : History → ℕ → Type 0 = λ h i. PlaysFrom b m m.start (actors q) h i g.before in
      let K : ℕ → Option Choice → Type 0 = λ i c. KeepsChoice b m i g.before c (l.actor q) in
      let L : A → Type 0 = λ y. KeepsChoice b m (k.at.at q) g.before (k.kept q) y in
      record {
        before = g.before;
        plays = subst₂ P (sym (o.history q ne)) (sym at) g.plays;
        keeps = subst L (sym (o.actor q ne)) (subst₂ K (sym at) (sym (o.kept q ne)) g.keeps);
      }

  few_more : (limit p : ℕ) (l k : Moment A) (a : Action) → length (l.history p) < limit → k.history p ≡ l.history p ++ (a ∷ []) → length (k.history p) ≤ limit
  few_more limit p l k a less e = let n = ap length e ∙ length-append (l.history p) (a ∷ []) in omega arith

  few_others : (limit p : ℕ) (l k : Moment A) → ((q : ℕ) → length (l.history q) ≤ limit) → ((q : ℕ) → q ≢ p → k.history q ≡ l.history q)
      → length (k.history p) ≤ limit → (q : ℕ) → length (k.history q) ≤ limit
  few_others limit p l k few same here q = elim (eqb_tells q p) [
    | inl t ↦ (let P : ℕ → Type 0 = λ z. length (k.history z) ≤ limit in subst P (sym t.1) here)
    | inr t ↦ (let n = ap length (same q t.1) in let f = few q in omega arith)
  ]

  -- the parts of all roles: that of p, and those of the others
  all_go : (ms : List Machine_data) (actors : ℕ → A) (limit p : ℕ) (l k : Moment A) → Sound ms actors limit l → OthersStay p l k
      → ((q : ℕ) → q ≢ p → k.at.at q ≡ l.at.at q)
      → ((m : Machine_data) → slice_get ms p ≡ Some m → Going m (actors p) (k.history p) (k.at.at p) (k.kept p) (k.actor p))
      → (q : ℕ) (m : Machine_data) → slice_get ms q ≡ Some m → Going m (actors q) (k.history q) (k.at.at q) (k.kept q) (k.actor q)
  all_go ms actors limit p l k s o at here q m is = elim (eqb_tells q p) [
    | inl t ↦ (let P : ℕ → Type 0 = λ z. slice_get ms z ≡ Some m → Going m (actors z) (k.history z) (k.at.at z) (k.kept z) (k.actor z) in
        subst P (sym t.1) (here m) is)
    | inr t ↦ others_go ms actors limit p q l k m s o t.1 (at q t.1) is
  ]

  -- one turn
  sound_send : (ms : List Machine_data) (actors : ℕ → A) (limit : ℕ) (room : Option ℕ) (p : ℕ) (l k : Moment A) → Sound ms actors limit l → length (l.history p) < limit
      → TurnSends ms b room p l k → Sound ms actors limit k
  sound_send ms actors limit room p l k s less t = record {
    told = record {
      first = s.told.first;
      starts = s.told.starts;
      events = s.told.events ++ (Send (numbered p) t.choice.0 t.choice.1 ∷ []);
      story = story_snoc ms s.told.first no_histories s.told.events l.at l.history (Send (numbered p) t.choice.0 t.choice.1) k.at k.history s.told.story (t.step, t.history, t.others.history);
    };
    going = all_go ms actors limit p l k s t.others t.step.other_states here;
    bounded = few_others limit p l k s.bounded t.others.history (few_more limit p l k (Sent t.step.peer t.step.arm.label t.choice.1) less t.history);
  }
    where
      here : (m : Machine_data) → slice_get ms p ≡ Some m → Going m (actors p) (k.history p) (k.at.at p) (k.kept p) (k.actor p)
      here m is =
          let g = s.going p m is in
          let st = machine_at ms l.at p (Puts t.step.peer t.step.arms) m t.step.puts is in
          let o = offer_is m (l.at.at p) g.before (l.actor p) (k.actor p) (l.kept p) t.step.peer t.step.arms t.choice g.keeps st t.offers in
          let picks : slice_get t.step.arms (b.chooses g.before t.step.arms).0 ≡ Some t.step.arm =
          ap (λ (z : Choice). slice_get t.step.arms z.0) o.0 ∙ t.step.picks in
          let one : PlaysSent b m (l.at.at p) g.before t.step.peer t.step.arm.label t.choice.1 (k.at.at p) (k.actor p) =
          record { arms = t.step.arms; arm = t.step.arm; puts = st; picks = picks; same_label = refl; same_value = ap (λ (z : Choice). z.1) o.0; goes = sym t.step.goes; becomes = o.1 } in
          let a : Action = Sent t.step.peer t.step.arm.label t.choice.1 in
          let h = plays_join b m m.start (actors p) (l.history p) (Sent t.step.peer t.step.arm.label t.choice.1 ∷ []) (l.at.at p) (k.at.at p) g.before (k.actor p) g.plays
          (k.at.at p, k.actor p, one, (refl, refl)) in
          let P : History → Type 0 = λ z. PlaysFrom b m m.start (actors p) z (k.at.at p) (k.actor p) in
          let Q : Option Choice → Type 0 = λ z. KeepsChoice b m (k.at.at p) (k.actor p) z (k.actor p) in
          record { before = k.actor p; plays = subst P (sym t.history) h; keeps = subst Q (sym t.kept) refl }

  sound_receive : (ms : List Machine_data) (actors : ℕ → A) (limit p : ℕ) (l k : Moment A) → Sound ms actors limit l → length (l.history p) < limit
      → TurnReceives ms b p l k → Sound ms actors limit k
  sound_receive ms actors limit p l k s less t = record {
    told = record {
      first = s.told.first;
      starts = s.told.starts;
      events = s.told.events ++ (Receive (numbered p) ∷ []);
      story = story_snoc ms s.told.first no_histories s.told.events l.at l.history (Receive (numbered p)) k.at k.history s.told.story (t.step, t.history, t.others.history);
    };
    going = all_go ms actors limit p l k s t.others t.step.other_states here;
    bounded = few_others limit p l k s.bounded t.others.history (few_more limit p l k (Got t.step.peer t.step.message.label t.step.message.value) less t.history);
  }
    where
      here : (m : Machine_data) → slice_get ms p ≡ Some m → Going m (actors p) (k.history p) (k.at.at p) (k.kept p) (k.actor p)
      here m is =
          let g = s.going p m is in
          let st = machine_at ms l.at p (Takes t.step.peer t.step.arms) m t.step.takes is in
          let n = keeps_none m (l.at.at p) g.before (l.actor p) (l.kept p) t.step.peer t.step.arms g.keeps st in
          let one : PlaysGot b m (l.at.at p) g.before t.step.peer t.step.message.label t.step.message.value (k.at.at p) (k.actor p) =
          record {
            arms = t.step.arms;
            place = t.step.place;
            arm = t.step.arm;
            takes = st;
            follows = t.step.follows;
            same_label = t.step.same_label;
            goes = sym t.step.goes;
            becomes = ap (λ (z : A). b.told z t.step.arms t.step.place t.step.message.value) n.1 ∙ t.told;
          } in
          let h = plays_join b m m.start (actors p) (l.history p) (Got t.step.peer t.step.message.label t.step.message.value ∷ []) (l.at.at p) (k.at.at p) g.before (k.actor p) g.plays
          (k.at.at p, k.actor p, one, (refl, refl)) in
          let P : History → Type 0 = λ z. PlaysFrom b m m.start (actors p) z (k.at.at p) (k.actor p) in
          let Q : Option Choice → Type 0 = λ z. KeepsChoice b m (k.at.at p) (k.actor p) z (k.actor p) in
          record { before = k.actor p; plays = subst P (sym t.history) h; keeps = subst Q (sym (t.kept ∙ n.0)) refl }

  sound_keep : (ms : List Machine_data) (actors : ℕ → A) (limit : ℕ) (room : Option ℕ) (p : ℕ) (l k : Moment A) → Sound ms actors limit l
      → TurnKeeps ms b room p l k → Sound ms actors limit k
  sound_keep ms actors limit room p l k s t = record {
    told =
        let P : Configuration → Type 0 = λ z. Told ms k.history z in
        subst P (sym t.at) record {
          first = s.told.first;
          starts = s.told.starts;
          events = s.told.events;
          story = story_same ms s.told.first no_histories s.told.events l.at l.history k.history s.told.story same;
        };
    going = all_go ms actors limit p l k s t.others (λ q ne. ap (λ (z : Configuration). z.at q) t.at) here;
    bounded = λ q. let n = ap length (same q) in let f = s.bounded q in omega arith;
  }
    where
      same : (q : ℕ) → k.history q ≡ l.history q
      same q = elim (eqb_tells q p) [
        | inl e ↦ (let P : ℕ → Type 0 = λ z. k.history z ≡ l.history z in subst P (sym e.1) t.history)
        | inr e ↦ t.others.history q e.1
      ]

      here : (m : Machine_data) → slice_get ms p ≡ Some m → Going m (actors p) (k.history p) (k.at.at p) (k.kept p) (k.actor p)
      here m is =
          let g = s.going p m is in
          let st = machine_at ms l.at p (Puts t.peer t.arms) m t.puts is in
          let o = offer_is m (l.at.at p) g.before (l.actor p) (k.actor p) (l.kept p) t.peer t.arms t.choice g.keeps st t.offers in
          let at : k.at.at p ≡ l.at.at p = ap (λ (z : Configuration). z.at p) t.at in
          let P : History → ℕ → Type 0 = λ z i. PlaysFrom b m m.start (actors p) z i g.before in
          let K : ℕ → Option Choice → Type 0 = λ i c. KeepsChoice b m i g.before c (k.actor p) in
          record { before = g.before; plays = subst₂ P (sym t.history) (sym at) g.plays; keeps = subst₂ K (sym at) (sym t.kept) (t.peer, t.arms, st, o.0, o.1) }

  -- a role that makes an act and isn't at its limit has made fewer
  below : (ms : List Machine_data) (limit p : ℕ) (l : Moment A) (st : State) → (IsAtLimit ms limit p l → ⊥) → state_at ms l.at p ≡ Some st → st ≢ Done
      → length (l.history p) < limit
  below ms limit p l st not h ne = elim (cases_lt (length (l.history p)) limit) [
    | inl less ↦ less
    | inr more ↦ absurd (not record { acts = more; goes_on = λ d. let e : Some st ≡ Some Done = sym h ∙ d in ne (cc (e)) })
  ]

  pub sound_turn : (ms : List Machine_data) (actors : ℕ → A) (limit : ℕ) (room : Option ℕ) (p : ℕ) (l k : Moment A) (moved : Bool) → Sound ms actors limit l
      → LimitedTurn ms b limit room p l k moved → Sound ms actors limit k
  sound_turn ms actors limit room p l k true s t = acts t.1
    where
      acts : Acts ms b room p l k → Sound ms actors limit k
      acts (BySend x) = sound_send ms actors limit room p l k s (below ms limit p l (Puts x.step.peer x.step.arms) t.0 x.step.puts (λ e. cc (e))) x
      acts (ByReceive x) = sound_receive ms actors limit p l k s (below ms limit p l (Takes x.step.peer x.step.arms) t.0 x.step.takes (λ e. cc (e))) x
  sound_turn ms actors limit room p l k false s t = rests t.1
    where
      rests : Rests ms b room p l k → Sound ms actors limit k
      rests (HasEnded d e) = subst (λ (z : Moment A). Sound ms actors limit z) (sym e) s
      rests (Waits peer arms takes empty e) = subst (λ (z : Moment A). Sound ms actors limit z) (sym e) s
      rests (FindsFull x) = sound_keep ms actors limit room p l k s x

  pub sound_passing : (ms : List Machine_data) (actors : ℕ → A) (limit p : ℕ) (l k : Moment A) (moved : Bool) → Sound ms actors limit l
      → PassingTurn ms b limit p l k moved → Sound ms actors limit k
  sound_passing ms actors limit p l k moved s (Passes at e none) = subst (λ (z : Moment A). Sound ms actors limit z) (sym e) s
  sound_passing ms actors limit p l k moved s (Plays t) = sound_turn ms actors limit None p l k moved s t

  pub sound_turns : (ms : List Machine_data) (actors : ℕ → A) (limit : ℕ) (turn : ℕ → Moment A → Moment A → Bool → Type 0)
      → ((p : ℕ) (l k : Moment A) (moved : Bool) → Sound ms actors limit l → turn p l k moved → Sound ms actors limit k)
      → (many p : ℕ) (l k : Moment A) (moved : Bool) → Sound ms actors limit l → Turns turn many p l k moved → Sound ms actors limit k
  sound_turns ms actors limit turn one zero p l k moved s t = subst (λ (z : Moment A). Sound ms actors limit z) (sym t.0) s
  sound_turns ms actors limit turn one (suc many) p l k moved s t =
      sound_turns ms actors limit turn one many (suc p) t.0 k t.2 (one p l t.0 t.1 s t.3) t.4
