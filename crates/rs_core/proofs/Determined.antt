-- The outcome of a session doesn't depend on the order in which its roles act, nor on the capacity of its queues.
use Rattle.std.proofs.Common.{◌≡◌, ◌≢◌, inl, inr, ℕ, ◌*◌, ◌<◌, ◌≤◌, true, false, List, [], ◌∷◌, ◌++◌, Option, Some, None, slice_get, length, refl, sym, ap, ◌∙◌, subst, arith, append-nil}
use Rattle.std.proofs.Common.{length-append}
use Rattle.rs_model.specs.Data.{Machine_data}
use Rattle.rs_model.specs.declared.machines.State.TheVariants.{Done}
use Rattle.rs_core.specs.Configurations.{Configuration, state_at}
use Rattle.rs_core.specs.Safety.{CanMove, MaySend, MayReceive, AllEnded, IsSafe}
use Rattle.rs_core.specs.Choices.{AreWellFormed}
use Rattle.rs_core.specs.Histories.{History}
use Rattle.rs_core.specs.Actors.{Choice, Behaviour, ChoosesWell, PlaysFrom, KeepsChoice}
use Rattle.rs_core.specs.Plain.{Moment, StartsWith, IsAtLimit, LimitedTurn, PassingTurn, Turns, Ending, Ended, Stopped, Stuck, PlainFrom, AllDone, Stops, NoneMoves, GoesOn, IsPlain, Settles, Still}
use Rattle.rs_core.specs.Plain.{Again, IsStoppedEventually}
use Rattle.rs_core.specs.Determined.{IsRun, EndsWith, WasStopped, PlainIs}
use Rattle.rs_core.proofs.Stands.{machine_at}
use Rattle.rs_core.proofs.Stories.{Histories, Told, told_of_legal, legal_of_told}
use Rattle.rs_core.proofs.Fifo.{Comparable, Shorter, Longer}
use Rattle.rs_core.proofs.Played.{plays_same, done_same, done_longest}
use Rattle.rs_core.proofs.Compared.{AllPlay, AtHere, compare, told_at}
use Rattle.rs_core.proofs.Greatest.{state_of, greatest}
use Rattle.rs_core.proofs.Rounds.{Sound, sound_start}
use Rattle.rs_core.proofs.Idle.{idle, limited_idle, passing_idle}
use Rattle.rs_core.proofs.Ends.{get_there, Given, reached, sound_round, sound_passing_round, plain_ends, settles, first_moment, starts_with}

no_more : {X : Type 0} (xs zs : List X) (n : ℕ) → n ≤ length xs → length (xs ++ zs) ≤ n → zs ≡ []
no_more xs [] n low high = refl
no_more xs (z ∷ zs) n low high = absurd (omega (arith, length-append xs (z ∷ zs)))

module _ {A : Type 0} (b : Behaviour A) where
  -- a run that has come to c, in any order
  record Held (ms : List Machine_data) (actors : ℕ → A) (limit : ℕ) (h : Histories) (c : Configuration) : Type 0 where
    told : Told ms h c
    at : AtHere b ms actors c h
    bounded : (p : ℕ) → p < length ms → length (h p) ≤ limit

  played : (ms : List Machine_data) (actors : ℕ → A) (limit : ℕ) (h : Histories) (c : Configuration) → Held ms actors limit h c → AllPlay b ms actors h
  played ms actors limit h c r p m is = let y = r.at p m is in (c.at p, y.0, y.1)

  -- a moment of a plain run is one
  held_of_sound : (ms : List Machine_data) (actors : ℕ → A) (limit : ℕ) (l : Moment A) → Sound b ms actors limit l → Held ms actors limit l.history l.at
  held_of_sound ms actors limit l s = record {
    told = s.told;
    at = λ p m is. let g = s.going p m is in (g.before, g.plays);
    bounded = λ p there. s.bounded p;
  }

  -- what a role that is Done keeps is nothing
  keeps_nothing : (m : Machine_data) (s : ℕ) (x y : A) (kept : Option Choice) → slice_get m.states s ≡ Some Done → KeepsChoice b m s x kept y → x ≡ y
  keeps_nothing m s x y None d k = k
  keeps_nothing m s x y (Some c) d k = absurd (cc (d, k.2))

  -- a run that is given, in which a role that is Done keeps nothing, and its actor is the one that is left
  record Handed (ms : List Machine_data) (actors : ℕ → A) (limit : ℕ) (h : Histories) (c : Configuration) (after : ℕ → A) : Type 0 where
    held : Held ms actors limit h c
    left : (p : ℕ) (m : Machine_data) (is : slice_get ms p ≡ Some m) → state_at ms c p ≡ Some Done → (held.at p m is).0 ≡ after p

  handed : (ms : List Machine_data) (actors : ℕ → A) (limit : ℕ) (h : Histories) (c : Configuration) (after : ℕ → A) → AreWellFormed ms → IsRun ms b actors limit h c after
      → Handed ms actors limit h c after
  handed ms actors limit h c after wf r = record {
    held = record { told = told; at = at; bounded = r.bounded };
    left = λ p m is d.
        let k = r.played p m is in
        let a = at p m is in
        let same = plays_same b m (length ms) m.start (actors p) (h p) k.1.state (c.at p) k.1.actor a.0 (wf.fits p m is) k.1.plays a.1 in
        let done = machine_at ms c p Done m d is in
        let P : ℕ → Type 0 = λ z. slice_get m.states z ≡ Some Done in
        sym same.1 ∙ keeps_nothing m k.1.state k.1.actor (after p) k.0 (subst P (sym same.0) done) k.1.keeps;
  }
    where
      told : Told ms h c
      told = told_of_legal ms h c r.legal

      at : AtHere b ms actors c h
      at = told_at b ms actors h c wf (told_of_legal ms h c r.legal) (λ p m is. (let k = r.played p m is in (k.1.state, k.1.actor, k.1.plays)))

  -- with the same history a role stands at the same state
  same_state : (ms : List Machine_data) (actors : ℕ → A) (limit : ℕ) (h k : Histories) (c d : Configuration) (p : ℕ) (m : Machine_data) → AreWellFormed ms
      → Held ms actors limit h c → Held ms actors limit k d → slice_get ms p ≡ Some m → h p ≡ k p → c.at p ≡ d.at p
  same_state ms actors limit h k c d p m wf r s is e =
      let x = r.at p m is in
      let y = s.at p m is in
      let P : History → Type 0 = λ z. PlaysFrom b m m.start (actors p) z (c.at p) x.0 in
      (plays_same b m (length ms) m.start (actors p) (k p) (c.at p) (d.at p) x.0 y.0 (wf.fits p m is) (subst P e x.1) y.1).0

  -- a role that has ended in one run isn't at its limit in another
  not_both_shown : (ms : List Machine_data) (actors : ℕ → A) (limit : ℕ) (h k : Histories) (c d : Configuration) (p : ℕ) → AreWellFormed ms
      → Held ms actors limit h c → Held ms actors limit k d → p < length ms
      → state_at ms c p ≡ Some Done → limit ≤ length (k p) → state_at ms d p ≢ Some Done → ⊥
  not_both_shown ms actors limit h k c d p wf r s there done many goes =
      by (compare b ms actors h k c d wf r.told s.told (played ms actors limit h c r) (played ms actors limit k d s) p there)
    where
      m : (m : Machine_data) × (slice_get ms p ≡ Some m)
      m = get_there ms p there

      equal : h p ≡ k p → ⊥
      equal e =
          let st = machine_at ms c p Done (get_there ms p there).0 done (get_there ms p there).1 in
          let P : ℕ → Type 0 = λ z. slice_get (get_there ms p there).0.states z ≡ Some Done in
          goes (state_of ms d p (get_there ms p there).0 Done (get_there ms p there).1 (subst P (same_state ms actors limit h k c d p (get_there ms p there).0 wf r s (get_there ms p there).1 e) st))

      by : Comparable (k p) (h p) → ⊥
      by (Shorter zs e) =
          let few = r.bounded p there in
          let l : length (k p ++ zs) ≤ limit = (let q = ap length e in omega arith) in
          let none = no_more (k p) zs limit many l in
          equal (e ∙ ap (λ (z : History). k p ++ z) none ∙ append-nil (k p))
      by (Longer zs e) =
          let is = (get_there ms p there).1 in
          let x = r.at p (get_there ms p there).0 (get_there ms p there).1 in
          let y = s.at p (get_there ms p there).0 (get_there ms p there).1 in
          let P : History → Type 0 = λ z. PlaysFrom b (get_there ms p there).0 (get_there ms p there).0.start (actors p) z (d.at p) y.0 in
          let st = machine_at ms c p Done (get_there ms p there).0 done (get_there ms p there).1 in
          let none = done_longest b (get_there ms p there).0 (length ms) (actors p) (h p) zs (c.at p) (d.at p) x.0 y.0 (wf.fits p (get_there ms p there).0 (get_there ms p there).1) x.1 (subst P e y.1)
          st in
          equal (sym (e ∙ ap (λ (z : History). h p ++ z) none ∙ append-nil (h p)))

  -- what the outcomes of a plain run say
  SoundOutcome : List Machine_data → (ℕ → A) → ℕ → Option ℕ → Ending A → Type 0
  SoundOutcome ms actors limit room (Ended k) = Sound b ms actors limit k × ((p : ℕ) → p < length ms → state_at ms k.at p ≡ Some Done)
  SoundOutcome ms actors limit room (Stopped p k) = Sound b ms actors limit k × (p < length ms) × IsAtLimit ms limit p k
  SoundOutcome ms actors limit room (Stuck k) = room ≢ None

  sound_outcome : (ms : List Machine_data) (actors : ℕ → A) (limit : ℕ) (room : Option ℕ) (l : Moment A) (o : Ending A) → Given b ms → Sound b ms actors limit l
      → PlainFrom ms b limit room l o → SoundOutcome ms actors limit room o
  unfolding SoundOutcome
  sound_outcome ms actors limit room _ _ given s (AllDone l all) = (s, all)
  sound_outcome ms actors limit room _ _ given s (Stops p l k moved there ts at) = (sound_round b ms actors limit room p l k moved s ts, there, at)
  sound_outcome ms actors limit room _ _ given s (NoneMoves p l k there goes ts) = λ e. stuck e ts
    where
      stuck : room ≡ None → Turns (LimitedTurn ms b limit room) (length ms) 0 l k false → ⊥
      stuck e ts =
          let P : Option ℕ → Type 0 = λ z. Turns (LimitedTurn ms b limit z) (length ms) 0 l k false in
          let Q : ℕ → Moment A → Type 0 = λ r x. CanMove ms x.at r → ⊥ in
          let still = idle b (LimitedTurn ms b limit None) (λ r x. CanMove ms x.at r → ⊥) (limited_idle b ms limit) (length ms) 0 l k (subst P e ts) in
          elim (given.safe.goes_on l.at (reached b ms actors limit l s)) [
            | inl can ↦ still.1 can.0 (omega arith) (omega (arith, can.1)) can.2
            | inr all ↦ goes (all.done p there)
          ]
  sound_outcome ms actors limit room _ _ given s (GoesOn l m o ts rest) =
      sound_outcome ms actors limit room m o given (sound_round b ms actors limit room (length ms) l m true s ts) rest

  plain_outcome : (ms : List Machine_data) (actors : ℕ → A) (limit : ℕ) (room : Option ℕ) (o : Ending A) → Given b ms → IsPlain ms b actors limit room o
      → SoundOutcome ms actors limit room o
  plain_outcome ms actors limit room o given p = sound_outcome ms actors limit room p.first o given (sound_start b ms actors limit p.first p.starts) p.run

  -- there is an outcome
  some_outcome : (ms : List Machine_data) (actors : ℕ → A) (limit : ℕ) → Given b ms → (o : Ending A) × IsPlain ms b actors limit None o
  some_outcome ms actors limit given =
      let r = plain_ends b (length ms * limit) ms actors limit None (first_moment b ms actors) given (sound_start b ms actors limit (first_moment b ms actors) (starts_with b ms actors)) (omega arith)
      in
      (r.0, record { first = first_moment b ms actors; starts = starts_with b ms actors; run = r.1 })

  -- where all have ended, so has the plain run, with the same histories and the same actors
  ends : (ms : List Machine_data) (actors : ℕ → A) (limit : ℕ) (h : Histories) (c : Configuration) (after : ℕ → A) → Given b ms → Handed ms actors limit h c after
      → ((p : ℕ) → p < length ms → state_at ms c p ≡ Some Done) → (o : Ending A) → SoundOutcome ms actors limit None o → EndsWith ms h after o
  unfolding SoundOutcome
  ends ms actors limit h c after given r all (Ended k) s = λ p there.
      let m = get_there ms p there in
      let wf = given.wf.fits p m.0 m.1 in
      let held = held_of_sound ms actors limit k s.0 in
      let x = r.held.at p m.0 m.1 in
      let g = s.0.going p m.0 m.1 in
      let dc = machine_at ms c p Done m.0 (all p there) m.1 in
      let dk = machine_at ms k.at p Done m.0 (s.1 p there) m.1 in
      let same = done_same b m.0 (length ms) (actors p) (k.history p) (h p) (k.at.at p) (c.at p) g.before x.0 wf g.plays x.1 dk dc
      (compare b ms actors h k.history c k.at given.wf r.held.told s.0.told (played ms actors limit h c r.held) (played ms actors limit k.history k.at held) p there) in
      (same.0, sym (keeps_nothing m.0 (k.at.at p) g.before (k.actor p) (k.kept p) dk g.keeps) ∙ same.1 ∙ r.left p m.0 m.1 (all p there))
  ends ms actors limit h c after given r all (Stopped q k) s =
      not_both_shown ms actors limit h k.history c k.at q given.wf r.held (held_of_sound ms actors limit k s.0) s.1 (all q s.1) s.2.acts s.2.goes_on
  ends ms actors limit h c after given r all (Stuck k) s = s refl

  -- where a role is at its limit, the plain run is stopped
  stops : (ms : List Machine_data) (actors : ℕ → A) (limit : ℕ) (h : Histories) (c : Configuration) (p : ℕ) → Given b ms → Held ms actors limit h c → p < length ms
      → limit ≤ length (h p) → state_at ms c p ≢ Some Done → (o : Ending A) → SoundOutcome ms actors limit None o → WasStopped o
  unfolding SoundOutcome
  stops ms actors limit h c p given r there many goes (Ended k) s =
      not_both_shown ms actors limit k.history h k.at c p given.wf (held_of_sound ms actors limit k s.0) r there (s.1 p there) many goes
  stops ms actors limit h c p given r there many goes (Stopped q k) s = tt
  stops ms actors limit h c p given r there many goes (Stuck k) s = s refl

  -- where rounds settle, no role below its limit can go on
  settled : (ms : List Machine_data) (actors : ℕ → A) (limit : ℕ) (l k : Moment A) → Sound b ms actors limit l → Settles ms b limit l k
      → Sound b ms actors limit k × ((p : ℕ) → p < length ms → length (k.history p) < limit → CanMove ms k.at p → ⊥)
  settled ms actors limit _ _ s (Still l k ts) =
      let still = idle b (PassingTurn ms b limit) (λ r x. length (x.history r) < limit → CanMove ms x.at r → ⊥) (passing_idle b ms limit) (length ms) 0 l k ts in
      let P : Moment A → Type 0 = λ x. (p : ℕ) → p < length ms → length (x.history p) < limit → CanMove ms x.at p → ⊥ in
      (sound_passing_round b ms actors limit (length ms) 0 l k false s ts, subst P (sym still.0) (λ p there. still.1 p (omega arith) (omega arith)))
  settled ms actors limit _ _ s (Again l m k ts rest) = settled ms actors limit m k (sound_passing_round b ms actors limit (length ms) 0 l m true s ts) rest

  -- where rounds settle, a role that is at its limit in a run is at it there too
  eventually : (ms : List Machine_data) (actors : ℕ → A) (limit : ℕ) (h : Histories) (c : Configuration) (p : ℕ) → Given b ms → Held ms actors limit h c → p < length ms
      → limit ≤ length (h p) → state_at ms c p ≢ Some Done → IsStoppedEventually ms b actors limit p
  eventually ms actors limit h c p given r there many goes =
      let start = sound_start b ms actors limit (first_moment b ms actors) (starts_with b ms actors) in
      let e = settles b (length ms * limit) ms actors limit (first_moment b ms actors) given start (omega arith) in
      let s = settled ms actors limit (first_moment b ms actors) e.0 start e.1 in
      let held = held_of_sound ms actors limit e.0 s.0 in
      let g = greatest b ms actors limit h e.0.history c e.0.at given.wf r.told s.0.told (played ms actors limit h c r) (played ms actors limit e.0.history e.0.at held) s.1 r.bounded p there in
      let few = s.0.bounded p in
      let l : length (h p ++ g.0) ≤ limit = (let q = ap length g.1 in omega arith) in
      let none = no_more (h p) g.0 limit many l in
      let same : e.0.history p ≡ h p = g.1 ∙ ap (λ (z : History). h p ++ z) none ∙ append-nil (h p) in
      let m = get_there ms p there in
      let st = same_state ms actors limit e.0.history h e.0.at c p m.0 given.wf held r m.1 same in
      record {
        first = first_moment b ms actors;
        last = e.0;
        starts = starts_with b ms actors;
        settles = e.1;
        present = there;
        stopped = record {
          acts = (let q = ap length same in omega arith);
          goes_on = λ d.
              let dm = machine_at ms e.0.at p Done m.0 d m.1 in
              let P : ℕ → Type 0 = λ z. slice_get m.0.states z ≡ Some Done in
              goes (state_of ms c p m.0 Done m.1 (subst P st dm));
        };
      }

  -- the law
  pub determined_ended : ChoosesWell b → (ms : List Machine_data) (actors : ℕ → A) (limit : ℕ) (h : Histories) (c : Configuration) (after : ℕ → A) → IsSafe ms → AreWellFormed ms
      → IsRun ms b actors limit h c after → AllEnded ms c → PlainIs ms b actors limit None (EndsWith ms h after)
  determined_ended well ms actors limit h c after safe wf r all =
      let given : Given b ms = record { safe = safe; wf = wf; well = well } in
      record {
        some = some_outcome ms actors limit given;
        each = λ o p. ends ms actors limit h c after given (handed ms actors limit h c after wf r) all.done o (plain_outcome ms actors limit None o given p);
      }

  pub determined_stopped : ChoosesWell b → (ms : List Machine_data) (actors : ℕ → A) (limit : ℕ) (h : Histories) (c : Configuration) (after : ℕ → A) → IsSafe ms → AreWellFormed ms
      → IsRun ms b actors limit h c after → (p : ℕ) → p < length ms → limit ≤ length (h p) → state_at ms c p ≢ Some Done
      → PlainIs ms b actors limit None WasStopped × IsStoppedEventually ms b actors limit p
  determined_stopped well ms actors limit h c after safe wf r p there many goes =
      let given : Given b ms = record { safe = safe; wf = wf; well = well } in
      let held = (handed ms actors limit h c after wf r).held in (
        record {
          some = some_outcome ms actors limit given;
          each = λ o is. stops ms actors limit h c p given held there many goes o (plain_outcome ms actors limit None o given is);
        },
        eventually ms actors limit h c p given held there many goes,
      )

  -- a plain run is a run
  run_of_sound : (ms : List Machine_data) (actors : ℕ → A) (limit : ℕ) (k : Moment A) → Sound b ms actors limit k → IsRun ms b actors limit k.history k.at k.actor
  run_of_sound ms actors limit k s = record {
    legal = legal_of_told ms k.history k.at s.told;
    played = λ p m is. let g = s.going p m is in (k.kept p, record { state = k.at.at p; actor = g.before; plays = g.plays; keeps = g.keeps });
    bounded = λ p there. s.bounded p;
  }

  -- where all machines of a safe session are Done, all have ended
  all_ended : (ms : List Machine_data) (actors : ℕ → A) (limit : ℕ) (k : Moment A) → Given b ms → Sound b ms actors limit k
      → ((p : ℕ) → p < length ms → state_at ms k.at p ≡ Some Done) → AllEnded ms k.at
  all_ended ms actors limit k given s done = elim (given.safe.goes_on k.at (reached b ms actors limit k s)) [
    | inr all ↦ all
    | inl can ↦ absurd (stays can.0 (done can.0 can.1) can.2)
  ]
    where
      stays : (p : ℕ) → state_at ms k.at p ≡ Some Done → CanMove ms k.at p → ⊥
      stays p d (MaySend peer arms h) = cc (d, h)
      stays p d (MayReceive peer arms m later h o) = cc (d, h)

  -- whatever the capacity
  pub determined_capacity : ChoosesWell b → (ms : List Machine_data) (actors : ℕ → A) (limit : ℕ) (room : Option ℕ) (k : Moment A) → IsSafe ms → AreWellFormed ms
      → IsPlain ms b actors limit room (Ended k) → PlainIs ms b actors limit None (EndsWith ms k.history k.actor)
  unfolding SoundOutcome
  determined_capacity well ms actors limit room k safe wf p =
      let given : Given b ms = record { safe = safe; wf = wf; well = well } in
      let s = plain_outcome ms actors limit room (Ended k) given p in
      determined_ended well ms actors limit k.history k.at k.actor safe wf (run_of_sound ms actors limit k s.0) (all_ended ms actors limit k given s.0 s.1)

  pub determined_capacity_stopped : ChoosesWell b → (ms : List Machine_data) (actors : ℕ → A) (limit : ℕ) (room : Option ℕ) (p : ℕ) (k : Moment A) → IsSafe ms → AreWellFormed ms
      → IsPlain ms b actors limit room (Stopped p k) → PlainIs ms b actors limit None WasStopped × IsStoppedEventually ms b actors limit p
  unfolding SoundOutcome
  determined_capacity_stopped well ms actors limit room p k safe wf is =
      let given : Given b ms = record { safe = safe; wf = wf; well = well } in
      let s = plain_outcome ms actors limit room (Stopped p k) given is in
      determined_stopped well ms actors limit k.history k.at k.actor safe wf (run_of_sound ms actors limit k s.0) p s.1 s.2.acts s.2.goes_on

  -- the plain run over unbounded queues has an outcome, and is never stuck
  pub never_stuck_shown : ChoosesWell b → (ms : List Machine_data) (actors : ℕ → A) (limit : ℕ) (k : Moment A) → IsSafe ms → AreWellFormed ms
      → IsPlain ms b actors limit None (Stuck k) → ⊥
  unfolding SoundOutcome
  never_stuck_shown well ms actors limit k safe wf is = plain_outcome ms actors limit None (Stuck k) record { safe = safe; wf = wf; well = well } is refl

  -- wherever the rounds settle, the roles at their limits are the same
  pub one_reached : (ms : List Machine_data) (actors : ℕ → A) (limit p : ℕ) (first last : Moment A) → AreWellFormed ms → IsStoppedEventually ms b actors limit p
      → StartsWith ms actors first → Settles ms b limit first last → IsAtLimit ms limit p last
  one_reached ms actors limit p first last wf e starts run =
      let s = settled ms actors limit e.first e.last (sound_start b ms actors limit e.first e.starts) e.settles in
      let t = settled ms actors limit first last (sound_start b ms actors limit first starts) run in
      let one = held_of_sound ms actors limit e.last s.0 in
      let other = held_of_sound ms actors limit last t.0 in
      let g = greatest b ms actors limit e.last.history last.history e.last.at last.at wf one.told other.told (played ms actors limit e.last.history e.last.at one)
      (played ms actors limit last.history last.at other) t.1 one.bounded p e.present in
      let few = t.0.bounded p in
      let l : length (e.last.history p ++ g.0) ≤ limit = (let q = ap length g.1 in omega arith) in
      let none = no_more (e.last.history p) g.0 limit e.stopped.acts l in
      let same : last.history p ≡ e.last.history p = g.1 ∙ ap (λ (z : History). e.last.history p ++ z) none ∙ append-nil (e.last.history p) in
      let m = get_there ms p e.present in
      let st = same_state ms actors limit last.history e.last.history last.at e.last.at p m.0 wf other one m.1 same in
      record {
        acts = (let q = ap length same in let a = e.stopped.acts in omega arith);
        goes_on = λ d.
            let dm = machine_at ms last.at p Done m.0 d m.1 in
            let P : ℕ → Type 0 = λ z. slice_get m.0.states z ≡ Some Done in
            e.stopped.goes_on (state_of ms e.last.at p m.0 Done m.1 (subst P st dm));
      }
