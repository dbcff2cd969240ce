-- The plain run of safe and well-formed machines comes to an end, with queues of any capacity or of none.
use Rattle.std.proofs.Common.{◌≡◌, ◌≢◌, ◌⊎◌, inl, inr, ℕ, zero, suc, ◌+◌, ◌*◌, ◌<◌, ◌≤◌, Bool, true, false, ◌||◌, List, [], ◌∷◌, ◌++◌, Option, Some, None, slice_get, length, refl, sym, ap, ◌∙◌}
use Rattle.std.proofs.Common.{subst, arith}
use Rattle.std.proofs.lemmas.Bool.{cases_lt}
use Rattle.rs_model.specs.Data.{Machine_data}
use Rattle.rs_model.specs.Sorts.{HasSort}
use Rattle.rs_model.specs.WellFormed.{IsWellFormedMachine}
use Rattle.rs_model.specs.declared.graph.Arm.{Arm}
use Rattle.rs_model.specs.declared.graph.Role.{Role}
use Rattle.rs_model.specs.declared.machines.State.{State}
use Rattle.rs_model.specs.declared.machines.State.TheVariants.{Done, Puts, Takes}
use Rattle.rs_core.specs.Configurations.{Message, state_at, IsReachable}
use Rattle.rs_core.specs.Safety.{IsSafe}
use Rattle.rs_core.specs.Choices.{AreWellFormed}
use Rattle.rs_core.specs.Histories.{Action, Sent, Got, History}
use Rattle.rs_core.specs.Actors.{Choice, Behaviour, ChoosesWell, PlaysAction, PlaysFrom}
use Rattle.rs_core.specs.Plain.{Moment, StartsWith, HasRoom, IsFull, IsPlain, offer_of, BySend, ByReceive, FindsFull, HasEnded, Waits, IsAtLimit, LimitedTurn, PassingTurn, Passes, Plays, Turns}
use Rattle.rs_core.specs.Plain.{Ending, Ended, Stopped, Stuck, PlainFrom, AllDone, Stops, NoneMoves, GoesOn, Settles, Still, Again}
use Rattle.rs_core.proofs.Items.{put_at, put_at_same, put_at_other}
use Rattle.rs_core.proofs.Moves.{after_send, after_receive, send_step, receive_step}
use Rattle.rs_core.proofs.Nexts.{find}
use Rattle.rs_core.proofs.Stories.{legal_of_told}
use Rattle.rs_core.proofs.Greatest.{state_of}
use Rattle.rs_core.proofs.Rounds.{Sound, offer_is, sound_start, sound_turn, sound_passing, sound_turns}
use Rattle.rs_core.proofs.Idle.{total, total_more, total_most, limited_grows, passing_grows, turns_grow}

pub get_there : {X : Type 0} (xs : List X) (p : ℕ) → p < length xs → (x : X) × (slice_get xs p ≡ Some x)
get_there [] p h = absurd (omega arith)
get_there (x ∷ xs) zero h = (x, refl)
get_there (x ∷ xs) (suc p) h = get_there xs p (omega arith)

module _ {A : Type 0} (b : Behaviour A) where
  -- a machine that is well formed stays among its states
  inside_one : (m : Machine_data) (roles s : ℕ) (x : A) (a : Action) (t : ℕ) (y : A) → IsWellFormedMachine m roles → PlaysAction b m s x a t y → t < length m.states
  inside_one m roles s x (Sent r l v) t y wf p =
      let P : ℕ → Type 0 = λ z. z < length m.states in
      subst P p.goes ((wf.puts s r p.arms p.puts).nexts (b.chooses x p.arms).0 p.arm p.picks)
  inside_one m roles s x (Got r l v) t y wf p =
      let P : ℕ → Type 0 = λ z. z < length m.states in
      subst P p.goes ((wf.takes s r p.arms p.takes).nexts p.place p.arm p.follows)

  inside : (m : Machine_data) (roles s : ℕ) (x : A) (h : History) (t : ℕ) (y : A) → IsWellFormedMachine m roles → s < length m.states → PlaysFrom b m s x h t y
      → t < length m.states
  inside m roles s x [] t y wf low p = let P : ℕ → Type 0 = λ z. z < length m.states in subst P p.0 low
  inside m roles s x (a ∷ h) t y wf low p = inside m roles p.0 p.1 h t y wf (inside_one m roles s x a p.0 p.1 wf p.2) p.3

  -- what is given: the machines are safe and well formed, and the actors choose well
  pub record Given (ms : List Machine_data) : Type 0 where
    pub safe : IsSafe ms
    pub wf : AreWellFormed ms
    pub well : ChoosesWell b

  pub reached : (ms : List Machine_data) (actors : ℕ → A) (limit : ℕ) (l : Moment A) → Sound b ms actors limit l → IsReachable ms l.at
  reached ms actors limit l s =
      let legal = legal_of_told ms l.history l.at s.told in
      record { first = legal.first; events = legal.events; starts = legal.starts; steps = legal.steps }

  -- role p can have its turn
  abbrev pub CanTurn : List Machine_data → ℕ → Option ℕ → ℕ → Moment A → Type 0
  CanTurn ms limit capacity p l = (k : Moment A) × (moved : Bool) × LimitedTurn ms b limit capacity p l k moved

  room_or_full : (capacity : Option ℕ) (queue : List Message) → HasRoom capacity queue ⊎ IsFull capacity queue
  room_or_full None queue = inl tt
  room_or_full (Some capacity) queue = elim (cases_lt (length queue) capacity) [ inl less ↦ inl less | inr more ↦ inr more ]

  below_limit : (ms : List Machine_data) (limit p : ℕ) (l : Moment A) → length (l.history p) < limit → IsAtLimit ms limit p l → ⊥
  below_limit ms limit p l less at = let h = at.acts in absurd (omega arith)

  can_send : (ms : List Machine_data) (actors : ℕ → A) (limit : ℕ) (capacity : Option ℕ) (p : ℕ) (l : Moment A) (m : Machine_data) (peer : Role) (arms : List Arm) → Given ms
      → Sound b ms actors limit l
      → slice_get ms p ≡ Some m → slice_get m.states (l.at.at p) ≡ Some (Puts peer arms) → length (l.history p) < limit → CanTurn ms limit capacity p l
  unfolding send_step
  can_send ms actors limit capacity p l m peer arms given s is st less =
      let g = s.going p m is in
      let choice : Choice = (offer_of b (l.actor p) (l.kept p) arms).0 in
      let now : A = (offer_of b (l.actor p) (l.kept p) arms).1 in
      let o = offer_is b m (l.at.at p) g.before (l.actor p) (offer_of b (l.actor p) (l.kept p) arms).1 (l.kept p) peer arms (offer_of b (l.actor p) (l.kept p) arms).0 g.keeps st refl in
      let fits = (given.wf.fits p m is).puts (l.at.at p) peer arms st in
      let good = given.well g.before arms fits.some in
      let picks : slice_get arms (offer_of b (l.actor p) (l.kept p) arms).0.0 ≡ Some good.0 = ap (λ (z : Choice). slice_get arms z.0) (sym o.0) ∙ good.1 in
      let P : Choice → Type 0 = λ z. HasSort z.1 good.0.sort in
      let has = subst P o.0 good.2 in
      elim (room_or_full capacity (l.at.queue p peer.0)) [
        | inl some ↦ sending ms limit capacity p l peer arms good.0 (offer_of b (l.actor p) (l.kept p) arms).0 (offer_of b (l.actor p) (l.kept p) arms).1 (state_of ms l.at p m (Puts peer arms) is st)
            picks has refl less some
        | inr none ↦ keeping ms limit capacity p l peer arms (offer_of b (l.actor p) (l.kept p) arms).0 (offer_of b (l.actor p) (l.kept p) arms).1 (state_of ms l.at p m (Puts peer arms) is st)
            refl less none
      ]
    where
      sending : (ms : List Machine_data) (limit : ℕ) (capacity : Option ℕ) (p : ℕ) (l : Moment A) (peer : Role) (arms : List Arm) (arm : Arm) (choice : Choice) (now : A)
          → state_at ms l.at p ≡ Some (Puts peer arms) → slice_get arms choice.0 ≡ Some arm → HasSort choice.1 arm.sort
          → offer_of b (l.actor p) (l.kept p) arms ≡ (choice, now) → length (l.history p) < limit → HasRoom capacity (l.at.queue p peer.0) → CanTurn ms limit capacity p l
      sending ms limit capacity p l peer arms arm choice now puts picks has offers less some =
          let k : Moment A = record {
            at = after_send l.at p peer arm choice.1;
            history = put_at l.history p (l.history p ++ (Sent peer arm.label choice.1 ∷ []));
            actor = put_at l.actor p now;
            kept = put_at l.kept p None;
          } in
          let pair : (Choice × A) = (choice, now) in (
            k,
            true,
            (
              below_limit ms limit p l less,
              BySend record {
                choice = choice;
                step = send_step ms l.at p choice.0 choice.1 peer arms arm puts picks has;
                room = some;
                offers = offers ∙ ap (λ (z : A). (choice, z)) (sym (put_at_same l.actor p now));
                history = put_at_same l.history p (l.history p ++ (Sent peer arm.label choice.1 ∷ []));
                kept = put_at_same l.kept p None;
                others = record {
                  history = put_at_other l.history p (l.history p ++ (Sent peer arm.label choice.1 ∷ []));
                  actor = put_at_other l.actor p now;
                  kept = put_at_other l.kept p None;
                };
              },
            ),
          )

      keeping : (ms : List Machine_data) (limit : ℕ) (capacity : Option ℕ) (p : ℕ) (l : Moment A) (peer : Role) (arms : List Arm) (choice : Choice) (now : A)
          → state_at ms l.at p ≡ Some (Puts peer arms) → offer_of b (l.actor p) (l.kept p) arms ≡ (choice, now) → length (l.history p) < limit
          → IsFull capacity (l.at.queue p peer.0) → CanTurn ms limit capacity p l
      keeping ms limit capacity p l peer arms choice now puts offers less none =
          let k : Moment A = record { at = l.at; history = l.history; actor = put_at l.actor p now; kept = put_at l.kept p (Some choice) } in (
            k,
            false,
            (
              below_limit ms limit p l less,
              FindsFull record {
                peer = peer;
                arms = arms;
                choice = choice;
                puts = puts;
                full = none;
                offers = offers ∙ ap (λ (z : A). (choice, z)) (sym (put_at_same l.actor p now));
                at = refl;
                history = refl;
                kept = put_at_same l.kept p (Some choice);
                others = record {
                  history = λ r ne. refl;
                  actor = put_at_other l.actor p now;
                  kept = put_at_other l.kept p (Some choice);
                };
              },
            ),
          )

  can_receive : (ms : List Machine_data) (actors : ℕ → A) (limit : ℕ) (capacity : Option ℕ) (p : ℕ) (l : Moment A) (peer : Role) (arms : List Arm) → Given ms → Sound b ms actors limit l
      → state_at ms l.at p ≡ Some (Takes peer arms) → length (l.history p) < limit
      → (queue : List Message) → l.at.queue peer.0 p ≡ queue → CanTurn ms limit capacity p l
  unfolding receive_step
  can_receive ms actors limit capacity p l peer arms given s takes less [] empty = (l, false, (below_limit ms limit p l less, Waits peer arms takes empty refl))
  can_receive ms actors limit capacity p l peer arms given s takes less (message ∷ later) oldest = elim (find arms message) [
    | inl t ↦ receiving t.0 t.1 t.2 t.3.0 t.3.1
    | inr none ↦ absurd (given.safe.fits l.at (reached ms actors limit l s) record {
      role = p;
      peer = peer;
      arms = arms;
      message = message;
      later = later;
      takes = takes;
      oldest = oldest;
      no_arm = none;
    })
  ]
    where
      receiving : (place : ℕ) (arm : Arm) → slice_get arms place ≡ Some arm → arm.label ≡ message.label → HasSort message.value arm.sort → CanTurn ms limit capacity p l
      receiving place arm follows same_label has =
          let now : A = b.told (l.actor p) arms place message.value in
          let history : History = l.history p ++ (Got peer message.label message.value ∷ []) in
          let k : Moment A = record {
            at = after_receive l.at p peer arm later;
            history = put_at l.history p (l.history p ++ (Got peer message.label message.value ∷ []));
            actor = put_at l.actor p (b.told (l.actor p) arms place message.value);
            kept = l.kept;
          } in (
            k,
            true,
            (
              below_limit ms limit p l less,
              ByReceive record {
                step = receive_step ms l.at p peer arms place arm message later takes oldest follows same_label has;
                told = sym (put_at_same l.actor p (b.told (l.actor p) arms place message.value));
                history = put_at_same l.history p (l.history p ++ (Got peer message.label message.value ∷ []));
                kept = refl;
                others = record {
                  history = put_at_other l.history p (l.history p ++ (Got peer message.label message.value ∷ []));
                  actor = put_at_other l.actor p (b.told (l.actor p) arms place message.value);
                  kept = λ r ne. refl;
                };
              },
            ),
          )

  -- a role is at its limit, or can have its turn
  pub limit_or_turn : (ms : List Machine_data) (actors : ℕ → A) (limit : ℕ) (capacity : Option ℕ) (p : ℕ) (l : Moment A) → Given ms → Sound b ms actors limit l → p < length ms
      → IsAtLimit ms limit p l ⊎ CanTurn ms limit capacity p l
  limit_or_turn ms actors limit capacity p l given s hp =
      let m = get_there ms p hp in
      let g = s.going p m.0 m.1 in
      let wf = given.wf.fits p m.0 m.1 in
      let st = get_there m.0.states (l.at.at p) (inside m.0 (length ms) m.0.start (actors p) (l.history p) (l.at.at p) g.before wf wf.start g.plays) in
      by m.0 m.1 st.0 st.1
    where
      by : (m : Machine_data) → slice_get ms p ≡ Some m → (st : State) → slice_get m.states (l.at.at p) ≡ Some st → IsAtLimit ms limit p l ⊎ CanTurn ms limit capacity p l
      by m is Done st = (let d = state_of ms l.at p m Done is st in inr (l, false, ((λ a. a.goes_on d), HasEnded d refl)))
      by m is (Puts peer arms) st = (let d = state_of ms l.at p m (Puts peer arms) is st in
          elim (cases_lt (length (l.history p)) limit) [
            | inl less ↦ inr (can_send ms actors limit capacity p l m peer arms given s is st less)
            | inr more ↦ inl record { acts = more; goes_on = λ e. cc (d, e) }
          ])
      by m is (Takes peer arms) st = (let d = state_of ms l.at p m (Takes peer arms) is st in
          elim (cases_lt (length (l.history p)) limit) [
            | inl less ↦ inr (can_receive ms actors limit capacity p l peer arms given s d less (l.at.queue peer.0 p) refl)
            | inr more ↦ inl record { acts = more; goes_on = λ e. cc (d, e) }
          ])

  -- the next roles have their turns, or one of them is at its limit
  pub data Round (ms : List Machine_data) (limit : ℕ) (capacity : Option ℕ) (many p : ℕ) (l : Moment A) : Type 0 where
    Comes : (j : ℕ) (k : Moment A) (moved : Bool) → j < many → Turns (LimitedTurn ms b limit capacity) j p l k moved → IsAtLimit ms limit (p + j) k → Round ms limit capacity many p l
    Whole : (k : Moment A) (moved : Bool) → Turns (LimitedTurn ms b limit capacity) many p l k moved → Round ms limit capacity many p l

  pub round : (ms : List Machine_data) (actors : ℕ → A) (limit : ℕ) (capacity : Option ℕ) (many p : ℕ) (l : Moment A) → Given ms → Sound b ms actors limit l → p + many ≤ length ms
      → Round ms limit capacity many p l
  round ms actors limit capacity zero p l given s low = Whole l false (refl, refl)
  round ms actors limit capacity (suc many) p l given s low = elim (limit_or_turn ms actors limit capacity p l given s (omega arith)) [
    | inl at ↦ Comes 0 l false (omega arith) (refl, refl) (let P : ℕ → Type 0 = λ z. IsAtLimit ms limit z l in let e : p ≡ p + 0 = omega arith in subst P e at)
    | inr t ↦ more t (round ms actors limit capacity many (suc p) t.0 given (sound_turn b ms actors limit capacity p l t.0 t.1 s t.2) (omega arith))
  ]
    where
      more : (t : CanTurn ms limit capacity p l) → Round ms limit capacity many (suc p) t.0 → Round ms limit capacity (suc many) p l
      more t (Comes j k moved less ts at) =
          let P : ℕ → Type 0 = λ z. IsAtLimit ms limit z k in
          let e : suc p + j ≡ p + suc j = omega arith in
          Comes (suc j) k (t.1 || moved) (omega arith) (t.0, t.1, moved, t.2, ts, refl) (subst P e at)
      more t (Whole k moved ts) = Whole k (t.1 || moved) (t.0, t.1, moved, t.2, ts, refl)

  -- all the roles below n are Done, or one isn't
  pub all_done : (ms : List Machine_data) (l : Moment A) (n : ℕ) → ((p : ℕ) → p < n → p < length ms → state_at ms l.at p ≡ Some Done) ⊎ ((p : ℕ) × (p < n) × (state_at ms l.at p ≢ Some Done))
  all_done ms l zero = inl (λ p less there. absurd (omega arith))
  all_done ms l (suc n) = elim (all_done ms l n) [
    | inr some ↦ inr (some.0, omega (arith, some.1), some.2)
    | inl all ↦ by all (state_at ms l.at n) refl
  ]
    where
      is_done : (o : Option State) → (o ≡ Some Done) ⊎ (o ≢ Some Done)
      is_done None = inr (λ e. cc (e))
      is_done (Some Done) = inl refl
      is_done (Some (Puts peer arms)) = inr (λ e. cc (e))
      is_done (Some (Takes peer arms)) = inr (λ e. cc (e))

      by : ((p : ℕ) → p < n → p < length ms → state_at ms l.at p ≡ Some Done) → (o : Option State) → state_at ms l.at n ≡ o
          → ((p : ℕ) → p < suc n → p < length ms → state_at ms l.at p ≡ Some Done) ⊎ ((p : ℕ) × (p < suc n) × (state_at ms l.at p ≢ Some Done))
      by all o e = elim (is_done o) [
        | inr other ↦ inr (n, omega arith, λ d. other (sym e ∙ d))
        | inl same ↦ inl (λ p less there. elim (cases_lt p n) [
          | inl low ↦ all p low there
          | inr high ↦ (let is : n ≡ p = omega arith in let P : ℕ → Type 0 = λ z. state_at ms l.at z ≡ Some Done in subst P is (e ∙ same))
        ])
      ]

  -- a round in which a role makes an act leaves fewer acts up to the limits
  pub round_more : (ms : List Machine_data) (limit : ℕ) (capacity : Option ℕ) (l k : Moment A) → Turns (LimitedTurn ms b limit capacity) (length ms) 0 l k true
      → total (length ms) l.history < total (length ms) k.history
  round_more ms limit capacity l k ts =
      let g = turns_grow b (LimitedTurn ms b limit capacity) (length ms) (limited_grows b ms limit capacity (length ms)) (length ms) 0 l k true (omega arith) ts in
      let one = g.one refl in
      total_more (length ms) l.history k.history one.0 g.all one.1 one.2

  pub passing_more : (ms : List Machine_data) (limit : ℕ) (l k : Moment A) → Turns (PassingTurn ms b limit) (length ms) 0 l k true
      → total (length ms) l.history < total (length ms) k.history
  passing_more ms limit l k ts =
      let g = turns_grow b (PassingTurn ms b limit) (length ms) (passing_grows b ms limit (length ms)) (length ms) 0 l k true (omega arith) ts in
      let one = g.one refl in
      total_more (length ms) l.history k.history one.0 g.all one.1 one.2

  pub sound_round : (ms : List Machine_data) (actors : ℕ → A) (limit : ℕ) (room : Option ℕ) (many : ℕ) (l k : Moment A) (moved : Bool) → Sound b ms actors limit l
      → Turns (LimitedTurn ms b limit room) many 0 l k moved → Sound b ms actors limit k
  sound_round ms actors limit room many l k moved s ts =
      sound_turns b ms actors limit (LimitedTurn ms b limit room) (λ p x y did st t. sound_turn b ms actors limit room p x y did st t) many 0 l k moved s ts

  pub sound_passing_round : (ms : List Machine_data) (actors : ℕ → A) (limit many p : ℕ) (l k : Moment A) (moved : Bool) → Sound b ms actors limit l
      → Turns (PassingTurn ms b limit) many p l k moved → Sound b ms actors limit k
  sound_passing_round ms actors limit many p l k moved s ts =
      sound_turns b ms actors limit (PassingTurn ms b limit) (λ q x y did st t. sound_passing b ms actors limit q x y did st t) many p l k moved s ts

  -- one round, and then the rest
  plain_round : (ms : List Machine_data) (actors : ℕ → A) (limit : ℕ) (capacity : Option ℕ) (l : Moment A) → Given ms → Sound b ms actors limit l
      → ((k : Moment A) → Turns (LimitedTurn ms b limit capacity) (length ms) 0 l k true → (o : Ending A) × PlainFrom ms b limit capacity k o)
      → (o : Ending A) × PlainFrom ms b limit capacity l o
  plain_round ms actors limit capacity l given s again = elim (all_done ms l (length ms)) [
    | inl all ↦ (Ended l, AllDone l (λ p there. all p there there))
    | inr some ↦ by some (round ms actors limit capacity (length ms) 0 l given s (omega arith))
  ]
    where
      by : ((p : ℕ) × (p < length ms) × (state_at ms l.at p ≢ Some Done)) → Round ms limit capacity (length ms) 0 l → (o : Ending A) × PlainFrom ms b limit capacity l o
      by some (Comes j k moved less ts at) = (Stopped j k, Stops j l k moved less ts (let P : ℕ → Type 0 = λ z. IsAtLimit ms limit z k in let e : 0 + j ≡ j = omega arith in subst P e at))
      by some (Whole k false ts) = (Stuck k, NoneMoves some.0 l k some.1 some.2 ts)
      by some (Whole k true ts) = (let r = again k ts in (r.0, GoesOn l k r.0 ts r.1))

  -- from every sound moment on the plain run ends
  pub plain_ends : (fuel : ℕ) (ms : List Machine_data) (actors : ℕ → A) (limit : ℕ) (capacity : Option ℕ) (l : Moment A) → Given ms → Sound b ms actors limit l
      → length ms * limit ≤ total (length ms) l.history + fuel → (o : Ending A) × PlainFrom ms b limit capacity l o
  plain_ends zero ms actors limit capacity l given s enough = plain_round ms actors limit capacity l given s (λ k ts.
      (let more = round_more ms limit capacity l k ts in
      let most = total_most (length ms) limit k.history (sound_round ms actors limit capacity (length ms) l k true s ts).bounded in
      absurd (omega arith)))
  plain_ends (suc fuel) ms actors limit capacity l given s enough = plain_round ms actors limit capacity l given s (λ k ts.
      (let more = round_more ms limit capacity l k ts in
      plain_ends fuel ms actors limit capacity k given (sound_round ms actors limit capacity (length ms) l k true s ts) (omega arith)))

  -- rounds in which roles at their limit pass come to an end too
  passing_turns : (ms : List Machine_data) (actors : ℕ → A) (limit many p : ℕ) (l : Moment A) → Given ms → Sound b ms actors limit l → p + many ≤ length ms
      → (k : Moment A) × (moved : Bool) × Turns (PassingTurn ms b limit) many p l k moved
  passing_turns ms actors limit zero p l given s low = (l, false, (refl, refl))
  passing_turns ms actors limit (suc many) p l given s low =
      let t = one (limit_or_turn ms actors limit None p l given s (omega arith)) in
      let r = passing_turns ms actors limit many (suc p) t.0 given (sound_passing b ms actors limit p l t.0 t.1 s t.2) (omega arith) in
      (r.0, t.1 || r.1, (t.0, t.1, r.1, t.2, r.2, refl))
    where
      one : IsAtLimit ms limit p l ⊎ CanTurn ms limit None p l → (k : Moment A) × (moved : Bool) × PassingTurn ms b limit p l k moved
      one (inl at) = (l, false, Passes at refl refl)
      one (inr t) = (t.0, t.1, Plays t.2)

  passing_round : (ms : List Machine_data) (actors : ℕ → A) (limit : ℕ) (l : Moment A) → Given ms → Sound b ms actors limit l
      → ((k : Moment A) → Turns (PassingTurn ms b limit) (length ms) 0 l k true → (e : Moment A) × Settles ms b limit k e) → (e : Moment A) × Settles ms b limit l e
  passing_round ms actors limit l given s again = let t = passing_turns ms actors limit (length ms) 0 l given s (omega arith) in by t.0 t.1 t.2
    where
      by : (k : Moment A) (moved : Bool) → Turns (PassingTurn ms b limit) (length ms) 0 l k moved → (e : Moment A) × Settles ms b limit l e
      by k false ts = (k, Still l k ts)
      by k true ts = (let r = again k ts in (r.0, Again l k r.0 ts r.1))

  pub settles : (fuel : ℕ) (ms : List Machine_data) (actors : ℕ → A) (limit : ℕ) (l : Moment A) → Given ms → Sound b ms actors limit l
      → length ms * limit ≤ total (length ms) l.history + fuel → (e : Moment A) × Settles ms b limit l e
  settles zero ms actors limit l given s enough = passing_round ms actors limit l given s (λ k ts.
      (let more = passing_more ms limit l k ts in
      let most = total_most (length ms) limit k.history (sound_passing_round ms actors limit (length ms) 0 l k true s ts).bounded in
      absurd (omega arith)))
  settles (suc fuel) ms actors limit l given s enough = passing_round ms actors limit l given s (λ k ts.
      (let more = passing_more ms limit l k ts in
      settles fuel ms actors limit k given (sound_passing_round ms actors limit (length ms) 0 l k true s ts) (omega arith)))

  abbrev pub start_of : Option Machine_data → ℕ
  start_of None = 0
  start_of (Some m) = m.start

  -- the first moment of a run
  abbrev pub first_moment : List Machine_data → (ℕ → A) → Moment A
  first_moment ms actors = record {
    at = record { at = λ p. start_of (slice_get ms p); queue = λ p q. [] };
    history = λ p. [];
    actor = actors;
    kept = λ p. None;
  }

  pub starts_with : (ms : List Machine_data) (actors : ℕ → A) → StartsWith ms actors (first_moment ms actors)
  starts_with ms actors = record {
    at = record { states = λ p m is. ap start_of is; queues = λ p q. refl };
    history = λ p. refl;
    actor = λ p. refl;
    kept = λ p. refl;
  }

  -- the plain run of safe and well-formed machines comes to an end
  pub comes_to_an_end : (ms : List Machine_data) (actors : ℕ → A) (limit : ℕ) (capacity : Option ℕ) → Given ms → (o : Ending A) × IsPlain ms b actors limit capacity o
  comes_to_an_end ms actors limit capacity given =
      let r = plain_ends (length ms * limit) ms actors limit capacity (first_moment ms actors) given (sound_start b ms actors limit (first_moment ms actors) (starts_with ms actors)) (omega arith) in
      (r.0, record { first = first_moment ms actors; starts = starts_with ms actors; run = r.1 })
