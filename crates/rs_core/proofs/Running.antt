-- From rounds of a session to the plain run.
use Rattle.std.proofs.Common.{◌≡◌, inl, inr, ℕ, zero, suc, ◌*◌, ◌<◌, ◌≤◌, true, false, List, [], ◌∷◌, Option, Some, None, map, slice_get, length, refl, sym, ap, ◌∙◌, subst, subst₂, arith}
use Rattle.std.proofs.lemmas.Bool.{cases_lt}
use Rattle.std.proofs.lemmas.List.{length-map}
use Rattle.std.proofs.lemmas.Option.{slice_get_within}
use Rattle.rs_model.specs.Data.{Machine_data}
use Rattle.rs_model.specs.declared.graph.Arm.{Arm}
use Rattle.rs_model.specs.declared.graph.Role.{Role}
use Rattle.rs_model.specs.declared.machines.State.TheVariants.{Puts}
use Rattle.rs_core.specs.Actors.{Behaviour, ChoosesWell}
use Rattle.rs_core.specs.Choices.{AreWellFormed}
use Rattle.rs_core.specs.Configurations.{Configuration, StartsAt, state_at}
use Rattle.rs_core.specs.Core.{Core_data, configuration_of}
use Rattle.rs_core.specs.Plain.{Moment, LimitedTurn, Turns, Ending, Ended, Stopped, Stuck, AllDone, Stops, NoneMoves, GoesOn, PlainFrom, IsPlain, FirstFull}
use Rattle.rs_core.specs.Queues.{AreTranscripts, KnownTranscripts}
use Rattle.rs_core.specs.Runs.{ArePlayers, IsAmong, IsGiven, EndsAs}
use Rattle.rs_core.specs.Rounds.{Matches, acts_of, HasRound, NoneSends, IsFirstSender, EndTells, RoundTells}
use Rattle.rs_core.proofs.RunsSoFar.{RunSoFar}
use Rattle.rs_core.specs.Safety.{IsSafe}
use Rattle.rs_core.specs.declared.players.Player.{Player}
use Rattle.rs_core.specs.declared.playing.End.{End}
use Rattle.rs_core.specs.declared.playing.End.TheVariants as end
use Rattle.rs_core.specs.declared.playing.Rounded.TheVariants as rounded
use Rattle.rs_core.proofs.Ends.{all_done}
use Rattle.rs_core.proofs.Stands.{here_is, peered}
use Rattle.rs_core.proofs.Full.{stuck_is_full, idle_at, done_turns}

-- the player of an actor that has done nothing yet
abbrev pub fresh : {A : Type 0} → A → Player A
fresh x = record { actor = x; kept = None; transcript = [] }

fresh_get : {A : Type 0} (xs : List A) (p : ℕ) (x : Player A) → slice_get (map (λ (z : A). fresh z) xs) p ≡ Some x → (a : A) × (slice_get xs p ≡ Some a) × (fresh a ≡ x)
fresh_get [] p x e = absurd (cc (e))
fresh_get (a ∷ xs) zero x e = (a, refl, cc (e))
fresh_get (a ∷ xs) (suc p) x e = fresh_get xs p x e

-- who has done nothing yet has the empty transcript
pub fresh_noted : {A : Type 0} (notes : KnownTranscripts) (n : ℕ) (xs : List A) → length xs ≡ n → ((r : ℕ) → r < n → notes r []) → AreTranscripts notes (map (λ (z : A). fresh z) xs)
fresh_noted {A} notes n xs many nothing p x e =
    let f = fresh_get xs p x e in
    let low = slice_get_within xs p f.0 f.1 in
    subst (λ (z : Player A). notes p z.transcript) f.2 (nothing p (omega (arith, low, many)))

module _ {A : Type 0} (b : Behaviour A) where
  acts_most : (limit : ℕ) (xs : List (Player A)) → ((p : ℕ) (x : Player A) → slice_get xs p ≡ Some x → length x.transcript ≤ limit) → acts_of xs ≤ length xs * limit
  acts_most limit [] few = omega arith
  acts_most limit (x ∷ xs) few = let one = few 0 x refl in let ih = acts_most limit xs (λ p y is. few (suc p) y is) in omega arith

  pub run_start : (ms : List Machine_data) (limit : ℕ) (capacity : Option ℕ) (xs : List A) (c : Core_data) → c.machines ≡ ms → StartsAt ms (configuration_of c) → length xs ≡ length ms
      → RunSoFar b ms limit capacity xs c (map (λ (z : A). fresh z) xs)
  run_start ms limit capacity xs c same starts ex = record {
    machines = same;
    ready = record {
      many = length-map xs (λ (z : A). fresh z) ∙ ex ∙ ap length (sym same);
      keeps = λ p x is choice e. (let f = fresh_get xs p x is in let k = ap (λ (z : Player A). z.kept) f.2 in absurd (cc (k, e)));
      bounded = λ p x is. (let f = fresh_get xs p x is in let k = ap (λ (z : Player A). length z.transcript) f.2 in omega (arith, k));
    };
    runs = λ given is.
        let k : Moment A = record { at = configuration_of c; history = λ p. []; actor = given; kept = λ p. None } in (
          k,
          record {
            at = refl;
            machines = same;
            players = record {
              many = length-map xs (λ (z : A). fresh z) ∙ ex;
              actor = λ p x e. (let f = fresh_get xs p x e in is p f.0 f.1 ∙ ap (λ (z : Player A). z.actor) f.2);
              kept = λ p x e. (let f = fresh_get xs p x e in ap (λ (z : Player A). z.kept) f.2);
              transcript = λ p x e. (let f = fresh_get xs p x e in ap (λ (z : Player A). z.transcript) f.2);
            };
          },
          λ o run. record { first = k; starts = record { at = starts; history = λ p. refl; actor = λ p. refl; kept = λ p. refl }; run = run },
        );
  }

  pub run_moves : (ms : List Machine_data) (limit : ℕ) (capacity : Option ℕ) (xs0 : List A) (c d : Core_data) (xs ys : List (Player A)) → RunSoFar b ms limit capacity xs0 c xs
      → HasRound b limit capacity c xs d ys rounded.Moved → RunSoFar b ms limit capacity xs0 d ys
  run_moves ms limit capacity xs0 c d xs ys s r = record {
    machines = r.machines ∙ s.machines;
    ready = r.ready;
    runs = λ given is.
        let m = s.runs given is in
        let P : List Machine_data → Type 0 = λ z. Matches z m.0 c xs → (k : Moment A) × Matches z k d ys × Turns (LimitedTurn z b limit capacity) (length z) 0 m.0 k true in
        let t = (subst P s.machines (r.tells m.0)) m.1 in
        (t.0, t.1, λ o run. m.2 o (GoesOn m.0 t.0 o t.2 run));
  }

  -- a round that moves leaves fewer acts up to the limits
  pub run_less : (ms : List Machine_data) (limit : ℕ) (capacity : Option ℕ) (xs0 : List A) (c d : Core_data) (xs ys : List (Player A)) → RunSoFar b ms limit capacity xs0 c xs
      → HasRound b limit capacity c xs d ys rounded.Moved → (acts_of xs < acts_of ys) × (acts_of ys ≤ length ms * limit)
  run_less ms limit capacity xs0 c d xs ys s r =
      let most = acts_most limit ys r.ready.bounded in
      let many : length ys ≡ length ms = r.ready.many ∙ ap length (r.machines ∙ s.machines) in
      let P : ℕ → Type 0 = λ z. acts_of ys ≤ z * limit in
      (r.more refl, subst P many most)

  -- what an idle round tells
  record Idled (ms : List Machine_data) (limit : ℕ) (capacity : Option ℕ) (given : ℕ → A) (d : Core_data) (ys : List (Player A)) : Type 0 where
    before : Moment A
    after : Moment A
    matches : Matches ms after d ys
    turns : Turns (LimitedTurn ms b limit capacity) (length ms) 0 before after false
    on : (o : Ending A) → PlainFrom ms b limit capacity before o → IsPlain ms b given limit capacity o

  idled : (ms : List Machine_data) (limit : ℕ) (capacity : Option ℕ) (xs0 : List A) (c d : Core_data) (xs ys : List (Player A)) → RunSoFar b ms limit capacity xs0 c xs
      → HasRound b limit capacity c xs d ys rounded.Idle → (given : ℕ → A) → IsGiven given xs0 → Idled ms limit capacity given d ys
  idled ms limit capacity xs0 c d xs ys s r given is =
      let m = s.runs given is in
      let P : List Machine_data → Type 0 = λ z. Matches z m.0 c xs → (k : Moment A) × Matches z k d ys × Turns (LimitedTurn z b limit capacity) (length z) 0 m.0 k false in
      let t = (subst P s.machines (r.tells m.0)) m.1 in
      record { before = m.0; after = t.0; matches = t.1; turns = t.2; on = m.2 }

  -- the session's states are those of the moment
  puts_at : (ms : List Machine_data) (k : Moment A) (d : Core_data) (ys : List (Player A)) (p : ℕ) (peer : Role) (arms : List Arm) → Matches ms k d ys
      → state_at ms k.at p ≡ Some (Puts peer arms) → state_at d.machines (configuration_of d) p ≡ Some (Puts peer arms)
  puts_at ms k d ys p peer arms m puts =
      let P : List Machine_data → Configuration → Type 0 = λ z w. state_at z w p ≡ Some (Puts peer arms) in
      subst₂ P (sym m.machines) (sym m.at) puts

  all_ended : (ms : List Machine_data) (limit : ℕ) (capacity : Option ℕ) (given : ℕ → A) (d : Core_data) (ys : List (Player A)) → ChoosesWell b → IsSafe ms → AreWellFormed ms
      → Idled ms limit capacity given d ys
      → NoneSends d (length d.machines) → EndsAs b ms given limit capacity d end.Ended ys
  all_ended ms limit capacity given d ys well safe wf i none = elim (all_done b ms i.before (length ms)) [
    | inl all ↦ (
        let still = done_turns b ms limit capacity (length ms) 0 i.before i.after false refl i.turns (λ r low high. all r (omega arith) (omega arith)) in
        let Q : Moment A → Type 0 = λ z. ArePlayers (length ms) z.history z.actor z.kept ys in
        record {
          outcome = Ended i.before;
          plain = i.on (Ended i.before) (AllDone i.before (λ p hp. all p hp hp));
          shows = subst Q still i.matches.players;
          last = i.matches.at ∙ ap (λ (z : Moment A). z.at) still;
        })
    | inr some ↦ (
        let stuck = i.on (Stuck i.after) (NoneMoves some.0 i.before i.after some.1 some.2 i.turns) in
        let full = stuck_is_full b well ms given limit capacity i.after safe wf stuck in
        let there = full.2.present in
        let same = ap length i.matches.machines in
        absurd (none full.0 full.1 full.2.arms (omega (arith, same)) (puts_at ms i.after d ys full.0 full.1 full.2.arms i.matches full.2.puts)))
  ]

  at_full : (ms : List Machine_data) (limit : ℕ) (capacity : Option ℕ) (given : ℕ → A) (d : Core_data) (ys : List (Player A)) (sender receiver : Role) → ChoosesWell b → IsSafe ms → AreWellFormed ms
      → Idled ms limit capacity given d ys
      → IsFirstSender d sender.0 receiver → EndsAs b ms given limit capacity d (end.Full sender receiver) ys
  at_full ms limit capacity given d ys sender receiver well safe wf i first =
      let P : List Machine_data → Configuration → Type 0 = λ z w. state_at z w sender.0 ≡ Some (Puts receiver first.arms) in
      let puts : state_at ms i.after.at sender.0 ≡ Some (Puts receiver first.arms) = subst₂ P i.matches.machines i.matches.at first.puts in
      let Q : Configuration → Type 0 = λ w. state_at ms w sender.0 ≡ Some (Puts receiver first.arms) in
      let before : state_at ms i.before.at sender.0 ≡ Some (Puts receiver first.arms) = subst Q (idle_at b ms limit capacity i.before i.after i.turns) puts in
      let there : sender.0 < length ms = (let h = first.present in let e = ap length i.matches.machines in omega (arith, e)) in
      let stuck = i.on (Stuck i.after) (NoneMoves sender.0 i.before i.after there (λ e. cc (before, e)) i.turns) in
      let full = stuck_is_full b well ms given limit capacity i.after safe wf stuck in
      let same : full.0 ≡ sender.0 = one full.0 full.1 full.2 puts in
      record { outcome = Stuck i.after; plain = stuck; shows = (found full.0 full.1 full.2 same puts, i.matches.players); last = i.matches.at }
    where
      one : (s : ℕ) (r : Role) → FirstFull ms capacity i.after s r → state_at ms i.after.at sender.0 ≡ Some (Puts receiver first.arms) → s ≡ sender.0
      one s r f puts = elim (cases_lt s sender.0) [
        | inl less ↦ absurd (first.first s r f.arms less (puts_at ms i.after d ys s r f.arms i.matches f.puts))
        | inr high ↦ elim (cases_lt sender.0 s) [
          | inl less ↦ absurd (f.first sender.0 receiver first.arms less puts)
          | inr low ↦ omega arith
        ]
      ]

      found : (s : ℕ) (r : Role) → FirstFull ms capacity i.after s r → s ≡ sender.0 → state_at ms i.after.at sender.0 ≡ Some (Puts receiver first.arms)
          → FirstFull ms capacity i.after sender.0 receiver
      found s r f e puts =
          let S : ℕ → Type 0 = λ z. state_at ms i.after.at z ≡ Some (Puts r f.arms) in
          let here : state_at ms i.after.at sender.0 ≡ Some (Puts r f.arms) = subst S e f.puts in
          let both : Some (Puts r f.arms) ≡ Some (Puts receiver first.arms) = sym here ∙ puts in
          let peer : r ≡ receiver = cc (both) in
          let F : ℕ → Role → Type 0 = λ z w. FirstFull ms capacity i.after z w in
          subst₂ F e peer f

  pub run_ends : (ms : List Machine_data) (limit : ℕ) (capacity : Option ℕ) (xs0 : List A) (c d : Core_data) (xs ys : List (Player A)) (e : End) → ChoosesWell b → IsSafe ms → AreWellFormed ms
      → RunSoFar b ms limit capacity xs0 c xs → HasRound b limit capacity c xs d ys rounded.Idle → EndTells d e
      → (given : ℕ → A) → IsGiven given xs0 → EndsAs b ms given limit capacity d e ys
  run_ends ms limit capacity xs0 c d xs ys end.Ended well safe wf s r t given is = all_ended ms limit capacity given d ys well safe wf (idled ms limit capacity xs0 c d xs ys s r given is) t
  run_ends ms limit capacity xs0 c d xs ys (end.Stopped role) well safe wf s r t given is = absurd (t)
  run_ends ms limit capacity xs0 c d xs ys (end.Full sender receiver) well safe wf s r t given is =
      at_full ms limit capacity given d ys sender receiver well safe wf (idled ms limit capacity xs0 c d xs ys s r given is) t

  pub run_among : (ms : List Machine_data) (limit : ℕ) (capacity : Option ℕ) (xs0 : List A) (c d : Core_data) (xs ys : List (Player A)) (e : End) → AreWellFormed ms
      → RunSoFar b ms limit capacity xs0 c xs
      → HasRound b limit capacity c xs d ys rounded.Idle → EndTells d e → IsAmong (length ms) e
  run_among ms limit capacity xs0 c d xs ys end.Ended wf s r t = tt
  run_among ms limit capacity xs0 c d xs ys (end.Stopped role) wf s r t = tt
  run_among ms limit capacity xs0 c d xs ys (end.Full sender receiver) wf s r t =
      let h = t.present in
      let e = ap length (r.machines ∙ s.machines) in
      let P : List Machine_data → Type 0 = λ z. state_at z (configuration_of d) sender.0 ≡ Some (Puts receiver t.arms) in
      let at = here_is (slice_get ms sender.0) ((configuration_of d).at sender.0) (Puts receiver t.arms) (subst P (r.machines ∙ s.machines) t.puts) in
      (omega (arith, e), ((peered ms wf).puts sender.0 at.0 ((configuration_of d).at sender.0) receiver t.arms at.1 at.2).0)

  pub run_stops : (ms : List Machine_data) (limit : ℕ) (capacity : Option ℕ) (xs0 : List A) (c d : Core_data) (xs ys : List (Player A)) (role : Role) → RunSoFar b ms limit capacity xs0 c xs
      → HasRound b limit capacity c xs d ys (rounded.Stopped role) → (given : ℕ → A) → IsGiven given xs0 → EndsAs b ms given limit capacity d (end.Stopped role) ys
  run_stops ms limit capacity xs0 c d xs ys role s r given is =
      let m = s.runs given is in
      let P : List Machine_data → Type 0 = λ z. Matches z m.0 c xs → RoundTells z b limit capacity m.0 d ys (rounded.Stopped role) in
      let t = (subst P s.machines (r.tells m.0)) m.1 in
      record { outcome = Stopped role.0 t.0; plain = m.2 (Stopped role.0 t.0) (Stops role.0 m.0 t.0 t.1 t.5 t.3 t.4); shows = (refl, t.2.players); last = t.2.at }
