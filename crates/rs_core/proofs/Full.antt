-- A plain run that is stuck has a role at a full queue.
use Rattle.std.proofs.Common.{◌≡◌, ◌⊎◌, inl, inr, ℕ, zero, suc, ◌+◌, ◌<◌, ◌≤◌, Bool, true, false, ◌||◌, List, [], Option, Some, length, refl, sym, ap, ◌∙◌, subst, arith}
use Rattle.std.proofs.lemmas.Bool.Decides.{eqb_tells}
use Rattle.rs_model.specs.Data.{Machine_data}
use Rattle.rs_model.specs.declared.graph.Arm.{Arm}
use Rattle.rs_model.specs.declared.graph.Role.{Role}
use Rattle.rs_model.specs.declared.machines.State.TheVariants.{Done, Puts, Takes}
use Rattle.rs_core.specs.Choices.{AreWellFormed}
use Rattle.rs_core.specs.Configurations.{Configuration, state_at}
use Rattle.rs_core.specs.Safety.{CanMove, MaySend, MayReceive, IsSafe}
use Rattle.rs_core.specs.Actors.{Behaviour, ChoosesWell}
use Rattle.rs_core.specs.Plain.{Moment, IsFull, Rests, HasEnded, Waits, FindsFull, LimitedTurn, Turns, Ending, Ended, Stopped, Stuck, PlainFrom, AllDone, Stops, NoneMoves, GoesOn, IsPlain, FirstFull}
use Rattle.rs_core.proofs.Rounds.{Sound, sound_start}
use Rattle.rs_core.proofs.Ends.{Given, reached, sound_round}

module _ {A : Type 0} (b : Behaviour A) where
  -- role q waits at a full queue
  record AtFull (ms : List Machine_data) (room : Option ℕ) (c : Configuration) (q : ℕ) : Type 0 where
    peer : Role
    arms : List Arm
    puts : state_at ms c q ≡ Some (Puts peer arms)
    full : IsFull room (c.queue q peer.0)

  -- role q doesn't send, and can't go on
  record Idles (ms : List Machine_data) (c : Configuration) (q : ℕ) : Type 0 where
    puts : (peer : Role) (arms : List Arm) → state_at ms c q ≡ Some (Puts peer arms) → ⊥
    moves : CanMove ms c q → ⊥

  rests : (ms : List Machine_data) (room : Option ℕ) (p : ℕ) (l k : Moment A) → Rests ms b room p l k → (k.at ≡ l.at) × (AtFull ms room l.at p ⊎ Idles ms l.at p)
  rests ms room p l k (HasEnded d e) = (ap (λ (z : Moment A). z.at) e, inr record { puts = λ peer arms h. cc (d, h); moves = moves })
    where
      moves : CanMove ms l.at p → ⊥
      moves (MaySend peer arms h) = cc (d, h)
      moves (MayReceive peer arms m later h o) = cc (d, h)
  rests ms room p l k (Waits peer arms takes empty e) = (ap (λ (z : Moment A). z.at) e, inr record { puts = λ peer' arms' h. cc (takes, h); moves = moves })
    where
      moves : CanMove ms l.at p → ⊥
      moves (MaySend peer' arms' h) = cc (takes, h)
      moves (MayReceive peer' arms' m later h o) =
          let same : Some (Takes peer arms) ≡ Some (Takes peer' arms') = sym takes ∙ h in
          let ep : peer ≡ peer' = cc (same) in
          let P : Role → Type 0 = λ z. l.at.queue z.0 p ≡ [] in
          let none : l.at.queue peer'.0 p ≡ [] = subst P ep empty in
          cc (none, o)
  rests ms room p l k (FindsFull t) = (t.at, inl record { peer = t.peer; arms = t.arms; puts = t.puts; full = t.full })

  -- the first of the roles from p on that waits at a full queue, or all of them idle
  record First (ms : List Machine_data) (room : Option ℕ) (many p : ℕ) (c : Configuration) : Type 0 where
    at : ℕ
    high : at < p + many
    full : AtFull ms room c at
    first : (r : ℕ) → p ≤ r → r < at → Idles ms c r

  search_full : (ms : List Machine_data) (limit : ℕ) (room : Option ℕ) (many p : ℕ) (l k : Moment A) (moved : Bool) → moved ≡ false → Turns (LimitedTurn ms b limit room) many p l k moved
      → (k.at ≡ l.at) × (First ms room many p l.at ⊎ ((r : ℕ) → p ≤ r → r < p + many → Idles ms l.at r))
  search_full ms limit room zero p l k moved no_move t = (ap (λ (z : Moment A). z.at) t.0, inr (λ r low high. absurd (omega arith)))
  search_full ms limit room (suc many) p l k moved no_move t = go t.1 t.2 t.3 (λ e. search_full ms limit room many (suc p) t.0 k t.2 e t.4) (sym t.5 ∙ no_move)
    where
      join : (t.0.at ≡ l.at) → AtFull ms room l.at p ⊎ Idles ms l.at p → First ms room many (suc p) t.0.at ⊎ ((r : ℕ) → suc p ≤ r → r < suc p + many → Idles ms t.0.at r)
          → First ms room (suc many) p l.at ⊎ ((r : ℕ) → p ≤ r → r < p + suc many → Idles ms l.at r)
      join e (inl full) later = inl record { at = p; high = omega arith; full = full; first = λ r low high. absurd (omega arith) }
      join e (inr here) (inl f) = inl record {
        at = f.at;
        high = (let h = f.high in omega arith);
        full = let P : Configuration → Type 0 = λ z. AtFull ms room z f.at in subst P e f.full;
        first = λ r low high. elim (eqb_tells r p) [
          | inl x ↦ (let P : ℕ → Type 0 = λ z. Idles ms l.at z in subst P (sym x.1) here)
          | inr x ↦ (let P : Configuration → Type 0 = λ z. Idles ms z r in subst P e (f.first r (omega (arith, x.1)) high))
        ];
      }
      join e (inr here) (inr all) = inr (λ r low high. elim (eqb_tells r p) [
        | inl x ↦ (let P : ℕ → Type 0 = λ z. Idles ms l.at z in subst P (sym x.1) here)
        | inr x ↦ (let P : Configuration → Type 0 = λ z. Idles ms z r in subst P e (all r (omega (arith, x.1)) (omega arith)))
      ])

      go : (acted later : Bool) → (LimitedTurn ms b limit room p l t.0 acted)
          → (later ≡ false → (k.at ≡ t.0.at) × (First ms room many (suc p) t.0.at ⊎ ((r : ℕ) → suc p ≤ r → r < suc p + many → Idles ms t.0.at r)))
          → (acted || later) ≡ false → (k.at ≡ l.at) × (First ms room (suc many) p l.at ⊎ ((r : ℕ) → p ≤ r → r < p + suc many → Idles ms l.at r))
      go true later u on e = absurd (cc (e))
      go false later u on e =
          let here = rests ms room p l t.0 u.1 in
          let rest = on e in
          (rest.0 ∙ here.0, join here.0 here.1 rest.1)

  FullEnding : List Machine_data → Option ℕ → Ending A → Type 0
  FullEnding ms room (Ended k) = Unit {0}
  FullEnding ms room (Stopped p k) = Unit {0}
  FullEnding ms room (Stuck k) = (sender : ℕ) × (receiver : Role) × FirstFull ms room k sender receiver

  full_ending : (ms : List Machine_data) (actors : ℕ → A) (limit : ℕ) (room : Option ℕ) (l : Moment A) (o : Ending A) → Given b ms → Sound b ms actors limit l → PlainFrom ms b limit room l o
      → FullEnding ms room o
  unfolding FullEnding
  full_ending ms actors limit room _ _ given s (AllDone l all) = tt
  full_ending ms actors limit room _ _ given s (Stops p l k moved there ts at) = tt
  full_ending ms actors limit room _ _ given s (NoneMoves p l k there goes ts) = by (search_full ms limit room (length ms) 0 l k false refl ts)
    where
      by : (k.at ≡ l.at) × (First ms room (length ms) 0 l.at ⊎ ((r : ℕ) → 0 ≤ r → r < 0 + length ms → Idles ms l.at r)) → (sender : ℕ) × (receiver : Role) × FirstFull ms room k sender receiver
      by (e, inl f) =
          let P : Configuration → Type 0 = λ z. state_at ms z f.at ≡ Some (Puts f.full.peer f.full.arms) in
          let Q : Configuration → Type 0 = λ z. IsFull room (z.queue f.at f.full.peer.0) in (
            f.at,
            f.full.peer,
            record {
              arms = f.full.arms;
              present = (let h = f.high in omega arith);
              puts = subst P (sym e) f.full.puts;
              full = subst Q (sym e) f.full.full;
              first = λ r peer arms less h. let R : Configuration → Type 0 = λ z. state_at ms z r ≡ Some (Puts peer arms) in (f.first r (omega arith) less).puts peer arms (subst R e h);
            },
          )
      by (e, inr idle) = absurd (elim (given.safe.goes_on l.at (reached b ms actors limit l s)) [
        | inl can ↦ (idle can.0 (omega arith) (omega (arith, can.1))).moves can.2
        | inr all ↦ goes (all.done p there)
      ])
  full_ending ms actors limit room _ _ given s (GoesOn l m o ts rest) = full_ending ms actors limit room m o given (sound_round b ms actors limit room (length ms) l m true s ts) rest

  pub stuck_is_full : ChoosesWell b → (ms : List Machine_data) (actors : ℕ → A) (limit : ℕ) (room : Option ℕ) (k : Moment A) → IsSafe ms → AreWellFormed ms → IsPlain ms b actors limit room (Stuck k)
      → (sender : ℕ) × (receiver : Role) × FirstFull ms room k sender receiver
  unfolding FullEnding
  stuck_is_full well ms actors limit room k safe wf is =
      full_ending ms actors limit room is.first (Stuck k) record { safe = safe; wf = wf; well = well } (sound_start b ms actors limit is.first is.starts) is.run

  -- a round in which no role made an act leaves the configuration
  pub idle_at : (ms : List Machine_data) (limit : ℕ) (room : Option ℕ) (l k : Moment A) → Turns (LimitedTurn ms b limit room) (length ms) 0 l k false → k.at ≡ l.at
  idle_at ms limit room l k ts = (search_full ms limit room (length ms) 0 l k false refl ts).0

  -- a turn changes nothing where all have ended
  done_turn : (ms : List Machine_data) (limit : ℕ) (room : Option ℕ) (p : ℕ) (l k : Moment A) → state_at ms l.at p ≡ Some Done → Rests ms b room p l k → k ≡ l
  done_turn ms limit room p l k done (HasEnded d e) = e
  done_turn ms limit room p l k done (Waits peer arms takes empty e) = e
  done_turn ms limit room p l k done (FindsFull t) = let puts = t.puts in absurd (cc (puts, done))

  pub done_turns : (ms : List Machine_data) (limit : ℕ) (room : Option ℕ) (many p : ℕ) (l k : Moment A) (moved : Bool) → moved ≡ false → Turns (LimitedTurn ms b limit room) many p l k moved
      → ((r : ℕ) → p ≤ r → r < p + many → state_at ms l.at r ≡ Some Done) → k ≡ l
  done_turns ms limit room zero p l k moved none t done = t.0
  done_turns ms limit room (suc many) p l k moved none t done = go t.1 t.2 t.3 (λ e all. done_turns ms limit room many (suc p) t.0 k t.2 e t.4 all) (sym t.5 ∙ none)
    where
      go : (acted later : Bool) → LimitedTurn ms b limit room p l t.0 acted → (later ≡ false → ((r : ℕ) → suc p ≤ r → r < suc p + many → state_at ms t.0.at r ≡ Some Done) → k ≡ t.0)
          → (acted || later) ≡ false → k ≡ l
      go true later u on e = absurd (cc (e))
      go false later u on e =
          let here = done_turn ms limit room p l t.0 (done p (omega arith) (omega arith)) u.1 in
          let P : Moment A → Type 0 = λ z. (r : ℕ) → suc p ≤ r → r < suc p + many → state_at ms z.at r ≡ Some Done in
          let all : (r : ℕ) → suc p ≤ r → r < suc p + many → state_at ms l.at r ≡ Some Done = λ r low high. done r (omega arith) (omega arith) in
          on e (subst P (sym here) all) ∙ here
