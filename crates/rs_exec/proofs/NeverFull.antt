-- A plain run with queues of at least the room is never stuck.
use Rattle.std.proofs.Common.{◌≡◌, ◌≢◌, inl, inr, ℕ, zero, suc, ◌+◌, ◌<◌, ◌≤◌, Bool, true, false, ◌||◌, List, [], Some, Result, Ok, Err, IfErr, length, slice_index_or, refl, sym, ap, ◌∙◌, subst}
use Rattle.std.proofs.Common.{arith}
use Rattle.std.proofs.lemmas.Bool.Decides.{eqb_tells}
use Rattle.std.proofs.lemmas.Option.{get_or_from_slice_get}
use Rattle.rs_model.specs.Data.{Machine_data}
use Rattle.rs_model.specs.declared.graph.Role.{Role}
use Rattle.rs_model.specs.declared.machines.State.TheVariants.{Done, Puts, Takes}
use Rattle.rs_core.specs.Actors.{Behaviour}
use Rattle.rs_core.specs.Configurations.{Configuration, IsReachable, state_at}
use Rattle.rs_core.specs.Plain.{Moment, Rests, HasEnded, Waits, FindsFull, LimitedTurn, Turns, Ending, Ended, Stopped, Stuck, PlainFrom, AllDone, Stops, NoneMoves, GoesOn, IsPlain}
use Rattle.rs_core.specs.Runs.{FaultTells, IsFullAt, IsGiven}
use Rattle.rs_core.proofs.Ends.{get_there, reached, sound_round}
use Rattle.rs_core.proofs.Rounds.{Sound, sound_start}
use Rattle.rs_safety.specs.Accepting.{Accepted_data, IsAcceptedSession}
use Rattle.rs_safety.specs.Room.{room_of}
use Rattle.rs_safety.proofs.Walked.{of_accepted}
use Rattle.rs_room.specs.Bounded.{CanMoveWithin, MayPut, MayTake}
use Rattle.rs_room.proofs.Enough.{can_go_on}
use Rattle.rs_core.specs.declared.runs.RunFault.{RunFault}
use Rattle.rs_core.specs.declared.runs.RunFault.TheVariants as fault

module _ {A : Type 0} (b : Behaviour A) where
  -- who rests at its turn can't go on
  rests : (ms : List Machine_data) (capacity p : ℕ) (l k : Moment A) → Rests ms b (Some capacity) p l k → (k.at ≡ l.at) × (CanMoveWithin ms capacity l.at p → ⊥)
  rests ms capacity p l k (HasEnded d e) = (ap (λ (z : Moment A). z.at) e, moves)
    where
      moves : CanMoveWithin ms capacity l.at p → ⊥
      moves (MayPut peer arms h few) = cc (d, h)
      moves (MayTake peer arms m later h q) = cc (d, h)
  rests ms capacity p l k (Waits peer arms takes empty e) = (ap (λ (z : Moment A). z.at) e, moves)
    where
      moves : CanMoveWithin ms capacity l.at p → ⊥
      moves (MayPut peer' arms' h few) = cc (takes, h)
      moves (MayTake peer' arms' m later h q) =
          let same : Some (Takes peer arms) ≡ Some (Takes peer' arms') = sym takes ∙ h in
          let ep : peer ≡ peer' = cc (same) in
          let P : Role → Type 0 = λ z. l.at.queue z.0 p ≡ [] in
          let none : l.at.queue peer'.0 p ≡ [] = subst P ep empty in
          cc (none, q)
  rests ms capacity p l k (FindsFull t) = (t.at, moves)
    where
      moves : CanMoveWithin ms capacity l.at p → ⊥
      moves (MayPut peer arms h few) =
          let same : Some (Puts t.peer t.arms) ≡ Some (Puts peer arms) = sym t.puts ∙ h in
          let ep : peer ≡ t.peer = cc (same) in
          let P : Role → Type 0 = λ z. length (l.at.queue p z.0) < capacity in
          let room = subst P ep few in
          let full : capacity ≤ length (l.at.queue p t.peer.0) = t.full in
          omega arith
      moves (MayTake peer arms m later h q) = let puts = t.puts in cc (puts, h)

  -- where none of the next roles makes an act, none can go on
  none_goes : (ms : List Machine_data) (limit capacity many p : ℕ) (l k : Moment A) (moved : Bool) → moved ≡ false → Turns (LimitedTurn ms b limit (Some capacity)) many p l k moved
      → (k.at ≡ l.at) × ((r : ℕ) → p ≤ r → r < p + many → CanMoveWithin ms capacity l.at r → ⊥)
  none_goes ms limit capacity zero p l k moved none t = (ap (λ (z : Moment A). z.at) t.0, λ r low high can. absurd (omega arith))
  none_goes ms limit capacity (suc many) p l k moved none t = go t.1 t.2 t.3 (λ e. none_goes ms limit capacity many (suc p) t.0 k t.2 e t.4) (sym t.5 ∙ none)
    where
      go : (acted later : Bool) → LimitedTurn ms b limit (Some capacity) p l t.0 acted
          → (later ≡ false → (k.at ≡ t.0.at) × ((r : ℕ) → suc p ≤ r → r < suc p + many → CanMoveWithin ms capacity t.0.at r → ⊥))
          → (acted || later) ≡ false → (k.at ≡ l.at) × ((r : ℕ) → p ≤ r → r < p + suc many → CanMoveWithin ms capacity l.at r → ⊥)
      go true later u on e = absurd (cc (e))
      go false later u on e =
          let here = rests ms capacity p l t.0 u.1 in
          let rest = on e in
          let P : ℕ → Type 0 = λ z. CanMoveWithin ms capacity l.at z → ⊥ in
          let Q : Configuration → Type 0 = λ z. (r : ℕ) → suc p ≤ r → r < suc p + many → CanMoveWithin ms capacity z r → ⊥ in
          let others = subst Q here.0 rest.1 in (
            rest.0 ∙ here.0,
            λ r low high. elim (eqb_tells r p) [
              | inl x ↦ subst P (sym x.1) here.1
              | inr x ↦ others r (omega (arith, x.1)) (omega arith)
            ],
          )

  -- a configuration that is reached, in which none can go on, though some role hasn't ended
  record Blocked (ms : List Machine_data) (capacity : ℕ) (c : Configuration) : Type 0 where
    reached' : IsReachable ms c
    none : (r : ℕ) → r < length ms → CanMoveWithin ms capacity c r → ⊥
    role : ℕ
    present : role < length ms
    goes : state_at ms c role ≢ Some Done

  IsBlocked : List Machine_data → ℕ → Ending A → Type 0
  IsBlocked ms capacity (Ended k) = Unit {0}
  IsBlocked ms capacity (Stopped p k) = Unit {0}
  IsBlocked ms capacity (Stuck k) = Blocked ms capacity k.at

  blocked_end : (ms : List Machine_data) (actors : ℕ → A) (limit capacity : ℕ) (l : Moment A) (o : Ending A) → Sound b ms actors limit l → PlainFrom ms b limit (Some capacity) l o
      → IsBlocked ms capacity o
  unfolding IsBlocked
  blocked_end ms actors limit capacity _ _ s (AllDone l all) = tt
  blocked_end ms actors limit capacity _ _ s (Stops p l k moved there ts at) = tt
  blocked_end ms actors limit capacity _ _ s (NoneMoves p l k there goes ts) =
      let n = none_goes ms limit capacity (length ms) 0 l k false refl ts in
      let P : Configuration → Type 0 = λ z. Blocked ms capacity z in
      subst P (sym n.0) record { reached' = reached b ms actors limit l s; none = λ r hr. n.1 r (omega arith) (omega arith); role = p; present = there; goes = goes }
  blocked_end ms actors limit capacity _ _ s (GoesOn l m o ts rest) = blocked_end ms actors limit capacity m o (sound_round b ms actors limit (Some capacity) (length ms) l m true s ts) rest

  pub never_stuck_shown : (a : Accepted_data) (actors : ℕ → A) (limit capacity : ℕ) (k : Moment A) → IsAcceptedSession a → room_of a.derivations ≤ capacity
      → IsPlain a.machines b actors limit (Some capacity) (Stuck k) → ⊥
  unfolding IsBlocked
  never_stuck_shown a actors limit capacity k s room is =
      let stuck = blocked_end a.machines actors limit capacity is.first (Stuck k) (sound_start b a.machines actors limit is.first is.starts) is.run in
      elim (can_go_on a.protocol a.projections a.machines a.derivations (of_accepted a s) capacity room k.at stuck.reached') [
        | inl can ↦ stuck.none can.0 can.1 can.2
        | inr over ↦ stuck.goes (over.done stuck.role stuck.present)
      ]

  -- so no full queue is told, whatever list of actors there is
  pub never_full : (a : Accepted_data) (xs : List A) (limit capacity : ℕ) (sender receiver : Role) (sent taken : ℕ) → IsAcceptedSession a → length xs ≡ length a.machines
      → room_of a.derivations ≤ capacity
      → ((given : ℕ → A) → IsGiven given xs → IsFullAt a.machines b given limit capacity sender receiver sent taken) → ⊥
  never_full a xs limit capacity sender receiver sent taken s many room full =
      let x = get_there xs 0 (omega (arith, many, s.is_session.a_machine_each, s.is_session.roles.0)) in
      let f = full (λ p. slice_index_or xs p x.0) (λ p y here. get_or_from_slice_get xs p y x.0 here) in
      never_stuck_shown a (λ p. slice_index_or xs p x.0) limit capacity f.end s room f.plain

  -- memory is the one error
  pub only_memory : {X : Type 0} (a : Accepted_data) (xs : List A) (limit capacity : ℕ) (r : Result X RunFault) → IsAcceptedSession a → length xs ≡ length a.machines → room_of a.derivations ≤ capacity
      → IfErr r (λ e. (given : ℕ → A) → IsGiven given xs → FaultTells a.machines b given limit capacity e) → IfErr r (λ e. e ≡ fault.NoMemory)
  only_memory a xs limit capacity (Ok x) s many room full = tt
  only_memory a xs limit capacity (Err fault.NoMemory) s many room full = refl
  only_memory a xs limit capacity (Err (fault.Full sender receiver sent taken)) s many room full = absurd (never_full a xs limit capacity sender receiver sent taken s many room full)
