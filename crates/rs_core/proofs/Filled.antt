-- No queue grows above the capacity, so that a full one holds as many messages as the capacity.
use Rattle.std.proofs.Common.{◌≡◌, inl, inr, ℕ, zero, suc, ◌+◌, ◌≤◌, Bool, true, false, List, [], ◌∷◌, ◌++◌, Some, slice_get, length, refl, sym, ap, ◌∙◌, subst, subst₂, arith, length-append}
use Rattle.std.proofs.lemmas.Bool.Decides.{eqb_tells}
use Rattle.rs_model.specs.Data.{Machine_data}
use Rattle.rs_model.specs.declared.graph.Role.{Role}
use Rattle.rs_model.specs.declared.machines.State.TheVariants.{Puts}
use Rattle.rs_core.specs.Actors.{Behaviour}
use Rattle.rs_core.specs.Choices.{AreWellFormed}
use Rattle.rs_core.specs.Configurations.{Configuration}
use Rattle.rs_core.specs.Histories.{Sent, Got, History, transcript_of}
use Rattle.rs_core.specs.Plain.{Moment, BySend, ByReceive, HasEnded, Waits, FindsFull, LimitedTurn, Turns, Ending, Ended, Stopped, Stuck, PlainFrom, AllDone, Stops, NoneMoves, GoesOn, IsPlain}
use Rattle.rs_core.specs.Plain.{FirstFull}
use Rattle.rs_core.specs.Runs.{sent_to, got_from}
use Rattle.rs_core.proofs.Compared.{told_fifo}
use Rattle.rs_core.proofs.Ends.{sound_round}
use Rattle.rs_core.proofs.Fifo.{sents, gots}
use Rattle.rs_core.proofs.Rounds.{Sound, sound_start}
use Rattle.rs_core.proofs.Stands.{here_is, peered}

pub sent_many : (q : ℕ) (h : History) → sent_to q (transcript_of h) ≡ length (sents q h)
sent_many q [] = refl
sent_many q (Got r l v ∷ h) = sent_many q h
sent_many q (Sent r l v ∷ h) = elim (eqb_tells r.0 q) [
  | inl t ↦ rw t.0 (ap suc (sent_many q h))
  | inr t ↦ rw t.0 (sent_many q h)
]

pub got_many : (q : ℕ) (h : History) → got_from q (transcript_of h) ≡ length (gots q h)
got_many q [] = refl
got_many q (Sent r l v ∷ h) = got_many q h
got_many q (Got r l v ∷ h) = elim (eqb_tells r.0 q) [
  | inl t ↦ rw t.0 (ap suc (got_many q h))
  | inr t ↦ rw t.0 (got_many q h)
]

-- no queue holds more
IsWithin : ℕ → Configuration → Type 0
IsWithin capacity c = (a q : ℕ) → length (c.queue a q) ≤ capacity

module _ {A : Type 0} (b : Behaviour A) where
  within_turn : (ms : List Machine_data) (limit capacity p : ℕ) (l k : Moment A) (moved : Bool) → LimitedTurn ms b limit (Some capacity) p l k moved → IsWithin capacity l.at → IsWithin capacity k.at
  unfolding IsWithin
  within_turn ms limit capacity p l k true (below, BySend t) w a q = elim (eqb_tells a p) [
    | inl u ↦ elim (eqb_tells q t.step.peer.0) [
      | inl v ↦ (let P : ℕ → ℕ → Type 0 = λ x y. length (k.at.queue x y) ≤ capacity in
          let room = t.room in
          let e = ap length t.step.appends ∙ length-append (l.at.queue p t.step.peer.0) _ in
          let here : length (k.at.queue p t.step.peer.0) ≤ capacity = omega (arith, e) in
          subst₂ P (sym u.1) (sym v.1) here)
      | inr v ↦ (let e = ap length (t.step.other_queues a q (inr v.1)) in let h = w a q in omega (arith, e))
    ]
    | inr u ↦ (let e = ap length (t.step.other_queues a q (inl u.1)) in let h = w a q in omega (arith, e))
  ]
  within_turn ms limit capacity p l k true (below, ByReceive t) w a q = elim (eqb_tells a t.step.peer.0) [
    | inl u ↦ elim (eqb_tells q p) [
      | inl v ↦ (let P : ℕ → ℕ → Type 0 = λ x y. length (k.at.queue x y) ≤ capacity in
          let e = ap length t.step.removes in
          let h = w t.step.peer.0 p in
          let here : length (k.at.queue t.step.peer.0 p) ≤ capacity = omega (arith, e) in
          subst₂ P (sym u.1) (sym v.1) here)
      | inr v ↦ (let e = ap length (t.step.other_queues a q (inr v.1)) in let h = w a q in omega (arith, e))
    ]
    | inr u ↦ (let e = ap length (t.step.other_queues a q (inl u.1)) in let h = w a q in omega (arith, e))
  ]
  within_turn ms limit capacity p l k false (below, HasEnded d e) w a q = let s = ap (λ (z : Moment A). length (z.at.queue a q)) e in let h = w a q in omega (arith, s)
  within_turn ms limit capacity p l k false (below, Waits peer arms takes empty e) w a q = let s = ap (λ (z : Moment A). length (z.at.queue a q)) e in let h = w a q in omega (arith, s)
  within_turn ms limit capacity p l k false (below, FindsFull t) w a q = let s = ap (λ (z : Configuration). length (z.queue a q)) t.at in let h = w a q in omega (arith, s)

  within_turns : (ms : List Machine_data) (limit capacity many p : ℕ) (l k : Moment A) (moved : Bool) → Turns (LimitedTurn ms b limit (Some capacity)) many p l k moved → IsWithin capacity l.at
      → IsWithin capacity k.at
  within_turns ms limit capacity zero p l k moved t w = let P : Moment A → Type 0 = λ z. IsWithin capacity z.at in subst P (sym t.0) w
  within_turns ms limit capacity (suc many) p l k moved t w = within_turns ms limit capacity many (suc p) t.0 k t.2 t.4 (within_turn ms limit capacity p l t.0 t.1 t.3 w)

  -- what holds of a stuck run
  OfStuck : List Machine_data → (ℕ → A) → ℕ → ℕ → Ending A → Type 0
  OfStuck ms actors limit capacity (Ended k) = Unit {0}
  OfStuck ms actors limit capacity (Stopped p k) = Unit {0}
  OfStuck ms actors limit capacity (Stuck k) = Sound b ms actors limit k × IsWithin capacity k.at

  of_stuck : (ms : List Machine_data) (actors : ℕ → A) (limit capacity : ℕ) (l : Moment A) (o : Ending A) → Sound b ms actors limit l → IsWithin capacity l.at
      → PlainFrom ms b limit (Some capacity) l o
      → OfStuck ms actors limit capacity o
  unfolding OfStuck
  of_stuck ms actors limit capacity _ _ s w (AllDone l all) = tt
  of_stuck ms actors limit capacity _ _ s w (Stops p l k moved there ts at) = tt
  of_stuck ms actors limit capacity _ _ s w (NoneMoves p l k there goes ts) =
      (sound_round b ms actors limit (Some capacity) (length ms) l k false s ts, within_turns ms limit capacity (length ms) 0 l k false ts w)
  of_stuck ms actors limit capacity _ _ s w (GoesOn l m o ts rest) =
      of_stuck ms actors limit capacity m o (sound_round b ms actors limit (Some capacity) (length ms) l m true s ts) (within_turns ms limit capacity (length ms) 0 l m true ts w) rest

  -- the first sender at a full queue has sent as many messages as its receiver has taken, and the capacity
  pub apart : (ms : List Machine_data) (actors : ℕ → A) (limit capacity : ℕ) (k : Moment A) (sender : ℕ) (receiver : Role) → AreWellFormed ms → IsPlain ms b actors limit (Some capacity) (Stuck k)
      → FirstFull ms (Some capacity) k sender receiver
      → sent_to receiver.0 (transcript_of (k.history sender)) ≡ got_from sender (transcript_of (k.history receiver.0)) + capacity
  unfolding OfStuck IsWithin
  apart ms actors limit capacity k sender receiver wf is f =
      let start : IsWithin capacity is.first.at = λ a q. (let e = ap length (is.starts.at.queues a q) in omega (arith, e)) in
      let of = of_stuck ms actors limit capacity is.first (Stuck k) (sound_start b ms actors limit is.first is.starts) start is.run in
      let at = here_is (slice_get ms sender) (k.at.at sender) (Puts receiver f.arms) f.puts in
      let peer = (peered ms wf).puts sender at.0 (k.at.at sender) receiver f.arms at.1 at.2 in
      let fifo : gots sender (k.history receiver.0) ++ k.at.queue sender receiver.0 ≡ sents receiver.0 (k.history sender) =
      told_fifo b ms k.history k.at of.0.told sender receiver.0 (λ e. peer.1 (sym e)) in
      let sum = sym (length-append (gots sender (k.history receiver.0)) (k.at.queue sender receiver.0)) ∙ ap length fifo in
      let most = of.1 sender receiver.0 in
      let least = f.full in
      let s = sent_many receiver.0 (k.history sender) in
      let g = got_many sender (k.history receiver.0) in
      omega (arith, sum, s, g)
