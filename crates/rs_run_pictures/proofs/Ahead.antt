-- What is ahead at a moment of a run: the acts that each role is yet to make begin at the state where its machine stands.
use Rattle.std.proofs.Common.{◌≡◌, ◌≢◌, inl, inr, ℕ, zero, suc, ◌+◌, ◌<◌, Bool, true, false, List, [], ◌∷◌, ◌++◌, append_assoc, length, Option, Some, None, slice_get, refl, sym, ap, ◌∙◌, subst, arith}
use Rattle.std.proofs.lemmas.Bool.Decides.{eqb_tells}
use Rattle.std.proofs.lemmas.List.{append-nil}
use Rattle.rs_model.specs.Data.{Machine_data}
use Rattle.rs_model.specs.declared.graph.Arm.{Arm}
use Rattle.rs_model.specs.declared.graph.Role.{Role}
use Rattle.rs_model.specs.declared.machines.State.{State}
use Rattle.rs_model.specs.declared.machines.State.TheVariants.{Done, Puts, Takes}
use Rattle.rs_core.specs.Actors.{Behaviour}
use Rattle.rs_core.specs.Configurations.{state_at, state_of}
use Rattle.rs_core.specs.Histories.{Action, Sent, Got, History}
use Rattle.rs_core.specs.Plain.{Moment, Ending, Acts, BySend, ByReceive, Rests, HasEnded, Waits, FindsFull, PlainTurn, LimitedTurn, Turns, PlainFrom, AllDone, Stops, NoneMoves, GoesOn}
use Rattle.rs_core.specs.Runs.{last_moment}

-- the action is one of that state
abbrev pub IsOf : Option State → Action → Type 0
IsOf (Some (Puts peer arms)) (Sent q l v) = peer ≡ q
IsOf (Some (Takes peer arms)) (Got q l v) = peer ≡ q
IsOf (Some (Puts peer arms)) (Got q l v) = ⊥
IsOf (Some (Takes peer arms)) (Sent q l v) = ⊥
IsOf (Some Done) x = ⊥
IsOf None x = ⊥

-- the first of the actions, if there is one, is one of that state
abbrev pub BeginsAt : Option State → History → Type 0
BeginsAt o [] = Unit {0}
BeginsAt o (x ∷ h) = IsOf o x

-- what role p is yet to do at moment l, where in the end it has done all of the history
pub record Ahead {A : Type 0} (ms : List Machine_data) (whole : History) (l : Moment A) (p : ℕ) : Type 0 where
  pub rest : History
  pub is : whole ≡ l.history p ++ rest
  pub begins : BeginsAt (state_at ms l.at p) rest

-- the same of all roles
abbrev pub AllAhead : {A : Type 0} → List Machine_data → (ℕ → History) → Moment A → Type 0
AllAhead ms whole l = (p : ℕ) → Ahead ms (whole p) l p

module _ {A : Type 0} (b : Behaviour A) (ms : List Machine_data) (whole : ℕ → History) where
  at_end : (k : Moment A) → ((p : ℕ) → whole p ≡ k.history p) → AllAhead ms whole k
  at_end k same p = record { rest = []; is = same p ∙ sym (append-nil (k.history p)); begins = tt }

  -- before an act of role p
  act_ahead : (l k : Moment A) (p : ℕ) (x : Action) → k.history p ≡ l.history p ++ (x ∷ []) → IsOf (state_at ms l.at p) x → Ahead ms (whole p) k p → Ahead ms (whole p) l p
  act_ahead l k p x did of a = record {
    rest = x ∷ a.rest;
    is = a.is ∙ ap (λ z. z ++ a.rest) did ∙ append_assoc (l.history p) (x ∷ []) a.rest;
    begins = of;
  }

  -- where neither the history nor the state of a role changes
  same_ahead : (l k : Moment A) (r : ℕ) → k.history r ≡ l.history r → state_at ms k.at r ≡ state_at ms l.at r → Ahead ms (whole r) k r → Ahead ms (whole r) l r
  same_ahead l k r history state a = record {
    rest = a.rest;
    is = a.is ∙ ap (λ z. z ++ a.rest) history;
    begins = subst (λ (o : Option State). BeginsAt o a.rest) state a.begins;
  }

  split : (l k : Moment A) (p : ℕ) → Ahead ms (whole p) l p → ((r : ℕ) → r ≢ p → Ahead ms (whole r) l r) → AllAhead ms whole l
  split l k p here others r = elim (eqb_tells r p) [
    | inl t ↦ subst (λ (z : ℕ). Ahead ms (whole z) l z) (sym t.1) here
    | inr t ↦ others r t.1
  ]

  turn_ahead : (capacity : Option ℕ) (p : ℕ) (l k : Moment A) (moved : Bool) → PlainTurn ms b capacity p l k moved → AllAhead ms whole k → AllAhead ms whole l
  turn_ahead capacity p l k true t ahead = acts t
    where
      acts : Acts ms b capacity p l k → AllAhead ms whole l
      acts (BySend t) = split l k p
          (act_ahead l k p (Sent t.step.peer t.step.arm.label t.choice.1) t.history (subst (λ (o : Option State). IsOf o (Sent t.step.peer t.step.arm.label t.choice.1)) (sym t.step.puts) refl) (ahead p))
          (λ r ne. same_ahead l k r (t.others.history r ne) (ap (state_of (slice_get ms r)) (t.step.other_states r ne)) (ahead r))
      acts (ByReceive t) = split l k p
          (act_ahead l k p (Got t.step.peer t.step.message.label t.step.message.value) t.history
          (subst (λ (o : Option State). IsOf o (Got t.step.peer t.step.message.label t.step.message.value)) (sym t.step.takes) refl) (ahead p))
          (λ r ne. same_ahead l k r (t.others.history r ne) (ap (state_of (slice_get ms r)) (t.step.other_states r ne)) (ahead r))
  turn_ahead capacity p l k false t ahead = rests t
    where
      rests : Rests ms b capacity p l k → AllAhead ms whole l
      rests (HasEnded d e) = subst (λ (z : Moment A). AllAhead ms whole z) e ahead
      rests (Waits peer arms takes empty e) = subst (λ (z : Moment A). AllAhead ms whole z) e ahead
      rests (FindsFull t) = split l k p
          (same_ahead l k p t.history (ap (λ c. state_at ms c p) t.at) (ahead p))
          (λ r ne. same_ahead l k r (t.others.history r ne) (ap (λ c. state_at ms c r) t.at) (ahead r))

  pub turns_ahead : (limit : ℕ) (capacity : Option ℕ) (many p : ℕ) (l k : Moment A) (moved : Bool) → Turns (LimitedTurn ms b limit capacity) many p l k moved → AllAhead ms whole k → AllAhead ms whole l
  turns_ahead limit capacity zero p l k moved t ahead = subst (λ (z : Moment A). AllAhead ms whole z) t.0 ahead
  turns_ahead limit capacity (suc many) p l k moved t ahead = turn_ahead capacity p l t.0 t.1 t.3.1 (turns_ahead limit capacity many (suc p) t.0 k t.2 t.4 ahead)

  pub run_ahead : (limit : ℕ) (capacity : Option ℕ) (l : Moment A) (o : Ending A) → PlainFrom ms b limit capacity l o → ((p : ℕ) → whole p ≡ (last_moment o).history p) → AllAhead ms whole l
  run_ahead limit capacity _ _ (AllDone l done) same = at_end l same
  run_ahead limit capacity _ _ (Stops p l k moved there ts at) same = turns_ahead limit capacity p 0 l k moved ts (at_end k same)
  run_ahead limit capacity _ _ (NoneMoves p l k there goes ts) same = turns_ahead limit capacity (length ms) 0 l k false ts (at_end k same)
  run_ahead limit capacity _ _ (GoesOn l m o ts rest) same = turns_ahead limit capacity (length ms) 0 l m true ts (run_ahead limit capacity m o rest same)
