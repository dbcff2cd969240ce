-- Who can go on over rings, as it is looked up and as it is meant.
use Rattle.std.proofs.Common.{◌≡◌, inl, inr, ℕ, suc, ◌<◌, ◌≤◌, true, false, List, [], ◌∷◌, Option, Some, None, length, refl, sym, ap, subst, arith}
use Rattle.std.proofs.lemmas.Bool.Decides.{leb_tells}
use Rattle.rs_model.specs.Data.{Machine_data}
use Rattle.rs_model.specs.declared.machines.State.{State}
use Rattle.rs_model.specs.declared.machines.State.TheVariants.{Done, Puts, Takes}
use Rattle.rs_core.specs.declared.messages.Message.{Message}
use Rattle.rs_core.specs.Configurations.{Configuration, IsReachable, role_of, state_at}
use Rattle.rs_core.specs.Core.{configuration_of}
use Rattle.rs_core.specs.Safety.{AllEnded}
use Rattle.rs_core.proofs.Stands.{within}
use Rattle.rs_safety.specs.Sessions.{IsDerivedSession}
use Rattle.rs_safety.proofs.Walked.{of_accepted}
use Rattle.rs_room.specs.Bounded.{CanMoveWithin, HasBoundedStep, MayPut, MayTake}
use Rattle.rs_room.specs.Looks.{can_move, moves_by}
use Rattle.rs_room.specs.Movable.{IsLeastMovable, NoneIsMovable}
use Rattle.rs_room.specs.Rings.{Bounded_data, IsRingSession}
use Rattle.rs_room.proofs.Enough.{bounded_step, can_go_on, is_reachable, only_who_can}

-- who is found to move can

some_message : (ms : List Message) → 0 < length ms → (m : Message) × (later : List Message) × (ms ≡ m ∷ later)
some_message [] h = absurd (omega arith)
some_message (m ∷ later) h = (m, later, refl)

found_by : (ms : List Machine_data) (capacity : ℕ) (c : Configuration) (p : ℕ) (o : Option State) → state_at ms c p ≡ o
    → moves_by capacity o (λ q. c.queue p q) (λ q. c.queue q p) ≡ true → CanMoveWithin ms capacity c p
found_by ms capacity c p None h good = absurd (cc (good))
found_by ms capacity c p (Some Done) h good = absurd (cc (good))
found_by ms capacity c p (Some (Puts peer arms)) h good = elim (leb_tells (suc (length (c.queue p peer.0))) capacity) [
  | inl t ↦ MayPut peer arms h t.1
  | inr t ↦ absurd (cc (good, t.0))
]
found_by ms capacity c p (Some (Takes peer arms)) h good = elim (leb_tells 1 (length (c.queue peer.0 p))) [
  | inl t ↦ (let m = some_message (c.queue peer.0 p) t.1 in MayTake peer arms m.0 m.1 h m.2)
  | inr t ↦ absurd (cc (good, t.0))
]

-- who can move is found
finds : (ms : List Machine_data) (capacity : ℕ) (c : Configuration) (p : ℕ) → CanMoveWithin ms capacity c p
    → moves_by capacity (state_at ms c p) (λ q. c.queue p q) (λ q. c.queue q p) ≡ true
finds ms capacity c p (MayPut peer arms h few) = elim (leb_tells (suc (length (c.queue p peer.0))) capacity) [
  | inl t ↦ rw h t.0
  | inr t ↦ absurd (omega (arith, t.1))
]
finds ms capacity c p (MayTake peer arms m later h q) = elim (leb_tells 1 (length (c.queue peer.0 p))) [
  | inl t ↦ rw h t.0
  | inr t ↦ absurd (let e = ap length q in omega (arith, t.1, e))
]

pub found : (b : Bounded_data) (p : ℕ) → can_move b p ≡ true → CanMoveWithin b.core.machines b.capacity (configuration_of b.core) p
found b p good = found_by b.core.machines b.capacity (configuration_of b.core) p (state_at b.core.machines (configuration_of b.core) p) refl good

pub not_found : (b : Bounded_data) (p : ℕ) → can_move b p ≡ false → HasBoundedStep b.core.machines b.capacity (configuration_of b.core) p → ⊥
not_found b p bad has =
    let good : can_move b p ≡ true = finds b.core.machines b.capacity (configuration_of b.core) p (only_who_can b.core.machines b.capacity (configuration_of b.core) p has) in
    cc (good, bad)

-- a session over rings is one with derivations
of_rings : (b : Bounded_data) (s : IsRingSession b) → IsDerivedSession s.session.protocol s.session.projections b.core.machines s.session.derivations
of_rings b s =
    let P : List Machine_data → Type 0 = λ z. IsDerivedSession s.session.protocol s.session.projections z s.session.derivations in
    subst P (sym s.machines) (of_accepted s.session s.accepted)

reached : (b : Bounded_data) → IsRingSession b → IsReachable b.core.machines (configuration_of b.core)
reached b s = is_reachable b.core.machines b.capacity (configuration_of b.core) s.reachable

moves : (b : Bounded_data) → IsRingSession b → (p : ℕ) → CanMoveWithin b.core.machines b.capacity (configuration_of b.core) p
    → HasBoundedStep b.core.machines b.capacity (configuration_of b.core) p
moves b s p can = bounded_step s.session.protocol s.session.projections b.core.machines s.session.derivations (of_rings b s) b.capacity (configuration_of b.core) (reached b s) p can

pub least : (b : Bounded_data) → IsRingSession b → (p : ℕ) → p < length b.core.machines → can_move b p ≡ true
    → ((q : ℕ) → q < p → can_move b q ≡ false) → IsLeastMovable b p
least b s p there good before = record {
  present = there;
  moves = moves b s p (found b p good);
  least = λ q hq. not_found b q (before q hq);
}

-- who has a bounded step is one of the roles
is_role : (ms : List Machine_data) (capacity : ℕ) (c : Configuration) (p : ℕ) → CanMoveWithin ms capacity c p → p < length ms
is_role ms capacity c p (MayPut peer arms h few) = within ms c p (Puts peer arms) h
is_role ms capacity c p (MayTake peer arms m later h q) = within ms c p (Takes peer arms) h

pub none_moves : (b : Bounded_data) → ((q : ℕ) → q < length b.core.machines → can_move b q ≡ false) → NoneIsMovable b
none_moves b all e d st =
    let has : HasBoundedStep b.core.machines b.capacity (configuration_of b.core) (role_of e) = (e, d, refl, st) in
    let there = is_role b.core.machines b.capacity (configuration_of b.core) (role_of e) (only_who_can b.core.machines b.capacity (configuration_of b.core) (role_of e) has) in
    not_found b (role_of e) (all (role_of e) there) has

-- with enough room none is movable only where all have ended
pub then_ended : (b : Bounded_data) → IsRingSession b → ((q : ℕ) → q < length b.core.machines → can_move b q ≡ false) → b.room ≤ b.capacity
    → AllEnded b.core.machines (configuration_of b.core)
then_ended b s all room =
    elim (can_go_on s.session.protocol s.session.projections b.core.machines s.session.derivations (of_rings b s) b.capacity (omega (arith, s.room)) (configuration_of b.core) (reached b s)) [
      | inl can ↦ absurd (not_found b can.0 (all can.0 can.1) (moves b s can.0 can.2))
      | inr over ↦ over
    ]

-- who can go on hasn't ended
not_ended : (ms : List Machine_data) (capacity : ℕ) (c : Configuration) (p : ℕ) → CanMoveWithin ms capacity c p → p < length ms → AllEnded ms c → ⊥
not_ended ms capacity c p (MayPut peer arms h few) there over = let d = over.done p there in cc (d, h)
not_ended ms capacity c p (MayTake peer arms m later h q) there over = let d = over.done p there in cc (d, h)

pub goes_on : (b : Bounded_data) (p : ℕ) → p < length b.core.machines → can_move b p ≡ true → AllEnded b.core.machines (configuration_of b.core) → ⊥
goes_on b p there good = not_ended b.core.machines b.capacity (configuration_of b.core) p (found b p good) there
