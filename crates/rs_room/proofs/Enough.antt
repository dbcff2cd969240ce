-- In sessions with derivations rings of the stated room are enough.
use Rattle.std.proofs.Common.{◌⊎◌, inl, inr, ℕ, ◌<◌, ◌≤◌, List, [], ◌∷◌, slice_get, length, map, refl, sym, subst}
use Rattle.rs_model.specs.Data.{Machine_data, Protocol_data}
use Rattle.rs_model.specs.declared.graph.Role.{Role}
use Rattle.rs_model.specs.declared.machines.State.TheVariants.{Puts}
use Rattle.rs_core.specs.declared.messages.Event.{Event}
use Rattle.rs_core.specs.declared.messages.Event.TheVariants.{Send, Receive}
use Rattle.rs_core.specs.Configurations.{Configuration, Step, Steps, IsReachable}
use Rattle.rs_core.specs.Safety.{AllEnded}
use Rattle.rs_core.proofs.Stands.{Stands, done_after, here_is, numbered, peered}
use Rattle.rs_project.specs.Data.{Projection_data}
use Rattle.rs_derive.specs.Data.{Derivation_data}
use Rattle.rs_derive.specs.Figures.{greatest}
use Rattle.rs_safety.specs.Room.{longest, top_rank, lag, room_of}
use Rattle.rs_room.specs.Bounded.{BoundedStep, HasBoundedStep, BoundedSteps, IsReachableWithin, IsStuck, CanMoveWithin, MayPut, MayTake, CanStepWithin}
use Rattle.rs_safety.proofs.Limits.{bounds}
use Rattle.rs_safety.proofs.NextSteps.{first_send, takes_fit, take}
use Rattle.rs_room.proofs.FullRings.{roomy}
use Rattle.rs_safety.specs.Sessions.{IsDerivedSession}
use Rattle.rs_safety.proofs.Reordered.{no_derivation, derivation_of}
use Rattle.rs_safety.proofs.Walked.{WalksOf, good, stands}

-- at a capacity of at least the room some role can go on, or all have ended
pub can_go_on : (pr : Protocol_data) (pjs : List Projection_data) (ms : List Machine_data) (ds : List Derivation_data) → IsDerivedSession pr pjs ms ds
    → (capacity : ℕ) → room_of ds ≤ capacity → (c : Configuration) → IsReachable ms c → CanStepWithin ms capacity c ⊎ AllEnded ms c
can_go_on pr pjs ms ds s capacity room c r =
    roomy ms (WalksOf pr pjs ms ds) (done_after (λ z. 0) r.events) c (length pr.nodes) (greatest (map longest ds) 0) (greatest (map lag ds) 0) capacity
    (λ p. longest (derivation_of ds p)) (λ p. top_rank (derivation_of ds p)) (peered ms s.machines_fit) (bounds ds no_derivation (length ms) s.derived.many) room
    (stands pr pjs ms ds s) (good pr pjs ms ds s c r)

-- who can go on has a bounded step
pub bounded_step : (pr : Protocol_data) (pjs : List Projection_data) (ms : List Machine_data) (ds : List Derivation_data) → IsDerivedSession pr pjs ms ds
    → (capacity : ℕ) (c : Configuration) → IsReachable ms c → (p : ℕ) → CanMoveWithin ms capacity c p → HasBoundedStep ms capacity c p
bounded_step pr pjs ms ds s capacity c r p (MayPut q arms h few) =
    let m = here_is (slice_get ms p) (c.at p) (Puts q arms) h in
    let f = first_send ms c p q arms h ((s.machines_fit.fits p m.0 m.1).puts (c.at p) q arms m.2).some in
    let P : Role → Type 0 = λ z. length (c.queue p z.0) < capacity in
    (Send (numbered p) 0 f.value', f.to, refl, (f.step, subst P (sym f.peer) few))
bounded_step pr pjs ms ds s capacity c r p (MayTake q arms m later h hq) =
    let zeros : ℕ → ℕ → ℕ = λ x k. 0 in
    let st : Stands ms (WalksOf pr pjs ms ds) (done_after (λ z. 0) r.events) zeros 1 c = good pr pjs ms ds s c r zeros 1 in
    let fit = takes_fit ms (WalksOf pr pjs ms ds) (done_after (λ z. 0) r.events) zeros 0 c st p q arms m later (peered ms s.machines_fit) h hq in
    let t = take ms c p q arms m later h hq fit in
    (Receive (numbered p), t.to, refl, t.step)

-- only who can go on has a bounded step
pub only_who_can : (ms : List Machine_data) (capacity : ℕ) (c : Configuration) (p : ℕ) → HasBoundedStep ms capacity c p
    → CanMoveWithin ms capacity c p
only_who_can ms capacity c p (Send role arm v, d, same, b) =
    let P : ℕ → Type 0 = λ z. CanMoveWithin ms capacity c z in
    let st = b.0 in
    subst P same (MayPut st.peer st.arms st.puts b.1)
only_who_can ms capacity c p (Receive role, d, same, st) =
    let P : ℕ → Type 0 = λ z. CanMoveWithin ms capacity c z in
    subst P same (MayTake st.peer st.arms st.message (d.queue st.peer.0 role.0) st.takes st.removes)

-- bounded steps are steps
is_step : (ms : List Machine_data) (capacity : ℕ) (c d : Configuration) (e : Event) → BoundedStep ms capacity c e d → Step ms c e d
is_step ms capacity c d (Send role arm value) b = b.0
is_step ms capacity c d (Receive role) b = b

are_steps : (ms : List Machine_data) (capacity : ℕ) (c d : Configuration) (es : List Event) → BoundedSteps ms capacity c es d → Steps ms c es d
are_steps ms capacity c d [] b = b
are_steps ms capacity c d (e ∷ es) b = (b.0, is_step ms capacity c b.0 e b.1, are_steps ms capacity b.0 d es b.2)

pub is_reachable : (ms : List Machine_data) (capacity : ℕ) (c : Configuration) → IsReachableWithin ms capacity c → IsReachable ms c
is_reachable ms capacity c r = record { first = r.first; events = r.events; starts = r.starts; steps = are_steps ms capacity r.first c r.events r.steps }

-- nothing that is reached is stuck
pub never_stuck_shown : (pr : Protocol_data) (pjs : List Projection_data) (ms : List Machine_data) (ds : List Derivation_data) → IsDerivedSession pr pjs ms ds
    → (capacity : ℕ) → room_of ds ≤ capacity → (c : Configuration) → IsReachable ms c → IsStuck ms capacity c → ⊥
never_stuck_shown pr pjs ms ds s capacity room c r stuck = elim (can_go_on pr pjs ms ds s capacity room c r) [
  | inl can ↦ (let b = bounded_step pr pjs ms ds s capacity c r can.0 can.2 in stuck.no_step b.0 b.1 b.3)
  | inr over ↦ stuck.not_ended over
]
