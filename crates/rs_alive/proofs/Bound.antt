-- In sessions with derivations every message can be taken.
use Rattle.std.proofs.Common.{◌≡◌, ◌≢◌, inl, inr, ℕ, suc, ◌+◌, ◌*◌, ◌<◌, ◌≤◌, List, [], ◌∷◌, length, map, sym, ◌∙◌, subst, arith}
use Rattle.std.proofs.lemmas.Bool.Decides.{eqb_tells}
use Rattle.rs_model.specs.Data.{Machine_data, Protocol_data}
use Rattle.rs_model.specs.declared.graph.Role.{Role}
use Rattle.rs_core.specs.declared.messages.Event.{Event}
use Rattle.rs_core.specs.Configurations.{Configuration, IsReachable, role_of}
use Rattle.rs_core.proofs.Items.{put_at_same, put_at_other}
use Rattle.rs_core.proofs.Stands.{one_more, done_after, peered}
use Rattle.rs_project.specs.Data.{Projection_data}
use Rattle.rs_derive.specs.Data.{Derivation_data}
use Rattle.rs_derive.specs.Figures.{greatest}
use Rattle.rs_safety.specs.Room.{longest, top_rank, lag, room_of}
use Rattle.rs_alive.specs.Taken.{acts_by, IsTaken}
use Rattle.rs_safety.proofs.Limits.{bounds}
use Rattle.rs_alive.proofs.Scheduled.{Setting, can_be_taken, within_bound}
use Rattle.rs_safety.specs.Sessions.{IsDerivedSession}
use Rattle.rs_safety.proofs.Reordered.{no_derivation, derivation_of}
use Rattle.rs_safety.proofs.Walked.{WalksOf, good, stands}

-- what is counted on the way is how many of the events are the role's
pub counts : (done : ℕ → ℕ) (es : List Event) (p : ℕ) → done_after done es p ≡ done p + acts_by p es
counts done [] p = omega arith
counts done (e ∷ es) p = elim (eqb_tells (role_of e) p) [
  | inl t ↦ (let h = counts (one_more done (role_of e)) es p in
      let q : one_more done (role_of e) p ≡ suc (done p)
      = (let P : ℕ → Type 0 = λ z. one_more done (role_of e) z ≡ suc (done z) in subst P t.1 (put_at_same done (role_of e) (suc (done (role_of e))))) in
      rw t.0 (omega (arith, h, q)))
  | inr t ↦ (let h = counts (one_more done (role_of e)) es p in
      let q : one_more done (role_of e) p ≡ done p = put_at_other done (role_of e) (suc (done (role_of e))) p (λ x. t.1 (sym x)) in
      rw t.0 (omega (arith, h, q)))
]

-- the greatest number of acts that a role owes, and the greatest lag
abbrev pub most_owed : List Derivation_data → ℕ
most_owed ds = greatest (map longest ds) 0

abbrev pub most_lag : List Derivation_data → ℕ
most_lag ds = greatest (map lag ds) 0

abbrev pub long_of : List Derivation_data → ℕ → ℕ
long_of ds p = longest (derivation_of ds p)

abbrev pub top_of : List Derivation_data → ℕ → ℕ
top_of ds p = top_rank (derivation_of ds p)

pub setting : (pr : Protocol_data) (pjs : List Projection_data) (ms : List Machine_data) (ds : List Derivation_data) → IsDerivedSession pr pjs ms ds
    → Setting ms (WalksOf pr pjs ms ds) (length pr.nodes) (most_owed ds) (most_lag ds) (long_of ds) (top_of ds)
setting pr pjs ms ds s = record {
  peered = peered ms s.machines_fit;
  fits = s.machines_fit.fits;
  bounds = bounds ds no_derivation (length ms) s.derived.many;
  stands = stands pr pjs ms ds s;
}

pub taking : (pr : Protocol_data) (pjs : List Projection_data) (ms : List Machine_data) (ds : List Derivation_data) → IsDerivedSession pr pjs ms ds
    → (c : Configuration) (r : IsReachable ms c) (sender receiver : Role) (place : ℕ) → sender.0 < length ms
    → receiver.0 < length ms → sender.0 ≢ receiver.0 → place < length (c.queue sender.0 receiver.0)
    → (events : List Event) × IsTaken ms sender receiver c place events
    × (length events ≤ 2 * length ms * length pr.nodes * (acts_by sender.0 r.events + 3 * room_of ds))
taking pr pjs ms ds s c r p u k hp hu ne hk =
    let done : ℕ → ℕ = done_after (λ z. 0) r.events in
    let a = can_be_taken ms (WalksOf pr pjs ms ds) (length pr.nodes) (most_owed ds) (most_lag ds) (long_of ds) (top_of ds) (setting pr pjs ms ds s) done c
    (good pr pjs ms ds s c r) p u k hp hu ne hk in
    let b = within_bound (length ms) (length pr.nodes) (done p.0) (most_owed ds) (most_lag ds) (let h = s.well_formed.root in omega arith) in
    (a.0, a.1, (let l = a.2 in let e : done p.0 ≡ acts_by p.0 r.events = counts (λ z. 0) r.events p.0 ∙ omega arith in rw (← e) (omega arith)))
