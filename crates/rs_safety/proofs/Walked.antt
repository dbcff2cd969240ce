-- What is recorded of the roles of a session with derivations: the walk of each through its derivation, and where it
-- stands in it.
use Rattle.std.proofs.Common.{◌≡◌, ℕ, ◌+◌, ◌<◌, ◌≤◌, List, [], ◌∷◌, ◌++◌, length}
use Rattle.rs_model.specs.Data.{Machine_data, Protocol_data}
use Rattle.rs_core.specs.Configurations.{Configuration, StartsAt, IsReachable}
use Rattle.rs_core.proofs.Items.{Item}
use Rattle.rs_core.proofs.Stands.{Known, Good, run_keeps, done_after, peered}
use Rattle.rs_project.specs.Data.{Projection_data}
use Rattle.rs_derive.specs.Data.{Derivation_data}
use Rattle.rs_safety.specs.Accepting.{Accepted_data, IsAcceptedSession}
use Rattle.rs_safety.specs.Room.{longest, top_rank}
use Rattle.rs_safety.proofs.Accepts.{are_projections}
use Rattle.rs_safety.proofs.Trail.{canon}
use Rattle.rs_safety.proofs.Built.{good_of_parts}
use Rattle.rs_safety.proofs.Derived.{derived}
use Rattle.rs_safety.proofs.Limits.{limits}
use Rattle.rs_safety.specs.Sessions.{IsDerivedSession}
use Rattle.rs_safety.proofs.Reordered.{derivation_of, derived_at, machine_of, parts, projection_of, sum_of_bounds, widen}
use Rattle.rs_safety.proofs.Places.{Recorded, Here, stand_here}

-- what is recorded of each role: its walk through its derivation
abbrev pub WalksOf : Protocol_data → List Projection_data → List Machine_data → List Derivation_data → Known
WalksOf pr pjs ms ds p whole owed = Recorded (derivation_of ds p) (machine_of ms p) (projection_of pjs p).machine (length pr.nodes) whole owed

good_start : (pr : Protocol_data) (pjs : List Projection_data) (ms : List Machine_data) (ds : List Derivation_data)
    → IsDerivedSession pr pjs ms ds → (c : Configuration) → StartsAt ms c → Good ms (WalksOf pr pjs ms ds) (λ r. 0) c
unfolding parts widen derived
good_start pr pjs ms ds s = good_of_parts pr ms (sum_of_bounds ds) (WalksOf pr pjs ms ds) (parts pr pjs ms ds s)
    (λ f p hp trail future owed t w sp. record { place = w.place; eaten = canon p trail; path = w.path; spaced = sp })

-- wherever the machines come to, the walks fit together
pub good : (pr : Protocol_data) (pjs : List Projection_data) (ms : List Machine_data) (ds : List Derivation_data)
    → IsDerivedSession pr pjs ms ds → (c : Configuration) (r : IsReachable ms c)
    → Good ms (WalksOf pr pjs ms ds) (done_after (λ z. 0) r.events) c
good pr pjs ms ds s c r = run_keeps ms (WalksOf pr pjs ms ds) (λ z. 0) r.first c r.events (peered ms s.machines_fit) r.steps (good_start pr pjs ms ds s r.first r.starts)

-- where a role stands in its walk, what it owes is within the figures of its derivation
pub stands : (pr : Protocol_data) (pjs : List Projection_data) (ms : List Machine_data) (ds : List Derivation_data) → IsDerivedSession pr pjs ms ds
    → (p : ℕ) (past future owed : List Item) → p < length ms → WalksOf pr pjs ms ds p (past ++ future) owed
    → Here (longest (derivation_of ds p)) (top_rank (derivation_of ds p)) (length pr.nodes) past future owed
stands pr pjs ms ds s p past future owed hp w =
    let both = derived_at pr pjs ms ds s p hp in
    stand_here (derivation_of ds p) (machine_of ms p) (projection_of pjs p).machine (longest (derivation_of ds p)) (top_rank (derivation_of ds p)) (length pr.nodes) both.0 both.1
    (limits (derivation_of ds p)) past future owed w

-- an accepted session is one with derivations
pub of_accepted : (a : Accepted_data) → IsAcceptedSession a → IsDerivedSession a.protocol a.projections a.machines a.derivations
of_accepted a s = record {
  well_formed = s.is_session.well_formed;
  projected = are_projections a.protocol a.projections s.is_session.projected;
  a_machine_each = s.is_session.a_machine_each;
  machines_fit = s.is_session.machines_fit;
  derived = s.derived;
}
