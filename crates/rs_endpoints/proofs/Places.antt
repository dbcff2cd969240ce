-- The state at which a role stands is one, and so are its arms.
use Rattle.std.proofs.Common.{◌≡◌, ℕ, ◌<◌, ◌≤◌, List, Option, Some, None, IfNone, slice_get, sym, ap, ◌∙◌, subst, arith}
use Rattle.rs_model.specs.declared.graph.Arm.{Arm}
use Rattle.rs_model.specs.declared.graph.Label.{Label}
use Rattle.rs_model.specs.declared.graph.Role.{Role}
use Rattle.rs_model.specs.declared.machines.State.{State}
use Rattle.rs_model.specs.declared.machines.State.TheVariants.{Puts}
use Rattle.rs_core.specs.Choosable.{label_of}
use Rattle.rs_session.specs.Stages.{sight_of_stage, state_of_stage}
use Rattle.rs_session.specs.declared.stages.Stage.{Stage}
use Rattle.rs_endpoints.specs.Endpoints.{Endpoint_data, HasArmFor, StandsAt}

pub one_state : (e : Endpoint_data) (s t : State) → StandsAt e s → StandsAt e t → s ≡ t
one_state e s t a b =
    let both : Some a.0 ≡ Some b.0 = sym a.1 ∙ b.1 in let is : a.0 ≡ b.0 = cc (both) in
    let states : Some s ≡ Some t = sym a.2 ∙ (ap (λ (x : Stage). state_of_stage e.session (sight_of_stage x)) is ∙ b.2) in cc (states)

-- the arms at hand are those of which a place is told
pub has_at_hand : (e : Endpoint_data) (peer : Role) (arms : List Arm) (place : ℕ) (label : Label) → StandsAt e (Puts peer arms) → HasArmFor e place label → label_of (slice_get arms place) ≡ Some label
has_at_hand e peer arms place label at has =
    let states = one_state e (Puts has.0 has.1) (Puts peer arms) has.2 at in let same : has.1 ≡ arms = cc (states) in
    subst (λ (xs : List Arm). label_of (slice_get xs place) ≡ Some label) same has.3

-- a place that is too great for a send stands behind all that aren't
pub not_below : (small : Option ℕ) (place : ℕ) (P : ℕ → Type 0) → IfNone small (65536 ≤ place) → ((earlier : ℕ) → earlier < place → P earlier → ⊥) → IfNone small ((at : ℕ) → at < 65536 → P at → ⊥)
not_below None place P great first = λ at below has. first at (omega arith) has
not_below (Some x) place P great first = tt
