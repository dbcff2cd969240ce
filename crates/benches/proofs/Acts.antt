-- What A may send, and that both roles are there.
use Rattle.std.proofs.Common.{◌≡◌, ℕ, zero, suc, ◌<◌, ◌^◌, List, [], ◌∷◌, ◌++◌, length, map, refl, sym, ap, subst, ◌∙◌, slice_get, arith}
use Rattle.rs_core.specs.Configurations.{state_of}
use Rattle.rs_model.specs.declared.graph.Role.{Role}
use Rattle.rs_model.specs.declared.values.Value.TheVariants as value
use Rattle.rs_rings.specs.Passes.{Rings_data}
use Rattle.rs_session.specs.Acts.{SendsBy}
use Rattle.rs_session.specs.Data.{Stage_data}
use Rattle.rs_session.specs.Ends.{AreAllThere}
use Rattle.rs_session.specs.Stages.{sight_of_stage, state_of_stage}
use Rattle.rs_session.specs.declared.stages.Stage.{Stage}
use Rattle.rs_typed.specs.Naturals.{nat_has_sort}
use Rattle.benches.specs.Acts.{Plays, drainer, feeder}
use Rattle.benches.specs.Sessions.{machines_of_stream}

pub feeds : (session : Rings_data) (stage : Stage) (before : Stage_data) (n : ℕ) → Plays session feeder stage → sight_of_stage stage ≡ before → n < 2 ^ 63 → SendsBy session before 0 (value.Natural n)
feeds session stage before n plays sight low = record {
  peer = _;
  arms = _;
  arm = _;
  stands = ap (state_of_stage session) (sym sight) ∙ ap (λ o. state_of o (sight_of_stage stage).part.state) plays.is.runs ∙ ap (λ (s : ℕ). slice_get feeder.states s) plays.stands.state_is;
  picks = refl;
  has_sort = nat_has_sort (record { number = n; small = low });
}

both : (a b : Stage) → (sight_of_stage a).role.0 ≡ 0 → (sight_of_stage b).role.0 ≡ 1 → AreAllThere 2 (sight_of_stage a ∷ sight_of_stage b ∷ [])
both a b first second zero low = record { place = 0; stage = sight_of_stage a; stands = refl; role = first }
both a b first second (suc zero) low = record { place = 1; stage = sight_of_stage b; stands = refl; role = second }
both a b first second (suc (suc r)) low = (let bad : ⊥ = omega (arith, low) in absurd bad)

pub all_there : (session : Rings_data) (none one two : List Stage) (a b : Stage) → session.machines ≡ machines_of_stream → Plays session feeder a → Plays session drainer b → none ≡ [] → one ≡ none ++ a ∷ [] → two ≡ one ++ b ∷ []
    → AreAllThere (length session.machines) (map sight_of_stage two)
all_there session none one two a b machines of_a of_b empty first second =
    let is : two ≡ a ∷ b ∷ [] = second ∙ ap (λ (l : List Stage). l ++ b ∷ []) (first ∙ ap (λ (l : List Stage). l ++ a ∷ []) empty) in
    subst (λ (z : ℕ × List Stage). AreAllThere z.0 (map sight_of_stage z.1)) (λ i. (sym (ap length machines) i, sym is i))
    (both a b (ap (λ (r : Role). r.0) of_a.stands.role_is) (ap (λ (r : Role). r.0) of_b.stands.role_is))
