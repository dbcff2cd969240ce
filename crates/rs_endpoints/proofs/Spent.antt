-- A ring that is found empty, and whose sender was given up.
use Rattle.std.proofs.Common.{◌≡◌, ℕ, List, true, Some, length, sym, ap, ◌∙◌, subst}
use Rattle.rs_model.specs.declared.graph.Arm.{Arm}
use Rattle.rs_model.specs.declared.graph.Role.{Role}
use Rattle.rs_model.specs.declared.machines.State.TheVariants.{Takes}
use Rattle.rs_rings.specs.Acts.{parcels_sent, parcels_got}
use Rattle.rs_rings.specs.Passes.{Rings_data}
use Rattle.rs_session.specs.Acts.{IsKept}
use Rattle.rs_session.specs.Data.{Stage_data}
use Rattle.rs_session.specs.Leaving.{IsFrom}
use Rattle.rs_session.specs.Stages.{state_of_stage}
use Rattle.rs_session.specs.declared.stages.Stage.TheVariants.{Receiving}
use Rattle.rs_endpoints.specs.Endpoints.{Endpoint_data, FetchTells, GoesTo, IsSpent}
use Rattle.rs_endpoints.specs.declared.acts.Fetched.TheVariants.{Empty}

module _ (old : Endpoint_data) (stage same : Stage_data) (seen : ℕ) (peer me : Role) (arms : List Arm) where
  pub spent : (held : Rings_data) → held ≡ old.session → state_of_stage held stage ≡ Some (Takes peer arms) → IsKept held stage same seen → me ≡ same.role
      → (left : Stage_data) × IsFrom held left × (left.role ≡ peer) × (seen ≡ length (parcels_sent me.0 left.part.history)) → IsSpent old.session stage
  spent held is-held at kept is-me found =
      let left = found.0 in
      let both : Some (Takes kept.from.peer kept.from.arms) ≡ Some (Takes peer arms) = sym kept.from.stands ∙ at in
      let is : kept.from.peer ≡ peer = cc (both) in
      let role : same.role ≡ stage.role = ap (λ (s : Stage_data). s.role) kept.empty.becomes in
      subst (λ (s : Rings_data). IsSpent s stage) is-held record {
        from = kept.from;
        left = left;
        table = found.1;
        role = found.2 ∙ sym is;
        all = ap (λ (r : Role). length (parcels_sent r.0 left.part.history)) (sym (is-me ∙ role)) ∙ (sym found.3 ∙ kept.empty.is_got);
      }
