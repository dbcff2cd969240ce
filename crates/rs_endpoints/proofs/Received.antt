-- The arm by which a value was received, and a sender that has no more to send.
use Rattle.std.proofs.Common.{◌≡◌, ℕ, ◌<◌, List, Some, length, get_or, slice_get, sym, ap, ◌∙◌, subst}
use Rattle.std.proofs.lemmas.Option.{slice_get_within, get_or_from_slice_get}
use Rattle.rs_model.specs.declared.graph.Arm.{Arm}
use Rattle.rs_model.specs.declared.graph.Role.{Role}
use Rattle.rs_model.specs.declared.machines.State.TheVariants.{Takes}
use Rattle.rs_model.specs.declared.values.Value.{Value}
use Rattle.rs_rings.specs.Passes.{Rings_data}
use Rattle.rs_session.specs.Acts.{IsGot}
use Rattle.rs_session.specs.Data.{Stage_data}
use Rattle.rs_session.specs.Stages.{state_of_stage}
use Rattle.rs_session.specs.declared.stages.Stage.{Stage}
use Rattle.rs_session.specs.declared.stages.Stage.TheVariants.{Receiving}
use Rattle.rs_endpoints.specs.Endpoints.{Endpoint_data, FetchTells, GoesTo}
use Rattle.rs_endpoints.specs.declared.acts.Fetched.TheVariants.{Got}

module _ (session : Rings_data) (stage : Stage_data) (place : ℕ) (value : Value) (next : Stage) (peer : Role) (arms : List Arm)
    (at : state_of_stage session stage ≡ Some (Takes peer arms)) (told : IsGot session stage place value next) where
  pub picked : slice_get arms place ≡ Some told.by.arm
  picked =
      let both : Some (Takes told.by.peer told.by.arms) ≡ Some (Takes peer arms) = sym told.by.stands ∙ at in
      let same : told.by.arms ≡ arms = cc (both) in
      ap (λ (l : List Arm). slice_get l place) (sym same) ∙ told.by.picks

  pub within : place < length arms
  within = slice_get_within arms place told.by.arm picked

  pub labelled : (d : Arm) → told.by.arm.label ≡ (get_or arms place d).label
  labelled d = ap (λ (a : Arm). a.label) (sym (get_or_from_slice_get arms place told.by.arm d picked))

module _ (old new : Endpoint_data) (stage : Stage_data) (place : ℕ) (value : Value) (next : Stage) (peer : Role) (arms : List Arm) (d : Arm) where
  -- a value that was received by arms at hand
  pub fetched : (held : Rings_data) → held ≡ old.session → state_of_stage held stage ≡ Some (Takes peer arms) → IsGot held stage place value next → old.stage ≡ Some (Receiving stage) → GoesTo old new next
      → FetchTells old new (Got (get_or arms place d).label value)
  fetched held same at told was goes =
      let at' = subst (λ (s : Rings_data). state_of_stage s stage ≡ Some (Takes peer arms)) same at in
      let told' = subst (λ (s : Rings_data). IsGot s stage place value next) same told in
      (stage, place, next, told'.by, labelled old.session stage place value next peer arms at' told' d, was, told', goes)
