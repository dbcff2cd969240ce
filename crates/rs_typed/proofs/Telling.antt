-- What the calls of endpoints tell, from what those of stages tell.
use Rattle.std.proofs.Common.{◌≡◌, ◌≢◌, ℕ, zero, suc, refl, List, [], ◌∷◌, Some, slice_get, sym, ap, ◌∙◌, subst}
use Rattle.rs_model.specs.Data.{Machine_data}
use Rattle.rs_model.specs.declared.graph.Arm.{Arm}
use Rattle.rs_model.specs.declared.graph.Role.{Role}
use Rattle.rs_model.specs.declared.machines.State.TheVariants.{Puts, Takes}
use Rattle.rs_model.specs.declared.values.Value.{Value}
use Rattle.rs_core.specs.Configurations.{state_of}
use Rattle.rs_rings.specs.Passes.{Rings_data}
use Rattle.rs_session.specs.Acts.{IsSent, IsHandedBack, IsGot, IsKept}
use Rattle.rs_session.specs.Data.{Stage_data}
use Rattle.rs_session.specs.Stages.{sight_of_stage, state_of_stage, IsEnded, IsOf}
use Rattle.rs_session.specs.declared.stages.Stage.{Stage}
use Rattle.rs_session.specs.declared.stages.Stage.TheVariants.{Sending, Receiving, Ended}
use Rattle.rs_typed.specs.Endpoints.{StandsAt, IsEndpoint, IsOfKind}
use Rattle.rs_typed.specs.Spots.{HasArmPut}
use Rattle.rs_typed.specs.Tells.{SendsAt, FullAt, GetsAt, EmptyAt}

module _ (session : Rings_data) (machine : Machine_data) (old : Stage) (of : IsEndpoint session machine old) where
  -- a stage of the same role is an endpoint of the same session
  goes_on : (new : Stage) → (sight_of_stage new).table ≡ (sight_of_stage old).table → (sight_of_stage new).role ≡ (sight_of_stage old).role → IsEndpoint session machine new
  goes_on new table role = record {
    table = table ∙ of.table;
    runs = ap (λ (r : Role). slice_get session.machines r.0) role ∙ of.runs;
  }

  module _ (at : ℕ) (stands : StandsAt machine at old) where
    -- the state of the session's machine at which it stands is that of the spot
    stands_in : state_of_stage session (sight_of_stage old) ≡ slice_get machine.states at
    stands_in = ap (λ o. state_of o (sight_of_stage old).part.state) of.runs ∙ ap (λ (s : ℕ). slice_get machine.states s) stands.state_is

    module _ (peer : Role) (place : ℕ) (arm : Arm) (puts : HasArmPut machine at peer place arm) where
      pub sends : (before : Stage_data) (value packed : Value) (new : Stage) → sight_of_stage old ≡ before → value ≡ packed → IsSent session before place value new → SendsAt session machine peer place arm packed old new
      sends before value packed new sight same told =
          let sent : IsSent session (sight_of_stage old) place packed new = subst (λ (z : Stage_data × Value). IsSent session z.0 place z.1 new) (λ i. (sym sight i, same i)) told in
          let both : Some (Puts sent.by.peer sent.by.arms) ≡ Some (Puts peer puts.0) = sym sent.by.stands ∙ stands_in ∙ puts.1 in
          let arms : sent.by.arms ≡ puts.0 = cc (both) in
          let picked : Some sent.by.arm ≡ Some arm = sym sent.by.picks ∙ ap (λ (l : List Arm). slice_get l place) arms ∙ puts.2 in
          record {
            sent = sent;
            to = cc (both);
            by = cc (picked);
            is = goes_on new (ap (λ (z : Stage_data). z.table) sent.sent.becomes) (ap (λ (z : Stage_data). z.role) sent.sent.becomes);
          }

      pub full : (before new : Stage_data) (after : Stage) (value packed back : Value) (sent taken : ℕ) → sight_of_stage old ≡ before → value ≡ packed → sight_of_stage after ≡ new
          → IsHandedBack session before place value new back sent taken → FullAt session machine peer place arm packed sent taken old after
      full before new after value packed back sent taken sight same now told =
          let kept : IsHandedBack session (sight_of_stage old) place packed (sight_of_stage after) packed sent taken =
          subst (λ (z : Stage_data × Value × Stage_data × Value). IsHandedBack session z.0 place z.1 z.2 z.3 sent taken) (λ i. (sym sight i, same i, sym now i, (told.same ∙ same) i)) told in
          let both : Some (Puts kept.by.peer kept.by.arms) ≡ Some (Puts peer puts.0) = sym kept.by.stands ∙ stands_in ∙ puts.1 in
          let arms : kept.by.arms ≡ puts.0 = cc (both) in
          let picked : Some kept.by.arm ≡ Some arm = sym kept.by.picks ∙ ap (λ (l : List Arm). slice_get l place) arms ∙ puts.2 in
          record {
            kept = kept;
            to = cc (both);
            by = cc (picked);
            is = goes_on after (ap (λ (z : Stage_data). z.table) kept.full.becomes) (ap (λ (z : Stage_data). z.role) kept.full.becomes);
          }

    module _ (peer : Role) (arms : List Arm) (takes : slice_get machine.states at ≡ Some (Takes peer arms)) where
      pub gets : (place : ℕ) (arm : Arm) (before : Stage_data) (value : Value) (new : Stage) → slice_get arms place ≡ Some arm → sight_of_stage old ≡ before → IsGot session before place value new → GetsAt session machine peer place arm value old new
      gets place arm before value new picks sight told =
          let got : IsGot session (sight_of_stage old) place value new = subst (λ (z : Stage_data). IsGot session z place value new) (sym sight) told in
          let both : Some (Takes got.by.peer got.by.arms) ≡ Some (Takes peer arms) = sym got.by.stands ∙ stands_in ∙ takes in
          let same : got.by.arms ≡ arms = cc (both) in
          let picked : Some got.by.arm ≡ Some arm = sym got.by.picks ∙ ap (λ (l : List Arm). slice_get l place) same ∙ picks in
          record {
            got = got;
            from = cc (both);
            by = cc (picked);
            is = goes_on new (ap (λ (z : Stage_data). z.table) got.got.becomes) (ap (λ (z : Stage_data). z.role) got.got.becomes);
          }

      pub empty : (before new : Stage_data) (after : Stage) (seen : ℕ) → sight_of_stage old ≡ before → sight_of_stage after ≡ new → IsKept session before new seen → EmptyAt session machine peer seen old after
      empty before new after seen sight now told =
          let kept : IsKept session (sight_of_stage old) (sight_of_stage after) seen = subst (λ (z : Stage_data × Stage_data). IsKept session z.0 z.1 seen) (λ i. (sym sight i, sym now i)) told in
          let both : Some (Takes kept.from.peer kept.from.arms) ≡ Some (Takes peer arms) = sym kept.from.stands ∙ stands_in ∙ takes in
          record {
            kept = kept;
            from = cc (both);
            is = goes_on after (ap (λ (z : Stage_data). z.table) kept.empty.becomes) (ap (λ (z : Stage_data). z.role) kept.empty.becomes);
          }

one_place : (a b : Arm) (n : ℕ) → slice_get (a ∷ []) n ≡ Some b → n ≡ 0
one_place a b zero e = refl
one_place a b (suc n) e = cc (e)

two_places : (a b c : Arm) (n : ℕ) → slice_get (a ∷ b ∷ []) n ≡ Some c → n ≢ 0 → n ≡ 1
two_places a b c zero e other = absurd (other refl)
two_places a b c (suc zero) e other = refl
two_places a b c (suc (suc n)) e other = cc (e)

module _ (session : Rings_data) (machine : Machine_data) (old : Stage) (of : IsEndpoint session machine old) (at : ℕ) (stands : StandsAt machine at old) where
  picked_from : (peer : Role) (arms : List Arm) (place : ℕ) (before : Stage_data) (value : Value) (new : Stage) → slice_get machine.states at ≡ Some (Takes peer arms) → sight_of_stage old ≡ before
      → (got : IsGot session before place value new) → slice_get arms place ≡ Some got.by.arm
  picked_from peer arms place before value new takes sight got =
      let both : Some (Takes got.by.peer got.by.arms) ≡ Some (Takes peer arms) = sym got.by.stands ∙ ap (state_of_stage session) (sym sight) ∙ stands_in session machine old of at stands ∙ takes in
      let same : arms ≡ got.by.arms = cc (both) in
      ap (λ (l : List Arm). slice_get l place) same ∙ got.by.picks

  pub gets_one : (peer : Role) (arm : Arm) → slice_get machine.states at ≡ Some (Takes peer (arm ∷ [])) → (place : ℕ) (before : Stage_data) (value : Value) (new : Stage) → sight_of_stage old ≡ before
      → IsGot session before place value new → GetsAt session machine peer 0 arm value old new
  gets_one peer arm takes place before value new sight told =
      let zeroth : place ≡ 0 = one_place arm told.by.arm place (picked_from peer (arm ∷ []) place before value new takes sight told) in
      gets session machine old of at stands peer (arm ∷ []) takes 0 arm before value new refl sight (subst (λ (n : ℕ). IsGot session before n value new) zeroth told)

  pub gets_second : (peer : Role) (first second : Arm) → slice_get machine.states at ≡ Some (Takes peer (first ∷ second ∷ [])) → (place : ℕ) (before : Stage_data) (value : Value) (new : Stage) → sight_of_stage old ≡ before → place ≢ 0
      → IsGot session before place value new → GetsAt session machine peer 1 second value old new
  gets_second peer first second takes place before value new sight other told =
      let last : place ≡ 1 = two_places first second told.by.arm place (picked_from peer (first ∷ second ∷ []) place before value new takes sight told) other in
      gets session machine old of at stands peer (first ∷ second ∷ []) takes 1 second before value new refl sight (subst (λ (n : ℕ). IsGot session before n value new) last told)

-- the state of the session's machine at which a stage stands, as a state of the machine
state_in : (session : Rings_data) (machine : Machine_data) (s : ℕ) (stage : Stage) → IsEndpoint session machine stage → (sight_of_stage stage).part.state ≡ s → state_of_stage session (sight_of_stage stage) ≡ slice_get machine.states s
state_in session machine s stage is at = ap (λ o. state_of o (sight_of_stage stage).part.state) is.runs ∙ ap (λ (n : ℕ). slice_get machine.states n) at

kind_of : (session : Rings_data) (machine : Machine_data) (s : ℕ) (stage : Stage) → IsOf session stage → IsEndpoint session machine stage → (sight_of_stage stage).part.state ≡ s → IsOfKind machine s stage
kind_of session machine s (Sending stage) of is at = (of.peer, of.arms, sym (state_in session machine s (Sending stage) is at) ∙ of.stands)
kind_of session machine s (Receiving stage) of is at = (of.peer, of.arms, sym (state_in session machine s (Receiving stage) is at) ∙ of.stands)
kind_of session machine s (Ended stage) of is at = sym (state_in session machine s (Ended stage) is at) ∙ of.stands

-- where the new stage stands
pub sends_on : (session : Rings_data) (machine : Machine_data) (peer : Role) (place s : ℕ) (arm : Arm) (value : Value) (old new : Stage) → StandsAt machine s old → SendsAt session machine peer place arm value old new → StandsAt machine arm.next new
sends_on session machine peer place s arm value old new stands told =
    let at : (sight_of_stage new).part.state ≡ arm.next = ap (λ (z : Stage_data). z.part.state) told.sent.sent.becomes ∙ ap (λ (a : Arm). a.next) told.by in
    record {
      role_is = ap (λ (z : Stage_data). z.role) told.sent.sent.becomes ∙ stands.role_is;
      state_is = at;
      kind = kind_of session machine arm.next new told.sent.of told.is at;
    }

pub gets_on : (session : Rings_data) (machine : Machine_data) (peer : Role) (place s : ℕ) (arm : Arm) (value : Value) (old new : Stage) → StandsAt machine s old → GetsAt session machine peer place arm value old new → StandsAt machine arm.next new
gets_on session machine peer place s arm value old new stands told =
    let at : (sight_of_stage new).part.state ≡ arm.next = ap (λ (z : Stage_data). z.part.state) told.got.got.becomes ∙ ap (λ (a : Arm). a.next) told.by in
    record {
      role_is = ap (λ (z : Stage_data). z.role) told.got.got.becomes ∙ stands.role_is;
      state_is = at;
      kind = kind_of session machine arm.next new told.got.of told.is at;
    }

-- an ended stage at a spot of the session's machine has ended in the session
pub ends_in : (session : Rings_data) (machine : Machine_data) (s : ℕ) (ended : Stage_data) → StandsAt machine s (Ended ended) → IsEndpoint session machine (Ended ended) → IsEnded session ended
ends_in session machine s ended stands is = record {
  table = is.table;
  stands = state_in session machine s (Ended ended) is stands.state_is ∙ stands.kind;
}
