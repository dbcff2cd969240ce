-- What the turns of a task tell.
use Rattle.std.proofs.Common.{◌≡◌, ◌≢◌, ◌⊎◌, inl, ℕ, ◌+◌, ◌<◌, ◌≤◌, false, List, [], ◌∷◌, ◌++◌, length, Option, Some, None, IfSome, slice_get, get_or, Vec, vec_capacity, refl, sym, ap, ◌∙◌, subst}
use Rattle.std.proofs.Common.{arith, length-append}
use Rattle.std.specs.Global.{Global}
use Rattle.std.proofs.lemmas.Option.{get_or_from_slice_get, slice_get_within}
use Rattle.rs_model.specs.Sorts.{HasSort}
use Rattle.rs_model.specs.declared.graph.Arm.{Arm}
use Rattle.rs_model.specs.declared.graph.Role.{Role}
use Rattle.rs_model.specs.declared.machines.State.TheVariants.{Puts, Takes}
use Rattle.rs_model.specs.declared.values.Value.{Value}
use Rattle.rs_core.specs.Actors.{Behaviour, Choice, ChoosesWell}
use Rattle.rs_core.specs.Histories.{Action, Sent, Got, History, entry_of, transcript_of}
use Rattle.rs_core.specs.Plain.{offer_of}
use Rattle.rs_core.specs.declared.transcripts.Entry.{Entry}
use Rattle.rs_core.specs.declared.transcripts.Entry.TheVariants as entry
use Rattle.rs_rings.specs.Passes.{Rings_data}
use Rattle.rs_session.specs.Acts.{SendsBy, IsSent, IsHandedBack, IsGot, IsKept}
use Rattle.rs_session.specs.Data.{Stage_data}
use Rattle.rs_session.specs.Stages.{sight_of_stage, state_of_stage}
use Rattle.rs_session.specs.declared.stages.Stage.{Stage}
use Rattle.rs_session.specs.declared.stages.Stage.TheVariants.{Sending, Receiving}
use Rattle.rs_session.proofs.HandedIn.{map_last}
use Rattle.rs_exec.specs.TurnTakers.{IsInTime, task_with}
use Rattle.rs_exec.specs.Tasks.{TaskGoesOn, TaskSends, Gets, TaskReceives, WaitsToSend, WaitsToReceive}
use Rattle.rs_exec.specs.declared.tasks.TurnTaker.{TurnTaker}

-- what the actor offers, or what was kept, may be sent
pub may_send : {A : Type 0} (b : Behaviour A) → ChoosesWell b
    → (session : Rings_data) (at : Stage_data) (x : A) (kept : Option Choice) (peer : Role) (arms : List Arm) (place : ℕ) (value : Value) (y : A)
    → state_of_stage session at ≡ Some (Puts peer arms) → arms ≢ [] → IfSome kept (λ c. SendsBy session at c.0 c.1) → offer_of b x kept arms ≡ ((place, value), y) → SendsBy session at place value
may_send b well session at x None peer arms place value y stands some' keeps is =
    let e : b.chooses x arms ≡ (place, value) = ap (λ (z : Choice × _). z.0) is in
    let w = well x arms some' in
    record { peer = peer; arms = arms; arm = w.0; stands = stands; picks = ap (λ (z : Choice). slice_get arms z.0) (sym e) ∙ w.1; has_sort = subst (λ (z : Choice). HasSort z.1 w.0.sort) e w.2 }
may_send b well session at x (Some k) peer arms place value y stands some' keeps is =
    let e : k ≡ (place, value) = ap (λ (z : Choice × _). z.0) is in subst (λ (z : Choice). SendsBy session at z.0 z.1) e keeps

-- the peer and the arms are those of the state
pub record SamePuts (peer other : Role) (arms others : List Arm) : Type 0 where
  pub peers : peer ≡ other
  pub arms' : arms ≡ others

same_puts : (session : Rings_data) (at : Stage_data) (peer other : Role) (arms others : List Arm) → state_of_stage session at ≡ Some (Puts peer arms)
    → state_of_stage session at ≡ Some (Puts other others) → SamePuts peer other arms others
same_puts session at peer other arms others a b = let both : Some (Puts peer arms) ≡ Some (Puts other others) = sym a ∙ b in record { peers = cc (both); arms' = cc (both) }

same_takes : (session : Rings_data) (at : Stage_data) (peer other : Role) (arms others : List Arm) → state_of_stage session at ≡ Some (Takes peer arms)
    → state_of_stage session at ≡ Some (Takes other others) → SamePuts peer other arms others
same_takes session at peer other arms others a b = let both : Some (Takes peer arms) ≡ Some (Takes other others) = sym a ∙ b in record { peers = cc (both); arms' = cc (both) }

pub arm_below : (session : Rings_data) (at : Stage_data) (peer : Role) (arms : List Arm) (place : ℕ) (value : Value) → state_of_stage session at ≡ Some (Puts peer arms)
    → SendsBy session at place value → place < length arms
arm_below session at peer arms place value stands by =
    let same = same_puts session at peer by.peer arms by.arms stands by.stands in
    slice_get_within arms place by.arm (ap (λ (l : List Arm). slice_get l place) same.arms' ∙ by.picks)

-- the arm at that place, at hand
pub arm_at_hand : (session : Rings_data) (at : Stage_data) (peer : Role) (arms : List Arm) (place : ℕ) (value : Value) (d : Arm) → state_of_stage session at ≡ Some (Puts peer arms)
    → SendsBy session at place value → (by : SendsBy session at place value) × (by.peer ≡ peer) × (by.arm ≡ get_or arms place d)
arm_at_hand session at peer arms place value d stands by =
    let same = same_puts session at peer by.peer arms by.arms stands by.stands in
    let picks : slice_get arms place ≡ Some by.arm = ap (λ (l : List Arm). slice_get l place) same.arms' ∙ by.picks in
    (by, sym same.peers, sym (get_or_from_slice_get arms place by.arm d picks))

-- one entry more
entries_more : (h h' : History) (a : Action) (items items' : List Entry) (e : Entry) → items ≡ transcript_of h → h' ≡ h ++ a ∷ [] → items' ≡ items ++ e ∷ [] → e ≡ entry_of a
    → items' ≡ transcript_of h'
entries_more h h' a items items' e is more grown one = grown ∙ (λ i. is i ++ one i ∷ []) ∙ sym (map_last entry_of h a) ∙ ap transcript_of (sym more)

in_time_more : {A : Type 0} (stage next : Stage) (old new : TurnTaker A) (a : Action) (e : Entry) → IsInTime stage old → length old.entries.items < old.limit
    → (sight_of_stage next).part.history ≡ (sight_of_stage stage).part.history ++ a ∷ [] → new.entries.items ≡ old.entries.items ++ e ∷ [] → e ≡ entry_of a
    → vec_capacity old.entries ≤ vec_capacity new.entries → new.limit ≡ old.limit → IsInTime next new
in_time_more stage next old new a e so below more grown one room limit =
    let many : length new.entries.items ≡ length old.entries.items + 1 = ap length grown ∙ length-append old.entries.items (e ∷ []) in
    record {
      transcript = entries_more (sight_of_stage stage).part.history (sight_of_stage next).part.history a old.entries.items new.entries.items e so.transcript more grown one;
      short = omega (arith, many, limit, below);
      room = omega (arith, so.room, room, limit);
    }

-- a send that went
pub record HasMoved {A : Type 0} (session : Rings_data) (b : Behaviour A) (stage next : Stage) (old new : TurnTaker A) : Type 0 where
  pub in_time : IsInTime next new
  pub goes : TaskGoesOn (task_with stage old) (task_with next new)
  pub acts : TaskSends session b (task_with stage old) (task_with next new) ⊎ TaskReceives session b (task_with stage old) (task_with next new)

pub sent_on : {A : Type 0} (session : Rings_data) (b : Behaviour A) (at : Stage_data) (next : Stage) (old new : TurnTaker A) (peer : Role) (arms : List Arm) (place : ℕ) (value : Value) (d : Arm)
    → state_of_stage session at ≡ Some (Puts peer arms)
    → IsInTime (Sending at) old → length old.entries.items < old.limit → old.failed ≡ false → IsSent session at place value next → offer_of b old.actor old.kept arms ≡ ((place, value), new.actor)
    → new.kept ≡ None
    → new.entries.items ≡ old.entries.items ++ entry.Sent peer (get_or arms place d).label ∷ [] → vec_capacity old.entries ≤ vec_capacity new.entries → new.limit ≡ old.limit → new.failed ≡ old.failed
    → HasMoved session b (Sending at) next old new
sent_on session b at next old new peer arms place value d stands so below well sent offers kept grown room limit failed =
    let by = sent.by in
    let same = same_puts session at peer by.peer arms by.arms stands by.stands in
    let arm : get_or arms place d ≡ by.arm = get_or_from_slice_get arms place by.arm d (ap (λ (l : List Arm). slice_get l place) same.arms' ∙ by.picks) in
    let told : entry.Sent peer (get_or arms place d).label ≡ entry.Sent by.peer by.arm.label = λ i. entry.Sent (same.peers i) (arm i).label in
    let more : (sight_of_stage next).part.history ≡ at.part.history ++ Sent by.peer by.arm.label value ∷ [] = ap (λ (z : Stage_data). z.part.history) sent.sent.becomes in
    record {
      in_time = in_time_more (Sending at) next old new (Sent by.peer by.arm.label value) (entry.Sent peer (get_or arms place d).label) so below more grown told room limit;
      goes = record { below = below; limit = limit; was = well; unfailed = failed ∙ well };
      acts = inl (record {
        at = at;
        choice = (place, value);
        stands = refl;
        sent = sent;
        offers = ap (λ (l : List Arm). offer_of b old.actor old.kept l) (sym same.arms') ∙ offers;
        kept = kept;
        transcript = grown ∙ ap (λ (e : Entry). old.entries.items ++ e ∷ []) told;
      });
    }

-- a send that went, by way of what the player was after its offer
pub sent_by : {A : Type 0} (session : Rings_data) (b : Behaviour A) (at : Stage_data) (next : Stage) (old mid new : TurnTaker A) (peer : Role) (arms : List Arm) (place : ℕ) (value : Value) (d : Arm)
    → state_of_stage session at ≡ Some (Puts peer arms)
    → IsInTime (Sending at) old → length old.entries.items < old.limit → old.failed ≡ false → IsSent session at place value next → offer_of b old.actor old.kept arms ≡ ((place, value), mid.actor)
    → mid.kept ≡ None
    → (mid.entries ≡ old.entries) × (mid.limit ≡ old.limit) × (mid.failed ≡ old.failed) → (new.actor ≡ mid.actor) × (new.limit ≡ mid.limit) × (new.kept ≡ mid.kept) × (new.failed ≡ mid.failed)
    → new.entries.items ≡ mid.entries.items ++ entry.Sent peer (get_or arms place d).label ∷ [] → vec_capacity mid.entries ≤ vec_capacity new.entries → HasMoved session b (Sending at) next old new
sent_by session b at next old mid new peer arms place value d stands so below well sent offers kept m n grown room =
    let e : Entry = entry.Sent peer (get_or arms place d).label in
    sent_on session b at next old new peer arms place value d stands so below well sent (offers ∙ (λ i. ((place, value), sym n.0 i))) (n.2 ∙ kept)
    (grown ∙ (λ i. (m.0 i).items ++ e ∷ [])) (subst (λ (v : Vec Entry Global). vec_capacity v ≤ vec_capacity new.entries) m.0 room) (n.1 ∙ m.1) (n.3 ∙ m.2)

-- a full ring
pub record Rests {A : Type 0} (session : Rings_data) (b : Behaviour A) (peer : Role) (sent taken : ℕ) (stage next : Stage) (old new : TurnTaker A) : Type 0 where
  pub goes : TaskGoesOn (task_with stage old) (task_with next new)
  pub waits : WaitsToSend session b peer sent taken (task_with stage old) (task_with next new)

pub full_on : {A : Type 0} (session : Rings_data) (b : Behaviour A) (at back : Stage_data) (old new : TurnTaker A) (peer : Role) (arms : List Arm) (place : ℕ) (value again : Value) (sent taken : ℕ)
    → state_of_stage session at ≡ Some (Puts peer arms)
    → length old.entries.items < old.limit → old.failed ≡ false → IsHandedBack session at place value back again sent taken → offer_of b old.actor old.kept arms ≡ ((place, value), new.actor)
    → new.kept ≡ Some (place, again)
    → new.entries.items ≡ old.entries.items → new.limit ≡ old.limit → new.failed ≡ old.failed → Rests session b peer sent taken (Sending at) (Sending back) old new
full_on session b at back old new peer arms place value again sent taken stands below well full offers kept entries limit failed =
    let full' : IsHandedBack session at place value back value sent taken = record { by = full.by; full = full.full; same = refl; of = full.of } in
    let same = same_puts session at peer full.by.peer arms full.by.arms stands full.by.stands in
    record {
      goes = record { below = below; limit = limit; was = well; unfailed = failed ∙ well };
      waits = record {
        at = at;
        back = back;
        choice = (place, value);
        stands = refl;
        stays = refl;
        full = full';
        is_peer = same.peers;
        offers = ap (λ (l : List Arm). offer_of b old.actor old.kept l) (sym same.arms') ∙ offers;
        kept = kept ∙ (λ i. Some (place, full.same i));
        transcript = entries;
      };
    }

-- a receive that got a value
pub record HasGotOne {A : Type 0} (session : Rings_data) (arms : List Arm) (place : ℕ) (value : Value) (stage next : Stage) (old new : TurnTaker A) : Type 0 where
  pub in_time : IsInTime next new
  pub gets : Gets session (task_with stage old) (task_with next new)
  pub is_place : gets.place ≡ place
  pub is_value : gets.value ≡ value
  pub is_arms : gets.got.by.arms ≡ arms

pub got_on : {A : Type 0} (session : Rings_data) (at : Stage_data) (next : Stage) (old new : TurnTaker A) (peer : Role) (arms : List Arm) (place : ℕ) (value : Value) (d : Arm)
    → state_of_stage session at ≡ Some (Takes peer arms)
    → IsInTime (Receiving at) old → length old.entries.items < old.limit → IsGot session at place value next → new.kept ≡ old.kept
    → new.entries.items ≡ old.entries.items ++ entry.Got peer (get_or arms place d).label value ∷ [] → vec_capacity old.entries ≤ vec_capacity new.entries → new.limit ≡ old.limit
    → HasGotOne session arms place value (Receiving at) next old new
got_on session at next old new peer arms place value d stands so below got kept grown room limit =
    let by = got.by in
    let same = same_takes session at peer by.peer arms by.arms stands by.stands in
    let arm : get_or arms place d ≡ by.arm = get_or_from_slice_get arms place by.arm d (ap (λ (l : List Arm). slice_get l place) same.arms' ∙ by.picks) in
    let told : entry.Got peer (get_or arms place d).label value ≡ entry.Got by.peer by.arm.label value = λ i. entry.Got (same.peers i) (arm i).label value in
    let more : (sight_of_stage next).part.history ≡ at.part.history ++ Got by.peer by.arm.label value ∷ [] = ap (λ (z : Stage_data). z.part.history) got.got.becomes in
    record {
      in_time = in_time_more (Receiving at) next old new (Got by.peer by.arm.label value) (entry.Got peer (get_or arms place d).label value) so below more grown told room limit;
      gets = record { at = at; place = place; value = value; stands = refl; got = got; kept = kept; transcript = grown ∙ ap (λ (e : Entry). old.entries.items ++ e ∷ []) told };
      is_place = refl;
      is_value = refl;
      is_arms = sym same.arms';
    }

-- a receive that got a value, of which the actor is told
pub told_on : {A : Type 0} (session : Rings_data) (b : Behaviour A) (next stage : Stage) (old new : TurnTaker A) (arms : List Arm) (place : ℕ) (value : Value)
    → HasGotOne session arms place value stage next old new
    → new.actor ≡ b.told old.actor arms place value → TaskReceives session b (task_with stage old) (task_with next new)
told_on session b next stage old new arms place value one becomes = record { gets = one.gets; told = (λ i. b.told old.actor (one.is_arms i) (one.is_place i) (one.is_value i)) ∙ sym becomes }

pub empty_on : {A : Type 0} (session : Rings_data) (at back : Stage_data) (player : TurnTaker A) (peer : Role) (arms : List Arm) (seen : ℕ) → state_of_stage session at ≡ Some (Takes peer arms)
    → IsKept session at back seen → WaitsToReceive session peer seen (task_with (Receiving at) player) (task_with (Receiving back) player)
empty_on session at back player peer arms seen stands empty = record {
  at = at;
  back = back;
  stands = refl;
  stays = refl;
  empty = empty;
  is_peer = (same_takes session at peer empty.from.peer arms empty.from.arms stands empty.from.stands).peers;
  actor = refl;
  kept = refl;
  transcript = refl;
}
