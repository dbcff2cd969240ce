-- Copies that are sent once there is room for them.
use Rattle.std.proofs.Common.{◌≡◌, inl, inr, ℕ, ℤ, ◌<◌, ◌^◌, ◌++◌, true, false, List, [], ◌∷◌, Some, length, slice_get, refl, sym, ap, ◌∙◌, subst, arith}
use Rattle.rs_model.specs.Sorts.{HasSort}
use Rattle.rs_model.specs.declared.graph.Arm.{Arm}
use Rattle.rs_model.specs.declared.machines.State.TheVariants.{Puts}
use Rattle.rs_model.specs.declared.values.Sort.{Sort}
use Rattle.rs_model.specs.declared.values.Sort.TheVariants as sort
use Rattle.rs_model.specs.declared.values.Value.{Value}
use Rattle.rs_model.specs.declared.values.Value.TheVariants as value
use Rattle.rs_rings.specs.Acts.{parcels_sent, sent_act}
use Rattle.rs_rings.specs.Passes.{Rings_data}
use Rattle.rs_session.specs.Acts.{IsHandedBack, SendsBy, parcel_by}
use Rattle.rs_session.specs.Data.{Stage_data}
use Rattle.rs_session.specs.declared.stages.Stage.TheVariants.{Sending}
use Rattle.rs_session.specs.Stages.{state_of_stage}
use Rattle.rs_session.proofs.Telling.{room_stays}
use Rattle.rs_endpoints.specs.Endpoints.{Endpoint_data, HasArmFor, HasLooked, MaySend, PostTells}
use Rattle.rs_endpoints.specs.declared.acts.Posted.TheVariants as posted
use Rattle.rs_numbered.specs.declared.statuses.CallStatus.{CallStatus}
use Rattle.rs_numbered.specs.declared.statuses.CallStatus.TheVariants.{Fine, Full, NotNow}
use Rattle.rs_held.specs.Endpoints.{CopySendTells, HasMadeAllActs, HasSentOne, IsNoSend, SeesRoom, SendTells, numbered}
use Rattle.rs_held.specs.Sends.{HasSortAlone, NoRoomTells, SendByTells}

-- bytes, and lists of numbers, have one sort each
pub octets_alone : (bytes : List ℕ) → HasSortAlone (value.Octets bytes) sort.Octets
octets_alone bytes = (refl, only) where
  only : (s : Sort) → HasSort (value.Octets bytes) s → s ≡ sort.Octets
  only sort.Octets has = refl
  only sort.Unit has = absurd (cc (has))
  only sort.Flag has = absurd (cc (has))
  only sort.Natural has = absurd (cc (has))
  only sort.Whole has = absurd (cc (has))
  only sort.Numbers has = absurd (cc (has))

pub numbers_alone : (items : List ℤ) → HasSortAlone (value.Numbers items) sort.Numbers
numbers_alone items = (refl, only) where
  only : (s : Sort) → HasSort (value.Numbers items) s → s ≡ sort.Numbers
  only sort.Numbers has = refl
  only sort.Unit has = absurd (cc (has))
  only sort.Flag has = absurd (cc (has))
  only sort.Natural has = absurd (cc (has))
  only sort.Whole has = absurd (cc (has))
  only sort.Octets has = absurd (cc (has))

module _ (old : Endpoint_data) (place : ℕ) (of : Sort) (v : Value) (alone : HasSortAlone v of) where
  -- where a look finds the ring full, so does the send
  pub is_full : (new : Endpoint_data) → HasLooked old place of new false → PostTells old place v new (posted.Full v)
  is_full new l =
      let from = l.told.from in
      let both : Some (Puts l.by.peer l.by.arms) ≡ Some (Puts from.peer from.arms) = sym l.by.stands ∙ from.stands in
      let arms : from.arms ≡ l.by.arms = cc (both) in
      let picks : slice_get from.arms place ≡ Some l.by.arm = ap (λ (xs : List Arm). slice_get xs place) arms ∙ l.by.picks in
      let looks = l.told.looks in (
        l.stage,
        l.seen,
        length (parcels_sent from.peer.0 l.stage.part.history),
        looks.taken,
        l.stands,
        record {
          by = record { peer = from.peer; arms = from.arms; arm = l.by.arm; stands = from.stands; picks = picks; has_sort = subst (HasSort v) (sym l.by.of_sort) alone.0 };
          full = record { is_sent = refl; full = looks.none refl; not_less = looks.not_less; read = looks.read; becomes = looks.becomes };
          same = refl;
          of = l.told.of;
        },
        l.goes,
      )

  -- once room was seen, only a role that makes no more acts may not send the value
  module _ (seen : Endpoint_data) (l : HasLooked old place of seen true) where
    sends_by : SendsBy seen.session l.seen place v
    sends_by =
        let becomes = l.told.looks.becomes in
        let at : state_of_stage old.session l.seen ≡ Some (Puts l.by.peer l.by.arms) = ap (state_of_stage old.session) becomes ∙ l.by.stands in
        record { peer = l.by.peer; arms = l.by.arms; arm = l.by.arm; stands = ap (λ (s : Rings_data). state_of_stage s l.seen) l.goes.session ∙ at; picks = l.by.picks; has_sort = subst (HasSort v) (sym l.by.of_sort) alone.0 }

    pub no_more : (MaySend seen place v → ⊥) → HasMadeAllActs seen
    no_more never =
        let many : (length l.seen.part.history < 2 ^ 63 → ⊥) = λ few. never record { stage = l.seen; stands = l.goes.stands; by = sends_by; acts = few } in
        (l.seen, l.goes.stands, omega (arith, many))

    -- and the ring isn't full
    pub not_full : (new : Endpoint_data) (back : Value) → PostTells seen place v new (posted.Full back) → ⊥
    not_full new back (stage, same, sent, taken, stands, handed, goes) =
        let both : Some (Sending l.seen) ≡ Some (Sending stage) = sym l.goes.stands ∙ stands in
        let is : stage ≡ l.seen = cc (both) in
        let handed' : IsHandedBack old.session l.seen place v same back sent taken
        = subst (λ (z : Rings_data × Stage_data). IsHandedBack z.0 z.1 place v same back sent taken) (λ i. (l.goes.session i, is i)) handed in
        room_stays old.session l.stage l.seen same place sent taken v back l.told handed'

  module _ (label : ℕ) (new : Endpoint_data) where
    -- a copy that is sent once room was seen
    pub seen_copy : (seen : Endpoint_data) (status : CallStatus) → HasArmFor old place (numbered label) → HasLooked old place of seen true → SendByTells seen place v new status → CopySendTells old label v new status
    seen_copy seen Fine has l told = (place, seen, (of, alone.0, has, l), told)
    seen_copy seen Full has l told = absurd (not_full seen l new told.0 told.1)
    seen_copy seen NotNow has l told =
        inr (subst (λ (e : Endpoint_data). (p : ℕ) × SeesRoom old label p v e × HasMadeAllActs e) (sym told.0) (place, (of, alone.0, has, l), no_more seen l told.1))
    seen_copy seen _ has l told = absurd told

    -- no copy is made where there is no room
    pub no_copy : (status : CallStatus) → NoRoomTells old label of new status → CopySendTells old label v new status
    no_copy Full told = told v alone
    no_copy NotNow told = inl (told v alone)
    no_copy _ told = absurd told

-- a copy that isn't sent now may not be sent
pub may_not : (old new : Endpoint_data) (label : ℕ) (v : Value) → CopySendTells old label v new NotNow → IsNoSend old label v
may_not old new label v (inl told) = told.1
may_not old new label v (inr (place, (of, is, has, l), (stage, stands, many))) =
    inr (
      place,
      has,
      λ m.
          let here : Some (Sending l.seen) ≡ Some (Sending stage) = sym l.goes.stands ∙ stands in
          let seen : l.seen ≡ stage = cc (here) in
          let there : Some (Sending l.stage) ≡ Some (Sending m.stage) = sym l.stands ∙ m.stands in
          let stood : m.stage ≡ l.stage = cc (there) in
          let same : length stage.part.history ≡ length l.stage.part.history = ap (λ (s : Stage_data). length s.part.history) (sym seen ∙ l.told.looks.becomes) in
          let few : length l.stage.part.history < 2 ^ 63 = subst (λ (s : Stage_data). length s.part.history < 2 ^ 63) stood m.acts in
          omega (arith, many, same, few),
    )

-- a send is one act
sent_one : (old new : Endpoint_data) (place : ℕ) (v : Value) → PostTells old place v new posted.Went → HasSentOne old place v new
sent_one old new place v (stage, next, stands, sent, goes) = record {
  stage = stage;
  next = next;
  stood = stands;
  by = sent.by;
  goes = goes;
  history = ap (λ (s : Stage_data). s.part.history) sent.sent.becomes;
  state = ap (λ (s : Stage_data). s.part.state) sent.sent.becomes;
}

-- and so is one of a role that has seen room
sent_seen : (old seen new : Endpoint_data) (place : ℕ) (of : Sort) (v : Value) → HasLooked old place of seen true → PostTells seen place v new posted.Went → HasSentOne old place v new
sent_seen old seen new place of v l (stage, next, stands, sent, goes) =
    let here : Some (Sending stage) ≡ Some (Sending l.seen) = sym stands ∙ l.goes.stands in
    let is : stage ≡ l.seen = cc (here) in
    let at : state_of_stage old.session l.stage ≡ state_of_stage seen.session stage
    = ap (state_of_stage old.session) (sym (is ∙ l.told.looks.becomes)) ∙ ap (λ (s : Rings_data). state_of_stage s stage) (sym l.goes.session) in
    record {
      stage = l.stage;
      next = next;
      stood = l.stands;
      by = record { peer = sent.by.peer; arms = sent.by.arms; arm = sent.by.arm; stands = at ∙ sent.by.stands; picks = sent.by.picks; has_sort = sent.by.has_sort };
      goes = record { session = goes.session ∙ l.goes.session; stands = goes.stands };
      history = ap (λ (s : Stage_data). s.part.history) sent.sent.becomes
          ∙ ap (λ (s : Stage_data). s.part.history ++ sent_act sent.by.peer.0 (parcel_by sent.by.arm v) ∷ []) (is ∙ l.told.looks.becomes);
      state = ap (λ (s : Stage_data). s.part.state) sent.sent.becomes;
    }

pub sends_one : (old new : Endpoint_data) (label : ℕ) (v : Value) → SendTells old label v new Fine → (place : ℕ) × HasArmFor old place (numbered label) × HasSentOne old place v new
sends_one old new label v (place, has, told) = (place, has, sent_one old new place v told)

pub copies_one : (old new : Endpoint_data) (label : ℕ) (v : Value) → CopySendTells old label v new Fine → (place : ℕ) × HasArmFor old place (numbered label) × HasSentOne old place v new
copies_one old new label v (place, seen, (of, alone, has, l), told) = (place, has, sent_seen old seen new place of v l told)
