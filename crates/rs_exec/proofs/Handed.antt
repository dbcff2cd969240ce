-- What a send and a receive of a hand are for rounds.
use Rattle.std.proofs.Common.{◌≡◌, ◌≢◌, inl, inr, ℕ, ◌+◌, ◌<◌, ◌≤◌, List, [], ◌∷◌, ◌++◌, length, Some, None, IsSome, slice_get, refl, sym, ap, ◌∙◌, subst}
use Rattle.std.proofs.Common.{arith}
use Rattle.std.proofs.lemmas.Bool.Decides.{eqb_tells}
use Rattle.rs_model.specs.declared.limits.TheConstants.{MOST_ROLES}
use Rattle.rs_model.specs.Data.{Machine_data}
use Rattle.rs_model.specs.Sorts.{HasSort}
use Rattle.rs_model.specs.declared.graph.Arm.{Arm}
use Rattle.rs_model.specs.declared.graph.Role.{Role}
use Rattle.rs_model.specs.declared.machines.State.TheVariants.{Puts, Takes}
use Rattle.rs_model.specs.declared.values.Value.{Value}
use Rattle.rs_core.specs.Choices.{AreWellFormed}
use Rattle.rs_core.specs.Configurations.{state_at, state_of}
use Rattle.rs_core.specs.Core.{configuration_of}
use Rattle.rs_core.specs.Choosable.{CanChoose, CanChooseBy, label_of}
use Rattle.rs_core.proofs.Ends.{get_there}
use Rattle.rs_safety.specs.Accepting.{Accepted_data, IsAcceptedSession}
use Rattle.rs_rings.proofs.Seats.{first_part_is, first_speaks}
use Rattle.rs_core.specs.Histories.{Action, entry_of, transcript_of}
use Rattle.rs_core.specs.Queues.{FindsItFull, FetchTells, IsLongerBy, IsPosted, StayNoted}
use Rattle.rs_core.specs.declared.transcripts.Entry.{Entry}
use Rattle.rs_core.specs.declared.transcripts.Entry.TheVariants as entry
use Rattle.rs_core.proofs.Stands.{here_is}
use Rattle.rs_slots.specs.declared.parcels.Parcel.{Parcel}
use Rattle.rs_rings.specs.Acts.{MayPut, message_of, role_of_number, sent_act, got_act, parcels_sent, parcels_got}
use Rattle.rs_rings.specs.Passes.{IsChanged, IsPut, ParcelIsTaken, IsEmpty, Pass_data, Rings_data}
use Rattle.rs_rings.specs.Passes as passes
use Rattle.rs_rings.specs.Views.{SpeaksFor, history_in, part_of, start_of, starting, state_in, part_with_room, part_with_parcel}
use Rattle.rs_rings.specs.declared.views.Part.{Part}
use Rattle.rs_rings.specs.declared.views.View.{View}
use Rattle.rs_rings.proofs.Arms.{put_once}
use Rattle.rs_session.proofs.Beginning.{state_there}
use Rattle.rs_session.proofs.HandedIn.{map_last}
use Rattle.rs_exec.specs.Hands.{Hand_data, IsHeld, IsSomewhere, core_of, notes_of}
use Rattle.rs_exec.proofs.Together.{state_is, looked, sends_in, receives_in, under_way, none_under_way}

module _ (session : Rings_data) where
  abbrev ms : List Machine_data
  ms = session.machines

  -- where role r stands at the state s now
  pub held_on : (old new : Pass_data) (count r s : ℕ) (y : Part) → IsHeld session old count → new.table ≡ old.table → IsChanged r y old.view new.view → y.state ≡ s
      → IsSome (state_of (slice_get ms r) s)
      → IsHeld session new count
  held_on old new count r s y h table c goes there =
      let at : state_in new.view r ≡ s = ap (λ (z : Part). z.state) c.part ∙ goes in
      record {
        table = table ∙ h.table;
        speaks = λ q lower. c.spoken q ∙ h.speaks q lower;
        well_formed = h.well_formed;
        some = h.some;
        roles = h.roles;
        many = h.many;
        somewhere = λ q lower. elim (eqb_tells q r) [
          | inl t ↦ subst (λ (z : ℕ). IsSomewhere ms new.view z) (sym t.1) (subst (λ (n : ℕ). IsSome (state_of (slice_get ms r) n)) (sym at) there)
          | inr t ↦ subst (λ (z : Part). IsSome (state_of (slice_get ms q) z.state)) (sym (c.others q t.1)) (h.somewhere q lower)
        ];
      }

  -- where role r has done one act more
  noted_on : (v w : View) (r : ℕ) (y : Part) (a : Action) → IsChanged r y v w → y.history ≡ history_in v r ++ a ∷ [] → IsLongerBy r (entry_of a) (notes_of v) (notes_of w)
  noted_on v w r y a c more = record {
    adds = λ t is. ap (λ (l : List Entry). l ++ entry_of a ∷ []) is ∙ sym (map_last entry_of (history_in v r) a) ∙ ap transcript_of (sym (ap (λ (z : Part). z.history) c.part ∙ more));
    others = λ q t ne is. is ∙ ap (λ (z : Part). transcript_of z.history) (sym (c.others q ne));
  }

  -- where nobody has done an act
  noted_still : (v w : View) (r : ℕ) (y : Part) → IsChanged r y v w → y.history ≡ history_in v r → StayNoted (notes_of v) (notes_of w)
  noted_still v w r y c same q t is = is ∙ ap transcript_of (sym (elim (eqb_tells q r) [
    | inl e ↦ subst (λ (z : ℕ). history_in w z ≡ history_in v z) (sym e.1) (ap (λ (z : Part). z.history) c.part ∙ same)
    | inr e ↦ ap (λ (z : Part). z.history) (c.others q e.1)
  ]))

  -- what a send tells
  pub record SentBy (r : ℕ) (v w : View) (peer : Role) (place : ℕ) (value : Value) (arm : Arm) : Type 0 where
    pub posted : IsPosted (Some session.capacity) (core_of ms v) r peer (place, value) (core_of ms w)
    pub noted : IsLongerBy r (entry.Sent peer arm.label) (notes_of v) (notes_of w)
    pub goes : state_in w r ≡ arm.next
    pub present : IsSome (state_of (slice_get ms r) arm.next)

  pub sent_by : (r : ℕ) (v w : View) (peer : Role) (arms : List Arm) (place : ℕ) (value : Value) (arm : Arm) → AreWellFormed ms → ((y : ℕ) → y < length ms → SpeaksFor v y) → r < length ms
      → state_of (slice_get ms r) (state_in v r) ≡ Some (Puts peer arms) → slice_get arms place ≡ Some arm → HasSort value arm.sort
      → IsPut ms session.capacity r peer.0 (record { label = arm.label; value = value }) v w → SentBy r v w peer place value arm
  sent_by r v w peer arms place value arm wf speaks there stands picks has put =
      let s : ℕ = state_in v r in
      let x : Parcel = record { label = arm.label; value = value } in
      let at = here_is (slice_get ms r) s (Puts peer arms) stands in
      let fit = (wf.fits r at.0 at.1).puts s peer arms at.2 in
      let apart : r ≢ peer.0 = λ e. fit.other (ap role_of_number (sym e ∙ sym (wf.role r at.0 at.1))) in
      let may : MayPut ms r peer.0 s x arm.next = record { arms = arms; place = place; arm = arm; puts = stands; picks = picks; same_label = refl; has_sort = has; goes = refl } in
      let goes : state_in w r ≡ arm.next = ap (λ (z : Part). z.state) put.changed.part ∙ put_once ms r peer.0 s x put.next arm.next wf put.may may in
      let got : put.taken ≡ length (parcels_got r (history_in v peer.0)) = put.knows (speaks peer.0 fit.known) in
      let n : ℕ = length (parcels_got r (history_in v peer.0)) in
      let sent : ℕ = length (parcels_sent peer.0 (history_in v r)) in
      let le : n ≤ sent = subst (λ (k : ℕ). k ≤ sent) got put.not_more in
      let below : sent < n + session.capacity = subst (λ (k : ℕ). sent < k + session.capacity) got put.below in
      let many = under_way ms v w r peer.0 there fit.known apart in
      record {
        posted = record {
          step = sends_in ms v w r peer.0 there fit.known apart place value arms arm stands picks has goes
              (record { history = ap (λ (z : Part). z.history) put.changed.part; others = put.changed.others }) le;
          room = subst (λ (k : ℕ). k < session.capacity) (sym many) (omega (arith, le, below));
          machines = refl;
        };
        noted = noted_on v w r (part_of w r) (sent_act peer.0 x) (record { part = refl; spoken = put.changed.spoken; others = put.changed.others }) (ap (λ (z : Part). z.history) put.changed.part);
        goes = goes;
        present = state_there ms r arm.next at.0 at.1 (fit.nexts place arm picks);
      }

  -- what a send into a full ring tells
  pub record FullBy (r : ℕ) (v w : View) (peer : Role) : Type 0 where
    pub found : FindsItFull (Some session.capacity) (core_of ms v) r peer (core_of ms w)
    pub noted : StayNoted (notes_of v) (notes_of w)

  pub full_by : (r : ℕ) (v w : View) (peer : Role) (arms : List Arm) (sent taken : ℕ) (x back : Parcel) → AreWellFormed ms → ((y : ℕ) → y < length ms → SpeaksFor v y) → r < length ms
      → state_of (slice_get ms r) (state_in v r) ≡ Some (Puts peer arms) → passes.RingIsFull ms session.capacity r peer.0 x sent taken back v w → FullBy r v w peer
  full_by r v w peer arms sent taken x back wf speaks there stands full =
      let s : ℕ = state_in v r in
      let at = here_is (slice_get ms r) s (Puts peer arms) stands in
      let fit = (wf.fits r at.0 at.1).puts s peer arms at.2 in
      let apart : r ≢ peer.0 = λ e. fit.other (ap role_of_number (sym e ∙ sym (wf.role r at.0 at.1))) in
      let n : ℕ = length (parcels_got r (history_in v peer.0)) in
      let got : taken ≡ n = full.knows (speaks peer.0 fit.known) in
      let all : ℕ = length (parcels_sent peer.0 (history_in v r)) in
      let is : all ≡ n + session.capacity = sym full.is_sent ∙ full.full ∙ ap (λ (k : ℕ). k + session.capacity) got in
      let many = under_way ms v w r peer.0 there fit.known apart in
      record {
        found = record { full = subst (λ (k : ℕ). session.capacity ≤ k) (sym many) (omega (arith, is)); same = looked ms v w r (part_with_room peer.0 taken (part_of v r)) full.changed refl refl };
        noted = noted_still v w r (part_with_room peer.0 taken (part_of v r)) full.changed refl;
      }

  -- what a receive tells
  pub record GotBy (r : ℕ) (v w : View) (peer : Role) (x : Parcel) (arms : List Arm) (by : ℕ) : Type 0 where
    pub place : ℕ
    pub arm : Arm
    pub picks : slice_get arms place ≡ Some arm
    pub same_label : arm.label ≡ x.label
    pub told : FetchTells (core_of ms v) r peer (core_of ms w) (Some (record { arm = by; message = message_of x }))
    pub noted : IsLongerBy r (entry.Got peer x.label x.value) (notes_of v) (notes_of w)
    pub goes : state_in w r ≡ arm.next
    pub present : IsSome (state_of (slice_get ms r) arm.next)

  pub got_by : (r : ℕ) (v w : View) (peer : Role) (arms : List Arm) (place : ℕ) (x : Parcel) → AreWellFormed ms → ((y : ℕ) → y < length ms → SpeaksFor v y) → r < length ms
      → state_of (slice_get ms r) (state_in v r) ≡ Some (Takes peer arms)
      → ParcelIsTaken ms session.capacity r peer.0 x v w × (label_of (slice_get arms place) ≡ Some x.label) → GotBy r v w peer x arms place
  got_by r v w peer arms place x wf speaks there stands (take, by) =
      let s : ℕ = state_in v r in
      let at = here_is (slice_get ms r) s (Takes peer arms) stands in
      let fit = (wf.fits r at.0 at.1).takes s peer arms at.2 in
      let apart : r ≢ peer.0 = λ e. fit.other (ap role_of_number (sym e ∙ sym (wf.role r at.0 at.1))) in
      let both : Some (Takes peer take.may.arms) ≡ Some (Takes peer arms) = sym take.may.takes ∙ stands in
      let all : take.may.arms ≡ arms = cc (both) in
      let picks : slice_get arms take.may.place ≡ Some take.may.arm = ap (λ (l : List Arm). slice_get l take.may.place) (sym all) ∙ take.may.picks in
      let goes : state_in w r ≡ take.may.arm.next = ap (λ (z : Part). z.state) take.changed.part ∙ take.may.goes in
      record {
        place = take.may.place;
        arm = take.may.arm;
        picks = picks;
        same_label = take.may.same_label;
        told = (
          (
            receives_in ms v w peer.0 r fit.known there (λ e. apart (sym e)) take.may.place x arms take.may.arm stands picks take.may.same_label take.may.has_sort goes
                (record { history = ap (λ (z : Part). z.history) take.changed.part; others = take.changed.others }) (take.oldest (speaks peer.0 fit.known)),
            refl,
          ),
          refl,
          λ other others takes. (let one : Some (Takes peer arms) ≡ Some (Takes other others) = sym stands ∙ sym (state_is ms v r there) ∙ takes in
              let same : arms ≡ others = cc (one) in
              subst (λ (l : List Arm). label_of (slice_get l place) ≡ Some x.label) same by),
        );
        noted = noted_on v w r (part_of w r) (got_act peer.0 x) (record { part = refl; spoken = take.changed.spoken; others = take.changed.others }) (ap (λ (z : Part). z.history) take.changed.part);
        goes = goes;
        present = state_there ms r take.may.arm.next at.0 at.1 (fit.nexts take.may.place take.may.arm picks);
      }

  -- what a receive from an empty ring tells
  pub record NoneBy (r : ℕ) (v w : View) (peer : Role) : Type 0 where
    pub told : FetchTells (core_of ms v) r peer (core_of ms w) None
    pub noted : StayNoted (notes_of v) (notes_of w)

  pub none_by : (r : ℕ) (v w : View) (peer : Role) (arms : List Arm) (seen : ℕ) → AreWellFormed ms → ((y : ℕ) → y < length ms → SpeaksFor v y) → r < length ms
      → state_of (slice_get ms r) (state_in v r) ≡ Some (Takes peer arms)
      → IsEmpty ms r peer.0 seen v w → NoneBy r v w peer
  none_by r v w peer arms seen wf speaks there stands empty =
      let s : ℕ = state_in v r in
      let at = here_is (slice_get ms r) s (Takes peer arms) stands in
      let fit = (wf.fits r at.0 at.1).takes s peer arms at.2 in
      let apart : r ≢ peer.0 = λ e. fit.other (ap role_of_number (sym e ∙ sym (wf.role r at.0 at.1))) in
      let level : length (parcels_got peer.0 (history_in v r)) ≡ length (parcels_sent r (history_in v peer.0)) = sym empty.is_got ∙ empty.knows (speaks peer.0 fit.known) in
      record {
        told = (none_under_way ms v w peer.0 r fit.known there (λ e. apart (sym e)) level, looked ms v w r (part_with_parcel peer.0 seen (part_of v r)) empty.changed refl refl);
        noted = noted_still v w r (part_with_parcel peer.0 seen (part_of v r)) empty.changed refl;
      }

  -- what the hand knows of a send that is asked for
  pub record CanPost (all : Pass_data) (r : ℕ) (peer : Role) (place : ℕ) (arm : Arm) (value : Value) : Type 0 where
    pub present : r < length ms
    pub arms : List Arm
    pub stands : state_of (slice_get ms r) (state_in all.view r) ≡ Some (Puts peer arms)
    pub picks : slice_get arms place ≡ Some arm
    pub has : HasSort value arm.sort

  pub can_post : (h : Hand_data) (all : Pass_data) (count r : ℕ) (peer : Role) (place : ℕ) (arm : Arm) (value : Value) → record { session = session; all = all; count = count } ≡ h
      → CanChooseBy (core_of h.session.machines h.all.view) r (place, value) peer arm → r < length h.session.machines → CanPost all r peer place arm value
  can_post h all count r peer place arm value is can low =
      let by : CanChooseBy (core_of ms all.view) r (place, value) peer arm = subst (λ (z : Hand_data). CanChooseBy (core_of z.session.machines z.all.view) r (place, value) peer arm) (sym is) can in
      let can' : CanChoose (core_of ms all.view) r (place, value) peer = by.0 in
      let there : r < length ms = subst (λ (z : Hand_data). r < length z.session.machines) (sym is) low in
      let stands : state_of (slice_get ms r) (state_in all.view r) ≡ Some (Puts peer can'.arms) = sym (state_is ms all.view r there) ∙ can'.puts in
      record {
        present = there;
        arms = can'.arms;
        stands = stands;
        picks = can'.picks ∙ ap (λ (a : Arm). Some a) by.1;
        has = subst (λ (a : Arm). HasSort value a.sort) by.1 can'.has_sort;
      }

  -- by which arm it is put
  abbrev pub put_by : (all : Pass_data) (r : ℕ) (peer : Role) (place : ℕ) (arm : Arm) (value : Value) → CanPost all r peer place arm value
      → MayPut ms r peer.0 (state_in all.view r) (record { label = arm.label; value = value }) arm.next
  put_by all r peer place arm value p = record { arms = p.arms; place = place; arm = arm; puts = p.stands; picks = p.picks; same_label = refl; has_sort = p.has; goes = refl }

  -- the arm of a choice at that state
  pub same_arm : (v : View) (r : ℕ) (peer : Role) (place : ℕ) (value : Value) (arms : List Arm) (a : Arm) → r < length ms → state_of (slice_get ms r) (state_in v r) ≡ Some (Puts peer arms)
      → slice_get arms place ≡ Some a
      → (can : CanChoose (core_of ms v) r (place, value) peer) → a ≡ can.arm
  same_arm v r peer place value arms a low stands picks can =
      let both : Some (Puts peer arms) ≡ Some (Puts peer can.arms) = sym stands ∙ sym (state_is ms v r low) ∙ can.puts in
      let same : arms ≡ can.arms = cc (both) in
      let one : Some a ≡ Some can.arm = sym picks ∙ ap (λ (l : List Arm). slice_get l place) same ∙ can.picks in
      cc (one)

  -- what it knows of a receive that is asked for
  pub record CanFetch (all : Pass_data) (r : ℕ) (peer : Role) : Type 0 where
    pub present : r < length ms
    pub arms : List Arm
    pub stands : state_of (slice_get ms r) (state_in all.view r) ≡ Some (Takes peer arms)

  pub can_fetch : (h : Hand_data) (all : Pass_data) (count r : ℕ) (peer : Role) → record { session = session; all = all; count = count } ≡ h
      → (arms : List Arm) × (state_at h.session.machines (configuration_of (core_of h.session.machines h.all.view)) r ≡ Some (Takes peer arms)) → r < length h.session.machines → CanFetch all r peer
  can_fetch h all count r peer is takes low =
      let at = subst (λ (z : Hand_data). (arms : List Arm) × (state_at z.session.machines (configuration_of (core_of z.session.machines z.all.view)) r ≡ Some (Takes peer arms))) (sym is) takes in
      let there : r < length ms = subst (λ (z : Hand_data). r < length z.session.machines) (sym is) low in
      record { present = there; arms = at.0; stands = sym (state_is ms all.view r there) ∙ at.1 }

  -- at the start
  pub held_first : (a : Accepted_data) (all : Pass_data) (count : ℕ) → IsAcceptedSession a → session.machines ≡ a.machines → all.table ≡ session.table → all.view ≡ starting session.machines
      → count ≡ length a.machines → IsHeld session all count
  held_first a all count s same table first counted =
      let wf : AreWellFormed ms = subst AreWellFormed (sym same) s.is_session.machines_fit in
      let many = ap length same ∙ s.is_session.a_machine_each in
      let roles = s.is_session.roles in
      let state : (r : ℕ) → r < length ms → state_in all.view r ≡ start_of (slice_get ms r) = λ r low. ap (λ (v : View). state_in v r) first
      ∙ ap (λ (z : Part). z.state) (first_part_is ms (length ms) r low) in
      record {
        table = table;
        speaks = λ r low. subst (λ (v : View). SpeaksFor v r) (sym first) (first_speaks ms (length ms) r low);
        well_formed = wf;
        some = (let two = roles.0 in omega (arith, many, two));
        roles = subst (λ (n : ℕ). n ≤ MOST_ROLES) (sym many) roles.1;
        many = counted ∙ ap length (sym same);
        somewhere = λ r low. (let one = get_there ms r low in
            subst (λ (k : ℕ). IsSome (state_of (slice_get ms r) k)) (sym (state r low ∙ ap start_of one.1)) (state_there ms r one.0.start one.0 one.1 (wf.fits r one.0 one.1).start));
      }
