-- The four kinds of step that move parcels keep the rule.
use Rattle.std.proofs.Common.{◌≡◌, ◌≢◌, ◌⊎◌, ℕ, suc, ◌+◌, ◌<◌, ◌≤◌, List, [], ◌∷◌, ◌++◌, length, set, map, drop, slice_get, true, false, refl, sym, ap, ◌∙◌, subst, inl, inr, ⊎_elim, arith}
use Rattle.std.proofs.Common.{slice_index, if◌then◌else◌, Option, Some, None, length-set, get_or-set_other, get_or-set_same, le_refl, eq-eqb, ne_eqb}
use mathlib.Core.Option.{some, none}
use mathlib.Core.Option as maybe
use native.Mathlib.Decide.{ℕ_discrete}
use mathlib.Core.Logic.{dite}
use lib.ListN.{get_elem?}
use lib.Seq.{set-get_or}
use Rattle.atomic_table.specs.Table.{Me, step, keeps, takes, gives, Allows}
use Rattle.atomic_table.proofs.Lists.{set_here, set_else, drop_at}
use Rattle.rs_slots.specs.declared.parcels.Parcel.{Parcel}
use Rattle.rs_rings.specs.declared.views.Part.{Part}
use Rattle.rs_rings.specs.declared.views.Load.{Load}
use Rattle.rs_rings.specs.declared.views.Stamp.{Stamp}
use Rattle.rs_rings.specs.declared.views.View.{View}
use Rattle.rs_rings.specs.declared.views.Key.{Key}
use Rattle.rs_rings.specs.Acts.{role_of_number, sent_act, got_act, message_of, Happened, HadTaken, HadPut, MayPut, MayTake, parcels_sent, parcels_got, parcel_sent, parcel_got}
use Rattle.rs_rings.specs.Places.{head_word_of, tail_of, slot_place}
use Rattle.rs_rings.specs.Rule.{RingFacts, RingRule, ring_facts, AreLegal, RingsShow, machines_in_key, configuration_by, histories_of}
use Rattle.rs_rings.specs.Steps.{HasFittingArm, Call, LoadsHead, LooksAtHead, StoresTail, LoadsTail, StoresHead, GivesEmptied}
use Rattle.rs_rings.specs.Views.{last_found, loads_with, stamp_with, stamps_with, is_putting, parcel_in_hand}
use Rattle.rs_rings.specs.Views.{speaks, the_part, view_with_part, part_with_room, gaining, sending, part_with_parcel, taking, getting, KnowsGot, KnowsSent}
use Rattle.rs_rings.specs.Views.{KnowsOldest}
use Rattle.rs_rings.specs.declared.views.Middle.{Middle}
use Rattle.rs_rings.specs.declared.views.Middle.TheVariants.{Idle, Putting, Taking}
use Rattle.rs_rings.proofs.OneRing.{below_at, looks_head, looks_tail, gains_free, gives_full, gains_full, gives_free, behind}
use Rattle.rs_rings.proofs.Parts.{at_put, spoken_step, known_is, the_role}
use Rattle.rs_rings.proofs.Places.{heads_apart, tails_apart, head_no_tail, slots_apart, counts_apart, next_turn, slot_below, head_below, tail_below}
use Rattle.rs_model.specs.declared.graph.Arm.{Arm}
use Rattle.rs_model.specs.declared.machines.State.TheVariants.{Puts, Takes}
use Rattle.rs_model.specs.Sorts.{HasSort}
use Rattle.rs_core.specs.Configurations.{state_of}
use Rattle.rs_slots.specs.Places.{IsPair}
use Rattle.rs_rings.proofs.Legal.{last, last_none, sent_here, sent_other, got_here, got_other, same_legal, reached, legal_sent, legal_got, fitting_arm}
use Rattle.rs_rings.proofs.OtherRings.{Homes, St, SendsAs, TakesAs, Else, sender_moves, receiver_moves}

pub found_here : (q : ℕ) (n : ℕ) (ls : List Load) → last_found q (record { peer = q; found = n } ∷ ls) ≡ n
found_here q n ls = rw (eq-eqb q q refl) refl

found_other : (y q : ℕ) (n : ℕ) (ls : List Load) → y ≢ q → last_found y (record { peer = q; found = n } ∷ ls) ≡ last_found y ls
found_other y q n ls ne = rw (ne_eqb y q ne) refl

pub loads_here : (q : ℕ) (n : ℕ) (ls : List Load) → loads_with q (record { peer = q; found = n } ∷ ls) ≡ suc (loads_with q ls)
loads_here q n ls = rw (eq-eqb q q refl) refl

loads_other : (y q : ℕ) (n : ℕ) (ls : List Load) → y ≢ q → loads_with y (record { peer = q; found = n } ∷ ls) ≡ loads_with y ls
loads_other y q n ls ne = rw (ne_eqb y q ne) refl

stamps_here : (q n : ℕ) (xs : List Stamp) → stamps_with q (xs ++ record { peer = q; loads = n } ∷ []) ≡ stamps_with q xs ++ n ∷ []
stamps_here q n xs = last (stamp_with q) xs (record { peer = q; loads = n }) ∙ ap (λ b. stamps_with q xs ++ (if b then n ∷ [] else [])) (eq-eqb q q refl)

stamps_other : (y q n : ℕ) (xs : List Stamp) → y ≢ q → stamps_with y (xs ++ record { peer = q; loads = n } ∷ []) ≡ stamps_with y xs
stamps_other y q n xs ne = last_none (stamp_with y) xs (record { peer = q; loads = n }) (rw (ne_eqb y q ne) refl)

putting_here : (q : ℕ) → is_putting q (Putting q) ≡ true
putting_here q = eq-eqb q q refl

putting_other : (y q : ℕ) → y ≢ q → is_putting y (Putting q) ≡ false
putting_other y q ne = ne_eqb y q ne

pub taken_here : (p : ℕ) (m : Parcel) → parcel_in_hand p (Taking p m) ≡ Some m
taken_here p m = rw (eq-eqb p p refl) refl

taken_other : (y p : ℕ) (m : Parcel) → y ≢ p → parcel_in_hand y (Taking p m) ≡ None
taken_other y p m ne = rw (ne_eqb y p ne) refl

-- one word of a ring and one of its slots change: the other rings stay
else_set : (key : Key) (p q k i w : ℕ) (words : List ℕ) (homes : Homes) (h : maybe.Option (Option Parcel)) → 0 < key.capacity → IsPair key.roles p q
    → (i ≡ head_word_of key.roles p q) ⊎ (i ≡ tail_of key.roles p q) → Else key p q words (set words i w) homes (set homes (slot_place key.roles key.capacity p q k) h)
else_set key p q k i w words homes h pos pair which x y l not = let n : ℕ = key.roles in (
  get_or-set_other words i (tail_of n x y) w 0 (λ e. ⊎_elim (λ (t : i ≡ head_word_of n p q). head_no_tail n p q x y (sym t ∙ sym e))
      (λ (t : i ≡ tail_of n p q). not (tails_apart n x y p q l pair (e ∙ t))) which),
  get_or-set_other words i (head_word_of n x y) w 0 (λ e. ⊎_elim (λ (t : i ≡ head_word_of n p q). not (heads_apart n x y p q l pair (e ∙ t)))
      (λ (t : i ≡ tail_of n p q). head_no_tail n x y p q (e ∙ t)) which),
  λ z. set_else homes (slot_place n key.capacity p q k) (slot_place n key.capacity x y z) h (λ e. not (slots_apart n key.capacity x y p q z k pos l pair e).0),
)

module _ (key : Key) (s : St) (sh : RingsShow key s) (id : ℕ) (v : View) (at : get_elem? s.views id ≡ some v) (p q : ℕ) (apart : p ≢ q) (words' : List ℕ) (homes' : Homes)
    (rest_stays : Else key p q s.words words' s.homes homes') (ws : length words' ≡ length s.words) (hs : length homes' ≡ length s.homes) where
  abbrev n : ℕ
  n = key.roles

  abbrev cap : ℕ
  cap = key.capacity

  pub sender_shows : (says : speaks p v.parts ≡ true) (a' : Part) → a'.role ≡ p → ((y : ℕ) → y ≢ q → SendsAs y (the_part p v.parts) a') → ((x : ℕ) → TakesAs x (the_part p v.parts) a')
      → RingRule cap (ring_facts n cap words' homes' p q a' (sh.known q)) → AreLegal (machines_in_key key) (at_put sh.known p a') → RingsShow key record {
        words = words';
        homes = homes';
        views = set s.views id (view_with_part p a' v);
      }
  sender_shows says a' role as_sender as_receiver mine lives = let is = (known_is n sh.owner sh.known s.views sh.spoken id v at p says).1 in record {
    owner = sh.owner;
    known = at_put sh.known p a';
    roomy = sh.roomy;
    word_count = ws ∙ sh.word_count;
    slot_count = hs ∙ sh.slot_count;
    spoken = spoken_step n sh.owner sh.known s.views sh.spoken id v at p a' says role;
    rings = sender_moves key p q s.words words' s.homes homes' sh.known sh.rings rest_stays a' apart (subst (λ (z : Part). (y : ℕ) → y ≢ q → SendsAs y z a') (sym is) as_sender)
        (subst (λ (z : Part). (x : ℕ) → TakesAs x z a') (sym is) as_receiver) mine;
    machine_count = sh.machine_count;
    safe = sh.safe;
    well_formed = sh.well_formed;
    legal = lives;
  }

  pub receiver_shows : (says : speaks q v.parts ≡ true) (b' : Part) → b'.role ≡ q → ((y : ℕ) → SendsAs y (the_part q v.parts) b') → ((x : ℕ) → x ≢ p → TakesAs x (the_part q v.parts) b')
      → RingRule cap (ring_facts n cap words' homes' p q (sh.known p) b') → AreLegal (machines_in_key key) (at_put sh.known q b') → RingsShow key record {
        words = words';
        homes = homes';
        views = set s.views id (view_with_part q b' v);
      }
  receiver_shows says b' role as_sender as_receiver mine lives = let is = (known_is n sh.owner sh.known s.views sh.spoken id v at q says).1 in record {
    owner = sh.owner;
    known = at_put sh.known q b';
    roomy = sh.roomy;
    word_count = ws ∙ sh.word_count;
    slot_count = hs ∙ sh.slot_count;
    spoken = spoken_step n sh.owner sh.known s.views sh.spoken id v at q b' says role;
    rings = receiver_moves key p q s.words words' s.homes homes' sh.known sh.rings rest_stays b' apart (subst (λ (z : Part). (y : ℕ) → SendsAs y z b') (sym is) as_sender)
        (subst (λ (z : Part). (x : ℕ) → x ≢ p → TakesAs x z b') (sym is) as_receiver) mine;
    machine_count = sh.machine_count;
    safe = sh.safe;
    well_formed = sh.well_formed;
    legal = lives;
  }

same_words : (key : Key) (s : St) (i : ℕ) (homes' : Homes) (views' : List View) → RingsShow key record { words = s.words; homes = homes'; views = views' } → RingsShow key record {
  words = set s.words i (slice_index s.words i);
  homes = homes';
  views = views';
}
same_words key s i homes' views' sh = subst (λ (ws : List ℕ). RingsShow key record { words = ws; homes = homes'; views = views' }) (sym (set-get_or s.words i 0)) sh

module _ (key : Key) (slots id : ℕ) (me : Me (Option Parcel) View) (p q next : ℕ) (arms : List Arm) (apart : p ≢ q) where
  abbrev n' : ℕ
  n' = key.roles

  abbrev c' : ℕ
  c' = key.capacity

  abbrev w : Call
  w = record { roles = n'; capacity = c'; sender = p; receiver = q; next = next; arms = arms; machines = machines_in_key key }

  -- kind 1
  pub sees_head : speaks p me.0.parts ≡ true → q < n' → (the_part p me.0.parts).middle ≡ Idle
      → Allows (RingsShow key) slots id me (head_word_of n' p q) (λ k. k) (LoadsHead w (step slots (head_word_of n' p q) 0 0 none) me)
  sees_head says below idle s sh long at small =
      let v : View = me.0 in let a : Part = the_part p v.parts in let b : Part = sh.known q in let kn = known_is n' sh.owner sh.known s.views sh.spoken id v at p says in let is = kn.1 in
      let fl : RingRule c' (ring_facts n' c' s.words s.homes p q a b) = subst (λ (z : Part). RingRule c' (ring_facts n' c' s.words s.homes p q z b)) is (sh.rings p q kn.0 below apart) in
      let i : ℕ = head_word_of n' p q in let r : ℕ = slice_index s.words i in let hd : r ≡ length (parcels_got p b.history) = fl.head_is in let room = fl.room in let role =
      the_role p v.parts says in let pair : IsPair n' p q = record { sender = kn.0; receiver = below; differ = apart } in
      let seen : last_found q a.heads ≤ r = (let z = fl.read_head in omega arith) in
      let knows : KnowsGot v p q r = λ too. hd ∙ ap (λ (z : Part). length (parcels_got p z.history)) (known_is n' sh.owner sh.known s.views sh.spoken id v at q too).1 in
      let read : HadTaken (machines_in_key key) p a.history q r
      = record { histories = histories_of sh.known; moment = configuration_by sh.known; legal = sh.legal; own = ap (λ (z : Part). z.history) is; taken = hd } in
      let sent : ℕ = length (parcels_sent q a.history) in let bh : length (parcels_got p b.history) ≤ sent = behind c' (ring_facts n' c' s.words s.homes p q a b) fl in
      dite (ℕ_discrete sent (r + c'))
      (λ full. (
        view_with_part p (part_with_room q r a) v,
        keeps,
        tt,
        same_words key s i s.homes _ (sender_shows key s sh id v at p q apart s.words s.homes (λ x y l not. (refl, refl, λ k. refl)) refl refl says (part_with_room q r a) role
            (λ y ny. (refl, found_other y q r a.heads ny, refl, loads_other y q r a.heads ny, refl)) (λ x. (refl, refl, refl, refl, refl))
            (subst (RingRule c') (λ j. record {
              tail = slice_index s.words (tail_of n' p q);
              head = r;
              slot = λ k. get_elem? s.homes (slot_place n' c' p q k);
              sent = parcels_sent q a.history;
              got = parcels_got p b.history;
              seen_head = sym (found_here q r a.heads) j;
              seen_tail = last_found p b.tails;
              head_loads = sym (loads_here q r a.heads) j;
              tail_loads = loads_with p b.tails;
              put_stamps = stamps_with q a.put_stamps;
              take_stamps = stamps_with p b.take_stamps;
              putting = is_putting q a.middle;
              taking = parcel_in_hand p b.middle;
            })
            (looks_head c' (ring_facts n' c' s.words s.homes p q a b) fl r seen (omega arith)))
            (same_legal (machines_in_key key) sh.known p (part_with_room q r a) (ap (λ (z : Part). z.state) (sym is)) (ap (λ (z : Part). z.history) (sym is)) sh.legal)),
        (seen, (let g : r ≤ sent = omega arith in g), (let g : sent ≤ r + c' = omega arith in g), (λ _. refl), (λ no. absurd (no full)), knows, read),
      ))
      (λ more. let k₀ : ℕ = slot_place n' c' p q sent in let free : sent < length (parcels_got p b.history) + c' = omega arith in let still : is_putting q a.middle
      ≡ false = ap (is_putting q) idle in (
        view_with_part p (gaining q r a) v,
        takes k₀ None,
        fl.free sent (le_refl sent) free (inl still),
        same_words key s i (set s.homes k₀ none) _ (sender_shows key s sh id v at p q apart s.words (set s.homes k₀ none)
            (λ x y l not. (refl, refl, λ k. set_else s.homes k₀ (slot_place n' c' x y k) none (λ e. not (slots_apart n' c' x y p q k sent sh.roomy l pair e).0))) refl (length-set s.homes k₀ none) says
            (gaining q r a) role
            (λ y ny. (refl, found_other y q r a.heads ny, putting_other y q ny ∙ sym (ap (is_putting y) idle), loads_other y q r a.heads ny, refl))
            (λ x. (refl, refl, sym (ap (parcel_in_hand x) idle), refl, refl))
            (subst (RingRule c') (λ j. record {
              tail = slice_index s.words (tail_of n' p q);
              head = r;
              slot = λ k. get_elem? (set s.homes k₀ none) (slot_place n' c' p q k);
              sent = parcels_sent q a.history;
              got = parcels_got p b.history;
              seen_head = sym (found_here q r a.heads) j;
              seen_tail = last_found p b.tails;
              head_loads = sym (loads_here q r a.heads) j;
              tail_loads = loads_with p b.tails;
              put_stamps = stamps_with q a.put_stamps;
              take_stamps = stamps_with p b.take_stamps;
              putting = sym (putting_here q) j;
              taking = parcel_in_hand p b.middle;
            })
            (gains_free c' (ring_facts n' c' s.words s.homes p q a b) fl (λ k. get_elem? (set s.homes k₀ none) (slot_place n' c' p q k)) r still (omega arith)
            (λ k lo hi ne. set_else s.homes k₀ (slot_place n' c' p q k) none (counts_apart n' c' p q (length (parcels_got p b.history)) k sent sh.roomy lo hi bh free ne)) (omega arith)))
            (same_legal (machines_in_key key) sh.known p (gaining q r a) (ap (λ (z : Part). z.state) (sym is)) (ap (λ (z : Part). z.history) (sym is)) sh.legal)),
        (seen, (let g : r ≤ sent = omega arith in g), (let g : sent ≤ r + c' = omega arith in g), (λ e. absurd (more e)), (λ _. refl), knows, read),
      ))

  -- kind 1, where the sender only looks
  pub looks_at_head : speaks p me.0.parts ≡ true → q < n' → Allows (RingsShow key) slots id me (head_word_of n' p q) (λ k. k) (LooksAtHead w (step slots (head_word_of n' p q) 0 0 none) me)
  looks_at_head says below s sh long at small =
      let v : View = me.0 in let a : Part = the_part p v.parts in let b : Part = sh.known q in let kn = known_is n' sh.owner sh.known s.views sh.spoken id v at p says in let is = kn.1 in
      let fl : RingRule c' (ring_facts n' c' s.words s.homes p q a b) = subst (λ (z : Part). RingRule c' (ring_facts n' c' s.words s.homes p q z b)) is (sh.rings p q kn.0 below apart) in
      let i : ℕ = head_word_of n' p q in let r : ℕ = slice_index s.words i in let hd : r ≡ length (parcels_got p b.history) = fl.head_is in let room = fl.room in let role =
      the_role p v.parts says in
      let seen : last_found q a.heads ≤ r = (let z = fl.read_head in omega arith) in
      let knows : KnowsGot v p q r = λ too. hd ∙ ap (λ (z : Part). length (parcels_got p z.history)) (known_is n' sh.owner sh.known s.views sh.spoken id v at q too).1 in
      let read : HadTaken (machines_in_key key) p a.history q r
      = record { histories = histories_of sh.known; moment = configuration_by sh.known; legal = sh.legal; own = ap (λ (z : Part). z.history) is; taken = hd } in
      let sent : ℕ = length (parcels_sent q a.history) in let bh : length (parcels_got p b.history) ≤ sent = behind c' (ring_facts n' c' s.words s.homes p q a b) fl in (
        view_with_part p (part_with_room q r a) v,
        keeps,
        tt,
        same_words key s i s.homes _ (sender_shows key s sh id v at p q apart s.words s.homes (λ x y l not. (refl, refl, λ k. refl)) refl refl says (part_with_room q r a) role
            (λ y ny. (refl, found_other y q r a.heads ny, refl, loads_other y q r a.heads ny, refl)) (λ x. (refl, refl, refl, refl, refl))
            (subst (RingRule c') (λ j. record {
              tail = slice_index s.words (tail_of n' p q);
              head = r;
              slot = λ k. get_elem? s.homes (slot_place n' c' p q k);
              sent = parcels_sent q a.history;
              got = parcels_got p b.history;
              seen_head = sym (found_here q r a.heads) j;
              seen_tail = last_found p b.tails;
              head_loads = sym (loads_here q r a.heads) j;
              tail_loads = loads_with p b.tails;
              put_stamps = stamps_with q a.put_stamps;
              take_stamps = stamps_with p b.take_stamps;
              putting = is_putting q a.middle;
              taking = parcel_in_hand p b.middle;
            })
            (looks_head c' (ring_facts n' c' s.words s.homes p q a b) fl r seen (omega arith)))
            (same_legal (machines_in_key key) sh.known p (part_with_room q r a) (ap (λ (z : Part). z.state) (sym is)) (ap (λ (z : Part). z.history) (sym is)) sh.legal)),
        (seen, (let g : r ≤ sent = omega arith in g), (let g : sent ≤ r + c' = omega arith in g), refl, knows, read),
      )

  -- kind 3
  pub sees_tail : speaks q me.0.parts ≡ true → p < n' → (the_part q me.0.parts).middle ≡ Idle
      → state_of (slice_get (machines_in_key key) q) (the_part q me.0.parts).state ≡ Some (Takes (role_of_number p) arms)
      → Allows (RingsShow key) slots id me (tail_of n' p q) (λ k. k) (LoadsTail w (step slots (tail_of n' p q) 0 0 none) me)
  sees_tail says low idle stands s sh long at small =
      let v : View = me.0 in let b : Part = the_part q v.parts in let a : Part = sh.known p in let kn = known_is n' sh.owner sh.known s.views sh.spoken id v at q says in let is =
      kn.1 in let below : q < n' = kn.0 in
      let fl : RingRule c' (ring_facts n' c' s.words s.homes p q a b) = subst (λ (z : Part). RingRule c' (ring_facts n' c' s.words s.homes p q a z)) is (sh.rings p q low kn.0 apart) in
      let i : ℕ = tail_of n' p q in let r : ℕ = slice_index s.words i in let tl : r ≡ length (parcels_sent q a.history) = fl.tail_is in let room = fl.room in let role =
      the_role q v.parts says in let pair : IsPair n' p q = record { sender = low; receiver = kn.0; differ = apart } in
      let seen : last_found p b.tails ≤ r = (let z = fl.read_tail in omega arith) in
      let knows : KnowsSent v p q r = λ too. tl ∙ ap (λ (z : Part). length (parcels_sent q z.history)) (known_is n' sh.owner sh.known s.views sh.spoken id v at p too).1 in
      let read : HadPut (machines_in_key key) q b.history p r
      = record { histories = histories_of sh.known; moment = configuration_by sh.known; legal = sh.legal; own = ap (λ (z : Part). z.history) is; put = tl } in
      let got : ℕ = length (parcels_got p b.history) in let bh : got ≤ length (parcels_sent q a.history) = behind c' (ring_facts n' c' s.words s.homes p q a b) fl in
      dite (ℕ_discrete got r)
      (λ empty. (
        view_with_part q (part_with_parcel p r b) v,
        keeps,
        tt,
        same_words key s i s.homes _ (receiver_shows key s sh id v at p q apart s.words s.homes (λ x y l not. (refl, refl, λ k. refl)) refl refl says (part_with_parcel p r b) role
            (λ x. (refl, refl, refl, refl, refl)) (λ y ny. (refl, found_other y p r b.tails ny, refl, loads_other y p r b.tails ny, refl))
            (subst (RingRule c') (λ j. record {
              tail = r;
              head = slice_index s.words (head_word_of n' p q);
              slot = λ k. get_elem? s.homes (slot_place n' c' p q k);
              sent = parcels_sent q a.history;
              got = parcels_got p b.history;
              seen_head = last_found q a.heads;
              seen_tail = sym (found_here p r b.tails) j;
              head_loads = loads_with q a.heads;
              tail_loads = sym (loads_here p r b.tails) j;
              put_stamps = stamps_with q a.put_stamps;
              take_stamps = stamps_with p b.take_stamps;
              putting = is_putting q a.middle;
              taking = parcel_in_hand p b.middle;
            })
            (looks_tail c' (ring_facts n' c' s.words s.homes p q a b) fl r seen (omega arith)))
            (same_legal (machines_in_key key) sh.known q (part_with_parcel p r b) (ap (λ (z : Part). z.state) (sym is)) (ap (λ (z : Part). z.history) (sym is)) sh.legal)),
        (seen, (let g : got ≤ r = omega arith in g), (let g : r ≤ got + c' = omega arith in g), (λ _. refl), (λ no. absurd (no empty)), knows, read),
      ))
      (λ more. let k₀ : ℕ = slot_place n' c' p q got in let there = below_at (parcels_sent q a.history) got (omega arith)
      in let x : Parcel = there.0 in let still : parcel_in_hand p b.middle ≡ None = ap (parcel_in_hand p) idle in
      let head : (configuration_by sh.known).queue p q ≡ message_of x ∷ map message_of (drop (suc got) (parcels_sent q a.history)) =
      ap (λ (l : List Parcel). map message_of l) (ap (λ (z : Part). drop (length (parcels_got p z.history)) (parcels_sent q a.history)) is ∙ drop_at (parcels_sent q a.history) got x there.1) in
      let oldest : KnowsOldest v p q x = λ too. subst (λ (z : Part). drop got (parcels_sent q z.history) ≡ x ∷ drop (suc got) (parcels_sent q z.history))
      (known_is n' sh.owner sh.known s.views sh.spoken id v at p too).1 (drop_at (parcels_sent q a.history) got x there.1) in
      let fits_arms : HasFittingArm arms x = fitting_arm (machines_in_key key) (configuration_by sh.known) q p arms x (map message_of (drop (suc got) (parcels_sent q a.history)))
      sh.safe sh.well_formed (reached (machines_in_key key) (λ r'. (sh.known r').history) (configuration_by sh.known) sh.legal)
      (ap (λ (z : Part). state_of (slice_get (machines_in_key key) q) z.state) is ∙ stands) head in (
        view_with_part q (taking p x r b) v,
        takes k₀ (Some x),
        fl.full got x (le_refl got) there.1 (inl still),
        same_words key s i (set s.homes k₀ none) _ (receiver_shows key s sh id v at p q apart s.words (set s.homes k₀ none)
            (λ x' y l not. (refl, refl, λ k. set_else s.homes k₀ (slot_place n' c' x' y k) none (λ e. not (slots_apart n' c' x' y p q k got sh.roomy l pair e).0))) refl (length-set s.homes k₀ none)
            says (taking p x r b) role
            (λ y. (refl, refl, sym (ap (is_putting y) idle), refl, refl))
            (λ y ny. (refl, found_other y p r b.tails ny, taken_other y p x ny ∙ sym (ap (parcel_in_hand y) idle), loads_other y p r b.tails ny, refl))
            (subst (RingRule c') (λ j. record {
              tail = r;
              head = slice_index s.words (head_word_of n' p q);
              slot = λ k. get_elem? (set s.homes k₀ none) (slot_place n' c' p q k);
              sent = parcels_sent q a.history;
              got = parcels_got p b.history;
              seen_head = last_found q a.heads;
              seen_tail = sym (found_here p r b.tails) j;
              head_loads = loads_with q a.heads;
              tail_loads = sym (loads_here p r b.tails) j;
              put_stamps = stamps_with q a.put_stamps;
              take_stamps = stamps_with p b.take_stamps;
              putting = is_putting q a.middle;
              taking = sym (taken_here p x) j;
            })
            (gains_full c' (ring_facts n' c' s.words s.homes p q a b) fl (λ k. get_elem? (set s.homes k₀ none) (slot_place n' c' p q k)) r x still there.1
            (λ k lo hi ne. set_else s.homes k₀ (slot_place n' c' p q k) none (counts_apart n' c' p q got k got sh.roomy lo hi (le_refl got) (let z = sh.roomy in omega arith) ne))
            (omega arith) (omega arith)))
            (same_legal (machines_in_key key) sh.known q (taking p x r b) (ap (λ (z : Part). z.state) (sym is)) (ap (λ (z : Part). z.history) (sym is)) sh.legal)),
        (seen, (let g : got ≤ r = omega arith in g), (let g : r ≤ got + c' = omega arith in g), (λ e. absurd (more e)), (λ _. (x, fits_arms, refl, oldest)), knows, read),
      ))

module _ (key : Key) (slots id : ℕ) (v : View) (cs : List (ℕ × Option Parcel)) (p q new : ℕ) (apart : p ≢ q) (x : Parcel) (arms all : List Arm) (arm : Arm)
    (picked : (place : ℕ) × (slice_get all place ≡ Some arm) × (arm.label ≡ x.label)) (has : HasSort x.value arm.sort) where
  abbrev next : ℕ
  next = arm.next

  abbrev nn : ℕ
  nn = key.roles

  abbrev cc' : ℕ
  cc' = key.capacity

  abbrev w' : Call
  w' = record { roles = nn; capacity = cc'; sender = p; receiver = q; next = next; arms = arms; machines = machines_in_key key }

  abbrev sender_me : Me (Option Parcel) View
  sender_me = (v, (slot_place nn cc' p q (length (parcels_sent q (the_part p v.parts).history)), Some x) ∷ cs)

  -- kind 2
  pub stores_tail : speaks p v.parts ≡ true → q < nn → (the_part p v.parts).middle ≡ Putting q → new ≡ length (parcels_sent q (the_part p v.parts).history) + 1
      → state_of (slice_get (machines_in_key key) p) (the_part p v.parts).state ≡ Some (Puts (role_of_number q) all)
      → Allows (RingsShow key) slots id sender_me (tail_of nn p q) (λ _. new) (λ _. StoresTail w' (step slots (tail_of nn p q) new 0 none) sender_me new)
  stores_tail says below busy is_new stands s sh long at small =
      let may : MayPut (machines_in_key key) p q (the_part p v.parts).state x next
      = record { arms = all; place = picked.0; arm = arm; puts = stands; picks = picked.1; same_label = picked.2; has_sort = has; goes = refl } in
      let a : Part = the_part p v.parts in let b : Part = sh.known q in let loads : ℕ = loads_with p b.tails in
      let kn = known_is nn sh.owner sh.known s.views sh.spoken id v at p says in let is = kn.1 in
      let f : RingFacts = ring_facts nn cc' s.words s.homes p q a b in let fl : RingRule cc' f =
      subst (λ (z : Part). RingRule cc' (ring_facts nn cc' s.words s.homes p q z b)) is (sh.rings p q kn.0 below apart) in
      let pair : IsPair nn p q = record { sender = kn.0; receiver = below; differ = apart } in
      let lived = legal_sent (machines_in_key key) sh.known p q apart x all arm picked has (sending q x next loads a) sh.legal
      (ap (λ (z : Part). state_of (slice_get (machines_in_key key) p) z.state) is ∙ stands) refl (ap (λ (z : Part). z.history ++ sent_act q x ∷ []) (sym is))
      (subst (λ (z : Part). length (parcels_got p b.history) ≤ length (parcels_sent q z.history)) (sym is) (behind cc' f fl)) in
      let i : ℕ = tail_of nn p q in let role = the_role p v.parts says in let sent : ℕ = length (parcels_sent q a.history) in let bh : length (parcels_got p b.history) ≤ sent = behind cc' f fl in
      let k₀ : ℕ = slot_place nn cc' p q sent in let h : maybe.Option (Option Parcel) = some (Some x) in let inside : k₀ < length s.homes =
      subst (λ (z : ℕ). k₀ < z) (sym sh.slot_count) (slot_below nn cc' p q sent sh.roomy pair) in
      let here : i < length s.words = subst (λ (z : ℕ). i < z) (sym sh.word_count) (tail_below nn p q pair) in let busy' : is_putting q a.middle ≡ true = ap (is_putting q) busy
      ∙ putting_here q in let found = fl.puts busy' in let least = fl.read_head in let room : sent < length (parcels_got p b.history) + cc' = omega arith in (
        view_with_part p (sending q x next loads a) v,
        gives,
        tt,
        sender_shows key s sh id v at p q apart (set s.words i new) (set s.homes k₀ h) (else_set key p q sent i new s.words s.homes h sh.roomy pair (inr refl)) (length-set s.words i new)
            (length-set s.homes k₀ h) says (sending q x next loads a) role
            (λ y ny. (sent_other y q x a.history ny, refl, sym (ap (is_putting y) busy ∙ putting_other y q ny), refl, stamps_other y q loads a.put_stamps ny))
            (λ y. (last_none (parcel_got y) a.history (sent_act q x) refl, refl, sym (ap (parcel_in_hand y) busy), refl, refl))
            (subst (RingRule cc') (λ j. record {
              tail = sym (get_or-set_same s.words i new 0 here) j;
              head = sym (get_or-set_other s.words i (head_word_of nn p q) new 0 (head_no_tail nn p q p q)) j;
              slot = λ k. get_elem? (set s.homes k₀ h) (slot_place nn cc' p q k);
              sent = sym (sent_here q x a.history) j;
              got = parcels_got p b.history;
              seen_head = last_found q a.heads;
              seen_tail = last_found p b.tails;
              head_loads = loads_with q a.heads;
              tail_loads = loads;
              put_stamps = sym (stamps_here q loads a.put_stamps) j;
              take_stamps = stamps_with p b.take_stamps;
              putting = false;
              taking = parcel_in_hand p b.middle;
            })
            (gives_full cc' f fl (λ k. get_elem? (set s.homes k₀ h) (slot_place nn cc' p q k)) new x is_new busy'
            (λ k lo hi ne. set_else s.homes k₀ (slot_place nn cc' p q k) h (counts_apart nn cc' p q (length (parcels_got p b.history)) k sent sh.roomy lo hi bh room ne))
            (set_here s.homes k₀ h inside)))
            lived.0,
        (loads, refl, subst (λ (z : Part). Happened (machines_in_key key) p z.history (sent_act q x)) is lived.1, busy, may),
      )

  abbrev receiver_me : Me (Option Parcel) View
  receiver_me = (v, (slot_place nn cc' p q (length (parcels_got p (the_part q v.parts).history)), None) ∷ cs)

  -- kind 4
  pub stores_head : speaks q v.parts ≡ true → p < nn → (the_part q v.parts).middle ≡ Taking p x → new ≡ length (parcels_got p (the_part q v.parts).history) + 1
      → state_of (slice_get (machines_in_key key) q) (the_part q v.parts).state ≡ Some (Takes (role_of_number p) all)
      → Allows (RingsShow key) slots id receiver_me (head_word_of nn p q) (λ _. new) (λ _. StoresHead w' (step slots (head_word_of nn p q) new 0 none) receiver_me new)
  stores_head says low busy is_new stands s sh long at small =
      let may : MayTake (machines_in_key key) q p (the_part q v.parts).state x next
      = record { arms = all; place = picked.0; arm = arm; takes = stands; picks = picked.1; same_label = picked.2; has_sort = has; goes = refl } in
      let b : Part = the_part q v.parts in let a : Part = sh.known p in let loads : ℕ = loads_with q a.heads in
      let kn = known_is nn sh.owner sh.known s.views sh.spoken id v at q says in let is = kn.1 in let below : q < nn = kn.0 in
      let f : RingFacts = ring_facts nn cc' s.words s.homes p q a b in let fl : RingRule cc' f =
      subst (λ (z : Part). RingRule cc' (ring_facts nn cc' s.words s.homes p q a z)) is (sh.rings p q low kn.0 apart) in
      let pair : IsPair nn p q = record { sender = low; receiver = kn.0; differ = apart } in
      let i : ℕ = head_word_of nn p q in let role = the_role q v.parts says in let got : ℕ = length (parcels_got p b.history) in let bh : got ≤ length (parcels_sent q a.history) = behind cc' f fl in
      let k₀ : ℕ = slot_place nn cc' p q got in let h : maybe.Option (Option Parcel) = some None in let inside : k₀ < length s.homes =
      subst (λ (z : ℕ). k₀ < z) (sym sh.slot_count) (slot_below nn cc' p q got sh.roomy pair) in
      let here : i < length s.words = subst (λ (z : ℕ). i < z) (sym sh.word_count) (head_below nn p q pair) in let busy' : parcel_in_hand p b.middle ≡ Some x = ap (parcel_in_hand p) busy
      ∙ taken_here p x in
      let lived = legal_got (machines_in_key key) sh.known p q apart x all arm picked has (getting p x next loads b) sh.legal
      (ap (λ (z : Part). state_of (slice_get (machines_in_key key) q) z.state) is ∙ stands) refl (ap (λ (z : Part). z.history ++ got_act p x ∷ []) (sym is))
      (subst (λ (z : Part). get_elem? (parcels_sent q a.history) (length (parcels_got p z.history)) ≡ some x) (sym is) (fl.takes x busy')) in (
        view_with_part q (getting p x next loads b) v,
        gives,
        tt,
        receiver_shows key s sh id v at p q apart (set s.words i new) (set s.homes k₀ h) (else_set key p q got i new s.words s.homes h sh.roomy pair (inl refl)) (length-set s.words i new)
            (length-set s.homes k₀ h) says (getting p x next loads b) role
            (λ y. (last_none (parcel_sent y) b.history (got_act p x) refl, refl, sym (ap (is_putting y) busy), refl, refl))
            (λ y ny. (got_other y p x b.history ny, refl, sym (ap (parcel_in_hand y) busy ∙ taken_other y p x ny), refl, stamps_other y p loads b.take_stamps ny))
            (subst (RingRule cc') (λ j. record {
              tail = sym (get_or-set_other s.words i (tail_of nn p q) new 0 (λ e. head_no_tail nn p q p q (sym e))) j;
              head = sym (get_or-set_same s.words i new 0 here) j;
              slot = λ k. get_elem? (set s.homes k₀ h) (slot_place nn cc' p q k);
              sent = parcels_sent q a.history;
              got = sym (got_here p x b.history) j;
              seen_head = last_found q a.heads;
              seen_tail = last_found p b.tails;
              head_loads = loads;
              tail_loads = loads_with p b.tails;
              put_stamps = stamps_with q a.put_stamps;
              take_stamps = sym (stamps_here p loads b.take_stamps) j;
              putting = is_putting q a.middle;
              taking = None;
            })
            (gives_free cc' f fl (λ k. get_elem? (set s.homes k₀ h) (slot_place nn cc' p q k)) new x is_new busy'
            (λ k lo hi ne. set_else s.homes k₀ (slot_place nn cc' p q k) h (counts_apart nn cc' p q got k got sh.roomy lo hi (le_refl got) (let z = sh.roomy in omega arith) ne))
            (ap (get_elem? (set s.homes k₀ h)) (next_turn nn cc' p q got) ∙ set_here s.homes k₀ h inside)))
            lived.0,
        subst (λ (m : Middle). GivesEmptied w' receiver_me (view_with_part q (getting p x next loads b) v, cs) m) (sym busy)
            (loads, refl, subst (λ (z : Part). Happened (machines_in_key key) q z.history (got_act p x)) is lived.1, refl, may),
      )
