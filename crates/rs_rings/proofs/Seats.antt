-- How seats come and go, how the table starts, and what its end says.
use Rattle.std.proofs.Common.{◌≡◌, ◌≢◌, ◌⊎◌, ℕ, zero, suc, ◌*◌, ◌<◌, ◌≤◌, if◌then◌else◌, ◌==◌, List, [], ◌∷◌, ◌++◌, length, map, replicate, drop, Bool, true, false, true≢false, refl, sym, ap, ◌∙◌}
use Rattle.std.proofs.Common.{subst, inl, inr, ⊎_elim, arith, set, eq-eqb, ne_eqb, length-set, slice_index, slice_get, Option, Some, None, zero-le, append-nil}
use Rattle.std.proofs.lemmas.Bool.Decides.{eqb_tells}
use mathlib.Core.Option.{some, some-injective, some-ne-none}
use native.Mathlib.Decide.{ℕ_discrete, dec_le}
use mathlib.Core.Logic.{dite}
use lib.ListN.{get_elem?, length-map, length-replicate}
use Rattle.atomic_table.specs.Table.{State, Splits, Joins, Seen, opening}
use Rattle.atomic_table.proofs.Lists.{at_set, set_here, set_else, at_longer, at_last}
use Rattle.rs_slots.specs.declared.parcels.Parcel.{Parcel}
use Rattle.rs_rings.specs.declared.views.Part.{Part}
use Rattle.rs_rings.specs.declared.views.View.{View}
use Rattle.rs_rings.specs.declared.views.Key.{Key}
use Rattle.rs_model.specs.Data.{Machine_data}
use Rattle.rs_core.specs.Choices.{AreWellFormed}
use Rattle.rs_core.specs.Configurations.{Configuration, state_at, state_of}
use Rattle.rs_core.specs.Histories.{History, IsLegal}
use Rattle.rs_core.specs.Safety.{IsSafe, CanMove, MaySend, MayReceive, CanStep, AllEnded}
use Rattle.rs_rings.specs.Acts.{message_of, parcels_sent, parcels_got}
use Rattle.rs_rings.specs.Places.{head_word_of, tail_of, slot_place}
use Rattle.rs_rings.specs.Rule.{AreStamped, Spoken, RingsShow, machines_in_key, configuration_by, histories_of, first_view}
use Rattle.rs_rings.specs.Told.{IsLegalEnd}
use Rattle.rs_rings.specs.Views.{speaks, the_part, history_in, parcels_under_way, first_part, first_parts, start_of, parts_without, view_without_role, alone, joint_view, spent_view}
use Rattle.rs_slots.specs.Places.{ring_count}
use Rattle.rs_model.specs.declared.machines.State.TheVariants.{Done}
use Rattle.rs_rings.proofs.OneRing.{at_below, at_snoc_where}
use Rattle.rs_rings.proofs.Parts.{at_put, put_case, the_role, known_is}
use Rattle.rs_rings.proofs.Places.{slot_below}
use Rattle.rs_rings.proofs.Legal.{reached, no_acts}

pub speaks_without : (y r : ℕ) (xs : List Part) → y ≢ r → speaks y (parts_without r xs) ≡ speaks y xs
speaks_without y r [] ne = refl
speaks_without y r (x ∷ xs) ne = elim (eqb_tells r x.role) [
  | inl h ↦ rw h.0 (speaks_without y r xs ne ∙ subst (λ b. speaks y xs ≡ (if b then true else speaks y xs)) (sym (ne_eqb y x.role (λ e. ne (e ∙ sym h.1)))) refl)
  | inr h ↦ rw h.0 (ap (λ (b : Bool). if y == x.role then true else b) (speaks_without y r xs ne))
]

pub speaks_gone : (r : ℕ) (xs : List Part) → speaks r (parts_without r xs) ≡ false
speaks_gone r [] = refl
speaks_gone r (x ∷ xs) = elim (eqb_tells r x.role) [
  | inl h ↦ rw h.0 (speaks_gone r xs)
  | inr h ↦ rw h.0 (subst (λ b. (if b then true else speaks r (parts_without r xs)) ≡ false) (sym h.0) (speaks_gone r xs))
]

pub the_without : (y r : ℕ) (xs : List Part) → y ≢ r → the_part y (parts_without r xs) ≡ the_part y xs
the_without y r [] ne = refl
the_without y r (x ∷ xs) ne = elim (eqb_tells r x.role) [
  | inl h ↦ rw h.0 (the_without y r xs ne ∙ subst (λ b. the_part y xs ≡ (if b then x else the_part y xs)) (sym (ne_eqb y x.role (λ e. ne (e ∙ sym h.1)))) refl)
  | inr h ↦ rw h.0 (ap (λ (z : Part). if y == x.role then x else z) (the_without y r xs ne))
]

pub speaks_one : (y : ℕ) (x : Part) → speaks y (x ∷ []) ≡ true → y ≡ x.role
speaks_one y x s = elim (eqb_tells y x.role) [ inl h ↦ h.1 | inr h ↦ absurd (true≢false (sym s ∙ ap (λ b. if b then true else false) h.0)) ]

pub speaks_left : (y : ℕ) (xs ys : List Part) → speaks y xs ≡ true → speaks y (xs ++ ys) ≡ true
speaks_left y [] ys s = absurd (true≢false (sym s))
speaks_left y (x ∷ xs) ys s = elim (eqb_tells y x.role) [ inl h ↦ rw h.0 refl | inr h ↦ rw h.0 (speaks_left y xs ys (subst (λ b. (if b then true else speaks y xs) ≡ true) h.0 s)) ]

pub speaks_right : (y : ℕ) (xs ys : List Part) → speaks y xs ≡ false → speaks y (xs ++ ys) ≡ speaks y ys
speaks_right y [] ys s = refl
speaks_right y (x ∷ xs) ys s = elim (eqb_tells y x.role) [
  | inl h ↦ absurd (true≢false (subst (λ b. (if b then true else speaks y xs) ≡ false) h.0 s))
  | inr h ↦ rw h.0 (speaks_right y xs ys (subst (λ b. (if b then true else speaks y xs) ≡ false) h.0 s))
]

pub the_left : (y : ℕ) (xs ys : List Part) → speaks y xs ≡ true → the_part y (xs ++ ys) ≡ the_part y xs
the_left y [] ys s = absurd (true≢false (sym s))
the_left y (x ∷ xs) ys s = elim (eqb_tells y x.role) [ inl h ↦ rw h.0 refl | inr h ↦ rw h.0 (the_left y xs ys (subst (λ b. (if b then true else speaks y xs) ≡ true) h.0 s)) ]

pub the_right : (y : ℕ) (xs ys : List Part) → speaks y xs ≡ false → the_part y (xs ++ ys) ≡ the_part y ys
the_right y [] ys s = refl
the_right y (x ∷ xs) ys s = elim (eqb_tells y x.role) [
  | inl h ↦ absurd (true≢false (subst (λ b. (if b then true else speaks y xs) ≡ false) h.0 s))
  | inr h ↦ rw h.0 (the_right y xs ys (subst (λ b. (if b then true else speaks y xs) ≡ false) h.0 s))
]

pub bool_cases : (b : Bool) → (b ≡ true) ⊎ (b ≡ false)
bool_cases true = inl refl
bool_cases false = inr refl

module _ (n : ℕ) (owner : ℕ → ℕ) (known : ℕ → Part) (views : List View) (sp : Spoken n owner known views) (id : ℕ) (v : View) (at : get_elem? views id ≡ some v) where
  pub spoken_split : (r : ℕ) → speaks r v.parts ≡ true → Spoken n (at_put owner r (length views)) known (set views id (view_without_role r v) ++ alone r v ∷ [])
  spoken_split r says = let mine = sp.only id v r at says in let kn = known_is n owner known views sp id v at r says in let role = the_role r v.parts says in let vs : List View =
      set views id (view_without_role r v) in let k : ℕ = length views in
      let long : length vs ≡ k = length-set views id (view_without_role r v) in record {
        each = λ y l. let e = sp.each y l in dite (ℕ_discrete y r)
            (λ is. (
              alone r v,
              ap (get_elem? (vs ++ alone r v ∷ [])) (put_case owner r k y (λ z. z ≡ k) (λ _. refl) (λ no. absurd (no is))) ∙ at_last vs (alone r v) k long,
              subst (λ (b : Bool). (if b then true else false) ≡ true) (sym (eq-eqb y (the_part r v.parts).role (is ∙ sym role))) refl,
              subst (λ (b : Bool). (if b then the_part r v.parts else the_part y []) ≡ known y) (sym (eq-eqb y (the_part r v.parts).role (is ∙ sym role))) (sym kn.1 ∙ ap known (sym is)),
            ))
            (λ ne. let o : at_put owner r k y ≡ owner y = put_case owner r k y (λ z. z ≡ owner y) (λ e'. absurd (ne e')) (λ _. refl) in dite (ℕ_discrete (owner y) id)
            (λ own. let same : e.0 ≡ v = some-injective e.0 v (sym e.1 ∙ ap (get_elem? views) own ∙ at) in (
              view_without_role r v,
              ap (get_elem? (vs ++ alone r v ∷ [])) (o ∙ own) ∙ at_longer vs (alone r v ∷ []) id (view_without_role r v) (set_here views id (view_without_role r v) (at_below views id v at)),
              speaks_without y r v.parts ne ∙ ap (λ (d : View). speaks y d.parts) (sym same) ∙ e.2,
              the_without y r v.parts ne ∙ ap (λ (d : View). the_part y d.parts) (sym same) ∙ e.3,
            ))
            (λ not. (e.0, ap (get_elem? (vs ++ alone r v ∷ [])) o ∙ at_longer vs (alone r v ∷ []) (owner y) e.0 (set_else views id (owner y) (view_without_role r v) not ∙ e.1), e.2, e.3)));
        only = λ j d y there s. ⊎_elim
            (λ old. ⊎_elim
            (λ t. let s' : speaks y (parts_without r v.parts) ≡ true = ap (λ (u : View). speaks y u.parts) t.1
            ∙ s in dite (ℕ_discrete y r) (λ is. absurd (true≢false (sym s' ∙ ap (λ (z : ℕ). speaks z (parts_without r v.parts)) is ∙ speaks_gone r v.parts)))
            (λ ne. let o = sp.only id v y at (sym (speaks_without y r v.parts ne) ∙ s') in (put_case owner r k y (λ z. z ≡ j) (λ e'. absurd (ne e')) (λ _. o.0 ∙ sym t.0), o.1)))
            (λ t. let o = sp.only j d y t.1 s in (put_case owner r k y (λ z. z ≡ j) (λ is. absurd (t.0 (sym o.0 ∙ ap owner is ∙ mine.0))) (λ _. o.0), o.1))
            (at_set views id j (view_without_role r v) d old))
            (λ t. let is : y ≡ r = speaks_one y (the_part r v.parts) (ap (λ (u : View). speaks y u.parts) t.1 ∙ s)
            ∙ role in (put_case owner r k y (λ z. z ≡ j) (λ _. sym (t.0 ∙ long)) (λ no. absurd (no is)), subst (λ (z : ℕ). z < n) (sym is) mine.1))
            (at_snoc_where vs (alone r v) d j there);
      }

  pub spoken_join : (other : ℕ) (w : View) → other ≢ id → get_elem? views other ≡ some w
      → Spoken n (λ y. if owner y == other then id else owner y) known (set (set views id (joint_view v w)) other spent_view)
  spoken_join other w apart at' = let us : List View = set views id (joint_view v w) in let vs : List View = set us other spent_view in let there : get_elem? vs id ≡ some (joint_view v w) =
      set_else us other id spent_view (λ e. apart (sym e)) ∙ set_here views id (joint_view v w) (at_below views id v at) in record {
        each = λ y l. let e = sp.each y l in elim (eqb_tells (owner y) other) [
          | inl h ↦ let same : e.0 ≡ w = some-injective e.0 w (sym e.1 ∙ ap (get_elem? views) h.1 ∙ at') in
              let quiet : speaks y v.parts ≡ false = ⊎_elim (λ s. absurd (apart (sym h.1 ∙ (sp.only id v y at s).0))) (λ s. s) (bool_cases (speaks y v.parts)) in (
                joint_view v w,
                ap (λ b. get_elem? vs (if b then id else owner y)) h.0 ∙ there,
                speaks_right y v.parts w.parts quiet ∙ ap (λ (d : View). speaks y d.parts) (sym same) ∙ e.2,
                the_right y v.parts w.parts quiet ∙ ap (λ (d : View). the_part y d.parts) (sym same) ∙ e.3,
              )
          | inr h ↦ dite (ℕ_discrete (owner y) id)
              (λ own. let same : e.0 ≡ v = some-injective e.0 v (sym e.1 ∙ ap (get_elem? views) own ∙ at) in let s : speaks y v.parts ≡ true = ap (λ (d : View). speaks y d.parts) (sym same) ∙ e.2 in (
                joint_view v w,
                ap (λ b. get_elem? vs (if b then id else owner y)) h.0 ∙ ap (get_elem? vs) own ∙ there,
                speaks_left y v.parts w.parts s,
                the_left y v.parts w.parts s ∙ ap (λ (d : View). the_part y d.parts) (sym same) ∙ e.3,
              ))
              (λ not. (e.0, ap (λ b. get_elem? vs (if b then id else owner y)) h.0 ∙ set_else us other (owner y) spent_view h.1 ∙ set_else views id (owner y) (joint_view v w) not ∙ e.1, e.2, e.3))
        ];
        only = λ j d y found s. ⊎_elim
            (λ t. absurd (true≢false (sym s ∙ ap (λ (u : View). speaks y u.parts) (sym t.1))))
            (λ t. ⊎_elim
            (λ t'. let s' : speaks y (v.parts ++ w.parts) ≡ true = ap (λ (u : View). speaks y u.parts) t'.1 ∙ s in ⊎_elim
            (λ mine. let o = sp.only id v y at mine in (ap (λ b. if b then id else owner y) (ne_eqb (owner y) other (λ e. apart (sym e ∙ o.0))) ∙ o.0 ∙ sym t'.0, o.1))
            (λ quiet. let o = sp.only other w y at' (sym (speaks_right y v.parts w.parts quiet) ∙ s') in (ap (λ b. if b then id else owner y) (eq-eqb (owner y) other o.0) ∙ sym t'.0, o.1))
            (bool_cases (speaks y v.parts)))
            (λ t'. let o = sp.only j d y t'.1 s in (ap (λ b. if b then id else owner y) (ne_eqb (owner y) other (λ e. t.0 (sym o.0 ∙ e))) ∙ o.0, o.1))
            (at_set views id j (joint_view v w) d t.1))
            (at_set us other j spent_view d found);
      }

-- kind 5
pub splits : (key : Key) (id : ℕ) (v : View) (r : ℕ) → speaks r v.parts ≡ true → Splits (RingsShow key) id v (view_without_role r v) (alone r v)
splits key id v r says s sh at = record {
  owner = at_put sh.owner r (length s.views);
  known = sh.known;
  roomy = sh.roomy;
  word_count = sh.word_count;
  slot_count = sh.slot_count;
  spoken = spoken_split key.roles sh.owner sh.known s.views sh.spoken id v at r says;
  rings = sh.rings;
  machine_count = sh.machine_count;
  safe = sh.safe;
  well_formed = sh.well_formed;
  legal = sh.legal;
}

-- kind 6
pub joins : (key : Key) (id : ℕ) (v : View) (other : ℕ) (w : View) → Joins (RingsShow key) id v other w (joint_view v w) spent_view
joins key id v other w s sh at apart at' = record {
  owner = λ y. if sh.owner y == other then id else sh.owner y;
  known = sh.known;
  roomy = sh.roomy;
  word_count = sh.word_count;
  slot_count = sh.slot_count;
  spoken = spoken_join key.roles sh.owner sh.known s.views sh.spoken id v at other w apart (sym (set_else s.views id other (joint_view v w) apart) ∙ at');
  rings = sh.rings;
  machine_count = sh.machine_count;
  safe = sh.safe;
  well_formed = sh.well_formed;
  legal = sh.legal;
}

-- at the start nothing is stamped
none_stamped : AreStamped [] 0 0 0
none_stamped = record { each = refl; before = λ k n at. absurd (some-ne-none n (sym at)); uncounted = λ k n l at. absurd (some-ne-none n (sym at)) }

-- the end
the_blank : (y : ℕ) (xs : List Part) → speaks y xs ≡ false → (the_part y xs).history ≡ []
the_blank y [] s = refl
the_blank y (x ∷ xs) s = elim (eqb_tells y x.role) [
  | inl h ↦ absurd (true≢false (subst (λ b. (if b then true else speaks y xs) ≡ false) h.0 s))
  | inr h ↦ rw h.0 (the_blank y xs (subst (λ b. (if b then true else speaks y xs) ≡ false) h.0 s))
]

none_left : (l : List Parcel) → map message_of l ≡ [] → l ≡ []
none_left [] e = refl
none_left (x ∷ xs) e = absurd (cc (e))

none_moves : (ms : List Machine_data) (c : Configuration) → ((r : ℕ) → r < length ms → state_at ms c r ≡ Some Done) → CanStep ms c → ⊥
none_moves ms c ended (p, l, m) = by m
  where
    by : CanMove ms c p → ⊥
    by (MaySend peer arms e) = let d = ended p l in cc
    by (MayReceive peer arms message later e q) = let d = ended p l in cc

pub ends : (key : Key) (id : ℕ) (v : View) (s : State (Option Parcel) View) → ((r : ℕ) → r < key.roles → speaks r v.parts ≡ true) → Seen (RingsShow key) id v s
    → IsLegalEnd (machines_in_key key) key.roles v
ends key id v s all t = let sh = t.0 in let n : ℕ = key.roles in let ms : List Machine_data = machines_in_key key in let last : Configuration = configuration_by sh.known in
    let kn = known_is n sh.owner sh.known s.views sh.spoken id v t.1 in
    let same : (r : ℕ) → (sh.known r).history ≡ history_in v r = λ r. dite (dec_le (suc r) n) (λ l. ap (λ (z : Part). z.history) (kn r (all r l)).1)
    (λ no. let high : n ≤ r = omega arith in let quiet : speaks r v.parts ≡ false = ⊎_elim (λ says. absurd (no (sh.spoken.only id v r t.1 says).1)) (λ q. q) (bool_cases (speaks r v.parts)) in
    no_acts ms (histories_of sh.known) last sh.legal r (subst (λ (k : ℕ). k ≤ r) (sym sh.machine_count) high) ∙ sym (the_blank r v.parts quiet)) in
    let legal : IsLegal ms (history_in v) last = subst (λ (h : ℕ → History). IsLegal ms h last) (λ i r. same r i) sh.legal in
    let states : (r : ℕ) → r < n → last.at r ≡ (the_part r v.parts).state = λ r l. ap (λ (z : Part). z.state) (kn r (all r l)).1 in
    let queues : (p q : ℕ) → p < n → q < n → p ≢ q → (parcels_sent q (history_in v p) ≡ parcels_got p (history_in v q) ++ parcels_under_way v p q)
    × (last.queue p q ≡ map message_of (parcels_under_way v p q)) = λ p q a b apart.
    let left : List Parcel = drop (length (parcels_got p (sh.known q).history)) (parcels_sent q (sh.known p).history) in
    let is : left ≡ parcels_under_way v p q = λ i. drop (length (parcels_got p (same q i))) (parcels_sent q (same p i)) in
    (ap (parcels_sent q) (sym (same p)) ∙ (sh.rings p q a b apart).order ∙ (λ i. parcels_got p (same q i) ++ is i), ap (λ (l : List Parcel). map message_of l) is) in
    record {
      last = last;
      legal = legal;
      states = states;
      queues = queues;
      over = λ over. let ended : (r : ℕ) → r < length ms → state_at ms last r ≡ Some Done = λ r l. let l' : r < n =
          subst (λ (k : ℕ). r < k) sh.machine_count l in ap (λ (k : ℕ). state_of (slice_get ms r) k) (states r l') ∙ over r l' in
          let all_over : AllEnded ms last = ⊎_elim (λ c. absurd (none_moves ms last ended c)) (λ a. a) (sh.safe.goes_on last (reached ms (histories_of sh.known) last sh.legal)) in (
            all_over,
            λ p q a b apart. let t = queues p q a b apart in let empty : parcels_under_way v p q ≡ [] =
                none_left (parcels_under_way v p q) (sym t.1 ∙ all_over.empty p q (subst (λ (k : ℕ). p < k) (sym sh.machine_count) a) (subst (λ (k : ℕ). q < k) (sym sh.machine_count) b) apart) in
                t.0 ∙ ap (λ (l : List Parcel). parcels_got p (history_in v q) ++ l) empty ∙ append-nil (parcels_got p (history_in v q)),
          );
    }

-- the start
pub zeros : (k i : ℕ) → slice_index (replicate {A = ℕ} k 0) i ≡ 0
zeros zero i = refl
zeros (suc k) zero = refl
zeros (suc k) (suc i) = zeros k i

nones : (k i : ℕ) → i < k → get_elem? (map some (replicate {A = Option Parcel} k None)) i ≡ some (some None)
nones zero i near = absurd (omega arith)
nones (suc k) zero near = refl
nones (suc k) (suc i) near = nones k i (omega arith)

pub first_speaks : (ms : List Machine_data) (n r : ℕ) → r < n → speaks r (first_parts ms n) ≡ true
first_speaks ms zero r l = absurd (omega arith)
first_speaks ms (suc n) r l = elim (eqb_tells r n) [ inl h ↦ rw h.0 refl | inr h ↦ rw h.0 (let ne = h.1 in first_speaks ms n r (omega arith)) ]

pub first_part_is : (ms : List Machine_data) (n r : ℕ) → r < n → the_part r (first_parts ms n) ≡ first_part ms r
first_part_is ms zero r l = absurd (omega arith)
first_part_is ms (suc n) r l = elim (eqb_tells r n) [ inl h ↦ rw h.0 (ap (first_part ms) (sym h.1)) | inr h ↦ rw h.0 (let ne = h.1 in first_part_is ms n r (omega arith)) ]

pub first_below : (ms : List Machine_data) (n r : ℕ) → speaks r (first_parts ms n) ≡ true → r < n
first_below ms zero r s = absurd (true≢false (sym s))
first_below ms (suc n) r s = elim (eqb_tells r n) [
  | inl h ↦ (let e = h.1 in omega arith)
  | inr h ↦
      (let l = first_below ms n r (subst (λ b. (if b then true else speaks r (first_parts ms n)) ≡ true) h.0 s) in omega arith)
]

one_view : (v d : View) (j : ℕ) → get_elem? (v ∷ []) j ≡ some d → (0 ≡ j) × (v ≡ d)
one_view v d zero e = (refl, some-injective v d e)
one_view v d (suc j) e = absurd (some-ne-none d (sym e))

pub begins : (key : Key) (words count : ℕ) → 0 < key.capacity → length (machines_in_key key) ≡ key.roles → IsSafe (machines_in_key key) → AreWellFormed (machines_in_key key)
    → words ≡ 2 * ring_count key.roles → count ≡ ring_count key.roles * key.capacity
    → RingsShow key (opening (replicate words 0) (replicate count None) (first_view key))
begins key words count pos machine_count safe well_formed w c = let ms : List Machine_data = machines_in_key key in let n : ℕ = key.roles in record {
  owner = λ _. 0;
  known = first_part ms;
  roomy = pos;
  word_count = length-replicate words 0 ∙ w;
  slot_count = length-map (replicate count None) some ∙ length-replicate count None ∙ c;
  spoken = record {
    each = λ r l. (first_view key, refl, first_speaks ms n r l, first_part_is ms n r l);
    only = λ j d r at s. let t = one_view (first_view key) d j at in (t.0, first_below ms n r (ap (λ (u : View). speaks r u.parts) t.1 ∙ s));
  };
  rings = λ p q a b apart. record {
    tail_is = zeros words (tail_of n p q);
    head_is = zeros words (head_word_of n p q);
    order = refl;
    room = zero-le;
    full = λ k x lo at or. absurd (some-ne-none x (sym at));
    free = λ k lo hi or. nones count (slot_place n key.capacity p q k) (subst (λ (z : ℕ). slot_place n key.capacity p q k < z) (sym c) (slot_below n key.capacity p q k pos record {
      sender = a;
      receiver = b;
      differ = apart;
    }));
    takes = λ x e. cc;
    finds = λ x e. cc;
    puts = λ e. absurd (true≢false (sym e));
    read_head = zero-le;
    read_tail = zero-le;
    puts_stamped = none_stamped;
    takes_stamped = none_stamped;
  };
  machine_count = machine_count;
  safe = safe;
  well_formed = well_formed;
  legal = record { first = configuration_by (first_part ms); events = []; starts = record { states = λ p m e. ap start_of e; queues = λ p q. refl }; steps = refl; gives = λ p. refl };
}
