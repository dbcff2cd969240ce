-- What the steps of `put` ask, and what it says.
use Rattle.std.proofs.Common.{◌≡◌, ◌≢◌, ℕ, ◌+◌, ◌<◌, List, [], ◌∷◌, length, true, slice_get, refl, sym, ap, ◌∙◌, subst, Option, Some, None}
use mathlib.Core.Option.{none}
use Rattle.atomic_table.specs.Table.{Me, Step, step, rest, Allows}
use Rattle.rs_slots.specs.declared.parcels.Parcel.{Parcel}
use Rattle.rs_rings.specs.declared.views.Part.{Part}
use Rattle.rs_rings.specs.declared.views.View.{View}
use Rattle.rs_rings.specs.declared.views.Key.{Key}
use Rattle.rs_rings.specs.declared.views.Middle.TheVariants.{Idle, Putting, Taking}
use Rattle.rs_model.specs.declared.graph.Arm.{Arm}
use Rattle.rs_model.specs.declared.machines.State.TheVariants.{Takes}
use Rattle.rs_model.specs.Data.{Machine_data}
use Rattle.rs_core.specs.Configurations.{state_of}
use Rattle.rs_rings.specs.Acts.{role_of_number, sent_act, got_act, Happened, MayPut, MayTake, parcels_sent, parcels_got}
use Rattle.rs_rings.specs.Asked.{IsCallOn}
use Rattle.rs_rings.specs.Places.{head_word_of, tail_of, slot_place}
use Rattle.rs_rings.specs.Rule.{RingsShow, machines_in_key}
use Rattle.rs_rings.specs.Steps.{Call, LoadsHead, LooksAtHead, StoresTail, LoadsTail, StoresHead, GivesFilled, GivesEmptied, own}
use Rattle.rs_rings.specs.Told.{IsAfter}
use Rattle.rs_rings.specs.Views.{speaks, the_part, view_with_part, sending, taking, getting}
use Rattle.rs_rings.proofs.Parts.{the_role, speaks_put, the_put_here, the_put_other}
use Rattle.rs_rings.proofs.FourSteps.{sees_head, looks_at_head, stores_tail, sees_tail, stores_head}

abbrev M : Type 0
M = Me (Option Parcel) View

abbrev pub named : ℕ → ℕ → ℕ → ℕ → ℕ → List Arm → List Machine_data → Call
named n cap p q next arms ms = record { roles = n; capacity = cap; sender = p; receiver = q; next = next; arms = arms; machines = ms }

pub is_named : (w : Call) (n cap p q : ℕ) (ms : List Machine_data) → IsCallOn w n cap p q ms → w ≡ named n cap p q w.next w.arms ms
is_named w n cap p q ms e i = record {
  roles = e.roles_are i;
  capacity = e.capacity_is i;
  sender = e.sender_is i;
  receiver = e.receiver_is i;
  next = w.next;
  arms = w.arms;
  machines = e.machines_are i;
}

-- a part put in place
pub after : (p : ℕ) (y : Part) (v : View) (m : M) → speaks p v.parts ≡ true → y.role ≡ p → m ≡ (view_with_part p y v, []) → IsAfter p y v m
after p y v m says role is = subst (IsAfter p y v) (sym is) record {
  part = the_put_here p y v.parts role says;
  empty = refl;
  spoken = λ r. speaks_put r p y v.parts role;
  others = λ r ne. the_put_other r p y v.parts role ne;
}

pub after_after : (p : ℕ) (y z : Part) (v : View) (m : M) → speaks p v.parts ≡ true → y.role ≡ p → z.role ≡ p → m ≡ (view_with_part p z (view_with_part p y v), []) → IsAfter p z v m
after_after p y z v m says role role' is = let u : View = view_with_part p y v in let says' : speaks p u.parts ≡ true = speaks_put p p y v.parts role ∙ says in let a = after p z u m says' role' is in
    record { part = a.part; empty = a.empty; spoken = λ r. a.spoken r ∙ speaks_put r p y v.parts role; others = λ r ne. a.others r ne ∙ the_put_other r p y v.parts role ne }

module _ (key : Key) (w : Call) (n cap p q : ℕ) (kn : key.roles ≡ n) (kc : key.capacity ≡ cap) (nm : IsCallOn w n cap p q (machines_in_key key)) (apart : p ≢ q) (slots id : ℕ) where
  abbrev pub Given : ℕ × ℕ × Call → (ℕ → ℕ → Call → Type 0) → Type 0
  Given z F = F z.0 z.1 z.2

  lift : (F : ℕ → ℕ → Call → Type 0) → F key.roles key.capacity (named key.roles key.capacity p q w.next w.arms (machines_in_key key)) → F n cap w
  lift F x = subst (λ (z : ℕ × ℕ × Call). F z.0 z.1 z.2) (λ i. (
    kn i,
    kc i,
    (let e : named key.roles key.capacity p q w.next w.arms (machines_in_key key) ≡ w = (λ j. named (kn j) (kc j) p q w.next w.arms (machines_in_key key))
        ∙ sym (is_named w n cap p q (machines_in_key key) nm) in e) i,
  )) x

  pub head_asks : (i : ℕ) → i ≡ head_word_of n p q → (me : M) → speaks p me.0.parts ≡ true → q < n → (the_part p me.0.parts).middle ≡ Idle
      → Allows (RingsShow key) slots id me i (λ k. k) (LoadsHead w (step slots i 0 0 none) me)
  head_asks i at me says below idle = subst (λ (i : ℕ). Allows (RingsShow key) slots id me i (λ k. k) (LoadsHead w (step slots i 0 0 none) me)) (sym at)
      (lift (λ a b u. q < a → Allows (RingsShow key) slots id me (head_word_of a p q) (λ k. k) (LoadsHead u (step slots (head_word_of a p q) 0 0 none) me))
      (λ below'. sees_head key slots id me p q w.next w.arms apart says below' idle) below)

  pub room_asks : (i : ℕ) → i ≡ head_word_of n p q → (me : M) → speaks p me.0.parts ≡ true → q < n
      → Allows (RingsShow key) slots id me i (λ k. k) (LooksAtHead w (step slots i 0 0 none) me)
  room_asks i at me says below = subst (λ (i : ℕ). Allows (RingsShow key) slots id me i (λ k. k) (LooksAtHead w (step slots i 0 0 none) me)) (sym at)
      (lift (λ a b u. q < a → Allows (RingsShow key) slots id me (head_word_of a p q) (λ k. k) (LooksAtHead u (step slots (head_word_of a p q) 0 0 none) me))
      (λ below'. looks_at_head key slots id me p q w.next w.arms apart says below') below)

  pub tail_asks : (i : ℕ) → i ≡ tail_of n p q → (me : M) → speaks q me.0.parts ≡ true → p < n → (the_part q me.0.parts).middle ≡ Idle
      → state_of (slice_get (machines_in_key key) q) (the_part q me.0.parts).state ≡ Some (Takes (role_of_number p) w.arms)
      → Allows (RingsShow key) slots id me i (λ k. k) (LoadsTail w (step slots i 0 0 none) me)
  tail_asks i at me says low idle stands = subst (λ (i : ℕ). Allows (RingsShow key) slots id me i (λ k. k) (LoadsTail w (step slots i 0 0 none) me)) (sym at)
      (lift (λ a b u. p < a → Allows (RingsShow key) slots id me (tail_of a p q) (λ k. k) (LoadsTail u (step slots (tail_of a p q) 0 0 none) me))
      (λ low'. sees_tail key slots id me p q w.next w.arms apart says low' idle stands) low)

  pub store_asks : (i : ℕ) → i ≡ tail_of n p q → (me : M) (v : View) (cs : List (ℕ × Option Parcel)) (sent new : ℕ) (x : Parcel) → speaks p v.parts ≡ true → q < n
      → (the_part p v.parts).middle ≡ Putting q → sent ≡ length (parcels_sent q (the_part p v.parts).history) → new ≡ sent + 1 → MayPut (machines_in_key key) p q (the_part p v.parts).state x w.next
      → me ≡ (v, (slot_place n cap p q sent, Some x) ∷ cs) → Allows (RingsShow key) slots id me i (λ _. new) (λ _. StoresTail w (step slots i new 0 none) me new)
  store_asks i at me v cs sent new x says below busy is more may here =
      subst (λ (i : ℕ). Allows (RingsShow key) slots id me i (λ _. new) (λ _. StoresTail w (step slots i new 0 none) me new)) (sym at)
      (lift (λ a b u. q < a → me ≡ (v, (slot_place a b p q sent, Some x) ∷ cs)
      → Allows (RingsShow key) slots id me (tail_of a p q) (λ _. new) (λ _. StoresTail u (step slots (tail_of a p q) new 0 none) me new))
      (λ below' here'. subst (λ (m : M). Allows (RingsShow key) slots id m (tail_of key.roles p q) (λ _. new)
      (λ _. StoresTail (named key.roles key.capacity p q w.next w.arms (machines_in_key key)) (step slots (tail_of key.roles p q) new 0 none) m new))
      (sym (here' ∙ (λ i. (v, (slot_place key.roles key.capacity p q (is i), Some x) ∷ cs))))
      (subst (λ (nx : ℕ). Allows (RingsShow key) slots id (v, (slot_place key.roles key.capacity p q (length (parcels_sent q (the_part p v.parts).history)), Some x) ∷ cs) (tail_of key.roles p q)
      (λ _. new) (λ _. StoresTail (named key.roles key.capacity p q nx w.arms (machines_in_key key)) (step slots (tail_of key.roles p q) new 0 none)
      (v, (slot_place key.roles key.capacity p q (length (parcels_sent q (the_part p v.parts).history)), Some x) ∷ cs) new)) (sym may.goes)
      (stores_tail key slots id v cs p q new apart x w.arms may.arms may.arm (may.place, may.picks, may.same_label) may.has_sort says below' busy (more ∙ ap (λ (k : ℕ). k + 1) is) may.puts)))
      below here)

  pub free_asks : (i : ℕ) → i ≡ head_word_of n p q → (me : M) (v : View) (cs : List (ℕ × Option Parcel)) (got new : ℕ) (x : Parcel) → speaks q v.parts ≡ true → p < n
      → (the_part q v.parts).middle ≡ Taking p x → got ≡ length (parcels_got p (the_part q v.parts).history) → new ≡ got + 1 → MayTake (machines_in_key key) q p (the_part q v.parts).state x w.next
      → me ≡ (v, (slot_place n cap p q got, None) ∷ cs) → Allows (RingsShow key) slots id me i (λ _. new) (λ _. StoresHead w (step slots i new 0 none) me new)
  free_asks i at me v cs got new x says low busy is more may here =
      subst (λ (i : ℕ). Allows (RingsShow key) slots id me i (λ _. new) (λ _. StoresHead w (step slots i new 0 none) me new)) (sym at)
      (lift (λ a b u. p < a → me ≡ (v, (slot_place a b p q got, None) ∷ cs)
      → Allows (RingsShow key) slots id me (head_word_of a p q) (λ _. new) (λ _. StoresHead u (step slots (head_word_of a p q) new 0 none) me new))
      (λ low' here'. subst (λ (m : M). Allows (RingsShow key) slots id m (head_word_of key.roles p q) (λ _. new)
      (λ _. StoresHead (named key.roles key.capacity p q w.next w.arms (machines_in_key key)) (step slots (head_word_of key.roles p q) new 0 none) m new))
      (sym (here' ∙ (λ i. (v, (slot_place key.roles key.capacity p q (is i), None) ∷ cs))))
      (subst (λ (nx : ℕ). Allows (RingsShow key) slots id (v, (slot_place key.roles key.capacity p q (length (parcels_got p (the_part q v.parts).history)), None) ∷ cs) (head_word_of key.roles p q)
      (λ _. new) (λ _. StoresHead (named key.roles key.capacity p q nx w.arms (machines_in_key key)) (step slots (head_word_of key.roles p q) new 0 none)
      (v, (slot_place key.roles key.capacity p q (length (parcels_got p (the_part q v.parts).history)), None) ∷ cs) new)) (sym may.goes)
      (stores_head key slots id v cs p q new apart x w.arms may.arms may.arm (may.place, may.picks, may.same_label) may.has_sort says low' busy (more ∙ ap (λ (k : ℕ). k + 1) is) may.takes)))
      low here)

  -- the same, of what a load told
  pub head_loaded : (st : Step (Option Parcel)) (m m' : M) (r : ℕ) → LoadsHead w st m r m' → LoadsHead (named n cap p q w.next w.arms (machines_in_key key)) st m r m'
  head_loaded st m m' r t = subst (λ (u : Call). LoadsHead u st m r m') (is_named w n cap p q (machines_in_key key) nm) t

  pub head_looked_at : (st : Step (Option Parcel)) (m m' : M) (r : ℕ) → LooksAtHead w st m r m' → LooksAtHead (named n cap p q w.next w.arms (machines_in_key key)) st m r m'
  head_looked_at st m m' r t = subst (λ (u : Call). LooksAtHead u st m r m') (is_named w n cap p q (machines_in_key key) nm) t

  pub tail_loaded : (st : Step (Option Parcel)) (m m' : M) (r : ℕ) → LoadsTail w st m r m' → LoadsTail (named n cap p q w.next w.arms (machines_in_key key)) st m r m'
  tail_loaded st m m' r t = subst (λ (u : Call). LoadsTail u st m r m') (is_named w n cap p q (machines_in_key key) nm) t

  -- what a store of the tail did
  pub put_done : (v : View) (y : Part) (m m' : M) (k : ℕ) (x : Parcel) → speaks p v.parts ≡ true → y.role ≡ p → m ≡ (view_with_part p y v, (k, Some x) ∷ []) → GivesFilled w m m' m.1
      → Happened (machines_in_key key) p y.history (sent_act q x) × ((n : ℕ) × IsAfter p (sending q x w.next n y) v m')
  put_done v y m m' k x says role is told = let here = the_put_here p y v.parts role says in
      let t : GivesFilled (named n cap p q w.next w.arms (machines_in_key key)) (view_with_part p y v, (k, Some x) ∷ []) m' ((k, Some x) ∷ []) =
      subst (λ (z : M × Call). GivesFilled z.1 z.0 m' z.0.1) (λ i. (is i, is_named w n cap p q (machines_in_key key) nm i)) told in (
        subst (λ (z : Part). Happened (machines_in_key key) p z.history (sent_act q x)) here t.2,
        (
          t.0,
          after_after p y (sending q x w.next t.0 y) v m' says role role
              (t.1 ∙ (λ i. (view_with_part p (sending q x w.next t.0 (here i)) (view_with_part p y v), []))),
        ),
      )

  -- what a store of the head did
  pub took_done : (m m' : M) (k : ℕ) (x : Parcel) → speaks q m.0.parts ≡ true → (the_part q m.0.parts).middle ≡ Taking p x → m.1 ≡ (k, None) ∷ [] → GivesEmptied w m m' (own w.receiver m).middle
      → Happened (machines_in_key key) q (the_part q m.0.parts).history (got_act p x)
      × ((n : ℕ) × IsAfter q (getting p x w.next n (the_part q m.0.parts)) m.0 m')
  took_done m m' k x says busy cs told =
      let t : GivesEmptied (named n cap p q w.next w.arms (machines_in_key key)) m m' (the_part q m.0.parts).middle =
      subst (λ (u : Call). GivesEmptied u m m' (own u.receiver m).middle) (is_named w n cap p q (machines_in_key key) nm) told in
      let t' : GivesEmptied (named n cap p q w.next w.arms (machines_in_key key)) m m' (Taking p x) = subst (GivesEmptied (named n cap p q w.next w.arms (machines_in_key key)) m m') busy t in (
        t'.2,
        (
          t'.0,
          after q (getting p x w.next t'.0 (the_part q m.0.parts)) m.0 m' says (the_role q m.0.parts says)
              (t'.1 ∙ (λ i. (view_with_part q (getting p x w.next t'.0 (the_part q m.0.parts)) m.0, rest (cs i)))),
        ),
      )

abbrev pairing : ℕ → Option Parcel → ℕ × Option Parcel
pairing k x = (k, x)

-- the value that the exchange returned is the parcel that the load told of
pub took : (m m' : M) (p q r k s : ℕ) (x y : Parcel) (res : Option Parcel) (v : View) (a : Part) → m ≡ (view_with_part q (taking p x r a) v, (k, Some x) ∷ []) → m.1 ≡ (s, res) ∷ rest m.1
    → m' ≡ (m.0, (s, None) ∷ rest m.1) → res ≡ Some y
    → (x ≡ y) × (m' ≡ (view_with_part q (taking p y r a) v, (k, None) ∷ []))
took m m' p q r k s x y res v a was got now is =
    let l : (k, Some x) ∷ [] ≡ (s, res) ∷ rest m.1 = sym (ap (λ (z : M). z.1) was) ∙ got in
    let pair : pairing k (Some x) ≡ pairing s res = cc in let key : k ≡ s = ap (λ (z : ℕ × Option Parcel). z.0) pair in let same : Some x ≡ res =
    ap (λ (z : ℕ × Option Parcel). z.1) pair in let val : x ≡ y = cc in
    (val, now ∙ (λ i. ((was i).0, (sym key i, None) ∷ rest (was i).1)) ∙ (λ i. (view_with_part q (taking p (val i) r a) v, (k, None) ∷ [])))

pub took_some : (m : M) (k s : ℕ) (x : Parcel) (res : Option Parcel) (u : View) → m ≡ (u, (k, Some x) ∷ []) → m.1 ≡ (s, res) ∷ rest m.1 → res ≡ None → ⊥
took_some m k s x res u was got none' = let l : (k, Some x) ∷ [] ≡ (s, res) ∷ rest m.1 = sym (ap (λ (z : M). z.1) was) ∙ got in let pair : pairing k (Some x) ≡ pairing s res =
    cc in let same : Some x ≡ res = ap (λ (z : ℕ × Option Parcel). z.1) pair in let no : Some x ≡ None = same ∙ none' in cc

-- two changes of one part
pub after_twice : (p : ℕ) (y z : Part) (v u : View) (m : M) → speaks p v.parts ≡ true → y.role ≡ p → u ≡ view_with_part p y v → IsAfter p z u m → IsAfter p z v m
after_twice p y z v u m says role is a = record {
  part = a.part;
  empty = a.empty;
  spoken = λ r. a.spoken r ∙ ap (λ (u : View). speaks r u.parts) is ∙ speaks_put r p y v.parts role;
  others = λ r ne. a.others r ne ∙ ap (λ (u : View). the_part r u.parts) is ∙ the_put_other r p y v.parts role ne;
}
