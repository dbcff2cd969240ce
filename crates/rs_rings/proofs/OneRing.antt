-- One ring: what each kind of step does to its ring_facts.
use Rattle.std.proofs.Common.{◌≡◌, ◌≢◌, ◌⊎◌, ℕ, zero, suc, ◌+◌, ◌<◌, ◌≤◌, List, [], ◌∷◌, ◌++◌, length, drop, true, false, true≢false, refl, sym, ap, ◌∙◌, inl, inr, ⊎_elim, arith, length-append}
use Rattle.std.proofs.Common.{append_assoc, Option, Some, None}
use mathlib.Core.Option.{some, some-injective, some-ne-none}
use mathlib.Core.Option as maybe
use native.Mathlib.Decide.{ℕ_discrete}
use mathlib.Core.Logic.{dite}
use lib.ListN.{get_elem?}
use lib.Seq.{drop-append-le}
use Rattle.atomic_table.proofs.Lists.{at_longer, drop_at}
use Rattle.rs_slots.specs.declared.parcels.Parcel.{Parcel}
use Rattle.rs_rings.specs.Rule.{AreStamped, RingFacts, RingRule}

abbrev pub Slots : Type 0
Slots = ℕ → maybe.Option (maybe.Option (Option Parcel))

pub at_below : {A : Type 0} (l : List A) (k : ℕ) (x : A) → get_elem? l k ≡ some x → k < length l
at_below [] k x e = absurd (some-ne-none x (sym e))
at_below (y ∷ ys) zero x e = omega arith
at_below (y ∷ ys) (suc k) x e = let r = at_below ys k x e in omega arith

pub below_at : {A : Type 0} (l : List A) (k : ℕ) → k < length l → (x : A) × (get_elem? l k ≡ some x)
below_at [] k h = absurd (omega arith)
below_at (y ∷ ys) zero h = (y, refl)
below_at (y ∷ ys) (suc k) h = below_at ys k (omega arith)

pub at_snoc_where : {A : Type 0} (l : List A) (a b : A) (j : ℕ) → get_elem? (l ++ a ∷ []) j ≡ some b → (get_elem? l j ≡ some b) ⊎ ((j ≡ length l) × (a ≡ b))
at_snoc_where [] a b zero e = inr (refl, some-injective a b e)
at_snoc_where [] a b (suc j) e = absurd (some-ne-none b (sym e))
at_snoc_where (x ∷ xs) a b zero e = inl e
at_snoc_where (x ∷ xs) a b (suc j) e = ⊎_elim (λ t. inl t) (λ t. inr (ap suc t.0, t.1)) (at_snoc_where xs a b j e)

-- the peer has made one load more, which counted all
stamped_look : (xs : List ℕ) (count loads found r : ℕ) → r ≡ count → AreStamped xs count loads found → AreStamped xs count (suc loads) r
stamped_look xs count loads found r is s = record {
  each = s.each;
  before = λ k n at. let b = s.before k n at in omega arith;
  uncounted = λ k n l at. let b = at_below xs k n at in let e = s.each in absurd (omega arith);
}

-- one parcel more has a stamp
stamped_more : (xs : List ℕ) (count more loads found : ℕ) → more ≡ count + 1 → AreStamped xs count loads found → AreStamped (xs ++ loads ∷ []) more loads found
stamped_more xs count more loads found is s = record {
  each = (let long : length (xs ++ loads ∷ []) ≡ length xs + 1 = length-append xs (loads ∷ []) in let e = s.each in omega arith);
  before = λ k n at. ⊎_elim (λ old. s.before k n old) (λ (t : (k ≡ length xs) × (loads ≡ n)). let e = t.1 in omega arith) (at_snoc_where xs loads n k at);
  uncounted = λ k n l at. ⊎_elim (λ old. s.uncounted k n l old) (λ (t : (k ≡ length xs) × (loads ≡ n)). sym t.1) (at_snoc_where xs loads n k at);
}

module _ (cap : ℕ) (f : RingFacts) (fl : RingRule cap f) where
  pub behind : length f.got ≤ length f.sent
  behind = omega (arith, ap length fl.order, length-append f.got (drop (length f.got) f.sent))

  -- the slots of the window stay, but for that of the count at
  abbrev pub Stays : Slots → ℕ → Type 0
  Stays slot' at = (k : ℕ) → length f.got ≤ k → k < length f.got + cap → k ≢ at → slot' k ≡ f.slot k

  -- the sender read the head, and the ring is full
  pub looks_head : (h : ℕ) → f.seen_head ≤ h → h ≡ length f.got
      → RingRule cap record {
        tail = f.tail;
        head = f.head;
        slot = f.slot;
        sent = f.sent;
        got = f.got;
        seen_head = h;
        seen_tail = f.seen_tail;
        head_loads = suc f.head_loads;
        tail_loads = f.tail_loads;
        put_stamps = f.put_stamps;
        take_stamps = f.take_stamps;
        putting = f.putting;
        taking = f.taking;
      }
  looks_head h more is = record {
    tail_is = fl.tail_is;
    head_is = fl.head_is;
    order = fl.order;
    room = fl.room;
    full = fl.full;
    free = fl.free;
    takes = fl.takes;
    finds = fl.finds;
    puts = λ e. let p = fl.puts e in omega arith;
    read_head = omega (arith, is);
    read_tail = fl.read_tail;
    puts_stamped = fl.puts_stamped;
    takes_stamped = stamped_look f.take_stamps (length f.got) f.head_loads f.seen_head h is fl.takes_stamped;
  }

  pub looks_tail : (t : ℕ) → f.seen_tail ≤ t → t ≡ length f.sent
      → RingRule cap record {
        tail = f.tail;
        head = f.head;
        slot = f.slot;
        sent = f.sent;
        got = f.got;
        seen_head = f.seen_head;
        seen_tail = t;
        head_loads = f.head_loads;
        tail_loads = suc f.tail_loads;
        put_stamps = f.put_stamps;
        take_stamps = f.take_stamps;
        putting = f.putting;
        taking = f.taking;
      }
  looks_tail t more is = record {
    tail_is = fl.tail_is;
    head_is = fl.head_is;
    order = fl.order;
    room = fl.room;
    full = fl.full;
    free = fl.free;
    takes = fl.takes;
    finds = λ x e. let p = fl.finds x e in omega arith;
    puts = fl.puts;
    read_head = fl.read_head;
    read_tail = omega (arith, is);
    puts_stamped = stamped_look f.put_stamps (length f.sent) f.tail_loads f.seen_tail t is fl.puts_stamped;
    takes_stamped = fl.takes_stamped;
  }

  -- the sender read the head, and gained the slot of the tail
  pub gains_free : (slot' : Slots) (h : ℕ) → f.putting ≡ false → length f.sent < h + cap → Stays slot' (length f.sent) → h ≡ length f.got
      → RingRule cap record {
        tail = f.tail;
        head = f.head;
        slot = slot';
        sent = f.sent;
        got = f.got;
        seen_head = h;
        seen_tail = f.seen_tail;
        head_loads = suc f.head_loads;
        tail_loads = f.tail_loads;
        put_stamps = f.put_stamps;
        take_stamps = f.take_stamps;
        putting = true;
        taking = f.taking;
      }
  gains_free slot' h still room stays is = record {
    tail_is = fl.tail_is;
    head_is = fl.head_is;
    order = fl.order;
    room = fl.room;
    full = λ k x from at or. let b = at_below f.sent k x at in stays k from (omega arith) (λ e. omega arith) ∙ fl.full k x from at or;
    free = λ k from below or. let l = behind in ⊎_elim (λ (e : true ≡ false). absurd (true≢false e)) (λ ne. stays k (omega arith) below ne ∙ fl.free k from below (inl still)) or;
    takes = fl.takes;
    finds = fl.finds;
    puts = λ _. room;
    read_head = omega (arith, is);
    read_tail = fl.read_tail;
    puts_stamped = fl.puts_stamped;
    takes_stamped = stamped_look f.take_stamps (length f.got) f.head_loads f.seen_head h is fl.takes_stamped;
  }

  -- the sender stored the tail, and gave the slot home with x
  pub gives_full : (slot' : Slots) (new : ℕ) (x : Parcel) → new ≡ length f.sent + 1 → f.putting ≡ true → Stays slot' (length f.sent) → slot' (length f.sent) ≡ some (some (Some x))
      → RingRule cap record {
        tail = new;
        head = f.head;
        slot = slot';
        sent = f.sent ++ x ∷ [];
        got = f.got;
        seen_head = f.seen_head;
        seen_tail = f.seen_tail;
        head_loads = f.head_loads;
        tail_loads = f.tail_loads;
        put_stamps = f.put_stamps ++ f.tail_loads ∷ [];
        take_stamps = f.take_stamps;
        putting = false;
        taking = f.taking;
      }
  gives_full slot' new x is busy stays here =
      let l = behind in let h = fl.read_head in let p = fl.puts busy in let n = length-append f.sent (x ∷ []) in let n' : length (f.sent ++ x ∷ []) ≡ length f.sent + 1 = n in record {
        tail_is = is ∙ sym n';
        head_is = fl.head_is;
        order = ap (λ (y : List Parcel). y ++ x ∷ []) fl.order ∙ append_assoc f.got (drop (length f.got) f.sent) (x ∷ [])
            ∙ ap (λ (y : List Parcel). f.got ++ y) (sym (drop-append-le (length f.got) f.sent (x ∷ []) l));
        room = omega arith;
        full = λ k y from at or. ⊎_elim (λ old. let b = at_below f.sent k y old in stays k from (omega arith) (λ e. omega arith) ∙ fl.full k y from old or)
            (λ (t : (k ≡ length f.sent) × (x ≡ y)). ap slot' t.0 ∙ here ∙ ap (λ z. some (some (Some z))) t.1) (at_snoc_where f.sent x y k at);
        free = λ k from below or. let far : k ≢ length f.sent = λ e. omega arith in stays k (omega arith) below far ∙ fl.free k (omega arith) below (inr far);
        takes = λ y t. at_longer f.sent (x ∷ []) (length f.got) y (fl.takes y t);
        finds = fl.finds;
        puts = λ e. absurd (true≢false (sym e));
        read_head = fl.read_head;
        read_tail = let r = fl.read_tail in omega arith;
        puts_stamped = stamped_more f.put_stamps (length f.sent) (length (f.sent ++ x ∷ [])) f.tail_loads f.seen_tail n' fl.puts_stamped;
        takes_stamped = fl.takes_stamped;
      }

  -- the receiver read the tail, and gained the slot of the head
  pub gains_full : (slot' : Slots) (t : ℕ) (x : Parcel) → f.taking ≡ None → get_elem? f.sent (length f.got) ≡ some x → Stays slot' (length f.got) → length f.got < t → t ≡ length f.sent
      → RingRule cap record {
        tail = f.tail;
        head = f.head;
        slot = slot';
        sent = f.sent;
        got = f.got;
        seen_head = f.seen_head;
        seen_tail = t;
        head_loads = f.head_loads;
        tail_loads = suc f.tail_loads;
        put_stamps = f.put_stamps;
        take_stamps = f.take_stamps;
        putting = f.putting;
        taking = Some x;
      }
  gains_full slot' t x still first stays above is = let low = at_below f.sent (length f.got) x first in record {
    tail_is = fl.tail_is;
    head_is = fl.head_is;
    order = fl.order;
    room = fl.room;
    full = λ k y from at or. let b = at_below f.sent k y at in let r = fl.room in ⊎_elim (λ (e : Some x ≡ None). cc) (λ ne. stays k from (omega arith) ne ∙ fl.full k y from at (inl still)) or;
    free = λ k from below or. stays k (omega arith) below (λ e. omega arith) ∙ fl.free k from below or;
    takes = λ y e. let same : x ≡ y = cc in first ∙ ap some same;
    finds = λ y e. above;
    puts = fl.puts;
    read_head = fl.read_head;
    read_tail = omega (arith, is);
    puts_stamped = stamped_look f.put_stamps (length f.sent) f.tail_loads f.seen_tail t is fl.puts_stamped;
    takes_stamped = fl.takes_stamped;
  }

  -- the receiver stored the head, and gave the slot home, empty
  pub gives_free : (slot' : Slots) (new : ℕ) (x : Parcel) → new ≡ length f.got + 1 → f.taking ≡ Some x → Stays slot' (length f.got) → slot' (length f.got + cap) ≡ some (some None)
      → RingRule cap record {
        tail = f.tail;
        head = new;
        slot = slot';
        sent = f.sent;
        got = f.got ++ x ∷ [];
        seen_head = f.seen_head;
        seen_tail = f.seen_tail;
        head_loads = f.head_loads;
        tail_loads = f.tail_loads;
        put_stamps = f.put_stamps;
        take_stamps = f.take_stamps ++ f.head_loads ∷ [];
        putting = f.putting;
        taking = None;
      }
  gives_free slot' new x is busy stays here =
      let first = fl.takes x busy in let low = at_below f.sent (length f.got) x first in let n' : length (f.got ++ x ∷ []) ≡ length f.got + 1 = length-append f.got
      (x ∷ []) in let r = fl.room in record {
        tail_is = fl.tail_is;
        head_is = is ∙ sym n';
        order = fl.order ∙ ap (λ (y : List Parcel). f.got ++ y) (drop_at f.sent (length f.got) x first) ∙ sym (append_assoc f.got (x ∷ []) (drop (suc (length f.got)) f.sent))
            ∙ ap (λ (k : ℕ). (f.got ++ x ∷ []) ++ drop k f.sent) (let e : suc (length f.got) ≡ length (f.got ++ x ∷ []) = omega arith in e);
        room = omega arith;
        full = λ k y from at or. let b = at_below f.sent k y at in let far : k ≢ length f.got = λ e. omega arith in stays k (omega arith) (omega arith) far ∙ fl.full k y (omega arith) at (inr far);
        free = λ k from below or. dite (ℕ_discrete k (length f.got + cap)) (λ e. ap slot' e ∙ here)
            (λ ne. let in_window : k < length f.got + cap = omega arith in stays k (omega arith) in_window (λ e. omega arith) ∙ fl.free k from in_window or);
        takes = λ y e. cc;
        finds = λ y e. cc;
        puts = fl.puts;
        read_head = let h = fl.read_head in omega arith;
        read_tail = fl.read_tail;
        puts_stamped = fl.puts_stamped;
        takes_stamped = stamped_more f.take_stamps (length f.got) (length (f.got ++ x ∷ [])) f.head_loads f.seen_head n' fl.takes_stamped;
      }
