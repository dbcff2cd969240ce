-- What a step tells makes it one of the six kinds.
use Rattle.std.proofs.Common.{◌≡◌, ℕ, ◌+◌, List, [], ◌∷◌, length, slice_index, slice_set, true, Option, Some, None, refl, sym, ap, ◌∙◌, subst, inl, inr, arith, length-append, get_or-set_same}
use mathlib.Core.Option.{some}
use native.Mathlib.Decide.{ℕ_discrete}
use mathlib.Core.Logic.{dite}
use lib.ListN.{get_elem?}
use Rattle.atomic_table.specs.Table.{State, Me, Step}
use Rattle.atomic_table.proofs.Lists.{set_here}
use Rattle.rs_slots.specs.declared.parcels.Parcel.{Parcel}
use Rattle.rs_rings.specs.Acts.{parcels_sent, parcels_got}
use Rattle.rs_rings.specs.Asked.{IsCallStep}
use Rattle.rs_rings.specs.Places.{head_word_of, tail_of}
use Rattle.rs_rings.specs.Rule.{RingsShow, machines_in_key}
use Rattle.rs_rings.specs.Shown.{Moves, LoadsHeadOf, StoresTailOf, LoadsTailOf, StoresHeadOf}
use Rattle.rs_rings.specs.Steps.{Call, LoadsHead, LooksAtHead, StoresTail, LoadsTail, StoresHead, GivesFilled, GivesEmptied}
use Rattle.rs_rings.specs.Views.{speaks, the_part, view_with_part, part_with_room, gaining, sending, part_with_parcel, taking, getting}
use Rattle.rs_rings.specs.declared.views.Key.{Key}
use Rattle.rs_rings.specs.declared.views.Middle.{Middle}
use Rattle.rs_rings.specs.declared.views.Middle.TheVariants.{Idle, Putting, Taking}
use Rattle.rs_rings.specs.declared.views.Part.{Part}
use Rattle.rs_rings.specs.declared.views.View.{View}
use Rattle.rs_rings.proofs.Legal.{sent_here, got_here}
use Rattle.rs_rings.proofs.OneRing.{at_below}
use Rattle.rs_rings.proofs.Parts.{the_role, known_is, speaks_put, the_put_here}
use Rattle.rs_rings.proofs.Places.{head_below, tail_below}
use Rattle.rs_rings.proofs.StepsAsked.{named, is_named}

abbrev St : Type 0
St = State (Option Parcel) View

abbrev M : Type 0
M = Me (Option Parcel) View

module _ (key : Key) (s t : St) (call : Call) (p q word new : ℕ) (m m' : M) (r : ℕ) (e : IsCallStep key s t r p q word new call m m') where
  abbrev same_call : Call
  same_call = named key.roles key.capacity p q call.next call.arms (machines_in_key key)

  call_is : call ≡ same_call
  call_is = is_named call key.roles key.capacity p q (machines_in_key key) e.on

  abbrev a : Part
  a = the_part r m.0.parts

  -- the seat knows y of its role behind the step
  moved : (y : Part) → m'.0 ≡ view_with_part r y m.0 → Moves s t r word new a y
  moved y is = record {
    seat = e.seat;
    view = m.0;
    present = e.present;
    speaks = e.speaks_for;
    knew = refl;
    words = ap (λ (z : St). z.words) e.becomes;
    views = ap (λ (z : St). z.views) e.becomes ∙ ap (λ (w : View). slice_set s.views e.seat w) is;
  }

  -- what is known of the role behind the step
  known_then : (th : RingsShow key t) (y : Part) → m'.0 ≡ view_with_part r y m.0 → y.role ≡ r → th.known r ≡ y
  known_then th y is role =
      let there : get_elem? t.views e.seat ≡ some m'.0 = ap (λ (z : St). get_elem? z.views e.seat) e.becomes ∙ set_here s.views e.seat m'.0 (at_below s.views e.seat m.0 e.present) in
      let says : speaks r m'.0.parts ≡ true = ap (λ (v : View). speaks r v.parts) is ∙ speaks_put r r y m.0.parts role ∙ e.speaks_for in
      (known_is key.roles th.owner th.known t.views th.spoken e.seat m'.0 there r says).1 ∙ ap (λ (v : View). the_part r v.parts) is ∙ the_put_here r y m.0.parts role e.speaks_for

  known_now : (sh : RingsShow key s) → sh.known r ≡ a
  known_now sh = (known_is key.roles sh.owner sh.known s.views sh.spoken e.seat m.0 e.present r e.speaks_for).1

  in_word : (word_is : word ≡ head_word_of key.roles p q) (sh : RingsShow key s) → slice_index t.words word ≡ new
  in_word is sh = let here = head_below key.roles p q e.pair in
      ap (λ (z : St). slice_index z.words word) e.becomes ∙ get_or-set_same s.words word new 0 (omega (arith, sh.word_count, is))

  in_tail : (word_is : word ≡ tail_of key.roles p q) (sh : RingsShow key s) → slice_index t.words word ≡ new
  in_tail is sh = let here = tail_below key.roles p q e.pair in
      ap (λ (z : St). slice_index z.words word) e.becomes ∙ get_or-set_same s.words word new 0 (omega (arith, sh.word_count, is))

module _ (key : Key) (s t : St) (call : Call) (p q : ℕ) (m m' : M) (st : Step (Option Parcel)) where
  abbrev ring_call : Call
  ring_call = named key.roles key.capacity p q call.next call.arms (machines_in_key key)

  pub head_loaded : IsCallStep key s t p p q (head_word_of key.roles p q) (slice_index s.words (head_word_of key.roles p q)) call m m'
      → LoadsHead call st m (slice_index s.words (head_word_of key.roles p q)) m' → LoadsHeadOf key s t p q
  head_loaded e told =
      let w : ℕ = head_word_of key.roles p q in let r : ℕ = slice_index s.words w in let a : Part = the_part p m.0.parts in
      let l : LoadsHead ring_call st m r m' = subst (λ (u : Call). LoadsHead u st m r m') (call_is key s t call p q w r m m' p e) told in
      dite (ℕ_discrete (length (parcels_sent q a.history)) (r + key.capacity))
      (λ full. record {
        knew = a;
        knows = part_with_room q r a;
        looks = inl refl;
        moves = moved key s t call p q w r m m' p e (part_with_room q r a) (ap (λ (z : M). z.0) (l.3 full));
      })
      (λ more. record {
        knew = a;
        knows = gaining q r a;
        looks = inr refl;
        moves = moved key s t call p q w r m m' p e (gaining q r a) (ap (λ (z : M). z.0) (l.4 more));
      })

  pub head_looked_at : IsCallStep key s t p p q (head_word_of key.roles p q) (slice_index s.words (head_word_of key.roles p q)) call m m'
      → LooksAtHead call st m (slice_index s.words (head_word_of key.roles p q)) m' → LoadsHeadOf key s t p q
  head_looked_at e told =
      let w : ℕ = head_word_of key.roles p q in let r : ℕ = slice_index s.words w in let a : Part = the_part p m.0.parts in
      let l : LooksAtHead ring_call st m r m' = subst (λ (u : Call). LooksAtHead u st m r m') (call_is key s t call p q w r m m' p e) told in
      record {
        knew = a;
        knows = part_with_room q r a;
        looks = inl refl;
        moves = moved key s t call p q w r m m' p e (part_with_room q r a) (ap (λ (z : M). z.0) l.3);
      }

  pub tail_loaded : IsCallStep key s t q p q (tail_of key.roles p q) (slice_index s.words (tail_of key.roles p q)) call m m'
      → LoadsTail call st m (slice_index s.words (tail_of key.roles p q)) m' → LoadsTailOf key s t p q
  tail_loaded e told =
      let w : ℕ = tail_of key.roles p q in let r : ℕ = slice_index s.words w in let b : Part = the_part q m.0.parts in
      let l : LoadsTail ring_call st m r m' = subst (λ (u : Call). LoadsTail u st m r m') (call_is key s t call p q w r m m' q e) told in
      dite (ℕ_discrete (length (parcels_got p b.history)) r)
      (λ empty. record {
        knew = b;
        knows = part_with_parcel p r b;
        looks = inl refl;
        moves = moved key s t call p q w r m m' q e (part_with_parcel p r b) (ap (λ (z : M). z.0) (l.3 empty));
      })
      (λ more. let found = l.4 more in record {
        knew = b;
        knows = taking p found.0 r b;
        looks = inr (found.0, refl);
        moves = moved key s t call p q w r m m' q e (taking p found.0 r b) (ap (λ (z : M). z.0) found.2);
      })

  pub tail_stored : (new : ℕ) → RingsShow key s → RingsShow key t → IsCallStep key s t p p q (tail_of key.roles p q) new call m m' → StoresTail call st m new m'
      → (x : Parcel) × StoresTailOf key s t p q x
  tail_stored new sh th e told = by m.1 (subst (λ (u : Call). StoresTail u st m new m') (call_is key s t call p q (tail_of key.roles p q) new m m' p e) told)
    where
      by : (cs : List (ℕ × Option Parcel)) → GivesFilled ring_call m m' cs → (x : Parcel) × StoresTailOf key s t p q x
      by [] g = absurd g
      by ((k, None) ∷ cs) g = absurd g
      by ((k, Some x) ∷ cs) g =
          let w : ℕ = tail_of key.roles p q in let a : Part = the_part p m.0.parts in
          let y : Part = sending q x call.next g.0 a in
          let is : m'.0 ≡ view_with_part p y m.0 = ap (λ (z : M). z.0) g.1 in
          let role : a.role ≡ p = the_role p m.0.parts e.speaks_for in
          let now = known_then key s t call p q w new m m' p e th y is role in
          let before = known_now key s t call p q w new m m' p e sh in
          let there : slice_index t.words w ≡ length (parcels_sent q y.history)
          = (th.rings p q e.pair.sender e.pair.receiver e.pair.differ).tail_is ∙ ap (λ (z : Part). length (parcels_sent q z.history)) now in
          let here : slice_index s.words w ≡ length (parcels_sent q a.history)
          = (sh.rings p q e.pair.sender e.pair.receiver e.pair.differ).tail_is ∙ ap (λ (z : Part). length (parcels_sent q z.history)) before in
          let grown : length (parcels_sent q y.history) ≡ length (parcels_sent q a.history) + 1 = ap length (sent_here q x a.history) ∙ length-append (parcels_sent q a.history) (x ∷ []) in
          let left = in_tail key s t call p q w new m m' p e refl sh in
          let one_more : new ≡ slice_index s.words w + 1 = sym left ∙ there ∙ grown ∙ ap (λ (k : ℕ). k + 1) (sym here) in (
            x,
            record {
              knew = a;
              next = call.next;
              loads = g.0;
              middle = g.3;
              may = g.4;
              moves = subst (λ (k : ℕ). Moves s t p w k a y) one_more (moved key s t call p q w new m m' p e y is);
            },
          )

  pub head_stored : (new : ℕ) → RingsShow key s → RingsShow key t → IsCallStep key s t q p q (head_word_of key.roles p q) new call m m' → StoresHead call st m new m'
      → (x : Parcel) × StoresHeadOf key s t p q x
  head_stored new sh th e told = by (the_part q m.0.parts).middle refl (subst (λ (u : Call). StoresHead u st m new m') (call_is key s t call p q (head_word_of key.roles p q) new m m' q e) told)
    where
      by : (mid : Middle) → (the_part q m.0.parts).middle ≡ mid → GivesEmptied ring_call m m' mid → (x : Parcel) × StoresHeadOf key s t p q x
      by Idle at g = absurd g
      by (Putting o) at g = absurd g
      by (Taking o x) at g =
          let w : ℕ = head_word_of key.roles p q in let b : Part = the_part q m.0.parts in
          let y : Part = getting p x call.next g.0 b in
          let is : m'.0 ≡ view_with_part q y m.0 = ap (λ (z : M). z.0) g.1 in
          let role : b.role ≡ q = the_role q m.0.parts e.speaks_for in
          let now = known_then key s t call p q w new m m' q e th y is role in
          let before = known_now key s t call p q w new m m' q e sh in
          let there : slice_index t.words w ≡ length (parcels_got p y.history)
          = (th.rings p q e.pair.sender e.pair.receiver e.pair.differ).head_is ∙ ap (λ (z : Part). length (parcels_got p z.history)) now in
          let here : slice_index s.words w ≡ length (parcels_got p b.history)
          = (sh.rings p q e.pair.sender e.pair.receiver e.pair.differ).head_is ∙ ap (λ (z : Part). length (parcels_got p z.history)) before in
          let grown : length (parcels_got p y.history) ≡ length (parcels_got p b.history) + 1 = ap length (got_here p x b.history) ∙ length-append (parcels_got p b.history) (x ∷ []) in
          let left = in_word key s t call p q w new m m' q e refl sh in
          let one_more : new ≡ slice_index s.words w + 1 = sym left ∙ there ∙ grown ∙ ap (λ (k : ℕ). k + 1) (sym here) in (
            x,
            record {
              knew = b;
              next = call.next;
              loads = g.0;
              middle = at ∙ ap (λ (o : ℕ). Taking o x) g.3;
              may = g.4;
              moves = subst (λ (k : ℕ). Moves s t q w k b y) one_more (moved key s t call p q w new m m' q e y is);
            },
          )
