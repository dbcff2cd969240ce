-- What a pass keeps, over the calls.
use Rattle.std.proofs.Common.{rules, ◌≡◌, ◌≢◌, ℕ, zero, suc, ◌+◌, ◌<◌, ◌≤◌, List, [], ◌∷◌, ◌++◌, length, replicate, flat_map, Bool, true, false, true≢false, refl, sym, ap, ◌∙◌, subst, inl, inr}
use Rattle.std.proofs.Common.{⊎_elim, arith, Option, Some, None, IfSome, IsSome, slice_get, slice_set, length-append, if◌then◌else◌, ◌==◌, eq-eqb, ne_eqb}
use Rattle.std.proofs.lemmas.Bool.Decides.{eqb_tells}
use Rattle.std.proofs.lemmas.Option.{slice_get_within}
use native.Mathlib.Decide.{ℕ_discrete, dec_le}
use mathlib.Core.Logic.{dite}
use Rattle.std.specs.Global.{Box}
use Rattle.atomic_table.specs.Table.{Me}
use Rattle.rs_model.proofs.Lists.{item_at}
use Rattle.rs_model.specs.Data.{Machine_data}
use Rattle.rs_model.specs.declared.graph.Arm.{Arm}
use Rattle.rs_model.specs.declared.graph.Role.{Role}
use Rattle.rs_model.specs.declared.machines.State.{State}
use Rattle.rs_model.specs.declared.machines.State.TheVariants.{Puts, Takes}
use Rattle.rs_core.specs.Choices.{AreWellFormed}
use Rattle.rs_core.specs.Configurations.{state_of}
use Rattle.rs_core.specs.Ways.{arm_with}
use Rattle.rs_core.specs.Histories.{Action, Sent, Got, History}
use Rattle.rs_rings.proofs.Arms.{arm_at, arm_found}
use Rattle.rs_core.proofs.Stands.{here_is}
use Rattle.rs_slots.specs.declared.parcels.Parcel.{Parcel}
use Rattle.rs_slots.specs.Places.{IsPair}
use Rattle.rs_rings.specs.Asked.{IsIdleAt, MayAct}
use Rattle.rs_rings.specs.Acts.{role_of_number, sent_act, got_act, MayPut, parcels_sent, parcels_got, parcel_sent, parcel_got}
use Rattle.rs_rings.specs.Passes.{CanPut, CanTake, IsChanged, SendsTo}
use Rattle.rs_rings.specs.Rows.{row_at, with_sent_count, with_got_count, new_row, either_row, row_at_start, RowShows, IsBetweenCalls}
use Rattle.rs_rings.specs.Told.{arms_in_state, IsAfter}
use Rattle.rs_rings.specs.Views.{starting, speaks, the_part, parts_without, view_without_role, alone, joint_view, start_of, gaining, sending, taking, getting}
use Rattle.rs_rings.specs.declared.rows.Row.{Row}
use Rattle.rs_rings.specs.declared.views.Middle.TheVariants.{Idle}
use Rattle.rs_rings.specs.declared.views.Part.{Part}
use Rattle.rs_rings.specs.declared.views.View.{View}
use Rattle.rs_rings.proofs.Legal.{last_none, sent_here, sent_other, got_here, got_other}
use Rattle.rs_rings.proofs.Parts.{the_role}
use Rattle.rs_rings.proofs.Seats.{speaks_without, speaks_gone, the_without, speaks_one, speaks_left, speaks_right, the_left, the_right, bool_cases, first_speaks, first_part_is, first_below}

abbrev pub M : Type 0
M = Me (Option Parcel) View

abbrev pub Items : Type 0
Items = List (Option (Box Row))

set_same : {A : Type 0} (xs : List A) (i : ℕ) (y z : A) → slice_get xs i ≡ Some y → slice_get (slice_set xs i z) i ≡ Some z
set_same [] i y z e = absurd (cc (e))
set_same (x ∷ xs) zero y z e = refl
set_same (x ∷ xs) (suc i) y z e = set_same xs i y z e

set_other : {A : Type 0} (xs : List A) (i j : ℕ) (z : A) → j ≢ i → slice_get (slice_set xs i z) j ≡ slice_get xs j
set_other [] i j z ne = refl
set_other (x ∷ xs) zero zero z ne = absurd (ne refl)
set_other (x ∷ xs) zero (suc j) z ne = refl
set_other (x ∷ xs) (suc i) zero z ne = refl
set_other (x ∷ xs) (suc i) (suc j) z ne = set_other xs i j z (λ e. ne (ap suc e))

-- one part changes, and its row
pub kept_change : (m m' : M) (items items' : Items) (p : ℕ) (y : Part) → IsBetweenCalls m items → speaks p m.0.parts ≡ true → IsAfter p y m.0 m' → y.middle ≡ Idle
    → (row : Row) → row_at items' p ≡ Some row → RowShows row y → ((k : ℕ) → k ≢ p → row_at items' k ≡ row_at items k) → IsBetweenCalls m' items'
kept_change m m' items items' p y kept says a idle row here shows other = record {
  empty = a.empty;
  bounded = λ r s. kept.bounded r (sym (a.spoken r) ∙ s);
  idle = λ r s. dite (ℕ_discrete r p) (λ e. ap (λ (k : ℕ). (the_part k m'.0.parts).middle) e ∙ ap (λ (z : Part). z.middle) a.part ∙ idle)
      (λ ne. ap (λ (z : Part). z.middle) (a.others r ne) ∙ kept.idle r (sym (a.spoken r) ∙ s));
  rows = λ r s. dite (ℕ_discrete r p) (λ e. (row, ap (row_at items') e ∙ here, subst (RowShows row) (sym (ap (λ (k : ℕ). the_part k m'.0.parts) e ∙ a.part)) shows))
      (λ ne. let t = kept.rows r (sym (a.spoken r) ∙ s) in (t.0, other r ne ∙ t.1, subst (RowShows t.0) (sym (a.others r ne)) t.2));
  only = λ r l row' e. dite (ℕ_discrete r p) (λ is. a.spoken r ∙ ap (λ (k : ℕ). speaks k m.0.parts) is ∙ says) (λ ne. a.spoken r ∙ kept.only r l row' (sym (other r ne) ∙ e));
}

-- nothing changes but the loads
pub kept_looked : (m m' : M) (items : Items) (p : ℕ) (y : Part) → IsBetweenCalls m items → speaks p m.0.parts ≡ true → IsAfter p y m.0 m' → y.middle ≡ (the_part p m.0.parts).middle
    → y.state ≡ (the_part p m.0.parts).state → y.history ≡ (the_part p m.0.parts).history → IsBetweenCalls m' items
kept_looked m m' items p y kept says a mid st hist = let t = kept.rows p says in
    kept_change m m' items items p y kept says a (mid ∙ kept.idle p says) t.0 t.1
    record {
      state = t.2.state ∙ sym st;
      sent = λ q l. t.2.sent q l ∙ ap (λ (h : History). Some (length (parcels_sent q h))) (sym hist);
      got = λ q l. t.2.got q l
          ∙ ap (λ (h : History). Some (length (parcels_got q h))) (sym hist);
    }
    (λ k ne. refl)

one_more : (xs : List Parcel) (x : Parcel) → length (xs ++ x ∷ []) ≡ length xs + 1
one_more xs x = length-append xs (x ∷ [])

row_sent : (row : Row) (a : Part) (q : ℕ) (x : Parcel) (n next loads count : ℕ) → q < 16 → RowShows row a → count ≡ length (parcels_sent q a.history) + 1
    → RowShows record { state = next; sent = slice_set row.sent q count; got = row.got } (sending q x next loads (gaining q n a))
row_sent row a q x n next loads count l shows is = record {
  state = refl;
  sent = λ y ly. dite (ℕ_discrete y q)
      (λ e. ap (slice_get (slice_set row.sent q count)) e ∙ set_same row.sent q (length (parcels_sent q a.history)) count (shows.sent q l)
      ∙ ap (λ (k : ℕ). Some k)
      (is ∙ sym (one_more (parcels_sent q a.history) x) ∙ ap length (sym (sent_here q x a.history)) ∙ ap (λ (k : ℕ). length (parcels_sent k (a.history ++ sent_act q x ∷ []))) (sym e)))
      (λ ne. set_other row.sent q y count ne ∙ shows.sent y ly ∙ ap (λ (l : List Parcel). Some (length l)) (sym (sent_other y q x a.history ne)));
  got = λ y ly. shows.got y ly ∙ ap (λ (l : List Parcel). Some (length l)) (sym (last_none (parcel_got y) a.history (sent_act q x) refl));
}

row_got : (row : Row) (b : Part) (p : ℕ) (x : Parcel) (n next loads count : ℕ) → p < 16 → RowShows row b → count ≡ length (parcels_got p b.history) + 1
    → RowShows record { state = next; sent = row.sent; got = slice_set row.got p count } (getting p x next loads (taking p x n b))
row_got row b p x n next loads count l shows is = record {
  state = refl;
  sent = λ y ly. shows.sent y ly ∙ ap (λ (l : List Parcel). Some (length l)) (sym (last_none (parcel_sent y) b.history (got_act p x) refl));
  got = λ y ly. dite (ℕ_discrete y p)
      (λ e. ap (slice_get (slice_set row.got p count)) e ∙ set_same row.got p (length (parcels_got p b.history)) count (shows.got p l)
      ∙ ap (λ (k : ℕ). Some k)
      (is ∙ sym (one_more (parcels_got p b.history) x) ∙ ap length (sym (got_here p x b.history)) ∙ ap (λ (k : ℕ). length (parcels_got k (b.history ++ got_act p x ∷ []))) (sym e)))
      (λ ne. set_other row.got p y count ne ∙ shows.got y ly ∙ ap (λ (l : List Parcel). Some (length l)) (sym (got_other y p x b.history ne)));
}

at_here : {A : Type 0} (k p : ℕ) (a b : A) → k ≡ p → (if k == p then a else b) ≡ a
at_here k p a b e = rw (eq-eqb k p e) refl

at_else : {A : Type 0} (k p : ℕ) (a b : A) → k ≢ p → (if k == p then a else b) ≡ b
at_else k p a b ne = rw (ne_eqb k p ne) refl

pub kept_put : (m m' : M) (items items' : Items) (p q : ℕ) (x : Parcel) (n next loads count : ℕ) → q < 16 → IsBetweenCalls m items → speaks p m.0.parts ≡ true
    → IsAfter p (sending q x next loads (gaining q n (the_part p m.0.parts))) m.0 m'
    → count ≡ length (parcels_sent q (the_part p m.0.parts).history) + 1 → ((k : ℕ) → row_at items' k ≡ (if k == p then with_sent_count q count next (row_at items k) else row_at items k))
    → IsBetweenCalls m' items'
kept_put m m' items items' p q x n next loads count l kept says a is noted = let t = kept.rows p says in
    kept_change m m' items items' p (sending q x next loads (gaining q n (the_part p m.0.parts))) kept says a refl record { state = next; sent = slice_set t.0.sent q count; got = t.0.got }
    (noted p ∙ at_here p p (with_sent_count q count next (row_at items p)) (row_at items p) refl ∙ ap (with_sent_count q count next) t.1)
    (row_sent t.0 (the_part p m.0.parts) q x n next loads count l t.2 is)
    (λ k ne. noted k ∙ at_else k p (with_sent_count q count next (row_at items k)) (row_at items k) ne)

pub kept_got : (m m' : M) (items items' : Items) (q p : ℕ) (x : Parcel) (n next loads count : ℕ) → p < 16 → IsBetweenCalls m items → speaks q m.0.parts ≡ true
    → IsAfter q (getting p x next loads (taking p x n (the_part q m.0.parts))) m.0 m'
    → count ≡ length (parcels_got p (the_part q m.0.parts).history) + 1 → ((k : ℕ) → row_at items' k ≡ (if k == q then with_got_count p count next (row_at items k) else row_at items k))
    → IsBetweenCalls m' items'
kept_got m m' items items' q p x n next loads count l kept says a is noted = let t = kept.rows q says in
    kept_change m m' items items' q (getting p x next loads (taking p x n (the_part q m.0.parts))) kept says a refl record { state = next; sent = t.0.sent; got = slice_set t.0.got p count }
    (noted q ∙ at_here q q (with_got_count p count next (row_at items q)) (row_at items q) refl ∙ ap (with_got_count p count next) t.1)
    (row_got t.0 (the_part q m.0.parts) p x n next loads count l t.2 is)
    (λ k ne. noted k ∙ at_else k q (with_got_count p count next (row_at items k)) (row_at items k) ne)

-- a cut
pub kept_left : (v : View) (items items' : Items) (r : ℕ) → IsBetweenCalls (v, []) items → ((k : ℕ) → row_at items' k ≡ (if k == r then None else row_at items k))
    → IsBetweenCalls (view_without_role r v, []) items'
kept_left v items items' r kept cut = record {
  empty = refl;
  bounded = λ k s. kept.bounded k (still k s);
  idle = λ k s. ap (λ (z : Part). z.middle) (the_without k r v.parts (apart k s)) ∙ kept.idle k (still k s);
  rows = λ k s. let t = kept.rows k (still k s) in (t.0, cut k ∙ at_else k r None (row_at items k) (apart k s) ∙ t.1, subst (RowShows t.0) (sym (the_without k r v.parts (apart k s))) t.2);
  only = λ k l row e. dite (ℕ_discrete k r) (λ is. let no' : None ≡ Some row = sym (cut k ∙ at_here k r None (row_at items k) is) ∙ e in cc (no'))
      (λ ne. speaks_without k r v.parts ne ∙ kept.only k l row (sym (cut k ∙ at_else k r None (row_at items k) ne) ∙ e));
}
  where
    apart : (k : ℕ) → speaks k (parts_without r v.parts) ≡ true → k ≢ r
    apart k s is = true≢false (sym s ∙ ap (λ (z : ℕ). speaks z (parts_without r v.parts)) is ∙ speaks_gone r v.parts)

    still : (k : ℕ) → speaks k (parts_without r v.parts) ≡ true → speaks k v.parts ≡ true
    still k s = sym (speaks_without k r v.parts (apart k s)) ∙ s

pub kept_alone : (v : View) (items items' : Items) (r : ℕ) → IsBetweenCalls (v, []) items → speaks r v.parts ≡ true → ((k : ℕ) → row_at items' k ≡ (if k == r then row_at items k else None))
    → IsBetweenCalls (alone r v, []) items'
kept_alone v items items' r kept says cut = record {
  empty = refl;
  bounded = λ k s. subst (λ (z : ℕ). z < 16) (sym (is k s)) (kept.bounded r says);
  idle = λ k s. ap (λ (z : Part). z.middle) (part k (is k s)) ∙ kept.idle r says;
  rows = λ k s. let t = kept.rows r says in (t.0, cut k ∙ at_here k r (row_at items k) None (is k s) ∙ ap (row_at items) (is k s) ∙ t.1, subst (RowShows t.0) (sym (part k (is k s))) t.2);
  only = λ k l row e. dite (ℕ_discrete k r) (λ same. subst (λ (b : Bool). (if b then true else false) ≡ true) (sym (eq-eqb k (the_part r v.parts).role (same ∙ sym role))) refl)
      (λ ne. let no' : None ≡ Some row = sym (cut k ∙ at_else k r (row_at items k) None ne) ∙ e in cc (no'));
}
  where
    role : (the_part r v.parts).role ≡ r
    role = the_role r v.parts says

    is : (k : ℕ) → speaks k (the_part r v.parts ∷ []) ≡ true → k ≡ r
    is k s = speaks_one k (the_part r v.parts) s ∙ role

    part : (k : ℕ) → k ≡ r → the_part k (the_part r v.parts ∷ []) ≡ the_part r v.parts
    part k same = subst (λ (b : Bool). (if b then the_part r v.parts else the_part k []) ≡ the_part r v.parts) (sym (eq-eqb k (the_part r v.parts).role (same ∙ sym role))) refl

-- a join
pub kept_joined : (v w : View) (items others items' : Items) → IsBetweenCalls (v, []) items → IsBetweenCalls (w, []) others
    → ((k : ℕ) → k < 16 → row_at items' k ≡ either_row (row_at items k) (row_at others k)) → IsBetweenCalls (joint_view v w, []) items'
kept_joined v w items others items' one two both = record {
  empty = refl;
  bounded = λ k s. ⊎_elim (λ a. one.bounded k a) (λ no'. two.bounded k (sym (speaks_right k v.parts w.parts no') ∙ s)) (bool_cases (speaks k v.parts));
  idle = λ k s. ⊎_elim (λ a. ap (λ (z : Part). z.middle) (the_left k v.parts w.parts a) ∙ one.idle k a)
      (λ no'. ap (λ (z : Part). z.middle) (the_right k v.parts w.parts no') ∙ two.idle k (sym (speaks_right k v.parts w.parts no') ∙ s)) (bool_cases (speaks k v.parts));
  rows = λ k s. ⊎_elim
      (λ a. let t = one.rows k a in (t.0, both k (one.bounded k a) ∙ ap (λ (o : Option Row). either_row o (row_at others k)) t.1, subst (RowShows t.0) (sym (the_left k v.parts w.parts a)) t.2))
      (λ no'. let s' : speaks k w.parts ≡ true = sym (speaks_right k v.parts w.parts no') ∙ s in let t = two.rows k s' in (
        t.0,
        both k (two.bounded k s') ∙ ap (λ (o : Option Row). either_row o (row_at others k)) (none_at k (two.bounded k s') no' (row_at items k) refl)
            ∙ t.1,
        subst (RowShows t.0) (sym (the_right k v.parts w.parts no')) t.2,
      ))
      (bool_cases (speaks k v.parts));
  only = λ k l row e. ⊎_elim (λ a. speaks_left k v.parts w.parts a)
      (λ no'. speaks_right k v.parts w.parts no' ∙ two.only k l row (sym (ap (λ (o : Option Row). either_row o (row_at others k)) (none_at k l no' (row_at items k) refl)) ∙ sym (both k l) ∙ e))
      (bool_cases (speaks k v.parts));
}
  where
    none_at : (k : ℕ) → k < 16 → speaks k v.parts ≡ false → (o : Option Row) → row_at items k ≡ o → row_at items k ≡ None
    none_at k l no' None e = e
    none_at k l no' (Some row) e = absurd (true≢false (sym (one.only k l row e) ∙ no'))

-- the start
zeros_at : (k q : ℕ) → q < k → (let z : ℕ = 0 in slice_get (replicate k z) q ≡ Some z)
zeros_at zero q l = absurd (omega arith)
zeros_at (suc k) zero l = refl
zeros_at (suc k) (suc q) l = zeros_at k q (omega arith)

pub kept_first : (ms : List Machine_data) (items : Items) → length ms ≤ 16 → ((k : ℕ) → k < length ms → row_at items k ≡ row_at_start (slice_get ms k))
    → ((k : ℕ) → length ms ≤ k → row_at items k ≡ None) → IsBetweenCalls (starting ms, []) items
kept_first ms items small some' none' = let n : ℕ = length ms in record {
  empty = refl;
  bounded = λ r s. let l = first_below ms n r s in omega arith;
  idle = λ r s. ap (λ (z : Part). z.middle) (first_part_is ms n r (first_below ms n r s));
  rows = λ r s. let l = first_below ms n r s in let t = item_at ms r l in (
    new_row t.0.start,
    some' r l ∙ ap row_at_start t.1,
    subst (RowShows (new_row t.0.start)) (sym (first_part_is ms n r l)) record { state = sym (ap start_of t.1); sent = λ q lq. zeros_at 16 q lq; got = λ q lq. zeros_at 16 q lq },
  );
  only = λ r l row e. dite (dec_le n r) (λ high. let no' : None ≡ Some row = sym (none' r high) ∙ e in cc (no')) (λ low. first_speaks ms n r (omega arith));
}

-- what conditions of the calls give
pub may_put : (ms : List Machine_data) (p : ℕ) (q : Role) (s : ℕ) (x : Parcel) (next : ℕ) → AreWellFormed ms → (can : CanPut ms p q s x) → IfSome (arm_with can.1.arms x.label) (λ a. next ≡ a.next)
    → MayPut ms p q.0 s x next
may_put ms p q s x next well_formed can goes = by (arm_with may.arms x.label) refl goes
  where
    may : MayPut ms p q.0 s x can.0
    may = can.1

    by : (o : Option Arm) → arm_with may.arms x.label ≡ o → IfSome o (λ a. next ≡ a.next) → MayPut ms p q.0 s x next
    by None e g = absurd (arm_found may.arms x.label may.place may.arm may.picks may.same_label e)
    by (Some arm) e g = let found = arm_at may.arms x.label arm e in
        let at = here_is (slice_get ms p) s (Puts q may.arms) may.puts in
        let once : may.place ≡ found.0 = ((well_formed.fits p at.0 at.1).puts s q may.arms at.2).once may.place found.0 may.arm arm may.picks found.1 (may.same_label ∙ sym found.2) in
        let same' : Some may.arm ≡ Some arm = sym may.picks ∙ ap (slice_get may.arms) once ∙ found.1 in
        let same : may.arm ≡ arm = cc in
        record {
          arms = may.arms;
          place = may.place;
          arm = may.arm;
          puts = may.puts;
          picks = may.picks;
          same_label = may.same_label;
          has_sort = may.has_sort;
          goes = g
              ∙ ap (λ (a : Arm). a.next) (sym same);
        }

pub some_arm : (ms : List Machine_data) (p : ℕ) (q : Role) (s : ℕ) (x : Parcel) → (can : CanPut ms p q s x) → (arm : Arm) × (arm_with can.1.arms x.label ≡ Some arm)
some_arm ms p q s x can = by (arm_with can.1.arms x.label) refl
  where
    by : (o : Option Arm) → arm_with can.1.arms x.label ≡ o → (arm : Arm) × (arm_with can.1.arms x.label ≡ Some arm)
    by None e = absurd (arm_found can.1.arms x.label can.1.place can.1.arm can.1.picks can.1.same_label e)
    by (Some arm) e = (arm, e)

pub send_pair : (ms : List Machine_data) (p : ℕ) (q : Role) (s : ℕ) → AreWellFormed ms → SendsTo ms p q s → IsPair (length ms) p q.0
send_pair ms p q s well_formed sends = let at = here_is (slice_get ms p) s (Puts q sends.arms) sends.puts in let fit = (well_formed.fits p at.0 at.1).puts s q sends.arms at.2 in
    record { sender = slice_get_within ms p at.0 at.1; receiver = fit.known; differ = λ e. fit.other (ap role_of_number (sym e ∙ sym (well_formed.role p at.0 at.1))) }

pub take_pair : (ms : List Machine_data) (q : ℕ) (p : Role) (s : ℕ) → AreWellFormed ms → CanTake ms q p s → IsPair (length ms) q p.0
take_pair ms q p s well_formed can = let at = here_is (slice_get ms q) s (Takes p can.arms) can.takes in let fit = (well_formed.fits q at.0 at.1).takes s p can.arms at.2 in
    record { sender = slice_get_within ms q at.0 at.1; receiver = fit.known; differ = λ e. fit.other (ap role_of_number (sym e ∙ sym (well_formed.role q at.0 at.1))) }

-- no more parcels than acts
pub few_parcels : (f : Action → List Parcel) → ((a : Action) → length (f a) ≤ 1) → (h : History) → length (flat_map f h) ≤ length h
few_parcels f one [] = omega arith
few_parcels f one (a ∷ h) = let r = few_parcels f one h in let l = one a in let e = length-append (f a) (flat_map f h) in omega arith

-- what the code reads
pub put_arms : (ms : List Machine_data) (p : ℕ) (q : Role) (s s' : ℕ) (x : Parcel) (arms : List Arm) (can : CanPut ms p q s x) → s' ≡ s
    → IfSome (state_of (slice_get ms p) s') (λ st. arms ≡ arms_in_state st) → arms ≡ can.1.arms
put_arms ms p q s s' x arms can e told = subst (λ (o : Option State). IfSome o (λ st. arms ≡ arms_in_state st)) (ap (λ (k : ℕ). state_of (slice_get ms p) k) e ∙ can.1.puts) told

pub some_is_some : (o : Option Arm) (arm : Arm) → o ≡ Some arm → IsSome o
some_is_some o arm e = subst (λ (z : Option Arm). IsSome z) (sym e) (search rules)

pub count_is : (row : Row) (sent : List ℕ) (q k n : ℕ) → slice_get sent q ≡ Some k → slice_get sent q ≡ Some n → k ≡ n
count_is row sent q k n e f = let g : Some k ≡ Some n = sym e ∙ f in cc (g)

one_sent_few : (q : ℕ) (a : Action) → length (parcel_sent q a) ≤ 1
one_sent_few q (Sent r l v) = elim (eqb_tells q r.0) [ inl h ↦ rw h.0 (omega arith) | inr h ↦ rw h.0 (omega arith) ]
one_sent_few q (Got r l v) = omega arith

one_got_few : (p : ℕ) (a : Action) → length (parcel_got p a) ≤ 1
one_got_few p (Sent r l v) = omega arith
one_got_few p (Got r l v) = elim (eqb_tells p r.0) [ inl h ↦ rw h.0 (omega arith) | inr h ↦ rw h.0 (omega arith) ]

pub few_sent : (q : ℕ) (h : History) → length (parcels_sent q h) ≤ length h
few_sent q h = few_parcels (parcel_sent q) (one_sent_few q) h

pub few_got : (p : ℕ) (h : History) → length (parcels_got p h) ≤ length h
few_got p h = few_parcels (parcel_got p) (one_got_few p) h

pub changed : (p : ℕ) (y : Part) (v : View) (m : M) → IsAfter p y v m → IsChanged p y v m.0
changed p y v m a = record { part = a.part; spoken = a.spoken; others = a.others }

-- a seat between two calls is idle at a role that it speaks for
pub idle_at : (r : ℕ) (m : M) (items : Items) → MayAct r m items → IsIdleAt r m
idle_at r m items a = record { speaks_for = a.speaks_for; idle = a.between.idle r a.speaks_for; empty = a.between.empty }

-- what a put, or a look for room, knows of its sender p, of whom a is known, and of its receiver, by the counts that it reads
pub record PutKnows (roles p q : ℕ) (a : Part) (state sent : ℕ) : Type 0 where
  pub pair : IsPair roles p q
  pub small : (p < 16) × (q < 16)
  pub state_is : state ≡ a.state
  pub sent_is : sent ≡ length (parcels_sent q a.history)
  pub acts : sent < 9223372036854775808

pub sender_knows : (ms : List Machine_data) (roles p : ℕ) (q : Role) (m : M) (items : Items) (state sent got : ℕ) → length ms ≡ roles → roles ≤ 16 → AreWellFormed ms → IsBetweenCalls m items
    → speaks p m.0.parts ≡ true
    → SendsTo ms p q (the_part p m.0.parts).state → length (the_part p m.0.parts).history < 9223372036854775808
    → ((r : Row) → row_at items p ≡ Some r → (state ≡ r.state) × (slice_get r.sent q.0 ≡ Some sent) × (slice_get r.got q.0 ≡ Some got))
    → PutKnows roles p q.0 (the_part p m.0.parts) state sent
sender_knows ms roles p q m items state sent got many few well_formed kept says sends short reads =
    let a : Part = the_part p m.0.parts in let t = kept.rows p says in let k = reads t.0 t.1 in
    let pair : IsPair roles p q.0 = subst (λ (z : ℕ). IsPair z p q.0) many (send_pair ms p q a.state well_formed sends) in
    let one = pair.sender in let other = pair.receiver in
    let small : p < 16 = omega arith in
    let small' : q.0 < 16 = omega arith in
    let is : sent ≡ length (parcels_sent q.0 a.history) = count_is t.0 t.0.sent q.0 sent (length (parcels_sent q.0 a.history)) k.1 (t.2.sent q.0 small') in
    let f = few_sent q.0 a.history in
    record { pair = pair; small = (small, small'); state_is = k.0 ∙ t.2.state; sent_is = is; acts = omega arith }

pub put_knows : (ms : List Machine_data) (roles p : ℕ) (q : Role) (m : M) (items : Items) (x : Parcel) (state sent got : ℕ) → length ms ≡ roles → roles ≤ 16 → AreWellFormed ms → IsBetweenCalls m items
    → speaks p m.0.parts ≡ true
    → CanPut ms p q (the_part p m.0.parts).state x → length (the_part p m.0.parts).history < 9223372036854775808
    → ((r : Row) → row_at items p ≡ Some r → (state ≡ r.state) × (slice_get r.sent q.0 ≡ Some sent) × (slice_get r.got q.0 ≡ Some got))
    → PutKnows roles p q.0 (the_part p m.0.parts) state sent
put_knows ms roles p q m items x state sent got many few well_formed kept says can short reads =
    sender_knows ms roles p q m items state sent got many few well_formed kept says record { arms = can.1.arms; puts = can.1.puts } short reads

-- what a take knows of its receiver q, of whom b is known, and of its sender, by the counts that it reads
pub record TakeKnows (roles p q : ℕ) (b : Part) (got : ℕ) : Type 0 where
  pub pair : IsPair roles p q
  pub small : (q < 16) × (p < 16)
  pub got_is : got ≡ length (parcels_got p b.history)
  pub acts : got < 9223372036854775808

pub take_knows : (ms : List Machine_data) (roles : ℕ) (p : Role) (q : ℕ) (m : M) (items : Items) (state sent got : ℕ) → length ms ≡ roles → roles ≤ 16 → AreWellFormed ms → IsBetweenCalls m items
    → speaks q m.0.parts ≡ true
    → CanTake ms q p (the_part q m.0.parts).state → length (the_part q m.0.parts).history < 9223372036854775808
    → ((r : Row) → row_at items q ≡ Some r → (state ≡ r.state) × (slice_get r.sent p.0 ≡ Some sent) × (slice_get r.got p.0 ≡ Some got))
    → TakeKnows roles p.0 q (the_part q m.0.parts) got
take_knows ms roles p q m items state sent got many few well_formed kept says can short reads =
    let b : Part = the_part q m.0.parts in let t = kept.rows q says in let k = reads t.0 t.1 in
    let pair : IsPair roles q p.0 = subst (λ (z : ℕ). IsPair z q p.0) many (take_pair ms q p b.state well_formed can) in
    let one = pair.sender in let other = pair.receiver in
    let small : q < 16 = omega arith in
    let small' : p.0 < 16 = omega arith in
    let is : got ≡ length (parcels_got p.0 b.history) = count_is t.0 t.0.got p.0 got (length (parcels_got p.0 b.history)) k.2 (t.2.got p.0 small') in
    let f = few_got p.0 b.history in
    record { pair = record { sender = other; receiver = one; differ = λ e. pair.differ (sym e) }; small = (small, small'); got_is = is; acts = omega arith }
