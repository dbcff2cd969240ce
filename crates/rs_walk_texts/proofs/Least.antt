-- The first pair of the least distance.
use Rattle.std.proofs.Common.{◌≡◌, ℕ, ◌≤◌, zero, suc, List, [], ◌∷◌, Bool, true, false, cond, refl, sym, ap, subst, ◌∙◌, slice_get, Option, Some, None, arith, if◌then◌else◌}
use Rattle.std.specs.List.{find}
use Rattle.std.proofs.lemmas.Bool.{eq-eqb, eqb-true, false≢true}
use Rattle.std.proofs.lemmas.Option.{none-some, same_Some}
use Rattle.std.specs.Str.{str_eq_ignore_ascii_case}
use Rattle.rs_derive.specs.Moves.{Spot}
use Rattle.rs_explain.specs.declared.explaining.Ending.{Ending}
use Rattle.rs_model.specs.FirstFailed.{or_later}
use Rattle.rs_text.specs.NamePlaces.{name_at}
use Rattle.rs_walk_texts.specs.Alike.{IsFirstOfLeast, is_known_there, is_slip, is_this, nearest, pairs_at, slip_distance}
use Rattle.rs_walk_texts.specs.Data.{WalkSource_data}
use Rattle.rs_walk_texts.specs.Nearness.{is_near}
use Rattle.rs_walk_texts.specs.Walks.{state_at}
use Rattle.rs_walk_texts.specs.declared.alike.LabelPair.{LabelPair}

-- what is found

-- it stands at a place, passes the test, and none does so before it
record IsFound {A : Type 0} (p : A → Bool) (xs : List A) (x : A) : Type 0 where
  pub place : ℕ
  pub stands : slice_get xs place ≡ Some x
  pub passes : p x ≡ true
  pub first : (i : ℕ) (y : A) → slice_get xs i ≡ Some y → p y ≡ true → place ≤ i

found_later : {A : Type 0} (p : A → Bool) (y : A) (ys : List A) (n : ℕ) → p y ≡ false → ((j : ℕ) (w : A) → slice_get ys j ≡ Some w → p w ≡ true → n ≤ j)
    → (i : ℕ) (z : A) → slice_get (y ∷ ys) i ≡ Some z → p z ≡ true → suc n ≤ i
found_later p y ys n k rest zero z s t = absurd (false≢true (sym k ∙ ap p (same_Some y z s) ∙ t))
found_later p y ys n k rest (suc i) z s t = let l = rest i z s t in omega arith

found : {A : Type 0} (p : A → Bool) (xs : List A) (x : A) → find p xs ≡ Some x → IsFound p xs x
found p [] x e = absurd (none-some x e)
found {A} p (y ∷ ys) x e = by (p y) refl (λ k. found p ys x k)
  where
    by : (b : Bool) → p y ≡ b → (find p ys ≡ Some x → IsFound p ys x) → IsFound p (y ∷ ys) x
    by true k on = (let same : y ≡ x = same_Some y x (subst (λ (b : Bool). cond b (Some y) (find p ys) ≡ Some x) k e) in
        record { place = 0; stands = ap Some same; passes = subst (λ (z : A). p z ≡ true) same k; first = λ i z s t. omega arith })
    by false k on = (let f = on (subst (λ (b : Bool). cond b (Some y) (find p ys) ≡ Some x) k e) in
        record { place = suc f.place; stands = f.stands; passes = f.passes; first = λ i z s t. found_later p y ys f.place k f.first i z s t })

none_found : {A : Type 0} (p : A → Bool) (xs : List A) → find p xs ≡ None → (i : ℕ) (y : A) → slice_get xs i ≡ Some y → p y ≡ true → ⊥
none_found p [] e i y s t = none-some y s
none_found {A} p (x ∷ xs) e i y s t = by (p x) refl (λ k j r. none_found p xs k j y r t) i s
  where
    by : (b : Bool) → p x ≡ b → (find p xs ≡ None → (j : ℕ) → slice_get xs j ≡ Some y → ⊥) → (i : ℕ) → slice_get (x ∷ xs) i ≡ Some y → ⊥
    by true k on i s = none-some x (sym (subst (λ (b : Bool). cond b (Some x) (find p xs) ≡ None) k e))
    by false k on zero s = false≢true (sym k ∙ ap p (same_Some x y s) ∙ t)
    by false k on (suc i) s = on (subst (λ (b : Bool). cond b (Some x) (find p xs) ≡ None) k e) i s

-- distances

this_is : (far : ℕ) (o : Option ℕ) → is_this far o ≡ true → o ≡ Some far
this_is far None e = absurd (false≢true e)
this_is far (Some d) e = ap Some (eqb-true d far e)

is_it : (far : ℕ) (o : Option ℕ) → o ≡ Some far → is_this far o ≡ true
is_it far None e = absurd (none-some far e)
is_it far (Some d) e = eq-eqb d far (same_Some d far e)

-- a distance is 0 or 1
low : (a b c : Bool) (d : ℕ) → (if a then None else (if b then Some (if c then 0 else 1) else None)) ≡ Some d → d ≤ 1
low true b c d e = absurd (none-some d e)
low false true true d e = let k = same_Some 0 d e in omega arith
low false true false d e = let k = same_Some 1 d e in omega arith
low false false c d e = absurd (none-some d e)

slip_low : (source : WalkSource_data) (p : Spot) (pair : LabelPair) (d : ℕ) → slip_distance source p pair ≡ Some d → d ≤ 1
slip_low source p pair d e =
    let own = name_at source.names.labels pair.own.0 in let theirs = name_at source.names.labels pair.theirs.0 in
    low (is_known_there source.protocol.nodes source.machine.role (state_at source p) pair.own) (is_near own theirs) (str_eq_ignore_ascii_case own theirs) d e

-- the first of the least distance

-- where none has the distance 0
none_less : (source : WalkSource_data) (p : Spot) (pairs : List LabelPair) → find (is_slip source p 0) pairs ≡ None → (i d : ℕ) (r : LabelPair) → slice_get pairs i ≡ Some r
    → slip_distance source p r ≡ Some d → 1 ≤ d
none_less source p pairs k i zero r s t = absurd (none_found (is_slip source p 0) pairs k i r s (is_it 0 (slip_distance source p r) t))
none_less source p pairs k i (suc d) r s t = omega arith

pub some_nearest : (source : WalkSource_data) (p : Spot) (ending : Ending) (pair : LabelPair) → nearest source p ending ≡ Some pair
    → IsFirstOfLeast (slip_distance source p) (pairs_at source p ending) pair
some_nearest source p ending pair e = by (find (is_slip source p 0) pairs) refl e
  where
    pairs : List LabelPair
    pairs = pairs_at source p ending

    by : (o : Option LabelPair) → find (is_slip source p 0) pairs ≡ o → or_later o (find (is_slip source p 1) pairs) ≡ Some pair → IsFirstOfLeast (slip_distance source p) pairs pair
    by (Some q) k e = (let f = found (is_slip source p 0) pairs pair (k ∙ e) in
        record {
          place = f.place;
          stands = f.stands;
          far = 0;
          far_is = this_is 0 (slip_distance source p pair) f.passes;
          least = λ i d r s t. omega arith;
          first = λ i r s t. f.first i r s (is_it 0 (slip_distance source p r) t);
        })
    by None k e = (let f = found (is_slip source p 1) pairs pair e in
        record {
          place = f.place;
          stands = f.stands;
          far = 1;
          far_is = this_is 1 (slip_distance source p pair) f.passes;
          least = λ i d r s t. none_less source p pairs k i d r s t;
          first = λ i r s t. f.first i r s (is_it 1 (slip_distance source p r) t);
        })

pub none_nearest : (source : WalkSource_data) (p : Spot) (ending : Ending) (i : ℕ) (pair : LabelPair) → nearest source p ending ≡ None
    → slice_get (pairs_at source p ending) i ≡ Some pair → slip_distance source p pair ≡ None
none_nearest source p ending i pair e s = by (find (is_slip source p 0) pairs) refl e (slip_distance source p pair) refl
  where
    pairs : List LabelPair
    pairs = pairs_at source p ending

    by : (o : Option LabelPair) → find (is_slip source p 0) pairs ≡ o → or_later o (find (is_slip source p 1) pairs) ≡ None → (d : Option ℕ) → slip_distance source p pair ≡ d → slip_distance source p pair ≡ None
    by (Some q) k e d t = absurd (none-some q (sym e))
    by None k e None t = t
    by None k e (Some zero) t = absurd (none_found (is_slip source p 0) pairs k i pair s (is_it 0 (slip_distance source p pair) t))
    by None k e (Some (suc zero)) t = absurd (none_found (is_slip source p 1) pairs e i pair s (is_it 1 (slip_distance source p pair) t))
    by None k e (Some (suc (suc d))) t = (let l = slip_low source p pair (suc (suc d)) t in let bad : ⊥ = omega arith in absurd bad)
