-- Projections whose numbers are in the order of discovery, by tests.
use Rattle.std.proofs.Common.{◌≡◌, inl, inr, ℕ, zero, suc, Bool, true, false, not, ◌&&◌, ◌||◌, ◌==◌, nat_lt, nat_le, if◌then◌else◌, List, [], ◌∷◌, length, map, Some, slice_get, bytes_eq, refl, sym}
use Rattle.std.proofs.Common.{ap, ◌∙◌, subst}
use Rattle.std.proofs.lemmas.Bool.{and_parts, false≢true, leb-true, ltb-true}
use Rattle.std.proofs.lemmas.Bool.Decides.{eqb_tells}
use Rattle.rs_model.specs.Data.{Protocol_data}
use Rattle.rs_model.specs.declared.graph.Role.{Role}
use Rattle.rs_project.specs.Data.{Projection_data}
use Rattle.rs_project.specs.Numbered.{IsNumberedProjection, nexts_behind}
use Rattle.rs_graph.specs.Order.{Numbered, NoMore, Known, New, Worked, AllDone, Next}
use Rattle.rs_safety.proofs.Computed.{is_projection, projection_is}
use Rattle.rs_text.proofs.Naming.{bytes_same}

-- how many are known after a row
abbrev behind_row : ℕ → List ℕ → ℕ
behind_row known [] = known
behind_row known (n ∷ ns) = if nat_lt n known then behind_row known ns else behind_row (suc known) ns

abbrev row_test : ℕ → List ℕ → Bool
row_test known [] = true
row_test known (n ∷ ns) = if nat_lt n known then row_test known ns else ((n == known) && row_test (suc known) ns)

abbrev rows_test : ℕ → ℕ → List (List ℕ) → ℕ → Bool
rows_test k known [] after = known == after
rows_test k known (row ∷ rows) after = nat_lt k known && (row_test known row && rows_test (suc k) (behind_row known row) rows after)

abbrev is_among : List ℕ → List (List ℕ) → Bool
is_among x [] = false
is_among x (y ∷ ys) = bytes_eq x y || is_among x ys

abbrev once_test : List (List ℕ) → Bool
once_test [] = true
once_test (x ∷ xs) = not (is_among x xs) && once_test xs

abbrev is_numbered : Projection_data → Bool
is_numbered p = rows_test 0 1 (map nexts_behind p.machine.states) (length p.sets) && (once_test p.sets && nat_le (length p.sets) 1024)

abbrev pub is_numbered_projection : Protocol_data → ℕ → Role → Projection_data → Bool
is_numbered_projection pr fuel role p = is_projection pr fuel role p && is_numbered p

eq_by : (x y : ℕ) → (x == y) ≡ true → x ≡ y
eq_by x y h = elim (eqb_tells x y) [ inl t ↦ t.1 | inr t ↦ absurd (false≢true (sym t.0 ∙ h)) ]

row_is : (known : ℕ) (ns : List ℕ) → row_test known ns ≡ true → Numbered known ns (behind_row known ns)
row_is known [] h = NoMore known
row_is known (n ∷ ns) h = go (nat_lt n known) refl (λ k. row_is known ns k) (λ k. row_is (suc known) ns k) h
  where
    go : (b : Bool) → nat_lt n known ≡ b → (row_test known ns ≡ true → Numbered known ns (behind_row known ns)) → (row_test (suc known) ns ≡ true → Numbered (suc known) ns (behind_row (suc known) ns))
        → (if b then row_test known ns else ((n == known) && row_test (suc known) ns)) ≡ true → Numbered known (n ∷ ns) (if b then behind_row known ns else behind_row (suc known) ns)
    go true e one other h = Known known n (behind_row known ns) ns (ltb-true n known e) (one h)
    go false e one other h =
        let parts = and_parts (n == known) (row_test (suc known) ns) h in
        let P : ℕ → Type 0 = λ z. Numbered known (z ∷ ns) (behind_row (suc known) ns) in
        subst P (sym (eq_by n known parts.0)) (New known (behind_row (suc known) ns) ns (other parts.1))

rows_are : (k known : ℕ) (rows : List (List ℕ)) (after : ℕ) → rows_test k known rows after ≡ true → Worked k known rows after
rows_are k known [] after h = subst (λ (z : ℕ). Worked k known [] z) (eq_by known after h) (AllDone k known)
rows_are k known (row ∷ rows) after h =
    let a = and_parts (nat_lt k known) (row_test known row && rows_test (suc k) (behind_row known row) rows after) h in
    let b = and_parts (row_test known row) (rows_test (suc k) (behind_row known row) rows after) a.1 in
    Next k known (behind_row known row) after row rows (ltb-true k known a.0) (row_is known row b.0) (rows_are (suc k) (behind_row known row) rows after b.1)

among_at : (x : List ℕ) (ys : List (List ℕ)) (i : ℕ) → slice_get ys i ≡ Some x → is_among x ys ≡ true
among_at x [] i e = absurd (cc (e))
among_at x (y ∷ ys) zero e = let same : x ≡ y = cc (e) in ap (λ (b : Bool). b || is_among x ys) (ap (bytes_eq x) (sym same) ∙ bytes_same x)
among_at x (y ∷ ys) (suc i) e = go (bytes_eq x y) (among_at x ys i e)
  where
    go : (b : Bool) → is_among x ys ≡ true → (b || is_among x ys) ≡ true
    go true h = refl
    go false h = h

fresh : (x : List ℕ) (ys : List (List ℕ)) (i : ℕ) → not (is_among x ys) ≡ true → slice_get ys i ≡ Some x → ⊥
fresh x ys i h e = false≢true (sym (ap not (among_at x ys i e)) ∙ h)

once_is : (xs : List (List ℕ)) → once_test xs ≡ true → (i j : ℕ) (x : List ℕ) → slice_get xs i ≡ Some x → slice_get xs j ≡ Some x → i ≡ j
once_is [] h i j x e f = absurd (cc (e))
once_is (y ∷ ys) h zero zero x e f = refl
once_is (y ∷ ys) h zero (suc j) x e f =
    let same : x ≡ y = cc (e) in
    absurd (fresh y ys j (and_parts (not (is_among y ys)) (once_test ys) h).0 (f ∙ ap (λ (z : List ℕ). Some z) same))
once_is (y ∷ ys) h (suc i) zero x e f =
    let same : x ≡ y = cc (f) in
    absurd (fresh y ys i (and_parts (not (is_among y ys)) (once_test ys) h).0 (e ∙ ap (λ (z : List ℕ). Some z) same))
once_is (y ∷ ys) h (suc i) (suc j) x e f = ap suc (once_is ys (and_parts (not (is_among y ys)) (once_test ys) h).1 i j x e f)

pub numbered_is : (pr : Protocol_data) (fuel : ℕ) (role : Role) (p : Projection_data) → is_numbered_projection pr fuel role p ≡ true → IsNumberedProjection pr role p
numbered_is pr fuel role p h =
    let a = and_parts (is_projection pr fuel role p) (is_numbered p) h in
    let b = and_parts (rows_test 0 1 (map nexts_behind p.machine.states) (length p.sets)) (once_test p.sets && nat_le (length p.sets) 1024) a.1 in
    let c = and_parts (once_test p.sets) (nat_le (length p.sets) 1024) b.1 in
    record {
      is_projection = projection_is pr fuel role p a.0;
      order = rows_are 0 1 (map nexts_behind p.machine.states) (length p.sets) b.0;
      once = once_is p.sets c.0;
      bounded = leb-true (length p.sets) 1024 c.1;
    }
