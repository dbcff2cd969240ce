-- The test tells which names are near.
use Rattle.std.proofs.Common.{◌≡◌, ◌≢◌, ◌⊎◌, inl, inr, ℕ, ◌≤◌, Bool, true, false, ◌||◌, ◌&&◌, ◌==◌, nat_lt, if◌then◌else◌, List, [], ◌∷◌, ◌++◌, length, refl, sym, ap, ◌∙◌, subst, subst₂, arith}
use Rattle.std.proofs.lemmas.Bool.{cases_lt}
use Rattle.std.proofs.lemmas.Bool.Decides.{eqb_tells, Decides-ltb}
use Rattle.std.proofs.lemmas.Slice.Eq.{bytes_eq-Decides}
use Rattle.std.specs.Str.{bytes_eq, str_eq_ignore_ascii_case}
use Rattle.rs_walk_texts.specs.Nearness.{AreSameButForCase, HasOneMore, SwapsTwo, DifferByOne, IsNear, are_swapped, differ_by_one, differ_here, is_near}

or_tells : (a b : Bool) → (a || b) ≡ true → (a ≡ true) ⊎ (b ≡ true)
or_tells true b h = inl refl
or_tells false b h = inr h

or_one : (a b : Bool) → a ≡ true → (a || b) ≡ true
or_one true b h = refl
or_one false b h = absurd (cc (h))

or_two : (a b : Bool) → b ≡ true → (a || b) ≡ true
or_two true b h = refl
or_two false b h = h

both_true : (a b : Bool) → (a && b) ≡ true → (a ≡ true) × (b ≡ true)
both_true true b h = (refl, h)
both_true false b h = absurd (cc (h))

true_both : (a b : Bool) → a ≡ true → b ≡ true → (a && b) ≡ true
true_both true b h k = k
true_both false b h k = absurd (cc (h))

same_number : (x y : ℕ) → (x == y) ≡ true → x ≡ y
same_number x y h = elim (eqb_tells x y) [ inl t ↦ t.1 | inr t ↦ absurd (cc (h, t.0)) ]

own_number : (x : ℕ) → (x == x) ≡ true
own_number x = elim (eqb_tells x x) [ inl t ↦ t.0 | inr t ↦ absurd (t.1 refl) ]

self : (xs : List ℕ) → bytes_eq xs xs ≡ true
self xs = (bytes_eq-Decides xs xs).1 refl

none_left : (xs : List ℕ) → (length xs == 0) ≡ true → xs ≡ []
none_left [] h = refl
none_left (x ∷ xs) h = elim (eqb_tells (length (x ∷ xs)) 0) [ inl t ↦ (let e = t.1 in absurd (omega (arith, e))) | inr t ↦ absurd (cc (h, t.0)) ]

-- ---- the test is right

more_before : (b : ℕ) (xs ys : List ℕ) → DifferByOne xs ys → DifferByOne (b ∷ xs) (b ∷ ys)
more_before b xs ys (inl r) = inl record {
  before = b ∷ r.before;
  byte = r.byte;
  instead = r.instead;
  behind = r.behind;
  one_is = ap (λ (z : List ℕ). b ∷ z) r.one_is;
  other_is = ap (λ (z : List ℕ). b ∷ z) r.other_is;
}
more_before b xs ys (inr (inl r)) = inr (inl record {
  before = b ∷ r.before;
  first = r.first;
  second = r.second;
  behind = r.behind;
  one_is = ap (λ (z : List ℕ). b ∷ z) r.one_is;
  other_is = ap (λ (z : List ℕ). b ∷ z) r.other_is;
})
more_before b xs ys (inr (inr (inl r))) = inr (inr (inl record {
  before = b ∷ r.before;
  byte = r.byte;
  behind = r.behind;
  one_is = ap (λ (z : List ℕ). b ∷ z) r.one_is;
  other_is = ap (λ (z : List ℕ). b ∷ z) r.other_is;
}))
more_before b xs ys (inr (inr (inr r))) = inr (inr (inr record {
  before = b ∷ r.before;
  byte = r.byte;
  behind = r.behind;
  one_is = ap (λ (z : List ℕ). b ∷ z) r.one_is;
  other_is = ap (λ (z : List ℕ). b ∷ z) r.other_is;
}))

swapped_right : (x : ℕ) (xs : List ℕ) (y : ℕ) (ys : List ℕ) → are_swapped x xs y ys ≡ true → SwapsTwo (x ∷ xs) (y ∷ ys)
swapped_right x [] y ys h = absurd (cc (h))
swapped_right x (b ∷ xs) y [] h = absurd (cc (h))
swapped_right x (b ∷ xs) y (c ∷ ys) h =
    let p = both_true (b == y) ((c == x) && bytes_eq xs ys) h in
    let q = both_true (c == x) (bytes_eq xs ys) p.1 in
    let e : b ≡ y = same_number b y p.0 in
    let f : c ≡ x = same_number c x q.0 in
    let g : xs ≡ ys = (bytes_eq-Decides xs ys).0 q.1 in
    record {
      before = [];
      first = x;
      second = y;
      behind = xs;
      one_is = ap (λ (z : ℕ). x ∷ z ∷ xs) e;
      other_is = ap (λ (z : ℕ). y ∷ z ∷ ys) f ∙ ap (λ (z : List ℕ). y ∷ x ∷ z) (sym g);
    }

one_more : (x : ℕ) (xs ys : List ℕ) → xs ≡ ys → HasOneMore (x ∷ xs) ys
one_more x xs ys e = record { before = []; byte = x; behind = xs; one_is = refl; other_is = sym e }

differ_right : (xs ys : List ℕ) → differ_by_one xs ys ≡ true → DifferByOne xs ys
differ_right [] [] h = absurd (cc (h))
differ_right [] (y ∷ ys) h = inr (inr (inr (one_more y ys [] (none_left ys h))))
differ_right (x ∷ xs) [] h = inr (inr (inl (one_more x xs [] (none_left xs h))))
differ_right (x ∷ xs) (y ∷ ys) h = go (x == y) refl h (λ k. differ_right xs ys k)
  where
    go : (b : Bool) → (x == y) ≡ b → (if b then differ_by_one xs ys else differ_here x xs y ys) ≡ true
        → (differ_by_one xs ys ≡ true → DifferByOne xs ys) → DifferByOne (x ∷ xs) (y ∷ ys)
    go true e k rest = elim (eqb_tells x y) [
      | inl t ↦ subst (λ (z : ℕ). DifferByOne (x ∷ xs) (z ∷ ys)) t.1 (more_before x xs ys (rest k))
      | inr t ↦ absurd (cc (e, t.0))
    ]
    go false e k rest = elim (or_tells (bytes_eq xs ys) (bytes_eq xs (y ∷ ys) || (bytes_eq (x ∷ xs) ys || are_swapped x xs y ys)) k) [
      | inl t ↦ inl record {
        before = [];
        byte = x;
        instead = y;
        behind = xs;
        one_is = refl;
        other_is = ap (λ (z : List ℕ). y ∷ z) (sym ((bytes_eq-Decides xs ys).0 t));
      }
      | inr t ↦ elim (or_tells (bytes_eq xs (y ∷ ys)) (bytes_eq (x ∷ xs) ys || are_swapped x xs y ys) t) [
        | inl u ↦ inr (inr (inl (one_more x xs (y ∷ ys) ((bytes_eq-Decides xs (y ∷ ys)).0 u))))
        | inr u ↦ elim (or_tells (bytes_eq (x ∷ xs) ys) (are_swapped x xs y ys) u) [
          | inl v ↦ inr (inr (inr (one_more y ys (x ∷ xs) (sym ((bytes_eq-Decides (x ∷ xs) ys).0 v)))))
          | inr v ↦ inr (inl (swapped_right x xs y ys v))
        ]
      ]
    ]

-- ---- and misses nothing

same_first : (x : ℕ) (xs ys : List ℕ) → differ_by_one xs ys ≡ true → differ_by_one (x ∷ xs) (x ∷ ys) ≡ true
same_first x xs ys h = go (x == x) refl
  where
    go : (b : Bool) → (x == x) ≡ b → (if b then differ_by_one xs ys else differ_here x xs x ys) ≡ true
    go true e = h
    go false e = elim (eqb_tells x x) [ inl t ↦ absurd (cc (e, t.0)) | inr t ↦ absurd (t.1 refl) ]

replaced : (before : List ℕ) (x y : ℕ) (behind : List ℕ) → x ≢ y → differ_by_one (before ++ (x ∷ behind)) (before ++ (y ∷ behind)) ≡ true
replaced [] x y behind ne = go (x == y) refl
  where
    go : (b : Bool) → (x == y) ≡ b
        → (if b then differ_by_one behind behind else differ_here x behind y behind) ≡ true
    go true e = elim (eqb_tells x y) [ inl t ↦ absurd (ne t.1) | inr t ↦ absurd (cc (e, t.0)) ]
    go false e = or_one (bytes_eq behind behind) (bytes_eq behind (y ∷ behind) || (bytes_eq (x ∷ behind) behind || are_swapped x behind y behind)) (self behind)
replaced (b ∷ bs) x y behind ne = same_first b (bs ++ (x ∷ behind)) (bs ++ (y ∷ behind)) (replaced bs x y behind ne)

more_here : (x : ℕ) (xs : List ℕ) → differ_by_one (x ∷ xs) xs ≡ true
more_here x [] = refl
more_here x (z ∷ zs) = go (x == z) refl (more_here z zs)
  where
    go : (b : Bool) → (x == z) ≡ b → differ_by_one (z ∷ zs) zs ≡ true
        → (if b then differ_by_one (z ∷ zs) zs else differ_here x (z ∷ zs) z zs) ≡ true
    go true e rest = rest
    go false e rest =
        or_two (bytes_eq (z ∷ zs) zs) (bytes_eq (z ∷ zs) (z ∷ zs) || (bytes_eq (x ∷ z ∷ zs) zs || are_swapped x (z ∷ zs) z zs))
        (or_one (bytes_eq (z ∷ zs) (z ∷ zs)) (bytes_eq (x ∷ z ∷ zs) zs || are_swapped x (z ∷ zs) z zs) (self (z ∷ zs)))

less_here : (x : ℕ) (xs : List ℕ) → differ_by_one xs (x ∷ xs) ≡ true
less_here x [] = refl
less_here x (z ∷ zs) = go (z == x) refl (less_here z zs)
  where
    go : (b : Bool) → (z == x) ≡ b → differ_by_one zs (z ∷ zs) ≡ true
        → (if b then differ_by_one zs (z ∷ zs) else differ_here z zs x (z ∷ zs)) ≡ true
    go true e rest = rest
    go false e rest =
        or_two (bytes_eq zs (z ∷ zs)) (bytes_eq zs (x ∷ z ∷ zs) || (bytes_eq (z ∷ zs) (z ∷ zs) || are_swapped z zs x (z ∷ zs)))
        (or_two (bytes_eq zs (x ∷ z ∷ zs)) (bytes_eq (z ∷ zs) (z ∷ zs) || are_swapped z zs x (z ∷ zs))
        (or_one (bytes_eq (z ∷ zs) (z ∷ zs)) (are_swapped z zs x (z ∷ zs)) (self (z ∷ zs))))

more : (before : List ℕ) (x : ℕ) (behind : List ℕ) → differ_by_one (before ++ (x ∷ behind)) (before ++ behind) ≡ true
more [] x behind = more_here x behind
more (b ∷ bs) x behind = same_first b (bs ++ (x ∷ behind)) (bs ++ behind) (more bs x behind)

less : (before : List ℕ) (x : ℕ) (behind : List ℕ) → differ_by_one (before ++ behind) (before ++ (x ∷ behind)) ≡ true
less [] x behind = less_here x behind
less (b ∷ bs) x behind = same_first b (bs ++ behind) (bs ++ (x ∷ behind)) (less bs x behind)

swapped : (before : List ℕ) (x y : ℕ) (behind : List ℕ) → x ≢ y → differ_by_one (before ++ (x ∷ y ∷ behind)) (before ++ (y ∷ x ∷ behind)) ≡ true
swapped [] x y behind ne = go (x == y) refl
  where
    go : (b : Bool) → (x == y) ≡ b → (if b then differ_by_one (y ∷ behind) (x ∷ behind) else differ_here x (y ∷ behind) y (x ∷ behind)) ≡ true
    go true e = elim (eqb_tells x y) [ inl t ↦ absurd (ne t.1) | inr t ↦ absurd (cc (e, t.0)) ]
    go false e =
        or_two (bytes_eq (y ∷ behind) (x ∷ behind)) (bytes_eq (y ∷ behind) (y ∷ x ∷ behind) || (bytes_eq (x ∷ y ∷ behind) (x ∷ behind) || are_swapped x (y ∷ behind) y (x ∷ behind)))
        (or_two (bytes_eq (y ∷ behind) (y ∷ x ∷ behind)) (bytes_eq (x ∷ y ∷ behind) (x ∷ behind) || are_swapped x (y ∷ behind) y (x ∷ behind))
        (or_two (bytes_eq (x ∷ y ∷ behind) (x ∷ behind)) (are_swapped x (y ∷ behind) y (x ∷ behind))
        (true_both (y == y) ((x == x) && bytes_eq behind behind) (own_number y) (true_both (x == x) (bytes_eq behind behind) (own_number x) (self behind)))))
swapped (b ∷ bs) x y behind ne = same_first b (bs ++ (x ∷ y ∷ behind)) (bs ++ (y ∷ x ∷ behind)) (swapped bs x y behind ne)

exchanged : (before : List ℕ) (x y : ℕ) (behind : List ℕ) → x ≡ y → before ++ (x ∷ y ∷ behind) ≡ before ++ (y ∷ x ∷ behind)
exchanged before x y behind e = ap (λ (z : ℕ). before ++ (z ∷ y ∷ behind)) e ∙ ap (λ (z : ℕ). before ++ (y ∷ z ∷ behind)) (sym e)

differ_whole : (xs ys : List ℕ) → xs ≢ ys → DifferByOne xs ys → differ_by_one xs ys ≡ true
differ_whole xs ys ne (inl r) =
    let P : List ℕ → List ℕ → Type 0 = λ y z. differ_by_one y z ≡ true in
    let apart : r.byte ≢ r.instead = λ e. ne (r.one_is ∙ ap (λ (z : ℕ). r.before ++ (z ∷ r.behind)) e ∙ sym r.other_is) in
    subst₂ P (sym r.one_is) (sym r.other_is) (replaced r.before r.byte r.instead r.behind apart)
differ_whole xs ys ne (inr (inl r)) =
    let P : List ℕ → List ℕ → Type 0 = λ y z. differ_by_one y z ≡ true in
    let apart : r.first ≢ r.second = λ e. ne (r.one_is ∙ exchanged r.before r.first r.second r.behind e ∙ sym r.other_is) in
    subst₂ P (sym r.one_is) (sym r.other_is) (swapped r.before r.first r.second r.behind apart)
differ_whole xs ys ne (inr (inr (inl r))) =
    let P : List ℕ → List ℕ → Type 0 = λ y z. differ_by_one y z ≡ true in
    subst₂ P (sym r.one_is) (sym r.other_is) (more r.before r.byte r.behind)
differ_whole xs ys ne (inr (inr (inr r))) =
    let P : List ℕ → List ℕ → Type 0 = λ y z. differ_by_one y z ≡ true in
    subst₂ P (sym r.other_is) (sym r.one_is) (less r.before r.byte r.behind)

-- ---- both

are_short : (n m : ℕ) → (nat_lt n 3 && nat_lt m 3) ≡ true → ((3 ≤ n) ⊎ (3 ≤ m)) → ⊥
are_short n m h (inl k) = let t = (Decides-ltb n 3).0 (both_true (nat_lt n 3) (nat_lt m 3) h).0 in omega (arith, t, k)
are_short n m h (inr k) = let t = (Decides-ltb m 3).0 (both_true (nat_lt n 3) (nat_lt m 3) h).1 in omega (arith, t, k)

is_long : (n m : ℕ) → (nat_lt n 3 && nat_lt m 3) ≡ false → (3 ≤ n) ⊎ (3 ≤ m)
is_long n m h = elim (cases_lt n 3) [
  | inr k ↦ inl (omega (arith, k))
  | inl a ↦ elim (cases_lt m 3) [
    | inr k ↦ inr (omega (arith, k))
    | inl b ↦ (let t = true_both (nat_lt n 3) (nat_lt m 3) ((Decides-ltb n 3).1 a) ((Decides-ltb m 3).1 b) in absurd (cc (t, h)))
  ]
]

-- what the test tells
pub near_right : (one other : List ℕ) → is_near one other ≡ true → IsNear one other
near_right one other h = go (bytes_eq one other) refl (str_eq_ignore_ascii_case one other) refl (nat_lt (length one) 3 && nat_lt (length other) 3) refl h
  where
    go : (a : Bool) → bytes_eq one other ≡ a → (b : Bool) → str_eq_ignore_ascii_case one other ≡ b → (c : Bool) → (nat_lt (length one) 3 && nat_lt (length other) 3) ≡ c
        → (if a then false else if b then true else if c then false else differ_by_one one other) ≡ true → IsNear one other
    go true e b f c g k = absurd (cc (k))
    go false e true f c g k = (
      (λ q. (let t = (bytes_eq-Decides one other).1 q in cc (t, e))),
      inl ((bytes_eq-Decides _ _).0 f),
    )
    go false e false f true g k = absurd (cc (k))
    go false e false f false g k = (
      (λ q. (let t = (bytes_eq-Decides one other).1 q in cc (t, e))),
      inr (is_long (length one) (length other) g, differ_right one other k),
    )

pub near_whole : (one other : List ℕ) → IsNear one other → is_near one other ≡ true
near_whole one other n = go (bytes_eq one other) refl (str_eq_ignore_ascii_case one other) refl (nat_lt (length one) 3 && nat_lt (length other) 3) refl n.1
  where
    go : (a : Bool) → bytes_eq one other ≡ a → (b : Bool) → str_eq_ignore_ascii_case one other ≡ b → (c : Bool) → (nat_lt (length one) 3 && nat_lt (length other) 3) ≡ c
        → AreSameButForCase one other ⊎ (((3 ≤ length one) ⊎ (3 ≤ length other)) × DifferByOne one other)
        → (if a then false else if b then true else if c then false else differ_by_one one other) ≡ true
    go true e b f c g k = absurd (n.0 ((bytes_eq-Decides one other).0 e))
    go false e true f c g k = refl
    go false e false f c g (inl q) = (let t = (bytes_eq-Decides _ _).1 q in absurd (cc (t, f)))
    go false e false f true g (inr q) = absurd (are_short (length one) (length other) g q.0)
    go false e false f false g (inr q) = differ_whole one other n.0 q.1
