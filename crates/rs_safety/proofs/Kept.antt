-- Lists of items in another order that is allowed.
use Rattle.std.proofs.Common.{◌≡◌, inl, inr, ℕ, suc, ◌+◌, ◌<◌, ◌≤◌, List, [], ◌∷◌, ◌++◌, length, refl, sym, ap, ◌∙◌, subst, arith, append_assoc, append-nil, length-append, ◌*◌, mul-suc}
use Rattle.std.proofs.lemmas.Bool.Decides.{eqb_tells}
use Rattle.rs_core.proofs.Items.{Item, Give, Get, Entry, entry, sends, recvs, sends_same, sends_other, recvs_same, recvs_other, sends_append, recvs_append, Each, each_append, Above, Ordered}

abbrev pub place_of : Item → ℕ
place_of (Give k r l so) = k
place_of (Get k r l so) = k

-- all places are below n
abbrev pub Below : ℕ → List Item → Type 0
Below n xs = Each (λ x. place_of x < n) xs

abbrev pub IsGet : Item → Type 0
IsGet (Give k r l so) = ⊥
IsGet (Get k r l so) = Unit {0}

abbrev pub IsGive : Item → Type 0
IsGive (Give k r l so) = Unit {0}
IsGive (Get k r l so) = ⊥

pub each_left : (P : Item → Type 0) (xs ys : List Item) → Each P (xs ++ ys) → Each P xs
each_left P [] ys h = tt
each_left P (x ∷ xs) ys h = (h.0, each_left P xs ys h.1)

pub each_right : (P : Item → Type 0) (xs ys : List Item) → Each P (xs ++ ys) → Each P ys
each_right P [] ys h = h
each_right P (x ∷ xs) ys h = each_right P xs ys h.1

pub each_more : (P Q : Item → Type 0) (xs : List Item) → ((x : Item) → P x → Q x) → Each P xs → Each Q xs
each_more P Q [] f h = tt
each_more P Q (x ∷ xs) f h = (f x h.0, each_more P Q xs f h.1)

-- x may pass the items
abbrev pub Free : Item → List Item → Type 0
Free (Give k q l so) xs = sends q.0 xs ≡ []
Free (Get k q l so) xs = (recvs q.0 xs ≡ []) × Each IsGet xs

-- x hops over xs, after ds
abbrev pub before_hop : List Item → List Item → Item → List Item → List Item
before_hop ds xs x ys = ds ++ (xs ++ (x ∷ ys))

abbrev pub after_hop : List Item → List Item → Item → List Item → List Item
after_hop ds xs x ys = (ds ++ (x ∷ [])) ++ (xs ++ ys)

each_hop : (P : Item → Type 0) (ds xs : List Item) (x : Item) (ys : List Item) → Each P (before_hop ds xs x ys) → Each P (after_hop ds xs x ys)
each_hop P ds xs x ys h =
    let a = each_left P ds (xs ++ (x ∷ ys)) h in
    let b = each_right P ds (xs ++ (x ∷ ys)) h in
    let c = each_right P xs (x ∷ ys) b in
    each_append P (ds ++ (x ∷ [])) (xs ++ ys) (each_append P ds (x ∷ []) a (c.0, tt)) (each_append P xs ys (each_left P xs (x ∷ ys) b) c.1)

-- W' has the acts of W, in an order that is allowed
pub record Kept (W W' : List Item) : Type 0 where
  pub sent : (q : ℕ) → sends q W' ≡ sends q W
  pub got : (q : ℕ) → recvs q W' ≡ recvs q W
  pub order : Ordered W → Ordered W'
  pub below : (n : ℕ) → Below n W → Below n W'
  pub size : length W' ≡ length W

pub kept_refl : (W : List Item) → Kept W W
kept_refl W = record { sent = λ q. refl; got = λ q. refl; order = λ h. h; below = λ n h. h; size = refl }

pub kept_trans : (U V W : List Item) → Kept U V → Kept V W → Kept U W
kept_trans U V W a b = record {
  sent = λ q. b.sent q ∙ a.sent q;
  got = λ q. b.got q ∙ a.got q;
  order = λ h. b.order (a.order h);
  below = λ n h. b.below n (a.below n h);
  size = b.size ∙ a.size;
}

hop_sent : (ds xs : List Item) (x : Item) (ys : List Item) → Free x xs → (q : ℕ) → sends q (after_hop ds xs x ys) ≡ sends q (before_hop ds xs x ys)
hop_sent ds xs (Get k r l so) ys free q =
    let e : sends q (ds ++ (Get k r l so ∷ [])) ≡ sends q ds = sends_append q ds (Get k r l so ∷ []) ∙ append-nil (sends q ds) in
    rw (sends_append q (ds ++ (Get k r l so ∷ [])) (xs ++ ys), e, sends_append q xs ys, sends_append q ds (xs ++ (Get k r l so ∷ ys)), sends_append q xs (Get k r l so ∷ ys)) refl
hop_sent ds xs (Give k r l so) ys free q = elim (eqb_tells r.0 q) [
  | inl t ↦ (
      let none : sends q xs ≡ [] = (let P : ℕ → Type 0 = λ z. sends z xs ≡ [] in subst P t.1 free) in
      let e : sends q (after_hop ds xs (Give k r l so) ys) ≡ (sends q ds ++ (entry k l so ∷ [])) ++ sends q ys =
      rw (sends_append q (ds ++ (Give k r l so ∷ [])) (xs ++ ys), sends_append q ds (Give k r l so ∷ []), sends_same q k r l so [] t.1, sends_append q xs ys, none) refl in
      let f : sends q (before_hop ds xs (Give k r l so) ys) ≡ sends q ds ++ (entry k l so ∷ sends q ys) =
      rw (sends_append q ds (xs ++ (Give k r l so ∷ ys)), sends_append q xs (Give k r l so ∷ ys), sends_same q k r l so ys t.1, none) refl in
      e ∙ append_assoc (sends q ds) (entry k l so ∷ []) (sends q ys) ∙ sym f)
  | inr t ↦ (
      let e : sends q (ds ++ (Give k r l so ∷ [])) ≡ sends q ds = sends_append q ds (Give k r l so ∷ []) ∙ ap (λ (z : List Entry). sends q ds ++ z) (sends_other q k r l so [] t.1)
      ∙ append-nil (sends q ds) in
      rw (
        sends_append q (ds ++ (Give k r l so ∷ [])) (xs ++ ys),
        e,
        sends_append q xs ys,
        sends_append q ds (xs ++ (Give k r l so ∷ ys)),
        sends_append q xs (Give k r l so ∷ ys),
        sends_other q k r l so ys t.1,
      ) refl)
]

hop_got : (ds xs : List Item) (x : Item) (ys : List Item) → Free x xs → (q : ℕ) → recvs q (after_hop ds xs x ys) ≡ recvs q (before_hop ds xs x ys)
hop_got ds xs (Give k r l so) ys free q =
    let e : recvs q (ds ++ (Give k r l so ∷ [])) ≡ recvs q ds = recvs_append q ds (Give k r l so ∷ []) ∙ append-nil (recvs q ds) in
    rw (recvs_append q (ds ++ (Give k r l so ∷ [])) (xs ++ ys), e, recvs_append q xs ys, recvs_append q ds (xs ++ (Give k r l so ∷ ys)), recvs_append q xs (Give k r l so ∷ ys)) refl
hop_got ds xs (Get k r l so) ys free q = elim (eqb_tells r.0 q) [
  | inl t ↦ (
      let none : recvs q xs ≡ [] = (let P : ℕ → Type 0 = λ z. recvs z xs ≡ [] in subst P t.1 free.0) in
      let e : recvs q (after_hop ds xs (Get k r l so) ys) ≡ (recvs q ds ++ (entry k l so ∷ [])) ++ recvs q ys =
      rw (recvs_append q (ds ++ (Get k r l so ∷ [])) (xs ++ ys), recvs_append q ds (Get k r l so ∷ []), recvs_same q k r l so [] t.1, recvs_append q xs ys, none) refl in
      let f : recvs q (before_hop ds xs (Get k r l so) ys) ≡ recvs q ds ++ (entry k l so ∷ recvs q ys) =
      rw (recvs_append q ds (xs ++ (Get k r l so ∷ ys)), recvs_append q xs (Get k r l so ∷ ys), recvs_same q k r l so ys t.1, none) refl in
      e ∙ append_assoc (recvs q ds) (entry k l so ∷ []) (recvs q ys) ∙ sym f)
  | inr t ↦ (
      let e : recvs q (ds ++ (Get k r l so ∷ [])) ≡ recvs q ds = recvs_append q ds (Get k r l so ∷ []) ∙ ap (λ (z : List Entry). recvs q ds ++ z) (recvs_other q k r l so [] t.1)
      ∙ append-nil (recvs q ds) in
      rw (
        recvs_append q (ds ++ (Get k r l so ∷ [])) (xs ++ ys),
        e,
        recvs_append q xs ys,
        recvs_append q ds (xs ++ (Get k r l so ∷ ys)),
        recvs_append q xs (Get k r l so ∷ ys),
        recvs_other q k r l so ys t.1,
      ) refl)
]

-- an item left out
ordered_drop : (xs : List Item) (x : Item) (ys : List Item) → Ordered (xs ++ (x ∷ ys)) → Ordered (xs ++ ys)
ordered_drop [] (Give k r l so) ys h = h
ordered_drop [] (Get k r l so) ys h = h.1
ordered_drop (Give k r l so ∷ xs) x ys h = ordered_drop xs x ys h
ordered_drop (Get k r l so ∷ xs) x ys h = (each_append (Above k) xs ys (each_left (Above k) xs (x ∷ ys) h.0) (each_right (Above k) xs (x ∷ ys) h.0).1, ordered_drop xs x ys h.1)

ordered_right : (xs ys : List Item) → Ordered (xs ++ ys) → Ordered ys
ordered_right [] ys h = h
ordered_right (Give k r l so ∷ xs) ys h = ordered_right xs ys h
ordered_right (Get k r l so ∷ xs) ys h = ordered_right xs ys h.1

gets_above : (j : ℕ) (x : Item) → IsGet x → Above j x
gets_above j (Give k r l so) h = absurd h
gets_above j (Get k r l so) h = tt

hop_order : (ds xs : List Item) (x : Item) (ys : List Item) → Free x xs → Ordered (before_hop ds xs x ys) → Ordered (after_hop ds xs x ys)
hop_order [] xs (Give k r l so) ys free h = ordered_drop xs (Give k r l so) ys h
hop_order [] xs (Get k r l so) ys free h =
    let at = ordered_right xs (Get k r l so ∷ ys) h in
    (each_append (Above k) xs ys (each_more IsGet (Above k) xs (gets_above k) free.1) at.0, ordered_drop xs (Get k r l so) ys h)
hop_order (Give k r l so ∷ ds) xs x ys free h = hop_order ds xs x ys free h
hop_order (Get k r l so ∷ ds) xs x ys free h = (each_hop (Above k) ds xs x ys h.0, hop_order ds xs x ys free h.1)

hop_size : (ds xs : List Item) (x : Item) (ys : List Item) → length (after_hop ds xs x ys) ≡ length (before_hop ds xs x ys)
hop_size ds xs x ys = rw (length-append (ds ++ (x ∷ [])) (xs ++ ys), length-append ds (x ∷ []), length-append xs ys, length-append ds (xs ++ (x ∷ ys)), length-append xs (x ∷ ys)) (omega arith)

pub kept_hop : (ds xs : List Item) (x : Item) (ys : List Item) → Free x xs → Kept (before_hop ds xs x ys) (after_hop ds xs x ys)
kept_hop ds xs x ys free = record {
  sent = hop_sent ds xs x ys free;
  got = hop_got ds xs x ys free;
  order = hop_order ds xs x ys free;
  below = λ n h. each_hop (λ z. place_of z < n) ds xs x ys h;
  size = hop_size ds xs x ys;
}

-- a new item at the end, above all others
pub ordered_push : (xs : List Item) (x : Item) → Below (place_of x) xs → Ordered xs → Ordered (xs ++ (x ∷ []))
ordered_push [] (Give k r l so) b h = tt
ordered_push [] (Get k r l so) b h = (tt, tt)
ordered_push (Give k r l so ∷ xs) x b h = ordered_push xs x b.1 h
ordered_push (Get k r l so ∷ xs) (Give k' r' l' so') b h = (each_append (Above k) xs (Give k' r' l' so' ∷ []) h.0 (b.0, tt), ordered_push xs (Give k' r' l' so') b.1 h.1)
ordered_push (Get k r l so ∷ xs) (Get k' r' l' so') b h = (each_append (Above k) xs (Get k' r' l' so' ∷ []) h.0 (tt, tt), ordered_push xs (Get k' r' l' so') b.1 h.1)

pub below_push : (xs : List Item) (x : Item) (n : ℕ) → place_of x ≡ n → Below n xs → Below (suc n) (xs ++ (x ∷ []))
below_push xs x n e b = each_append (λ z. place_of z < suc n) xs (x ∷ []) (each_more (λ z. place_of z < n) (λ z. place_of z < suc n) xs (λ z h. omega arith) b) (omega arith, tt)

-- the place after the last item, from s on
abbrev pub seen : ℕ → List Item → ℕ
seen s [] = s
seen s (x ∷ xs) = seen (suc (place_of x)) xs

-- each place is at least where the last left off, and less than n further
abbrev pub Spaced : ℕ → ℕ → List Item → Type 0
Spaced n s [] = Unit {0}
Spaced n s (x ∷ xs) = (s ≤ place_of x) × (place_of x < s + n) × Spaced n (suc (place_of x)) xs

pub seen_snoc : (s : ℕ) (xs : List Item) (x : Item) → seen s (xs ++ (x ∷ [])) ≡ suc (place_of x)
seen_snoc s [] x = refl
seen_snoc s (y ∷ ys) x = seen_snoc (suc (place_of y)) ys x

pub spaced_snoc : (n s : ℕ) (xs : List Item) (x : Item) → Spaced n s xs → seen s xs ≤ place_of x → place_of x < seen s xs + n → Spaced n s (xs ++ (x ∷ []))
spaced_snoc n s [] x h a b = (a, b, tt)
spaced_snoc n s (y ∷ ys) x h a b = (h.0, h.1, spaced_snoc n (suc (place_of y)) ys x h.2 a b)

pub seen_bound : (n s : ℕ) (xs : List Item) → Spaced n s xs → seen s xs ≤ s + n * length xs
seen_bound n s [] h = omega arith
seen_bound n s (x ∷ xs) h =
    let ih : seen (suc (place_of x)) xs ≤ suc (place_of x) + n * length xs = seen_bound n (suc (place_of x)) xs h.2 in
    let a : place_of x < s + n = h.1 in
    rw (mul-suc n (length xs)) (omega arith)
