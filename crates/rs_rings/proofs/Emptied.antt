-- Slots that are emptied one by one.
use Rattle.std.proofs.Common.{◌≡◌, ℕ, zero, suc, ◌+◌, ◌*◌, ◌-◌, ◌/◌, ◌%◌, ◌<◌, ◌≤◌, List, [], ◌∷◌, ◌++◌, length, take, drop, map, Bool, true, false, refl, sym, ap, ◌∙◌, subst, inl, inr, ⊎_elim}
use Rattle.std.proofs.Common.{arith, Option, slice_get, slice_set, slice_index_or, mul-le-mul_right, suc-mul}
use Rattle.std.proofs.lemmas.List.{get_or-set_same, get_or-set_other}
use mathlib.Core.Option.{some}
use native.Mathlib.Decide.{ℕ_discrete, dec_le}
use mathlib.Core.Logic.{dite}
use lib.ListN.{get_elem?}
use Rattle.rs_model.specs.declared.limits.TheConstants.{MOST_CAPACITY}
use Rattle.rs_slots.specs.declared.parcels.Parcel.{Parcel}
use Rattle.rs_rings.specs.Closed.{loose_from, sender_of, receiver_of}
use Rattle.rs_rings.specs.Emptied.{content_of, loose_in_slot, loose_in_slots, Emptied, RingHolds}
use Rattle.rs_slots.specs.Places.{ring_count, ring_of, column, IsPair}
use Rattle.rs_rings.specs.declared.loose.Loose.{Loose}
use native.Mathlib.Nat.{add-mod_left}
use Rattle.std.proofs.Math.Nat.{div-lt_iff_lt-mul, mod-add-mod, mod-eq_of_lt}
use Rattle.std.proofs.lemmas.Nat.{div-add-mod', mod_below}
use Rattle.std.proofs.lemmas.Bool.Decides.{leb_tells}

-- a place that is filled lies within
inside : (l : List Bool) (i : ℕ) → slice_index_or l i false ≡ true → i < length l
inside [] i e = absurd (cc (e))
inside (b ∷ l) zero e = omega arith
inside (b ∷ l) (suc i) e = let r = inside l i e in omega arith

-- one place more
pub emptied_more : (old new : List Bool) (low i : ℕ) → low ≤ i → Emptied old new low i → slice_index_or new i false ≡ true → Emptied old (slice_set new i false) low (i + 1)
emptied_more old new low i le e full = record {
  inside = λ k lo hi. dite (ℕ_discrete k i) (λ is. ap (λ (j : ℕ). slice_index_or (slice_set new i false) j false) is ∙ get_or-set_same new i false false (inside new i full))
      (λ ne. get_or-set_other new i k false false ne ∙ e.inside k lo (omega arith));
  outside = λ k or. ⊎_elim (λ (l : k < low). get_or-set_other new i k false false (λ is. omega arith) ∙ e.outside k (inl l))
      (λ (h : i + 1 ≤ k). get_or-set_other new i k false false (λ is. omega arith) ∙ e.outside k (inr (omega arith))) or;
}

-- what is found in one slot more
pub found_more : (xs : List (Option Parcel)) (p q from i : ℕ) (o : Option Parcel) → from ≤ i → get_elem? xs i ≡ some o
    → loose_in_slots xs p q from (i + 1 - from) ≡ loose_in_slots xs p q from (i - from) ++ content_of p q o
found_more xs p q from i o le e = let m : ℕ = i - from in let a : i + 1 - from ≡ suc m = omega arith in let b : from + m ≡ i = omega arith in
    ap (loose_in_slots xs p q from) a ∙ ap (λ (z : ℕ). loose_in_slots xs p q from m ++ loose_in_slot p q (get_elem? xs z)) b ∙ ap (λ z. loose_in_slots xs p q from m ++ loose_in_slot p q z) e

take_more : (p q : ℕ) (ys : List Parcel) (m : ℕ) → map (loose_from p q) (take (suc m) ys) ≡ map (loose_from p q) (take m ys) ++ content_of p q (slice_get ys m)
take_more p q [] zero = refl
take_more p q [] (suc m) = refl
take_more p q (y ∷ ys) zero = refl
take_more p q (y ∷ ys) (suc m) = ap (λ (l : List Loose). loose_from p q y ∷ l) (take_more p q ys m)

get_drop : (ys : List Parcel) (o m : ℕ) → slice_get (drop o ys) m ≡ slice_get ys (o + m)
get_drop ys zero m = let z : m ≡ zero + m = omega arith in ap (slice_get ys) z
get_drop [] (suc o) m = refl
get_drop (y ∷ ys) (suc o) m = let z : suc (o + m) ≡ suc o + m = omega arith in get_drop ys o m ∙ ap (slice_get (y ∷ ys)) z

found_is : (xs : List (Option Parcel)) (p q from m : ℕ) (ys : List Parcel) (o : ℕ) → ((i : ℕ) → i < m → get_elem? xs (from + i) ≡ some (slice_get ys (o + i)))
    → loose_in_slots xs p q from m ≡ map (loose_from p q) (take m (drop o ys))
found_is xs p q from zero ys o at = refl
found_is xs p q from (suc m) ys o at =
    ap (λ (l : List Loose). l ++ loose_in_slot p q (get_elem? xs (from + m))) (found_is xs p q from m ys o (λ i l. at i (omega arith)))
    ∙ ap (λ z. map (loose_from p q) (take m (drop o ys)) ++ loose_in_slot p q z) (at m (omega arith) ∙ ap some (sym (get_drop ys o m)))
    ∙ sym (take_more p q (drop o ys) m)

take_none : (r : ℕ) → (let e : List Parcel = [] in take r e ≡ e)
take_none zero = refl
take_none (suc r) = refl

take_all : (p q : ℕ) (l : List Parcel) (r : ℕ) → length l ≤ r → map (loose_from p q) (take r l) ≡ map (loose_from p q) l
take_all p q [] r le = ap (map (loose_from p q)) (take_none r)
take_all p q (y ∷ l) zero le = absurd (omega arith)
take_all p q (y ∷ l) (suc r) le = ap (λ (z : List Loose). loose_from p q y ∷ z) (take_all p q l r (omega arith))

halves : (p q : ℕ) (l : List Parcel) (m r : ℕ) → length l ≤ m + r → map (loose_from p q) (take m l) ++ map (loose_from p q) (take r (drop m l)) ≡ map (loose_from p q) l
halves p q l zero r le = take_all p q l r (omega arith)
halves p q [] (suc m) r le = ap (map (loose_from p q)) (take_none r)
halves p q (y ∷ l) (suc m) r le = ap (λ (z : List Loose). loose_from p q y ∷ z) (halves p q l m r (omega arith))

-- the two halves of a ring's slots
pub ring_found : (xs : List (Option Parcel)) (cap base g : ℕ) (left : List Parcel) (p q : ℕ) → 1 ≤ cap → RingHolds xs cap base g left
    → loose_in_slots xs p q (base + g % cap) (base + cap - (base + g % cap)) ++ loose_in_slots xs p q base (base + g % cap - base) ≡ map (loose_from p q) left
ring_found xs cap base g left p q pos holds =
    (λ i. loose_in_slots xs p q (base + f) (hi i) ++ loose_in_slots xs p q base (lo i))
    ∙ ap (λ (l : List Loose). l ++ loose_in_slots xs p q base f) (found_is xs p q (base + f) (cap - f) left 0 upper)
    ∙ ap (λ (l : List Loose). map (loose_from p q) (take (cap - f) left) ++ l) (found_is xs p q base f left (cap - f) lower)
    ∙ halves p q left (cap - f) f (let l = holds.0 in omega arith)
  where
    f : ℕ
    f = g % cap

    small : f < cap
    small = mod_below g cap pos

    hi : base + cap - (base + f) ≡ cap - f
    hi = omega arith

    lo : base + f - base ≡ f
    lo = omega arith

    upper : (i : ℕ) → i < cap - f → get_elem? xs (base + f + i) ≡ some (slice_get left (0 + i))
    upper i l = let e : (g + i) % cap ≡ f + i = sym (mod-add-mod g cap i) ∙ mod-eq_of_lt (let s = small in omega arith) in
        let at : base + f + i ≡ base + (g + i) % cap = (let k : ℕ = (g + i) % cap in let e' : k ≡ f + i = e in omega arith) in
        let z : i ≡ 0 + i = omega arith in
        ap (get_elem? xs) at ∙ holds.1 i (omega arith) ∙ ap (λ (k : ℕ). some (slice_get left k)) z

    lower : (i : ℕ) → i < f → get_elem? xs (base + i) ≡ some (slice_get left (cap - f + i))
    lower i l = let s = small in let j : ℕ = cap - f + i in let sum : f + j ≡ cap + i = omega arith in
        let e : (g + j) % cap ≡ i = sym (mod-add-mod g cap j) ∙ ap (λ (k : ℕ). k % cap) sum ∙ add-mod_left cap i ∙ mod-eq_of_lt (omega arith) in
        ap (λ (k : ℕ). get_elem? xs (base + k)) (sym e) ∙ holds.1 j (omega arith)

-- each number is that of one ring
pub pair_at : (n i : ℕ) → 2 ≤ n → i < ring_count n → IsPair n (sender_of n i) (receiver_of n i) × (ring_of n (sender_of n i) (receiver_of n i) ≡ i)
pair_at n i two there = elim (leb_tells (suc c) s) [
  | inl h ↦ (let r : receiver_of n i ≡ c = rw h.0 refl in let lt = h.1 in let below = s_below in (
    record { sender = below; receiver = subst (λ (z : ℕ). z < n) (sym r) (omega arith); differ = λ e. let e' : s ≡ c = e ∙ r in omega arith },
    ap (λ (z : ℕ). s * (n - 1) + column s z) r ∙ ap (λ (z : ℕ). s * (n - 1) + z) (rw h.0 refl) ∙ div-add-mod' i (n - 1),
  ))
  | inr h ↦ (let r : receiver_of n i ≡ c + 1 = rw h.0 refl in let le = h.1 in let below = s_below in let cb = c_below in (
    record { sender = below; receiver = subst (λ (z : ℕ). z < n) (sym r) (omega arith); differ = λ e. let e' : s ≡ c + 1 = e ∙ r in omega arith },
    ap (λ (z : ℕ). s * (n - 1) + column s z) r ∙ ap (λ (z : ℕ). s * (n - 1) + z) (higher (omega arith)) ∙ div-add-mod' i (n - 1),
  ))
]
  where
    s : ℕ
    s = i / (n - 1)

    c : ℕ
    c = i % (n - 1)

    c_below : c < n - 1
    c_below = mod_below i (n - 1) (omega arith)

    s_below : s < n
    s_below = (div-lt_iff_lt-mul {k = n - 1} {x = i} {y = n} (omega arith)).1 there

    higher : s < c + 1 → column s (c + 1) ≡ c
    higher lt = elim (leb_tells (suc (c + 1)) s) [ inl h ↦ (let no' = h.1 in absurd (omega arith)) | inr h ↦ rw h.0 (let z : c + 1 - 1 ≡ c = omega arith in z) ]

pub base_within : (i n cap : ℕ) → i < n → i * cap + cap ≤ n * cap
base_within i n cap l =
    let a : suc i * cap ≤ n * cap = mul-le-mul_right cap l in let m : ℕ = n * cap in let b : ℕ = i * cap in let e : suc i * cap ≡ b + cap = suc-mul i cap in let a' : b + cap ≤ m = subst
    (λ (z : ℕ). z ≤ m) e a in a'

pub base_next : (i cap : ℕ) → (i + 1) * cap ≡ i * cap + cap
base_next i cap = let e : i + 1 ≡ suc i = omega arith in ap (λ (z : ℕ). z * cap) e ∙ suc-mul i cap

pub rings_small : (n : ℕ) → n ≤ 16 → ring_count n ≤ 240
rings_small n l = let a : n * (n - 1) ≤ 16 * (n - 1) = mul-le-mul_right (n - 1) l in let m : ℕ = n * (n - 1) in let a' : m ≤ 16 * (n - 1) = a in let g : m ≤ 240 = omega arith in g

pub base_small : (i n cap : ℕ) → i < ring_count n → n ≤ 16 → cap ≤ MOST_CAPACITY → i * cap < 4294967296
base_small i n cap l s c =
    let r = rings_small n s in let i' : i ≤ 240 = omega arith in let a : i * cap ≤ 240 * cap = mul-le-mul_right cap i' in let b : ℕ = i * cap in let a' : b ≤ 240 * cap = a in let g : b < 4294967296 =
    omega arith in g

-- one ring's slots more
pub emptied_to : (old new : List Bool) (b cap : ℕ) → Emptied old new b (b + cap) → ((k : ℕ) → k < b → slice_index_or old k false ≡ false) → (k : ℕ) → k < b + cap → slice_index_or new k false ≡ false
emptied_to old new b cap e done k l = dite (dec_le b k) (λ le. e.inside k le l) (λ no'. let lt : k < b = omega arith in e.outside k (inl lt) ∙ done k lt)
