-- Whether bytes spell the numbers that a demo asks for is decided.
use Rattle.std.proofs.Common.{◌≡◌, ◌⊎◌, inl, inr, ℕ, zero, suc, ◌^◌, ◌<◌, ◌≤◌, ℤ, pos, negsuc, FitsSigned, Bool, true, false, List, [], ◌∷◌, length, take, drop, ◌++◌, refl, sym, ap, subst, ◌∙◌, arith}
use Rattle.std.specs.Char.{digit_value}
use Rattle.std.specs.Int.{w64}
use Rattle.std.specs.List.{enumerate_from}
use Rattle.std.specs.Str.Parse.{AllDigits, IsNumeral, digits_value}
use Rattle.std.specs.Prelude.{map, None}
use Rattle.std.proofs.lemmas.Bool.Decides.{leb_tells, eqb_tells}
use Rattle.std.proofs.lemmas.Str.Parse.{digit_from_value}
use Rattle.rs_demos.specs.Numbers.{AreAsked, IsNumber, SpellsNumbers, minus_text, takes_numbers, with_sign}
use Rattle.rs_demos.specs.Reading.{behind_blanks, word_len}
use Rattle.rs_demos.specs.Starts.{HasNoNumbers, StartsWithActors, butterfly_member, ring_member}
use Rattle.rs_demos.specs.declared.actors.DemoTalker.{DemoTalker}
use Rattle.rs_demos.specs.declared.actors.DemoTalker.TheVariants as actor
use Rattle.rs_model.specs.declared.demos.Demo.{Demo}
use Rattle.rs_model.specs.declared.demos.Demo.TheVariants as demo
use Rattle.rs_demos.proofs.Spelt.{StartsAWord, asks_none, before_of, behind_of, behind_starts, fewer, next_word, number_length, one_spelling, some_word}

less_or_not : (a b : ℕ) → (a < b) ⊎ (a < b → ⊥)
less_or_not a b = elim (leb_tells (suc a) b) [ inl t ↦ inl t.1 | inr t ↦ inr (λ l. let m = t.1 in absurd (omega (arith, l, m))) ]

fits_or_not : (z : ℤ) → FitsSigned w64 z ⊎ (FitsSigned w64 z → ⊥)
fits_or_not (pos n) = elim (less_or_not n (2 ^ 63)) [ inl h ↦ inl (record { sfits = h }) | inr h ↦ inr (λ f. h f.sfits) ]
fits_or_not (negsuc n) = elim (less_or_not n (2 ^ 63)) [ inl h ↦ inl (record { sfits = h }) | inr h ↦ inr (λ f. h f.sfits) ]

digits_or_not : (ds : List ℕ) → AllDigits 10 ds ⊎ (AllDigits 10 ds → ⊥)
digits_or_not [] = inl tt
digits_or_not (d ∷ ds) = elim (less_or_not (digit_value d) 10) [
  | inl h ↦ elim (digits_or_not ds) [ inl k ↦ inl (h, k) | inr k ↦ inr (λ both. k both.1) ]
  | inr h ↦ inr (λ both. h both.0)
]

-- the digits, after their sign, write a number
record Write (minus : Bool) (ds : List ℕ) : Type 0 where
  numeral : IsNumeral 10 ds
  bounded : length ds ≤ 20
  fits : FitsSigned w64 (with_sign minus (digits_value 10 ds))

write_or_not : (minus : Bool) (ds : List ℕ) → Write minus ds ⊎ (Write minus ds → ⊥)
write_or_not minus ds = elim (less_or_not 0 (length ds)) [
  | inl some ↦ elim (less_or_not (length ds) 21) [
    | inl few ↦ elim (digits_or_not ds) [
      | inl all ↦ elim (fits_or_not (with_sign minus (digits_value 10 ds))) [
        | inl fits ↦ inl (record { numeral = (some, all); bounded = omega (arith, few); fits = fits })
        | inr isnt ↦ inr (λ w. isnt w.fits)
      ]
      | inr isnt ↦ inr (λ w. isnt w.numeral.1)
    ]
    | inr isnt ↦ inr (λ w. let few = w.bounded in isnt (omega (arith, few)))
  ]
  | inr isnt ↦ inr (λ w. isnt w.numeral.0)
]

written : (word : List ℕ) (minus : Bool) (ds : List ℕ) → word ≡ minus_text minus ++ ds → Write minus ds → IsNumber word (with_sign minus (digits_value 10 ds))
written word minus ds e w = record { minus = minus; digits = ds; spelt = e; numeral = w.numeral; bounded = w.bounded; value = refl; fits = w.fits }

writes : (word : List ℕ) (z : ℤ) (n : IsNumber word z) → Write n.minus n.digits
writes word z n = record { numeral = n.numeral; bounded = n.bounded; fits = subst (λ (x : ℤ). FitsSigned w64 x) n.value n.fits }

number_or_not : (word : List ℕ) → ((z : ℤ) × IsNumber word z) ⊎ ((z : ℤ) → IsNumber word z → ⊥)
number_or_not [] = inr (λ z n. let some = number_length [] z n in absurd (omega (arith, some)))
number_or_not (c ∷ cs) = elim (eqb_tells c 45) [
  | inl t ↦ elim (write_or_not true cs) [
    | inl w ↦ inl (_, written (c ∷ cs) true cs (ap (λ (x : ℕ). x ∷ cs) t.1) w)
    | inr isnt ↦ inr (λ z n. with_minus t.1 isnt n.minus n.digits n.spelt (writes (c ∷ cs) z n))
  ]
  | inr t ↦ elim (write_or_not false (c ∷ cs)) [
    | inl w ↦ inl (_, written (c ∷ cs) false (c ∷ cs) refl w)
    | inr isnt ↦ inr (λ z n. without_minus t.1 isnt n.minus n.digits n.spelt (writes (c ∷ cs) z n))
  ]
]
  where
    with_minus : c ≡ 45 → (Write true cs → ⊥) → (minus : Bool) (ds : List ℕ) → c ∷ cs ≡ minus_text minus ++ ds → Write minus ds → ⊥
    with_minus is isnt true ds e w = let same : ds ≡ cs = cc (e) in isnt (subst (λ (x : List ℕ). Write true x) same w)
    with_minus is isnt false ds e w =
        let all : AllDigits 10 (c ∷ cs) = subst (λ (x : List ℕ). AllDigits 10 x) (sym e) w.numeral.1 in
        let r = digit_from_value c all.0 in
        omega (arith, r, is)

    without_minus : (c ≡ 45 → ⊥) → (Write false (c ∷ cs) → ⊥) → (minus : Bool) (ds : List ℕ) → c ∷ cs ≡ minus_text minus ++ ds → Write minus ds → ⊥
    without_minus other isnt true ds e w = let same : c ≡ 45 = cc (e) in other same
    without_minus other isnt false ds e w = isnt (subst (λ (x : List ℕ). Write false x) (sym e) w)

-- the bytes spell numbers, or none
abbrev Spelt_or_not : List ℕ → Type 0
Spelt_or_not bytes = ((zs : List ℤ) × SpellsNumbers zs bytes) ⊎ ((zs : List ℤ) → SpellsNumbers zs bytes → ⊥)

one_word : (left : List ℕ) → StartsAWord left → 0 < length left → Spelt_or_not (behind_blanks (drop (word_len left) left)) → Spelt_or_not left
one_word left starts there later = elim (number_or_not (take (word_len left) left)) [
  | inl n ↦ elim later [
    | inl zs ↦ inl (n.0 ∷ zs.0, next_word left n.0 zs.0 n.1 (before_of (drop (word_len left) left) zs.0 zs.1))
    | inr isnt ↦ inr (λ zs s. let f = some_word left zs starts there s in isnt f.1 (behind_of (drop (word_len left) left) f.1 f.2.later))
  ]
  | inr isnt ↦ inr (λ zs s. let f = some_word left zs starts there s in isnt f.0 f.2.number)
]

word_by_word : (most : ℕ) (left : List ℕ) → StartsAWord left → length left ≤ most → Spelt_or_not left
word_by_word most [] starts le = inl ([], refl)
word_by_word zero (b ∷ left) starts le = absurd (omega (arith, le))
word_by_word (suc most) (b ∷ left) starts le =
    let behind = drop (word_len (b ∷ left)) (b ∷ left) in
    let less = fewer (b ∷ left) starts (omega arith) in
    one_word (b ∷ left) starts (omega arith) (word_by_word most (behind_blanks behind) (behind_starts behind) (omega (arith, less, le)))

spelt_or_not : (bytes : List ℕ) → Spelt_or_not bytes
spelt_or_not bytes = elim (word_by_word (length (behind_blanks bytes)) (behind_blanks bytes) (behind_starts bytes) (omega arith)) [
  | inl s ↦ inl (s.0, before_of bytes s.0 s.1)
  | inr isnt ↦ inr (λ zs s. isnt zs (behind_of bytes zs s))
]

abbrev Asked_or_not : Demo → List ℕ → Type 0
Asked_or_not kind bytes = ((zs : List ℤ) × AreAsked kind bytes zs) ⊎ ((zs : List ℤ) → AreAsked kind bytes zs → ⊥)

asked_or_not : (kind : Demo) (bytes : List ℕ) → Asked_or_not kind bytes
asked_or_not kind bytes = elim (spelt_or_not bytes) [
  | inl s ↦ go s.0 s.1 (takes_numbers kind (length s.0)) refl
  | inr isnt ↦ inr (λ zs a. isnt zs a.1)
]
  where
    go : (zs : List ℤ) → SpellsNumbers zs bytes → (b : Bool) → takes_numbers kind (length zs) ≡ b → Asked_or_not kind bytes
    go zs s true t = inl (zs, (t, s))
    go zs s false t = inr (λ ys a. asks_none kind bytes zs ys s t a)

-- a demo has actors for the bytes, or the bytes aren't the numbers that it asks for
pub actors_or_none : (kind : Demo) (bytes : List ℕ) → ((actors : List DemoTalker) × StartsWithActors kind bytes actors) ⊎ HasNoNumbers kind bytes
actors_or_none demo.Double bytes = inl (actor.Kernel (record { piece = None }) ∷ actor.Source bytes ∷ actor.Sink [] ∷ [], refl)
actors_or_none demo.Stream bytes = inl (actor.Source bytes ∷ actor.Sink [] ∷ [], refl)
actors_or_none demo.Ring bytes = elim (asked_or_not demo.Ring bytes) [ inl a ↦ inl (map ring_member a.0, (a.0, a.1, refl)) | inr isnt ↦ inr isnt ]
actors_or_none demo.Butterfly bytes = elim (asked_or_not demo.Butterfly bytes) [ inl a ↦ inl (map butterfly_member (enumerate_from 0 a.0), (a.0, a.1, refl)) | inr isnt ↦ inr isnt ]

-- a demo doesn't have both actors for the bytes and bytes that aren't the numbers that it asks for
pub not_both_shown : (kind : Demo) (bytes : List ℕ) (actors : List DemoTalker) → StartsWithActors kind bytes actors → HasNoNumbers kind bytes → ⊥
not_both_shown demo.Double bytes actors s isnt = isnt
not_both_shown demo.Stream bytes actors s isnt = isnt
not_both_shown demo.Ring bytes actors s isnt = isnt s.0 s.1
not_both_shown demo.Butterfly bytes actors s isnt = isnt s.0 s.1

-- the actors of a demo are one list
pub one_start : (kind : Demo) (bytes : List ℕ) (xs ys : List DemoTalker) → StartsWithActors kind bytes xs → StartsWithActors kind bytes ys → xs ≡ ys
one_start demo.Double bytes xs ys s t = s ∙ sym t
one_start demo.Stream bytes xs ys s t = s ∙ sym t
one_start demo.Ring bytes xs ys s t = s.2 ∙ ap (λ (zs : List ℤ). map ring_member zs) (one_spelling s.0 t.0 bytes s.1.1 t.1.1) ∙ sym t.2
one_start demo.Butterfly bytes xs ys s t = s.2 ∙ ap (λ (zs : List ℤ). map butterfly_member (enumerate_from 0 zs)) (one_spelling s.0 t.0 bytes s.1.1 t.1.1) ∙ sym t.2
