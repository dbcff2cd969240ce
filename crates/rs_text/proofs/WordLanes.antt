-- From the mask of one load to the bytes that words are made of.
use Rattle.std.proofs.Common.{◌≡◌, ℕ, zero, suc, ◌+◌, ◌%◌, ◌^◌, ◌<◌, ◌≤◌, Bool, true, not, List, [], ◌∷◌, map, length, length-take, take, drop, replicate, refl, sym, ap, ap₂, ◌∙◌, arith, inl, inr}
use Rattle.std.proofs.lemmas.Bool.{agree_below, agree_below_at, cases_eq, eq-eqb, ne_eqb, cond-true, cond-false}
use Rattle.std.proofs.lemmas.Simd.{map-map, mask_l-mod, length-chunk, leading_from_mask_l, trailing_mask_l}
use Rattle.std.proofs.lemmas.List.{length-map}
use Rattle.std.proofs.lemmas.List.Sums.{prefix_len-le-length}
use Rattle.std.specs.List.{prefix_len}
use lib.Lanes.{chunk, zip2, mask_l, top}
use Rattle.rs_text.specs.Bytes.{is_word_byte}
use Rattle.rs_text.specs.Lexing.{word_length}
use Rattle.rs_text.specs.WordLanes.{first_set}
use Rattle.rs_text.proofs.Eights.{AreBytes, bytes_taken}
use Rattle.rs_text.proofs.Gaps.{true_or_false}

zip2-map : (h : ℕ → ℕ → ℕ) (f g : ℕ → ℕ) (xs : List ℕ) → zip2 h (map f xs) (map g xs) ≡ map (λ x. h (f x) (g x)) xs
zip2-map h f g [] = refl
zip2-map h f g (x ∷ xs) = ap (λ r. h (f x) (g x) ∷ r) (zip2-map h f g xs)

-- an operation on two vectors that were computed lane by lane from v
pub joined : (h : ℕ → ℕ → ℕ) (f g : ℕ → ℕ) (v : List ℕ) {a b : List ℕ} → a ≡ map f v → b ≡ map g v → zip2 h a b ≡ map (λ x. h (f x) (g x)) v
joined h f g v p q = ap₂ (zip2 h) p q ∙ zip2-map h f g v

pub splat_is : (v : List ℕ) (n y : ℕ) → length v ≡ n → replicate n y ≡ map (λ _. y) v
splat_is [] n y e = ap (λ k. replicate k y) (sym e)
splat_is (x ∷ xs) n y e = ap (λ k. replicate k y) (sym e) ∙ ap (λ r. y ∷ r) (splat_is xs (length xs) y refl)

run_is : (p : ℕ → Bool) (v : List ℕ) → length v ≡ 16 → first_set (mask_l (map p v)) ≡ prefix_len (λ x. not (p x)) v
run_is p v long =
    elim (cases_eq (mask_l (map p v)) 0) [
      | inl none ↦ cond-true _ _ _ (eq-eqb _ _ none) ∙ sym (leading_from_mask_l p v none ∙ long)
      | inr some ↦ cond-false _ _ _ (ne_eqb _ _ some) ∙ trailing_mask_l p 64 v (omega arith) (omega arith)
    ]

same_prefix : (p q : ℕ → Bool) (xs : List ℕ) → agree_below p q 256 ≡ true → AreBytes xs → prefix_len p xs ≡ prefix_len q xs
same_prefix p q [] agree small = refl
same_prefix p q (x ∷ xs) agree small = rw (agree_below_at p q 256 x agree (small 0), same_prefix p q xs agree (λ k. small (suc k))) refl

-- the lanes at which nothing stops are those of bytes that words are made of
pub run_found : (d : List ℕ) (r : ℕ) (z : List ℕ) (f : ℕ → ℕ) → 16 ≤ length d → AreBytes d → r ≡ first_set (mask_l (map (top 7) z) % 2 ^ 64) → z ≡ map f (chunk 0 16 d)
    → agree_below (λ x. not (top 7 (f x))) is_word_byte 256 ≡ true → r ≡ word_length (take 16 d)
run_found d r z f room small found lanes agree =
    let v = chunk 0 16 d in
    let long : length (chunk 0 16 d) ≡ 16 = length-chunk 0 16 d (omega arith) in
    let mask = ap (λ l. mask_l l % 2 ^ 64) (ap (map (top 7)) lanes ∙ map-map (top 7) f v) ∙ mask_l-mod (map (λ x. top 7 (f x)) v) 64 (omega (arith, length-map v (λ x. top 7 (f x)), long)) in
    found ∙ ap first_set mask ∙ run_is (λ x. top 7 (f x)) v long ∙ same_prefix (λ x. not (top 7 (f x))) is_word_byte v agree (λ k. bytes_taken d 16 0 k small)

-- ---- the bytes in front of a text, by those of its front

run_short : (n : ℕ) (xs : List ℕ) → word_length (take n xs) < n → word_length xs ≡ word_length (take n xs)
run_short zero xs short = absurd (omega arith)
run_short (suc n) [] short = refl
run_short (suc n) (x ∷ xs) short = elim (true_or_false (is_word_byte x)) [
  | inl e ↦ (let less : word_length (take n xs) < n = (let s = rw e at short in omega arith) in rw (e, run_short n xs less) refl)
  | inr e ↦ rw e refl
]

run_whole : (n : ℕ) (xs : List ℕ) → word_length (take n xs) ≡ n → word_length xs ≡ n + word_length (drop n xs)
run_whole zero xs whole = omega arith
run_whole (suc n) [] whole = absurd (omega arith)
run_whole (suc n) (x ∷ xs) whole = elim (true_or_false (is_word_byte x)) [
  | inl e ↦ (let more : word_length (take n xs) ≡ n = (let s = rw e at whole in omega arith) in rw e (let i = run_whole n xs more in omega arith))
  | inr e ↦ absurd (let s = rw e at whole in omega arith)
]

-- it ends among the first bytes
pub run_ends : (n r : ℕ) (xs : List ℕ) → r ≡ word_length (take n xs) → r < n → r ≡ word_length xs
run_ends n r xs is less = is ∙ sym (run_short n xs (omega arith))

-- it goes on behind them
pub run_goes_on : (n r : ℕ) (xs behind : List ℕ) → r ≡ word_length (take n xs) → n ≤ r → behind ≡ drop n xs → word_length xs ≡ n + word_length behind
run_goes_on n r xs behind is more at =
    let most = prefix_len-le-length is_word_byte (take n xs) in
    let size = length-take n xs in
    let whole : word_length (take n xs) ≡ n = omega arith in
    run_whole n xs whole ∙ ap (λ z. n + word_length z) (sym at)
