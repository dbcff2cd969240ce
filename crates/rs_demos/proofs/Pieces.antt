-- What is left after a piece.
use Rattle.std.proofs.Common.{◌≡◌, ℕ, ◌+◌, ◌≤◌, List, length, take, drop, [], ◌∷◌, zero, suc, refl, sym, ap, ◌∙◌, arith, length-drop}
use Rattle.std.proofs.lemmas.List.{drop-drop, length-take}

-- as many elements as are taken are dropped
drop_taken : (n : ℕ) (xs : List ℕ) → drop (length (take n xs)) xs ≡ drop n xs
drop_taken zero xs = refl
drop_taken (suc n) [] = refl
drop_taken (suc n) (x ∷ xs) = drop_taken n xs

pub send_on : (sent n : ℕ) (xs ys : List ℕ) → ys ≡ drop sent xs → drop (sent + length (take n ys)) xs ≡ drop n ys
send_on sent n xs ys e = sym (drop-drop (length (take n ys)) sent xs) ∙ ap (λ (z : List ℕ). drop (length (take n ys)) z) (sym e) ∙ drop_taken n ys

pub within : (sent n : ℕ) (xs : List ℕ) → sent ≤ length xs → sent + length (take n (drop sent xs)) ≤ length xs
within sent n xs h = omega (arith, length-take n (drop sent xs), length-drop sent xs)
