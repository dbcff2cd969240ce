use Rattle.std.proofs.Common.{◌≡◌, ℕ, zero, suc, ◌-◌, ◌<◌, ◌≤◌, List, [], ◌∷◌, ◌++◌, length, take, drop, reverse, get_or, Bool, true, false, if◌then◌else◌, Some, None, refl, sym, ap, ◌∙◌}
use Rattle.std.proofs.Common.{length-drop, arith}
use Rattle.std.proofs.lemmas.List.{reverse-append, length-reverse, take-append-drop}
use Rattle.std.proofs.Math.Seq.{drop-append_seam, take-suc}
use Rattle.std.specs.Str.{bytes_eq}
use Rattle.rs_text.specs.Names.{BoundNames, nearest_binding}

-- of the first bindings the last one is the nearest
nearest_first : (name : List ℕ) (bs : BoundNames) (n : ℕ) (b : List ℕ × ℕ) → n < length bs → b ≡ get_or bs n b
    → nearest_binding name (reverse (take (suc n) bs)) ≡ (if bytes_eq b.0 name then Some b.1 else nearest_binding name (reverse (take n bs)))
nearest_first name bs n b within is =
    ap (λ (z : BoundNames). nearest_binding name (reverse z)) (take-suc bs n b within)
    ∙ ap (nearest_binding name) (reverse-append (take n bs) (get_or bs n b ∷ []))
    ∙ ap (λ (x : List ℕ × ℕ). if bytes_eq x.0 name then Some x.1 else nearest_binding name (reverse (take n bs))) (sym is)

-- of the first bindings the last one is the nearest where it has the name
pub nearest_there : (name : List ℕ) (bs : BoundNames) (n left : ℕ) (b : List ℕ × ℕ) → suc n ≡ left → n < length bs → b ≡ get_or bs n b → bytes_eq b.0 name ≡ true
    → nearest_binding name (reverse (take left bs)) ≡ nearest_binding name (reverse bs) → Some b.1 ≡ nearest_binding name (reverse bs)
nearest_there name bs n left b before within is same e =
    sym (ap (λ (z : Bool). if z then Some b.1 else nearest_binding name (reverse (take n bs))) same) ∙ sym (nearest_first name bs n b within is)
    ∙ ap (λ k. nearest_binding name (reverse (take k bs))) before ∙ e

-- the nearest binding stands before one that has another name
pub nearest_before : (name : List ℕ) (bs : BoundNames) (n left : ℕ) (b : List ℕ × ℕ) → suc n ≡ left → n < length bs → b ≡ get_or bs n b → bytes_eq b.0 name ≡ false
    → nearest_binding name (reverse (take left bs)) ≡ nearest_binding name (reverse bs) → nearest_binding name (reverse (take n bs)) ≡ nearest_binding name (reverse bs)
nearest_before name bs n left b before within is other e =
    sym (ap (λ (z : Bool). if z then Some b.1 else nearest_binding name (reverse (take n bs))) other) ∙ sym (nearest_first name bs n b within is)
    ∙ ap (λ k. nearest_binding name (reverse (take k bs))) before ∙ e

-- where none is left, none has the name
pub nothing_left : (name : List ℕ) (bs : BoundNames) (left : ℕ) → left ≤ 0 → nearest_binding name (reverse (take left bs)) ≡ nearest_binding name (reverse bs)
    → None ≡ nearest_binding name (reverse bs)
nothing_left name bs zero none e = e
nothing_left name bs (suc left) none e = absurd (omega arith)

-- the bindings in front are the farthest
pub cut_short : (n : ℕ) (xs : BoundNames) → drop (length (reverse xs) - n) (reverse xs) ≡ reverse (take n xs)
cut_short n xs =
    let parts : reverse xs ≡ reverse (drop n xs) ++ reverse (take n xs) = ap reverse (sym (take-append-drop n xs)) ∙ reverse-append (take n xs) (drop n xs) in
    let size : length (reverse xs) - n ≡ length (reverse (drop n xs)) = rw (length-reverse xs, length-reverse (drop n xs), length-drop n xs) refl in
    ap (λ k. drop k (reverse xs)) size ∙ ap (λ z. drop (length (reverse (drop n xs))) z) parts ∙ drop-append_seam (reverse (drop n xs)) (reverse (take n xs))
