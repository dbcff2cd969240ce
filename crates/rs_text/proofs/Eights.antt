-- Four or eight bytes are equal where their numbers are.
use Rattle.std.proofs.Common.{◌≡◌, ℕ, suc, ◌+◌, ◌-◌, ◌/◌, ◌<◌, ◌≤◌, List, [], ◌∷◌, ◌++◌, length, take, drop, get_or, inl, inr, refl, sym, ap, ◌∙◌, arith, length-take, length-drop}
use Rattle.std.proofs.lemmas.List.{get_or-take, get_or-drop, get_or_past, take-append-drop, take-take, take_all, drop-drop}
use Rattle.std.proofs.lemmas.Bool.Decides.{leb_tells}
use Rattle.std.proofs.lemmas.Nat.{le_bytes_4, le_bytes_8}
use Rattle.rs_text.specs.Eights.{half_at, word_at}

-- each is a byte
abbrev pub AreBytes : List ℕ → Type 0
AreBytes xs = (i : ℕ) → get_or xs i 0 < 256

pub bytes_taken : (xs : List ℕ) (n p i : ℕ) → AreBytes xs → get_or (take n (drop p xs)) i 0 < 256
bytes_taken xs n p i small = elim (leb_tells (suc i) n) [
  | inl e ↦ rw (get_or-take n (drop p xs) i 0 e.1, get_or-drop p xs i 0) (small (p + i))
  | inr e ↦ rw (get_or_past (take n (drop p xs)) i 0 (let t = length-take n (drop p xs) in let m = e.1 in omega arith)) (omega arith)
]

eight_same : (xs ys : List ℕ) (p : ℕ) → p + 8 ≤ length xs → length xs ≡ length ys → AreBytes xs → AreBytes ys → word_at xs p ≡ word_at ys p → take 8 (drop p xs) ≡ take 8 (drop p ys)
eight_same xs ys p within size sx sy same =
    let long : length (take 8 (drop p xs)) ≡ 8 = simp (length-take, length-drop) (omega arith) in
    let long' : length (take 8 (drop p ys)) ≡ 8 = simp (length-take, length-drop) (omega arith) in
    sym (le_bytes_8 (take 8 (drop p xs)) (word_at xs p) long (λ i. bytes_taken xs 8 p i sx) refl)
    ∙ le_bytes_8 (take 8 (drop p ys)) (word_at xs p) long' (λ i. bytes_taken ys 8 p i sy) same

-- with eight more bytes in front that are equal, the ends are
pub eight_more : (xs ys : List ℕ) (p q : ℕ) → p + 8 ≡ q → q ≤ length xs → length xs ≡ length ys → AreBytes xs → AreBytes ys → word_at xs p ≡ word_at ys p → drop q xs ≡ drop q ys → drop p xs ≡ drop p ys
eight_more xs ys p q at within size sx sy same ends =
    sym (parts xs) ∙ ap (λ z. z ++ drop q xs) (eight_same xs ys p (omega arith) size sx sy same) ∙ ap (λ z. take 8 (drop p ys) ++ z) ends ∙ parts ys
  where
    parts : (zs : List ℕ) → take 8 (drop p zs) ++ drop q zs ≡ drop p zs
    parts zs = ap (λ z. take 8 (drop p zs) ++ z) (sym (drop-drop 8 p zs ∙ ap (λ k. drop k zs) at)) ∙ take-append-drop 8 (drop p zs)

-- the first bytes are equal, and so are the ends that begin among them
first_and_end : (xs ys : List ℕ) (n q : ℕ) → q ≤ n → take n xs ≡ take n ys → drop q xs ≡ drop q ys → xs ≡ ys
first_and_end xs ys n q few firsts ends =
    let fronts : take q xs ≡ take q ys = sym (take-take q n xs few) ∙ ap (take q) firsts ∙ take-take q n ys few in
    sym (take-append-drop q xs) ∙ ap (λ z. z ++ drop q xs) fronts ∙ ap (λ z. take q ys ++ z) ends ∙ take-append-drop q ys

pub eight_all : (xs ys : List ℕ) (q : ℕ) → q ≤ 8 → 8 ≤ length xs → length xs ≡ length ys → AreBytes xs → AreBytes ys → drop q xs ≡ drop q ys → word_at xs 0 ≡ word_at ys 0 → xs ≡ ys
eight_all xs ys q few many size sx sy ends same = first_and_end xs ys 8 q few (eight_same xs ys 0 (omega arith) size sx sy same) ends

four_same : (xs ys : List ℕ) (p : ℕ) → p + 4 ≤ length xs → length xs ≡ length ys → AreBytes xs → AreBytes ys → half_at xs p ≡ half_at ys p → take 4 (drop p xs) ≡ take 4 (drop p ys)
four_same xs ys p within size sx sy same =
    let long : length (take 4 (drop p xs)) ≡ 4 = simp (length-take, length-drop) (omega arith) in
    let long' : length (take 4 (drop p ys)) ≡ 4 = simp (length-take, length-drop) (omega arith) in
    sym (le_bytes_4 (take 4 (drop p xs)) (half_at xs p) long (λ i. bytes_taken xs 4 p i sx) refl)
    ∙ le_bytes_4 (take 4 (drop p ys)) (half_at xs p) long' (λ i. bytes_taken ys 4 p i sy) same

pub four_all : (xs ys : List ℕ) (q : ℕ) → q + 4 ≡ length xs → q ≤ 4 → length xs ≡ length ys → AreBytes xs → AreBytes ys → half_at xs q ≡ half_at ys q → half_at xs 0 ≡ half_at ys 0 → xs ≡ ys
four_all xs ys q end few size sx sy last first =
    let whole : (zs : List ℕ) → length zs ≡ q + 4 → take 4 (drop q zs) ≡ drop q zs = λ zs e. take_all 4 (drop q zs) (let d = length-drop q zs in omega arith) in
    first_and_end xs ys 4 q few (four_same xs ys 0 (omega arith) size sx sy first)
    (sym (whole xs (sym end)) ∙ four_same xs ys q (omega arith) size sx sy last ∙ whole ys (omega arith))

-- one to three bytes are equal where the last, the middle and the first are
pub few_all : (xs ys : List ℕ) → length xs ≡ length ys → 1 ≤ length xs → length xs ≤ 3 → get_or xs (length xs - 1) 0 ≡ get_or ys (length xs - 1) 0
    → get_or xs (length xs / 2) 0 ≡ get_or ys (length xs / 2) 0 → get_or xs 0 0 ≡ get_or ys 0 0 → xs ≡ ys
few_all [] ys size some few last middle first = absurd (omega arith)
few_all (a ∷ []) [] size some few last middle first = absurd (omega arith)
few_all (a ∷ []) (b ∷ []) size some few last middle first = ap (λ z. z ∷ []) first
few_all (a ∷ []) (b ∷ c ∷ ys) size some few last middle first = absurd (omega arith)
few_all (a ∷ d ∷ []) [] size some few last middle first = absurd (omega arith)
few_all (a ∷ d ∷ []) (b ∷ []) size some few last middle first = absurd (omega arith)
few_all (a ∷ d ∷ []) (b ∷ e ∷ []) size some few last middle first = rw (first, middle) refl
few_all (a ∷ d ∷ []) (b ∷ e ∷ c ∷ ys) size some few last middle first = absurd (omega arith)
few_all (a ∷ d ∷ g ∷ []) [] size some few last middle first = absurd (omega arith)
few_all (a ∷ d ∷ g ∷ []) (b ∷ []) size some few last middle first = absurd (omega arith)
few_all (a ∷ d ∷ g ∷ []) (b ∷ e ∷ []) size some few last middle first = absurd (omega arith)
few_all (a ∷ d ∷ g ∷ []) (b ∷ e ∷ f ∷ []) size some few last middle first = rw (first, middle, last) refl
few_all (a ∷ d ∷ g ∷ []) (b ∷ e ∷ f ∷ c ∷ ys) size some few last middle first = absurd (omega arith)
few_all (a ∷ d ∷ g ∷ h ∷ xs) ys size some few last middle first = absurd (omega arith)
