-- Names that are among others.
use Rattle.std.proofs.Common.{◌≡◌, ℕ, List, [], ◌∷◌, ◌++◌, length, Bool, true, false, ◌&&◌, if◌then◌else◌, refl, sym, ap, ◌∙◌}
use Rattle.std.proofs.lemmas.List.Folds.{list_all-append}
use Rattle.std.specs.List.{list_all}
use Rattle.rs_text.specs.Names.{names_with, is_among, place_of}
use Rattle.rs_text.proofs.Basics.{both, or_first, two_true}
use Rattle.rs_text.proofs.Naming.{among, place_of_new, grown_among, absent_by}

abbrev pub Known : List (List ℕ) → List (List ℕ) → Type 0
Known names xs = list_all (λ x. is_among x names) xs ≡ true

here : (names : List (List ℕ)) (x : List ℕ) (b : Bool) → is_among x names ≡ b → is_among x (if b then names else names ++ x ∷ []) ≡ true
here names x true e = e
here names x false e = among (names ++ x ∷ []) x 0 (length names) (place_of_new names x (absent_by (place_of x names) x names refl e))

stays_among : (names xs : List (List ℕ)) (x : List ℕ) → is_among x names ≡ true → is_among x (names_with names xs) ≡ true
stays_among names xs x h = grown_among xs names x ∙ or_first (is_among x names) (is_among x xs) h

-- names that were put there are among them
pub grown_known : (xs names : List (List ℕ)) → Known (names_with names xs) xs
grown_known [] names = refl
grown_known (x ∷ xs) names =
    let first : List (List ℕ) = if is_among x names then names else names ++ x ∷ [] in
    let a : is_among x (names_with first xs) ≡ true = stays_among first xs x (here names x (is_among x names) refl) in
    ap (λ z. z && list_all (λ y. is_among y (names_with first xs)) xs) a ∙ grown_known xs first

-- names that are there add none
pub grown_same : (xs names : List (List ℕ)) → Known names xs → names_with names xs ≡ names
grown_same [] names h = refl
grown_same (x ∷ xs) names h =
    let k = both (is_among x names) (list_all (λ y. is_among y names) xs) h in
    ap (λ z. names_with (if z then names else names ++ x ∷ []) xs) k.0 ∙ grown_same xs names k.1

pub known_parts : (names xs ys : List (List ℕ)) → Known names (xs ++ ys) → Known names xs × Known names ys
known_parts names xs ys h = both (list_all (λ x. is_among x names) xs) (list_all (λ x. is_among x names) ys) (sym (list_all-append (λ x. is_among x names) xs ys) ∙ h)

pub known_both : (names xs ys : List (List ℕ)) → Known names xs → Known names ys → Known names (xs ++ ys)
known_both names xs ys h k = list_all-append (λ x. is_among x names) xs ys ∙ two_true (list_all (λ x. is_among x names) xs) (list_all (λ x. is_among x names) ys) h k
