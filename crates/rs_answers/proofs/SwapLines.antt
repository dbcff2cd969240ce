-- The line on the swaps is a comment: it begins with #, and only its end is a LF.
use Rattle.std.proofs.Common.{◌≡◌, ℕ, zero, suc, ◌+◌, ◌/◌, ◌%◌, ◌==◌, ◌||◌, Bool, true, false, cond, nat_lt, List, [], ◌∷◌, ◌++◌, codes, Some, ne_eqb, refl, sym, ap, ◌∙◌, subst, arith}
use Rattle.std.specs.Fmt.{decimal, digit_glyph, digits, digits_onto}
use Rattle.std.specs.List.{list_all, list_any}
use Rattle.std.proofs.lemmas.List.{append_assoc}
use Rattle.std.proofs.lemmas.List.Elements.{All-get_or}
use Rattle.std.proofs.lemmas.List.Folds.{list_any-append}
use Rattle.std.proofs.lemmas.Option.{get_or_from_slice_get, slice_get_within}
use Rattle.rs_improve.specs.Data.{Improved_data}
use Rattle.rs_improve.specs.declared.improving.Ceased.{Ceased}
use Rattle.rs_improve.specs.declared.improving.Ceased.TheVariants as ceased
use Rattle.rs_text.proofs.Basics.{both}
use Rattle.rs_text.proofs.Naming.{place_stands}
use Rattle.rs_text.proofs.Written.{role_is_word}
use Rattle.rs_text.specs.Bytes.{begins, is_letter, is_word_byte}
use Rattle.rs_text.specs.Names.{place_of}
use Rattle.rs_text.specs.Sound.{IsSound}
use Rattle.rs_text.specs.Words.{is_role_word}
use Rattle.rs_model.specs.Data.{Names_data}
use Rattle.rs_answers.specs.Improves.{ceased_text, swaps_line}

-- no byte is a LF
abbrev pub HasNoEnd : List ℕ → Type 0
HasNoEnd bytes = list_any (λ b. b == 10) bytes ≡ false

both_none : (xs ys : List ℕ) → HasNoEnd xs → HasNoEnd ys → HasNoEnd (xs ++ ys)
both_none xs ys h k = list_any-append (λ b. b == 10) xs ys ∙ ap (λ b. b || list_any (λ c. c == 10) ys) h ∙ k

none_first : (b : ℕ) (bs : List ℕ) → (b == 10) ≡ false → HasNoEnd bs → HasNoEnd (b ∷ bs)
none_first b bs h k = ap (λ c. c || list_any (λ d. d == 10) bs) h ∙ k

-- ---- numbers

glyph_none : (d : ℕ) → (digit_glyph false d == 10) ≡ false
glyph_none d = go (nat_lt d 10)
  where
    go : (b : Bool) → (cond b (48 + d) (87 + d) == 10) ≡ false
    go true = ne_eqb (48 + d) 10 (λ e. absurd (omega (arith, e)))
    go false = ne_eqb (87 + d) 10 (λ e. absurd (omega (arith, e)))

onto_none : (k n : ℕ) (acc : List ℕ) → HasNoEnd acc → HasNoEnd (digits_onto k 10 false n acc)
onto_none zero n acc h = h
onto_none (suc k) n acc h =
    let more = none_first (digit_glyph false (n % 10)) acc (glyph_none (n % 10)) h in
    go (n / 10 == 0) more (onto_none k (n / 10) (digit_glyph false (n % 10) ∷ acc) more)
  where
    go : (b : Bool) → HasNoEnd (digit_glyph false (n % 10) ∷ acc) → HasNoEnd (digits_onto k 10 false (n / 10) (digit_glyph false (n % 10) ∷ acc))
        → HasNoEnd (cond b (digit_glyph false (n % 10) ∷ acc) (digits_onto k 10 false (n / 10) (digit_glyph false (n % 10) ∷ acc)))
    go true one later = one
    go false one later = later

decimal_none : (n : ℕ) → HasNoEnd (decimal n)
unfolding digits
decimal_none n = onto_none 64 n [] refl

-- ---- words

byte_none : (b : ℕ) → is_word_byte b ≡ true → (b == 10) ≡ false
byte_none b h = ne_eqb b 10 (λ e. let at : is_word_byte 10 ≡ true = subst (λ (z : ℕ). is_word_byte z ≡ true) e h in absurd (cc at))

bytes_none : (bs : List ℕ) → list_all is_word_byte bs ≡ true → HasNoEnd bs
bytes_none [] h = refl
bytes_none (b ∷ bs) h = let each = both (is_word_byte b) (list_all is_word_byte bs) h in none_first b bs (byte_none b each.0) (bytes_none bs each.1)

role_none : (names : Names_data) (role : List ℕ) (place : ℕ) → IsSound names → place_of role names.roles ≡ Some place → HasNoEnd role
role_none names role place sound found =
    let at = (place_stands names.roles role place found).present in
    let P : List ℕ → Type 0 = λ x. is_role_word x ≡ true in
    let is = subst P (get_or_from_slice_get names.roles place role role at) (All-get_or P names.roles place role (slice_get_within names.roles place role at) sound.roles_are_words) in
    let word = role_is_word role is in
    let parts = both (begins is_letter role) _ word in
    bytes_none role (both (list_all is_word_byte role) _ parts.1).0

-- ---- the line

reason_none : (reason : Ceased) → HasNoEnd (ceased_text reason)
reason_none ceased.Asked = refl
reason_none ceased.NoSwap = refl
reason_none ceased.TooManyStates = refl
reason_none ceased.TooLarge = refl
reason_none (ceased.NotFound true) = refl
reason_none (ceased.NotFound false) = refl
reason_none (ceased.Forgets node) = both_none (codes "forgets at node ") (decimal node ++ []) refl (both_none (decimal node) [] (decimal_none node) refl)

-- what stands between the # and the LF
abbrev pub held_in_line : List ℕ → Improved_data → List ℕ
held_in_line role improved = codes " " ++ (role ++ (codes ": swaps " ++ (decimal improved.swaps ++ (codes ", " ++ ceased_text improved.ceased))))

pub held_has_no_end : (names : Names_data) (role : List ℕ) (place : ℕ) (improved : Improved_data) → IsSound names → place_of role names.roles ≡ Some place → HasNoEnd (held_in_line role improved)
held_has_no_end names role place improved sound found =
    let reason = ceased_text improved.ceased in
    let number = decimal improved.swaps in
    let last = both_none (codes ", ") reason refl (reason_none improved.ceased) in
    let counted = both_none number (codes ", " ++ reason) (decimal_none improved.swaps) last in
    let swaps = both_none (codes ": swaps ") (number ++ (codes ", " ++ reason)) refl counted in
    both_none (codes " ") (role ++ (codes ": swaps " ++ (number ++ (codes ", " ++ reason)))) refl
    (both_none role (codes ": swaps " ++ (number ++ (codes ", " ++ reason))) (role_none names role place sound found) swaps)

regrouped : (a b c d r l : List ℕ) → a ++ (b ++ (c ++ (d ++ (r ++ l)))) ≡ (a ++ (b ++ (c ++ (d ++ r)))) ++ l
regrouped a b c d r l =
    sym (append_assoc a (b ++ (c ++ (d ++ r))) l ∙ ap (λ z. a ++ z) (append_assoc b (c ++ (d ++ r)) l ∙ ap (λ z. b ++ z) (append_assoc c (d ++ r) l ∙ ap (λ z. c ++ z) (append_assoc d r l))))

pub line_is : (role : List ℕ) (improved : Improved_data) → swaps_line role improved ≡ 35 ∷ (held_in_line role improved ++ 10 ∷ [])
line_is role improved = ap (λ z. 35 ∷ 32 ∷ z) (regrouped role (codes ": swaps ") (decimal improved.swaps) (codes ", ") (ceased_text improved.ceased) (10 ∷ []))
