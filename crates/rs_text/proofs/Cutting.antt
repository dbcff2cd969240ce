-- The tokens of a text, as they are cut off one by one: for texts that are written out.
use Rattle.std.proofs.Common.{◌≡◌, ℕ, zero, suc, List, [], ◌∷◌, Bool, true, false, if◌then◌else◌, refl}
use Rattle.rs_text.specs.Lexemes.{Lexeme, is_last}
use Rattle.rs_text.specs.Lexing.{Lexed, next_lexeme}

-- the first tokens, so many at most
abbrev pub cut : (most : ℕ) → (bytes : List ℕ) → (at : ℕ) → List Lexeme
cut zero bytes at = []
cut (suc n) bytes at = next_lexeme bytes at ∷ (if is_last (next_lexeme bytes at).sign then [] else cut n bytes (next_lexeme bytes at).until)

-- whether these are all
abbrev pub is_cut : (most : ℕ) → (bytes : List ℕ) → (at : ℕ) → Bool
is_cut zero bytes at = false
is_cut (suc n) bytes at = if is_last (next_lexeme bytes at).sign then true else is_cut n bytes (next_lexeme bytes at).until

cut_on : (n : ℕ) (bytes : List ℕ) (at : ℕ) (b : Bool) → is_last (next_lexeme bytes at).sign ≡ b → (if b then true else is_cut n bytes (next_lexeme bytes at).until) ≡ true
    → (is_cut n bytes (next_lexeme bytes at).until ≡ true → Lexed bytes (next_lexeme bytes at).until (cut n bytes (next_lexeme bytes at).until))
    → Lexed bytes at (next_lexeme bytes at ∷ (if b then [] else cut n bytes (next_lexeme bytes at).until))
cut_on n bytes at true e h f = (refl, (λ k. refl), λ k. absurd (cc (k, e)))
cut_on n bytes at false e h f = (refl, (λ k. absurd (cc (k, e))), λ k. f h)

pub cut_are_lexed : (n : ℕ) (bytes : List ℕ) (at : ℕ) → is_cut n bytes at ≡ true → Lexed bytes at (cut n bytes at)
cut_are_lexed zero bytes at h = absurd (cc h)
cut_are_lexed (suc n) bytes at h = cut_on n bytes at (is_last (next_lexeme bytes at).sign) refl h (λ k. cut_are_lexed n bytes (next_lexeme bytes at).until k)
