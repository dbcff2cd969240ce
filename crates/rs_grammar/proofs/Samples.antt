-- A test that all samples pass, all tokens pass.
use Rattle.std.proofs.Common.{◌≡◌, ℕ, List, [], ◌∷◌, map, codes, Bool, true, false, is_some, None, refl, sym, ap, ◌∙◌, subst, ◌⊎◌, inl, inr}
use Rattle.std.proofs.lemmas.Bool.{and_parts, or_parts, or_cases}
use Rattle.std.proofs.lemmas.Slice.Eq.{bytes_eq-Decides}
use Rattle.std.specs.List.{list_all, list_any}
use Rattle.std.specs.Str.{bytes_eq}
use Rattle.rs_grammar.specs.declared.classes.Class.{Class}
use Rattle.rs_grammar.specs.declared.classes.Class.TheVariants as class
use Rattle.rs_grammar.specs.declared.classes.Keyword.{Keyword}
use Rattle.rs_grammar.specs.declared.classes.Keyword.TheVariants as keyword
use Rattle.rs_grammar.specs.Classes.{accepts, samples, special_words}
use Rattle.rs_grammar.specs.Tests.{Accepted, accepted_by}
use Rattle.rs_text.specs.declared.tokens.FaultKind.{FaultKind}
use Rattle.rs_text.specs.declared.tokens.FaultKind.TheVariants as faulty
use Rattle.rs_text.specs.Seen.{sort_named}
use Rattle.rs_text.specs.Signs.{Sign, rec_word, end_word, plain, number, arrow, bang, question, colon, dot, comma, open_brace, close_brace, open_paren, close_paren, open_bracket, close_bracket}
use Rattle.rs_text.specs.Signs.{finish, broken}
use Rattle.rs_text.proofs.Gaps.{true_or_false}
use mathlib.Core.Path.{fun_ext}

abbrev IsAmong : {A : Type 0} → A → List A → Type 0
IsAmong t [] = ⊥
IsAmong t (x ∷ xs) = (t ≡ x) ⊎ IsAmong t xs

among : (p : Sign → Bool) (xs : List Sign) (t : Sign) → IsAmong t xs → list_all p xs ≡ true → p t ≡ true
among p [] t k h = absurd k
among p (x ∷ xs) t (inl e) h = subst (λ (z : Sign). p z ≡ true) (sym e) (and_parts (p x) (list_all p xs) h).0
among p (x ∷ xs) t (inr k) h = among p xs t k (and_parts (p x) (list_all p xs) h).1

abbrev is_word_of : List ℕ → List (List ℕ) → Bool
is_word_of text words = list_any (λ x. bytes_eq text x) words

word_among : (text : List ℕ) (words : List (List ℕ)) → is_word_of text words ≡ true → IsAmong (plain text) (map plain words)
word_among text [] h = absurd (cc h)
word_among text (x ∷ xs) h = elim (or_cases (bytes_eq text x) (is_word_of text xs) h) [
  | inl e ↦ inl (ap plain ((bytes_eq-Decides text x).0 e))
  | inr e ↦ inr (word_among text xs e)
]

other : (text : List ℕ) (words : List (List ℕ)) (x : List ℕ) → is_word_of text words ≡ false → IsAmong x words → bytes_eq text x ≡ false
other text [] x h k = absurd k
other text (w ∷ ws) x h (inl e) = ap (λ z. bytes_eq text z) e ∙ (or_parts (bytes_eq text w) (is_word_of text ws) h).0
other text (w ∷ ws) x h (inr k) = other text ws x (or_parts (bytes_eq text w) (is_word_of text ws) h).1 k

abbrev AreAlike : Sign → Sign → Type 0
AreAlike s t = (c : Class) → accepts c s ≡ accepts c t

no_keyword : (text : List ℕ) → is_word_of text special_words ≡ false → (w : Keyword) → accepts (class.Keyword w) (plain (codes "x")) ≡ accepts (class.Keyword w) (plain text)
no_keyword text h keyword.Roles = sym (other text special_words (codes "roles") h (inl refl))
no_keyword text h keyword.Protocol = sym (other text special_words (codes "protocol") h (inr (inl refl)))
no_keyword text h keyword.Machine = sym (other text special_words (codes "machine") h (inr (inr (inl refl))))
no_keyword text h keyword.Table = sym (other text special_words (codes "table") h (inr (inr (inr (inl refl)))))
no_keyword text h keyword.Derivation = sym (other text special_words (codes "derivation") h (inr (inr (inr (inr (inl refl))))))
no_keyword text h keyword.Format = sym (other text special_words (codes "format") h (inr (inr (inr (inr (inr (inl refl)))))))
no_keyword text h keyword.Bound = sym (other text special_words (codes "bound") h (inr (inr (inr (inr (inr (inr (inl refl))))))))
no_keyword text h keyword.Pending = sym (other text special_words (codes "pending") h (inr (inr (inr (inr (inr (inr (inr (inl refl)))))))))
no_keyword text h keyword.Node = sym (other text special_words (codes "node") h (inr (inr (inr (inr (inr (inr (inr (inr (inl refl))))))))))
no_keyword text h keyword.With = sym (other text special_words (codes "with") h (inr (inr (inr (inr (inr (inr (inr (inr (inr (inl refl)))))))))))
no_keyword text h keyword.Above = sym (other text special_words (codes "above") h (inr (inr (inr (inr (inr (inr (inr (inr (inr (inr (inl refl))))))))))))
no_keyword text h keyword.Rank = sym (other text special_words (codes "rank") h (inr (inr (inr (inr (inr (inr (inr (inr (inr (inr (inr (inl refl)))))))))))))
no_keyword text h keyword.Next = sym (other text special_words (codes "next") h (inr (inr (inr (inr (inr (inr (inr (inr (inr (inr (inr (inr (inl refl))))))))))))))

no_sort : (text : List ℕ) → is_word_of text special_words ≡ false → sort_named text ≡ None
no_sort text h =
    let unit = other text special_words (codes "unit") h (inr (inr (inr (inr (inr (inr (inr (inr (inr (inr (inr (inr (inr (inl refl)))))))))))))) in
    let bool = other text special_words (codes "bool") h (inr (inr (inr (inr (inr (inr (inr (inr (inr (inr (inr (inr (inr (inr (inl refl))))))))))))))) in
    let nat = other text special_words (codes "nat") h (inr (inr (inr (inr (inr (inr (inr (inr (inr (inr (inr (inr (inr (inr (inr (inl refl)))))))))))))))) in
    let int = other text special_words (codes "int") h (inr (inr (inr (inr (inr (inr (inr (inr (inr (inr (inr (inr (inr (inr (inr (inr (inl refl))))))))))))))))) in
    let bytes = other text special_words (codes "bytes") h (inr (inr (inr (inr (inr (inr (inr (inr (inr (inr (inr (inr (inr (inr (inr (inr (inr (inl refl)))))))))))))))))) in
    let list = other text special_words (codes "list") h (inr (inr (inr (inr (inr (inr (inr (inr (inr (inr (inr (inr (inr (inr (inr (inr (inr (inr (inl refl))))))))))))))))))) in
    rw (unit, bool, nat, int, bytes, list) refl

name_alike : (text : List ℕ) → is_word_of text special_words ≡ false → AreAlike (plain (codes "x")) (plain text)
name_alike text h (class.Keyword w) = no_keyword text h w
name_alike text h class.Sort = ap is_some (sym (no_sort text h))
name_alike text h class.Role = refl
name_alike text h class.Label = refl
name_alike text h _ = refl

number_alike : (n : ℕ) → AreAlike (number 0) (number n)
number_alike n class.Sort = refl
number_alike n _ = refl

broken_alike : (k : FaultKind) → AreAlike (broken faulty.BadByte) (broken k)
broken_alike k class.Sort = refl
broken_alike k _ = refl

same_alike : (t : Sign) → AreAlike t t
same_alike t c = refl

-- a sample with the token's classes
abbrev Sampled : Sign → Type 0
Sampled t = (s : Sign) × IsAmong s samples × AreAlike s t

words_behind : (t : Sign) → IsAmong t (map plain special_words) → IsAmong t samples
words_behind t k = inr (inr (inr (inr (inr (inr (inr (inr (inr (inr (inr (inr (inr (inr (inr (inr (inr (inr k)))))))))))))))))

sampled : (t : Sign) → Sampled t
sampled (plain text) = elim (true_or_false (is_word_of text special_words)) [
  | inl e ↦ (plain text, words_behind (plain text) (word_among text special_words e), same_alike (plain text))
  | inr e ↦ (plain (codes "x"), inl refl, name_alike text e)
]
sampled rec_word = (rec_word, inr (inl refl), same_alike rec_word)
sampled end_word = (end_word, inr (inr (inl refl)), same_alike end_word)
sampled (number n) = (number 0, inr (inr (inr (inl refl))), number_alike n)
sampled arrow = (arrow, inr (inr (inr (inr (inl refl)))), same_alike arrow)
sampled bang = (bang, inr (inr (inr (inr (inr (inl refl))))), same_alike bang)
sampled question = (question, inr (inr (inr (inr (inr (inr (inl refl)))))), same_alike question)
sampled colon = (colon, inr (inr (inr (inr (inr (inr (inr (inl refl))))))), same_alike colon)
sampled dot = (dot, inr (inr (inr (inr (inr (inr (inr (inr (inl refl)))))))), same_alike dot)
sampled comma = (comma, inr (inr (inr (inr (inr (inr (inr (inr (inr (inl refl))))))))), same_alike comma)
sampled open_brace = (open_brace, inr (inr (inr (inr (inr (inr (inr (inr (inr (inr (inl refl)))))))))), same_alike open_brace)
sampled close_brace = (close_brace, inr (inr (inr (inr (inr (inr (inr (inr (inr (inr (inr (inl refl))))))))))), same_alike close_brace)
sampled open_paren = (open_paren, inr (inr (inr (inr (inr (inr (inr (inr (inr (inr (inr (inr (inl refl)))))))))))), same_alike open_paren)
sampled close_paren = (close_paren, inr (inr (inr (inr (inr (inr (inr (inr (inr (inr (inr (inr (inr (inl refl))))))))))))), same_alike close_paren)
sampled open_bracket = (open_bracket, inr (inr (inr (inr (inr (inr (inr (inr (inr (inr (inr (inr (inr (inr (inl refl)))))))))))))), same_alike open_bracket)
sampled close_bracket = (close_bracket, inr (inr (inr (inr (inr (inr (inr (inr (inr (inr (inr (inr (inr (inr (inr (inl refl))))))))))))))), same_alike close_bracket)
sampled finish = (finish, inr (inr (inr (inr (inr (inr (inr (inr (inr (inr (inr (inr (inr (inr (inr (inr (inl refl)))))))))))))))), same_alike finish)
sampled (broken k) = (broken faulty.BadByte, inr (inr (inr (inr (inr (inr (inr (inr (inr (inr (inr (inr (inr (inr (inr (inr (inr (inl refl))))))))))))))))), broken_alike k)

pub tested : (P : Accepted → Bool) → list_all (λ s. P (accepted_by s)) samples ≡ true → (t : Sign) → P (accepted_by t) ≡ true
tested P h t = let s = sampled t in subst (λ (z : Accepted). P z ≡ true) (fun_ext s.2) (among (λ s. P (accepted_by s)) samples s.0 s.1 h)
