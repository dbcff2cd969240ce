use Rattle.std.proofs.Common.{codes, nat_le, ◌≢◌, ◌≡◌, ℕ, zero, suc, ◌+◌, ◌≤◌, ◌<◌, ◌↔◌, inl, inr, List, [], ◌∷◌, ◌++◌, length, drop, Bool, true, false, refl, sym, ap, ◌∙◌, subst, length-append}
use Rattle.std.proofs.Common.{length-drop, add-zero, arith}
use Rattle.std.proofs.lemmas.List.{drop-drop}
use Rattle.std.proofs.Math.Seq.{drop-append_seam, drop-length}
use Rattle.rs_text.specs.Lexemes.{Lexeme, is_last}
use Rattle.rs_text.specs.Lexing.{length_of_blanks, front_of, lexeme_at, next_lexeme, Lexed}
use Rattle.rs_text.specs.Bytes.{is_letter, is_digit, begins}
use Rattle.rs_text.specs.Words.{is_role_word}
use Rattle.std.proofs.lemmas.Bool.Decides.{leb_tells}
use Rattle.std.proofs.lemmas.Slice.Eq.{bytes_eq-Decides}
use Rattle.std.specs.Str.{bytes_eq}
use Rattle.rs_text.specs.Signs.{Sign, rec_word, end_word, plain, number, finish, broken}
use Rattle.rs_text.specs.Tokens.{gap_bytes, IsGap, IsToken, IsNext, IsWithin, AreTokens}
use Rattle.rs_text.proofs.Gaps.{Passed, passed, passes, true_or_false}
use Rattle.rs_text.proofs.Starts.{Fits, front_fits, token_stops, token_front}

-- what stands behind a gap
pub behind_gap : (bytes : List ℕ) (at n : ℕ) (gap behind : List ℕ) → drop at bytes ≡ gap ++ behind → n ≡ length gap → drop (at + n) bytes ≡ behind
behind_gap bytes at n gap behind parts size = rw (← drop-drop n at bytes, parts, size) (drop-append_seam gap behind)

next_at : (bytes : List ℕ) (at n : ℕ) (p : Passed (drop at bytes) n) → Fits (front_of p.behind) p.behind → IsNext bytes at (lexeme_at (at + n) (front_of p.behind))
next_at bytes at n p f = record {
  gap = p.gap;
  text = f.text;
  behind = f.behind;
  parts = p.parts ∙ ap (λ xs. gap_bytes p.gap ++ xs) f.parts;
  between = subst (λ xs. IsGap p.gap xs) f.parts p.right;
  token = f.token;
  from = ap (λ k. at + k) p.size;
  until = ap (λ k. at + n + k) f.size;
}

pub next_is_next : (bytes : List ℕ) (at : ℕ) → IsNext bytes at (next_lexeme bytes at)
next_is_next bytes at =
    let p = passed (drop at bytes) in
    rw (behind_gap bytes at (length_of_blanks false (drop at bytes)) (gap_bytes p.gap) p.behind p.parts p.size)
    (next_at bytes at (length_of_blanks false (drop at bytes)) p (front_fits p.behind p.stops))

same_lexeme : (l : Lexeme) (from until : ℕ) → l.from ≡ from → l.until ≡ until → l ≡ record { sign = l.sign; from = from; until = until }
same_lexeme l from until p q = rw (← p, ← q) refl

pub one_next : (bytes : List ℕ) (at : ℕ) (l : Lexeme) → IsNext bytes at l → l ≡ next_lexeme bytes at
one_next bytes at l x =
    let stops = token_stops l.sign x.text x.behind x.token in
    let gap : length_of_blanks false (drop at bytes) ≡ length (gap_bytes x.gap) = rw x.parts (passes x.gap (x.text ++ x.behind) x.between stops) in
    let here = behind_gap bytes at (length (gap_bytes x.gap)) (gap_bytes x.gap) (x.text ++ x.behind) x.parts refl in
    let f = token_front l.sign x.text x.behind x.token in
    rw (gap, here, f) (same_lexeme l (at + length (gap_bytes x.gap)) (at + length (gap_bytes x.gap) + length x.text) x.from (rw x.from at x.until))

-- ---- whole lists

pub lexed_are : (bytes : List ℕ) (ls : List Lexeme) (at : ℕ) → Lexed bytes at ls → AreTokens bytes at ls
lexed_are bytes [] at h = h
lexed_are bytes (l ∷ ls) at h = (rw h.0 (next_is_next bytes at), h.1, λ e. lexed_are bytes ls l.until (h.2 e))

pub are_lexed : (bytes : List ℕ) (ls : List Lexeme) (at : ℕ) → AreTokens bytes at ls → Lexed bytes at ls
are_lexed bytes [] at h = h
are_lexed bytes (l ∷ ls) at h = (one_next bytes at l h.0, h.1, λ e. are_lexed bytes ls l.until (h.2 e))

pub one_list : (bytes : List ℕ) (xs ys : List Lexeme) (at : ℕ) → Lexed bytes at xs → Lexed bytes at ys → xs ≡ ys
one_list bytes [] ys at h k = absurd h
one_list bytes (x ∷ xs) [] at h k = absurd k
one_list bytes (x ∷ xs) (y ∷ ys) at h k =
    let e : y ≡ x = k.0 ∙ sym h.0 in
    elim (true_or_false (is_last x.sign)) [
      | inl last ↦ rw (e, h.1 last, k.1 (rw e last)) refl
      | inr more ↦ rw e (ap (λ zs. x ∷ zs) (one_list bytes xs ys x.until (h.2 more) (rw e at (k.2 (rw e more)))))
    ]

-- ---- in order and inside the bytes

pub within : (bytes : List ℕ) (at : ℕ) (l : Lexeme) → at ≤ length bytes → IsNext bytes at l → IsWithin bytes at l
within bytes at l h x =
    let size : length (drop at bytes) ≡ length (gap_bytes x.gap) + (length x.text + length x.behind)
    = rw (x.parts, length-append (gap_bytes x.gap) (x.text ++ x.behind), length-append x.text x.behind) refl in
    let all = length-drop at bytes in
    let from = x.from in
    let until = x.until in
    record { ahead = omega arith; order = omega arith; inside = omega arith }

-- only the end and faulty tokens take up no bytes
nonempty : (p : ℕ → Bool) (text : List ℕ) → begins p text ≡ true → 0 < length text
nonempty p [] h = absurd (cc h)
nonempty p (b ∷ bs) h = omega arith

pub takes_up : (s : Sign) (text behind : List ℕ) → IsToken s text behind → is_last s ≡ false → 0 < length text
takes_up rec_word text behind t h = nonempty is_letter text t.0.first
takes_up end_word text behind t h = nonempty is_letter text t.0.first
takes_up (plain name) text behind t h = nonempty is_letter text t.0.first
takes_up (number value) text behind t h = nonempty is_digit text t.0.first
takes_up finish text behind t h = absurd (cc h)
takes_up (broken kind) text behind t h = absurd (cc h)
takes_up _ text behind t h = rw t (omega arith)

exists_by : (bytes : List ℕ) (fuel at : ℕ) → at ≤ length bytes → length bytes < at + fuel → (ls : List Lexeme) × AreTokens bytes at ls
exists_by bytes zero at h k = absurd (omega arith)
exists_by bytes (suc fuel) at h k =
    let l = next_lexeme bytes at in
    let x = next_is_next bytes at in
    let w = within bytes at l h x in
    elim (true_or_false (is_last l.sign)) [
      | inl last ↦ (l ∷ [], (x, (λ _. refl), λ e. absurd (cc (e, last))))
      | inr more ↦
          let grows = takes_up l.sign x.text x.behind x.token more in
          let ahead = w.ahead in
          let inside = w.inside in
          let until = x.until in
          let rest = exists_by bytes fuel l.until inside (omega arith) in
          (l ∷ rest.0, (x, (λ e. absurd (cc (e, more))), λ _. rest.1))
    ]

pub exists : (bytes : List ℕ) (at : ℕ) → at ≤ length bytes → (ls : List Lexeme) × AreTokens bytes at ls
exists bytes at h = exists_by bytes (length bytes + 1) at h (omega arith)

-- ---- as the laws say it

pub next_token_law : (bytes : List ℕ) (at : ℕ) (l : Lexeme) → (l ≡ next_lexeme bytes at) ↔ IsNext bytes at l
next_token_law bytes at l = (λ e. rw e (next_is_next bytes at), one_next bytes at l)

pub tokens_law : (bytes : List ℕ) (at : ℕ) (ls : List Lexeme) → Lexed bytes at ls ↔ AreTokens bytes at ls
tokens_law bytes at ls = (lexed_are bytes ls at, are_lexed bytes ls at)

pub one_list_law : (bytes : List ℕ) (at : ℕ) (xs ys : List Lexeme) → AreTokens bytes at xs → AreTokens bytes at ys → xs ≡ ys
one_list_law bytes at xs ys h k = one_list bytes xs ys at (are_lexed bytes xs at h) (are_lexed bytes ys at k)

pub end_again : (bytes : List ℕ) → next_lexeme bytes (length bytes) ≡ record { sign = finish; from = length bytes; until = length bytes }
end_again bytes = let none = add-zero (length bytes) in rw (drop-length bytes, none, drop-length bytes, none) refl

-- ---- words

pub not_same : (text name : List ℕ) → text ≢ name → bytes_eq text name ≡ false
not_same text name apart = elim (true_or_false (bytes_eq text name)) [
  | inl e ↦ absurd (apart ((bytes_eq-Decides text name).0 e))
  | inr e ↦ e
]

short_enough : (n : ℕ) → n ≤ 64 → nat_le n 64 ≡ true
short_enough n h = elim (leb_tells n 64) [
  | inl e ↦ e.0
  | inr e ↦ absurd (omega arith)
]

plain_role : (name text behind : List ℕ) → IsToken (plain name) text behind → is_role_word name ≡ true
plain_role name text behind t =
    rw (t.4, t.0.first, t.0.all, short_enough (length text) t.1, not_same text (codes "rec") t.2, not_same text (codes "end") t.3) refl

pub plain_law : (bytes : List ℕ) (at : ℕ) (l : Lexeme) (name : List ℕ) → IsNext bytes at l → l.sign ≡ plain name → is_role_word name ≡ true
plain_law bytes at l name x e = plain_role name x.text x.behind (rw e at x.token)
