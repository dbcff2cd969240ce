-- A text that is written for tokens is cut into them.
use Rattle.std.specs.Fmt.{decimal}
use Rattle.rs_text.specs.Bytes.{is_digit, is_letter, is_word_byte, begins, is_blank}
use Rattle.rs_text.specs.Signs.{number}
use Rattle.rs_text.proofs.Values.{decimal_token}
use Rattle.std.proofs.Common.{Bool, codes, ◌≢◌, not, nat_le, ◌&&◌, if◌then◌else◌, inl, inr}
use Rattle.std.proofs.lemmas.Bool.Decides.{leb_tells}
use Rattle.std.proofs.lemmas.Slice.Eq.{bytes_eq-Decides}
use Rattle.std.specs.List.{list_all}
use Rattle.std.specs.Str.{bytes_eq}
use Rattle.rs_text.specs.Signs.{rec_word, end_word, plain, word_sign}
use Rattle.rs_text.specs.Words.{is_word, is_role_word}
use Rattle.rs_text.proofs.Starts.{word_is, plain_sign}
use Rattle.std.proofs.Common.{◌≡◌, ℕ, suc, ◌+◌, ◌≤◌, List, [], ◌∷◌, ◌++◌, length, drop, true, false, refl, sym, ap, ◌∙◌, subst, append_assoc, length-append, add-zero, arith}
use Rattle.std.proofs.lemmas.Grind.{flat_map-append}
use Rattle.std.proofs.lemmas.List.{drop-drop}
use Rattle.std.proofs.lemmas.List.Elements.{All-cons, All-nil}
use Rattle.std.proofs.Math.Seq.{drop-append_seam}
use Rattle.std.specs.List.{flat_map, All}
use Rattle.rs_text.specs.Lexemes.{Lexeme, is_last, signs_of}
use Rattle.rs_text.specs.Lexing.{Lexed, next_lexeme, lexeme_at, front_of}
use Rattle.rs_text.specs.Signs.{Sign}
use Rattle.rs_text.specs.Tokens.{IsToken, nothing}
use Rattle.rs_text.specs.Writing.{TextPiece, blank, token, piece_text, piece_signs, ArePieces, IsWritten}
use Rattle.rs_text.proofs.Nexts.{one_next}

behind_text : (bytes : List ℕ) (at : ℕ) (text behind : List ℕ) → drop at bytes ≡ text ++ behind → drop (at + length text) bytes ≡ behind
behind_text bytes at text behind parts = rw (← drop-drop (length text) at bytes, parts) (drop-append_seam text behind)

-- ---- a blank in front changes no token

after_blank : (bytes : List ℕ) (at byte : ℕ) (rest : List ℕ) → drop at bytes ≡ byte ∷ rest → is_blank byte ≡ true → next_lexeme bytes (at + 1) ≡ next_lexeme bytes at
after_blank bytes at byte rest parts h =
    let e : drop (at + 1) bytes ≡ rest = behind_text bytes at (byte ∷ []) rest parts in
    rw (e, parts, h) (ap (λ from. lexeme_at from (front_of (drop from bytes))) (omega arith))

lexed_after_blank : (bytes : List ℕ) (at byte : ℕ) (rest : List ℕ) (ls : List Lexeme) → drop at bytes ≡ byte ∷ rest → is_blank byte ≡ true → Lexed bytes (at + 1) ls → Lexed bytes at ls
lexed_after_blank bytes at byte rest [] parts h k = k
lexed_after_blank bytes at byte rest (l ∷ ls) parts h k = (k.0 ∙ after_blank bytes at byte rest parts h, k.1, k.2)

-- ---- a token in front is cut off

abbrev standing : Sign → ℕ → List ℕ → Lexeme
standing sign at text = record { sign = sign; from = at; until = at + length text }

pub token_next : (bytes : List ℕ) (at : ℕ) (sign : Sign) (text behind : List ℕ) → drop at bytes ≡ text ++ behind → IsToken sign text behind → standing sign at text ≡ next_lexeme bytes at
token_next bytes at sign text behind parts t =
    one_next bytes at (standing sign at text) (record { gap = nothing; text = text; behind = behind; parts = parts; between = tt; token = t; from = sym (add-zero at); until = refl })

-- ---- the pieces of a text

-- tokens with these signs, from `low` to `high`, stand before the further ones
pub record AreCut (bytes : List ℕ) (at low high : ℕ) (signs : List Sign) (ls : List Lexeme) : Type 0 where
  pub cut : List Lexeme
  pub signs_are : signs_of cut ≡ signs
  pub inside : All (λ l. (low ≤ l.from) × (l.until ≤ high)) cut
  pub lexed : Lexed bytes at (cut ++ ls)

cut_more : (bytes : List ℕ) (at low high : ℕ) (sign : Sign) (text behind : List ℕ) (signs : List Sign) (ls : List Lexeme) → drop at bytes ≡ text ++ behind → IsToken sign text behind
    → is_last sign ≡ false → low ≤ at → at + length text ≤ high
    → AreCut bytes (at + length text) low high signs ls → AreCut bytes at low high (sign ∷ signs) ls
cut_more bytes at low high sign text behind signs ls parts t more from until rest = record {
  cut = standing sign at text ∷ rest.cut;
  signs_are = ap (λ ss. sign ∷ ss) rest.signs_are;
  inside = All-cons (λ (l : Lexeme). (low ≤ l.from) × (l.until ≤ high)) (standing sign at text) rest.cut (from, until) rest.inside;
  lexed = (token_next bytes at sign text behind parts t, (λ e. absurd (cc (e, more))), λ _. rest.lexed);
}

pub pieces_cut : (pieces : List TextPiece) (bytes behind : List ℕ) (at low high : ℕ) (ls : List Lexeme) → drop at bytes ≡ flat_map piece_text pieces ++ behind → ArePieces pieces behind → low ≤ at
    → at + length (flat_map piece_text pieces) ≤ high
    → Lexed bytes (at + length (flat_map piece_text pieces)) ls → AreCut bytes at low high (flat_map piece_signs pieces) ls
pieces_cut [] bytes behind at low high ls parts right from until h =
    record { cut = []; signs_are = refl; inside = All-nil (λ (l : Lexeme). (low ≤ l.from) × (l.until ≤ high)); lexed = rw (add-zero at) at h }
pieces_cut (blank byte ∷ pieces) bytes behind at low high ls parts right from until h =
    let text = flat_map piece_text pieces in
    let size : at + suc (length text) ≡ at + 1 + length text = omega arith in
    let rest = pieces_cut pieces bytes behind (at + 1) low high ls (behind_text bytes at (byte ∷ []) (text ++ behind) parts) right.1 (omega arith) (omega arith)
    (subst (λ n. Lexed bytes n ls) size h) in
    record { cut = rest.cut; signs_are = rest.signs_are; inside = rest.inside; lexed = lexed_after_blank bytes at byte (text ++ behind) (rest.cut ++ ls) parts right.0 rest.lexed }
pieces_cut (token sign own ∷ pieces) bytes behind at low high ls parts right from until h =
    let text = flat_map piece_text pieces in
    let all : length (own ++ text) ≡ length own + length text = length-append own text in
    let size : at + length (own ++ text) ≡ at + length own + length text = omega arith in
    let here : drop at bytes ≡ own ++ (text ++ behind) = parts ∙ append_assoc own text behind in
    cut_more bytes at low high sign own (text ++ behind) (flat_map piece_signs pieces) ls here right.0 right.1 from (omega arith)
    (pieces_cut pieces bytes behind (at + length own) low high ls (behind_text bytes at own (text ++ behind) here) right.2 (omega arith) (omega arith) (subst (λ n. Lexed bytes n ls) size h))

pub written_cut : (bytes : List ℕ) (at : ℕ) (signs : List Sign) (text behind : List ℕ) (ls : List Lexeme) → drop at bytes ≡ text ++ behind → IsWritten signs text behind
    → Lexed bytes (at + length text) ls → AreCut bytes at at (at + length text) signs ls
written_cut bytes at signs text behind ls parts w h =
    subst (λ t. AreCut bytes at at (at + length t) signs ls) w.put
    (subst (λ ss. AreCut bytes at at (at + length (flat_map piece_text w.pieces)) ss ls) w.spelt
    (pieces_cut w.pieces bytes behind at at (at + length (flat_map piece_text w.pieces)) ls (rw w.put parts) w.right (omega arith) (omega arith) (rw w.put h)))

pub written_law : (bytes : List ℕ) (at : ℕ) (signs : List Sign) (text behind : List ℕ) (ls : List Lexeme) → drop at bytes ≡ text ++ behind → IsWritten signs text behind
    → Lexed bytes (at + length text) ls
    → (xs : List Lexeme) × (signs_of xs ≡ signs) × All (λ l. (at ≤ l.from) × (l.until ≤ at + length text)) xs × Lexed bytes at (xs ++ ls)
written_law bytes at signs text behind ls parts w h = let c = written_cut bytes at signs text behind ls parts w h in (c.cut, c.signs_are, c.inside, c.lexed)

-- ---- how written texts are put together

pub nothing_written : (behind : List ℕ) → IsWritten [] [] behind
nothing_written behind = record { pieces = []; right = tt; spelt = refl; put = refl }

pub blank_written : (byte : ℕ) (behind : List ℕ) → is_blank byte ≡ true → IsWritten [] (byte ∷ []) behind
blank_written byte behind h = record { pieces = blank byte ∷ []; right = (h, tt); spelt = refl; put = refl }

no_more : (text : List ℕ) → text ++ [] ≡ text
no_more [] = refl
no_more (b ∷ bs) = ap (λ xs. b ∷ xs) (no_more bs)

pub token_written : (sign : Sign) (text behind : List ℕ) → IsToken sign text behind → is_last sign ≡ false → IsWritten (sign ∷ []) text behind
token_written sign text behind t more = record { pieces = token sign text ∷ []; right = (t, more, tt); spelt = refl; put = no_more text }

joined_pieces : (these others : List TextPiece) (behind : List ℕ) → ArePieces these (flat_map piece_text others ++ behind) → ArePieces others behind → ArePieces (these ++ others) behind
joined_pieces [] others behind h k = k
joined_pieces (blank byte ∷ these) others behind h k = (h.0, joined_pieces these others behind h.1 k)
joined_pieces (token sign text ∷ these) others behind h k =
    (rw (flat_map-append piece_text these others, append_assoc (flat_map piece_text these) (flat_map piece_text others) behind) h.0, h.1, joined_pieces these others behind h.2 k)

pub joined : (xs ys : List Sign) (text more behind : List ℕ) → IsWritten xs text (more ++ behind) → IsWritten ys more behind → IsWritten (xs ++ ys) (text ++ more) behind
joined xs ys text more behind w v = record {
  pieces = w.pieces ++ v.pieces;
  right = joined_pieces w.pieces v.pieces behind (rw v.put w.right) v.right;
  spelt = rw (flat_map-append piece_signs w.pieces v.pieces, w.spelt, v.spelt) refl;
  put = rw (flat_map-append piece_text w.pieces v.pieces, w.put, v.put) refl;
}

-- ---- words

both : (p q : Bool) → (p && q) ≡ true → (p ≡ true) × (q ≡ true)
both true q h = (refl, h)
both false q h = absurd (cc h)

holds_not : (p : Bool) → not p ≡ true → p ≡ false
holds_not true h = absurd (cc h)
holds_not false h = refl

at_most : (n m : ℕ) → nat_le n m ≡ true → n ≤ m
at_most n m h = elim (leb_tells n m) [
  | inl e ↦ e.1
  | inr e ↦ absurd (cc (e.0, h))
]

differs : (text name : List ℕ) → bytes_eq text name ≡ false → text ≢ name
differs text name h e = cc ((bytes_eq-Decides text name).1 e, h)

-- a word is a token where no byte of a word stands behind it
pub word_token : (text behind : List ℕ) → is_word text ≡ true → begins is_word_byte behind ≡ false → IsToken (word_sign text) text behind
word_token text behind h whole =
    let a = both (begins is_letter text) (list_all is_word_byte text && nat_le (length text) 64) h in
    let b = both (list_all is_word_byte text) (nat_le (length text) 64) a.1 in
    word_is text behind (record { first = a.0; all = b.0; whole = whole }) (at_most (length text) 64 b.1)

-- the word of a role is any other one than rec and end
pub role_is_plain : (text : List ℕ) → is_role_word text ≡ true → word_sign text ≡ plain text
role_is_plain text h =
    let a = both (is_word text) (not (bytes_eq text (codes "rec")) && not (bytes_eq text (codes "end"))) h in
    let b = both (not (bytes_eq text (codes "rec"))) (not (bytes_eq text (codes "end"))) a.1 in
    plain_sign text (differs text (codes "rec") (holds_not (bytes_eq text (codes "rec")) b.0)) (differs text (codes "end") (holds_not (bytes_eq text (codes "end")) b.1))

pub role_is_word : (text : List ℕ) → is_role_word text ≡ true → is_word text ≡ true
role_is_word text h = (both (is_word text) (not (bytes_eq text (codes "rec")) && not (bytes_eq text (codes "end"))) h).0

pick_sign : (test : Bool) (s t : Sign) → is_last s ≡ false → is_last t ≡ false → is_last (if test then s else t) ≡ false
pick_sign true s t h k = h
pick_sign false s t h k = k

pub word_goes_on : (text : List ℕ) → is_last (word_sign text) ≡ false
word_goes_on text =
    pick_sign (bytes_eq text (codes "rec")) rec_word (if bytes_eq text (codes "end") then end_word else plain text) refl (pick_sign (bytes_eq text (codes "end")) end_word (plain text) refl refl)

pub word_written : (text behind : List ℕ) → is_word text ≡ true → begins is_word_byte behind ≡ false → IsWritten (word_sign text ∷ []) text behind
word_written text behind h whole = token_written (word_sign text) text behind (word_token text behind h whole) (word_goes_on text)

pub role_written : (text behind : List ℕ) → is_role_word text ≡ true → begins is_word_byte behind ≡ false → IsWritten (plain text ∷ []) text behind
role_written text behind h whole = subst (λ s. IsWritten (s ∷ []) text behind) (role_is_plain text h) (word_written text behind (role_is_word text h) whole)

-- ---- with one more piece in front

pub before_blank : (byte : ℕ) (signs : List Sign) (text behind : List ℕ) → is_blank byte ≡ true → IsWritten signs text behind → IsWritten signs (byte ∷ text) behind
before_blank byte signs text behind h w = joined [] signs (byte ∷ []) text behind (blank_written byte (text ++ behind) h) w

pub before_mark : (sign : Sign) (signs : List Sign) (own text behind : List ℕ) → IsToken sign own (text ++ behind) → is_last sign ≡ false → IsWritten signs text behind
    → IsWritten (sign ∷ signs) (own ++ text) behind
before_mark sign signs own text behind t more w = joined (sign ∷ []) signs own text behind (token_written sign own (text ++ behind) t more) w

pub before_word : (word : List ℕ) (signs : List Sign) (text behind : List ℕ) → is_word word ≡ true → begins is_word_byte (text ++ behind) ≡ false → IsWritten signs text behind
    → IsWritten (word_sign word ∷ signs) (word ++ text) behind
before_word word signs text behind h whole w = joined (word_sign word ∷ []) signs word text behind (word_written word (text ++ behind) h whole) w

pub before_role : (word : List ℕ) (signs : List Sign) (text behind : List ℕ) → is_role_word word ≡ true → begins is_word_byte (text ++ behind) ≡ false → IsWritten signs text behind
    → IsWritten (plain word ∷ signs) (word ++ text) behind
before_role word signs text behind h whole w = joined (plain word ∷ []) signs word text behind (role_written word (text ++ behind) h whole) w

pub before_number : (n : ℕ) (signs : List Sign) (text behind : List ℕ) → n ≤ 4294967295 → begins is_digit (text ++ behind) ≡ false → IsWritten signs text behind
    → IsWritten (number n ∷ signs) (decimal n ++ text) behind
before_number n signs text behind small whole w = before_mark (number n) signs (decimal n) text behind (decimal_token n (text ++ behind) small whole) refl w
