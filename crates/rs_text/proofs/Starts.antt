use Rattle.std.proofs.Common.{◌≡◌, ◌≢◌, ℕ, suc, ◌+◌, ◌<◌, ◌≤◌, List, [], ◌∷◌, ◌++◌, length, drop, take, codes, Bool, true, false, if◌then◌else◌, ◌==◌, ◌||◌, inl, inr, refl, sym, ap, ◌∙◌, arith}
use Rattle.std.proofs.lemmas.Bool.{eq-eqb}
use Rattle.std.proofs.lemmas.Bool.Decides.{eqb_tells, leb_tells, nat_tests}
use Rattle.std.proofs.lemmas.List.{take-append-drop}
use Rattle.std.proofs.lemmas.List.Folds.{length-prefix_len}
use Rattle.std.proofs.lemmas.Slice.Eq.{bytes_eq-Decides}
use Rattle.std.proofs.Math.Seq.{take-append_seam}
use Rattle.std.specs.List.{list_any, list_all, prefix_len}
use Rattle.std.specs.Str.{bytes_eq}
use Rattle.rs_text.specs.declared.tokens.FaultKind.{FaultKind}
use Rattle.rs_text.specs.declared.tokens.FaultKind.TheVariants as fault
use Rattle.rs_text.specs.Bytes.{is_blank, is_letter, is_digit, is_word_byte, begins}
use Rattle.rs_text.specs.Signs.{Sign, rec_word, end_word, plain, number, arrow, bang, question, colon, dot, comma, open_brace, close_brace, open_paren, close_paren, open_bracket, close_bracket}
use Rattle.rs_text.specs.Signs.{finish, broken, word_sign}
use Rattle.rs_text.specs.Lexemes.{value_of}
use Rattle.rs_text.specs.Lexing.{SizedSign, front, front_of, word_front, number_front, arrow_front, mark_front, word_length, number_length}
use Rattle.rs_text.specs.Tokens.{IsWholeWord, IsWholeNumber, BeginsNothing, IsFaulty, IsToken}
use Rattle.rs_text.proofs.Gaps.{Stops, true_or_false}

-- the front is a token or a fault of these bytes
pub record Fits (f : SizedSign) (here : List ℕ) : Type 0 where
  pub behind : List ℕ
  pub text : List ℕ
  pub parts : here ≡ text ++ behind
  pub size : f.size ≡ length text
  pub token : IsToken f.sign text behind

-- ---- runs

one_more : (n : ℕ) → 1 + n ≡ suc n
one_more n = omega arith

run_all : (p : ℕ → Bool) (xs : List ℕ) → list_all p (take (prefix_len p xs) xs) ≡ true
run_all p [] = refl
run_all p (x ∷ xs) = elim (true_or_false (p x)) [
  | inl h ↦ rw (h, one_more (prefix_len p xs), h) (run_all p xs)
  | inr h ↦ rw h refl
]

run_ends : (p : ℕ → Bool) (xs : List ℕ) → begins p (drop (prefix_len p xs) xs) ≡ false
run_ends p [] = refl
run_ends p (x ∷ xs) = elim (true_or_false (p x)) [
  | inl h ↦ rw (h, one_more (prefix_len p xs)) (run_ends p xs)
  | inr h ↦ rw h h
]

run_length : (p : ℕ → Bool) (xs ys : List ℕ) → list_all p xs ≡ true → begins p ys ≡ false → prefix_len p (xs ++ ys) ≡ length xs
run_length p [] [] h k = refl
run_length p [] (y ∷ ys) h k = rw k refl
run_length p (x ∷ xs) ys h k = elim (true_or_false (p x)) [
  | inl e ↦ rw e (let m = run_length p xs ys (rw e at h) k in omega arith)
  | inr e ↦ absurd (cc (rw e at h))
]

-- the front of a run is its first byte
run_begins : (p q : ℕ → Bool) (b : ℕ) (bs : List ℕ) → p b ≡ true → q b ≡ true → begins q (take (prefix_len p (b ∷ bs)) (b ∷ bs)) ≡ true
run_begins p q b bs h k = rw (h, one_more (prefix_len p bs)) k

letter_in_word : (b : ℕ) → is_letter b ≡ true → is_word_byte b ≡ true
letter_in_word b h = rw h refl

-- ---- words

word_whole : (b : ℕ) (bs : List ℕ) → is_letter b ≡ true → IsWholeWord (take (word_length (b ∷ bs)) (b ∷ bs)) (drop (word_length (b ∷ bs)) (b ∷ bs))
word_whole b bs h = record {
  first = run_begins is_word_byte is_letter b bs (letter_in_word b h) h;
  all = run_all is_word_byte (b ∷ bs);
  whole = run_ends is_word_byte (b ∷ bs);
}

pub word_is : (text behind : List ℕ) → IsWholeWord text behind → length text ≤ 64 → IsToken (word_sign text) text behind
word_is text behind w short = elim (true_or_false (bytes_eq text (codes "rec"))) [
  | inl h ↦ rw h (w, (bytes_eq-Decides text (codes "rec")).0 h)
  | inr h ↦ rw h (elim (true_or_false (bytes_eq text (codes "end"))) [
    | inl k ↦ rw k (w, (bytes_eq-Decides text (codes "end")).0 k)
    | inr k ↦ rw k (w, short, (λ e. cc ((bytes_eq-Decides text (codes "rec")).1 e, h)), (λ e. cc ((bytes_eq-Decides text (codes "end")).1 e, k)), refl)
  ])
]

word_front_fits : (here : List ℕ) (n : ℕ) → length (take n here) ≡ n → IsWholeWord (take n here) (drop n here) → Fits (word_front here n) here
word_front_fits here n size whole = elim (leb_tells 65 n) [
  | inl h ↦ rw h.0 (record { behind = here; text = []; parts = refl; size = refl; token = (refl, (take n here, drop n here, sym (take-append-drop n here), whole, omega arith)) })
  | inr h ↦ rw h.0 (record { behind = drop n here; text = take n here; parts = sym (take-append-drop n here); size = sym size; token = word_is (take n here) (drop n here) whole (omega arith) })
]

-- ---- numbers

number_whole : (b : ℕ) (bs : List ℕ) → is_digit b ≡ true → IsWholeNumber (take (number_length (b ∷ bs)) (b ∷ bs)) (drop (number_length (b ∷ bs)) (b ∷ bs))
number_whole b bs h = record {
  first = run_begins is_digit is_digit b bs h h;
  all = run_all is_digit (b ∷ bs);
  whole = run_ends is_digit (b ∷ bs);
}

number_front_fits : (here : List ℕ) (n : ℕ) → length (take n here) ≡ n → IsWholeNumber (take n here) (drop n here) → Fits (number_front here n) here
number_front_fits here n size whole = elim (leb_tells 4294967296 (value_of (take n here))) [
  | inl h ↦ rw h.0 (record { behind = here; text = []; parts = refl; size = refl; token = (refl, (take n here, drop n here, sym (take-append-drop n here), whole, omega arith)) })
  | inr h ↦ rw h.0 (record { behind = drop n here; text = take n here; parts = sym (take-append-drop n here); size = sym size; token = (whole, omega arith, refl) })
]

-- ---- marks

apart : (a b : ℕ) → (a == b) ≡ false → a ≢ b
apart a b h e = cc (eq-eqb a b e, h)

faulty : (b : ℕ) (bs : List ℕ) → BeginsNothing b bs → Fits (front (broken fault.BadByte) 0) (b ∷ bs)
faulty b bs n = record { behind = b ∷ bs; text = []; parts = refl; size = refl; token = (refl, (b, bs, refl, n)) }

lone_dash : (bs : List ℕ) → begins (λ next. next == 62) bs ≡ false → BeginsNothing 45 bs
lone_dash bs h = record { no_blank = refl; no_comment = apart 45 35 refl; no_word = refl; no_number = refl; no_mark = refl; no_arrow = λ _. h }

arrow_fits : (bs : List ℕ) → Fits (arrow_front bs) (45 ∷ bs)
arrow_fits [] = faulty 45 [] (lone_dash [] refl)
arrow_fits (c ∷ bs) = elim (eqb_tells c 62) [
  | inl h ↦ rw (h.0, h.1) (record { behind = bs; text = codes "->"; parts = refl; size = refl; token = refl })
  | inr h ↦ rw h.0 (faulty 45 (c ∷ bs) (lone_dash (c ∷ bs) h.0))
]

one_mark : (b mark : ℕ) (bs : List ℕ) (s : Sign) (other : SizedSign) → IsToken s (mark ∷ []) bs → ((b == mark) ≡ false → Fits other (b ∷ bs)) → Fits (if b == mark then front s 1 else other) (b ∷ bs)
one_mark b mark bs s other token rest = elim (eqb_tells b mark) [
  | inl h ↦ rw (h.0, h.1) (record { behind = bs; text = mark ∷ []; parts = refl; size = refl; token = token })
  | inr h ↦ rw h.0 (rest h.0)
]

mark_fits : (b : ℕ) (bs : List ℕ) → is_blank b ≡ false → b ≢ 35 → is_letter b ≡ false → is_digit b ≡ false → (b == 45) ≡ false → Fits (mark_front b) (b ∷ bs)
mark_fits b bs blank hash letter digit dash =
    one_mark b 33 bs bang _ refl λ h1.
    one_mark b 63 bs question _ refl λ h2.
    one_mark b 58 bs colon _ refl λ h3.
    one_mark b 46 bs dot _ refl λ h4.
    one_mark b 44 bs comma _ refl λ h5.
    one_mark b 123 bs open_brace _ refl λ h6.
    one_mark b 125 bs close_brace _ refl λ h7.
    one_mark b 40 bs open_paren _ refl λ h8.
    one_mark b 41 bs close_paren _ refl λ h9.
    one_mark b 91 bs open_bracket _ refl λ h10.
    one_mark b 93 bs close_bracket _ refl λ h11.
    faulty b bs (record {
      no_blank = blank;
      no_comment = hash;
      no_word = letter;
      no_number = digit;
      no_mark = rw (h1, h2, h3, h4, h5, h6, h7, h8, h9, h10, h11) refl;
      no_arrow = λ e. cc (eq-eqb b 45 e, dash);
    })

-- ---- whatever stops a gap is a token or a fault

pick : (test : Bool) (f g : SizedSign) (here : List ℕ) → (test ≡ true → Fits f here) → (test ≡ false → Fits g here) → Fits (if test then f else g) here
pick true f g here h k = h refl
pick false f g here h k = k refl

dash_fits : (b : ℕ) (bs : List ℕ) → is_blank b ≡ false → b ≢ 35 → is_letter b ≡ false → is_digit b ≡ false → Fits (if b == 45 then arrow_front bs else mark_front b) (b ∷ bs)
dash_fits b bs blank hash letter digit = elim (eqb_tells b 45) [
  | inl h ↦ rw (h.0, h.1) (arrow_fits bs)
  | inr h ↦ rw h.0 (mark_fits b bs blank hash letter digit h.0)
]

pub front_fits : (here : List ℕ) → Stops here → Fits (front_of here) here
front_fits [] s = record { behind = []; text = []; parts = refl; size = refl; token = (refl, refl) }
front_fits (b ∷ bs) s =
    pick (is_letter b) (word_front (b ∷ bs) (word_length (b ∷ bs))) (if is_digit b then number_front (b ∷ bs) (number_length (b ∷ bs)) else if b == 45 then arrow_front bs else mark_front b) (b ∷ bs)
    (λ h. word_front_fits (b ∷ bs) (word_length (b ∷ bs)) (length-prefix_len is_word_byte (b ∷ bs)) (word_whole b bs h))
    (λ h. pick (is_digit b) (number_front (b ∷ bs) (number_length (b ∷ bs))) (if b == 45 then arrow_front bs else mark_front b) (b ∷ bs)
    (λ k. number_front_fits (b ∷ bs) (number_length (b ∷ bs)) (length-prefix_len is_digit (b ∷ bs)) (number_whole b bs k))
    (λ k. dash_fits b bs s.0 s.1 h k))

-- ---- and the other way: a token or a fault is the front

not_blank : (test : ℕ → Bool) (b : ℕ) → test b ≡ true → test 32 ≡ false → test 9 ≡ false → test 13 ≡ false → test 10 ≡ false → is_blank b ≡ false
not_blank test b h space tab cr lf = elim (eqb_tells b 32) [
  | inl e ↦ absurd (cc (rw e.1 at h, space))
  | inr e1 ↦ elim (eqb_tells b 9) [
    | inl e ↦ absurd (cc (rw e.1 at h, tab))
    | inr e2 ↦ elim (eqb_tells b 13) [
      | inl e ↦ absurd (cc (rw e.1 at h, cr))
      | inr e3 ↦ elim (eqb_tells b 10) [
        | inl e ↦ absurd (cc (rw e.1 at h, lf))
        | inr e4 ↦ rw (e1.0, e2.0, e3.0, e4.0) refl
      ]
    ]
  ]
]

word_stops : (text behind : List ℕ) → begins is_letter text ≡ true → Stops (text ++ behind)
word_stops [] behind h = absurd (cc h)
word_stops (b ∷ bs) behind h = (not_blank is_letter b h refl refl refl refl, λ e. cc (rw e at h))

number_stops : (text behind : List ℕ) → begins is_digit text ≡ true → Stops (text ++ behind)
number_stops [] behind h = absurd (cc h)
number_stops (b ∷ bs) behind h = (not_blank is_digit b h refl refl refl refl, λ e. cc (rw e at h))

fault_stops : (kind : FaultKind) (here : List ℕ) → IsFaulty kind here → Stops here
fault_stops fault.BadByte here f = rw f.2 (f.3.no_blank, f.3.no_comment)
fault_stops fault.NumberTooLarge here f = rw f.2 (number_stops f.0 f.1 f.3.first)
fault_stops fault.NameTooLong here f = rw f.2 (word_stops f.0 f.1 f.3.first)

mark_stops : (b : ℕ) (text bs behind : List ℕ) → text ≡ b ∷ bs → is_blank b ≡ false → (b == 35) ≡ false → Stops (text ++ behind)
mark_stops b text bs behind e h k = rw e (h, apart b 35 k)

pub token_stops : (s : Sign) (text behind : List ℕ) → IsToken s text behind → Stops (text ++ behind)
token_stops rec_word text behind t = word_stops text behind t.0.first
token_stops end_word text behind t = word_stops text behind t.0.first
token_stops (plain name) text behind t = word_stops text behind t.0.first
token_stops (number value) text behind t = number_stops text behind t.0.first
token_stops arrow text behind t = mark_stops 45 text (62 ∷ []) behind t refl refl
token_stops bang text behind t = mark_stops 33 text [] behind t refl refl
token_stops question text behind t = mark_stops 63 text [] behind t refl refl
token_stops colon text behind t = mark_stops 58 text [] behind t refl refl
token_stops dot text behind t = mark_stops 46 text [] behind t refl refl
token_stops comma text behind t = mark_stops 44 text [] behind t refl refl
token_stops open_brace text behind t = mark_stops 123 text [] behind t refl refl
token_stops close_brace text behind t = mark_stops 125 text [] behind t refl refl
token_stops open_paren text behind t = mark_stops 40 text [] behind t refl refl
token_stops close_paren text behind t = mark_stops 41 text [] behind t refl refl
token_stops open_bracket text behind t = mark_stops 91 text [] behind t refl refl
token_stops close_bracket text behind t = mark_stops 93 text [] behind t refl refl
token_stops finish text behind t = rw (t.0, t.1) tt
token_stops (broken kind) text behind t = rw t.0 (fault_stops kind behind t.1)

picked : (test : Bool) (f g h : SizedSign) → test ≡ true → f ≡ h → (if test then f else g) ≡ h
picked true f g h e k = k
picked false f g h e k = absurd (cc e)

not_picked : (test : Bool) (f g h : SizedSign) → test ≡ false → g ≡ h → (if test then f else g) ≡ h
not_picked true f g h e k = absurd (cc e)
not_picked false f g h e k = k

-- none of several tests passes
none_picked : (test rest : Bool) (f g h : SizedSign) → (test || rest) ≡ false → (rest ≡ false → g ≡ h) → (if test then f else g) ≡ h
none_picked true rest f g h e k = absurd (cc e)
none_picked false rest f g h e k = k e

digit_no_letter : (b : ℕ) → is_digit b ≡ true → is_letter b ≡ false
digit_no_letter b h = grind (arith, nat_tests)

word_front_is : (text behind : List ℕ) → IsWholeWord text behind → front_of (text ++ behind) ≡ word_front (text ++ behind) (length text)
word_front_is [] behind w = absurd (cc w.first)
word_front_is (b ∷ bs) behind w =
    let e = run_length is_word_byte (b ∷ bs) behind w.all w.whole in
    picked (is_letter b) _ _ _ w.first (ap (λ n. word_front (b ∷ (bs ++ behind)) n) e)

number_front_is : (text behind : List ℕ) → IsWholeNumber text behind → front_of (text ++ behind) ≡ number_front (text ++ behind) (length text)
number_front_is [] behind w = absurd (cc w.first)
number_front_is (b ∷ bs) behind w =
    let e = run_length is_digit (b ∷ bs) behind w.all w.whole in
    not_picked (is_letter b) _ _ _ (digit_no_letter b w.first) (picked (is_digit b) _ _ _ w.first (ap (λ n. number_front (b ∷ (bs ++ behind)) n) e))

word_short : (text behind : List ℕ) (s : Sign) → length text ≤ 64 → word_sign text ≡ s → word_front (text ++ behind) (length text) ≡ front s (length text)
word_short text behind s short e = elim (leb_tells 65 (length text)) [
  | inl h ↦ absurd (omega arith)
  | inr h ↦ rw (h.0, take-append_seam text behind, e) refl
]

word_long : (text behind : List ℕ) → 64 < length text → word_front (text ++ behind) (length text) ≡ front (broken fault.NameTooLong) 0
word_long text behind long = elim (leb_tells 65 (length text)) [
  | inl h ↦ rw h.0 refl
  | inr h ↦ absurd (omega arith)
]

number_small : (text behind : List ℕ) → value_of text ≤ 4294967295 → number_front (text ++ behind) (length text) ≡ front (number (value_of text)) (length text)
number_small text behind small = elim (leb_tells 4294967296 (value_of text)) [
  | inl h ↦ absurd (omega arith)
  | inr h ↦ rw (take-append_seam text behind, h.0) refl
]

number_large : (text behind : List ℕ) → 4294967295 < value_of text → number_front (text ++ behind) (length text) ≡ front (broken fault.NumberTooLarge) 0
number_large text behind large = elim (leb_tells 4294967296 (value_of text)) [
  | inl h ↦ rw (take-append_seam text behind, h.0) refl
  | inr h ↦ absurd (omega arith)
]

pub plain_sign : (text : List ℕ) → text ≢ codes "rec" → text ≢ codes "end" → word_sign text ≡ plain text
plain_sign text not_rec not_end = elim (true_or_false (bytes_eq text (codes "rec"))) [
  | inl h ↦ absurd (not_rec ((bytes_eq-Decides text (codes "rec")).0 h))
  | inr h ↦ elim (true_or_false (bytes_eq text (codes "end"))) [
    | inl k ↦ absurd (not_end ((bytes_eq-Decides text (codes "end")).0 k))
    | inr k ↦ rw (h, k) refl
  ]
]

lone_front : (bs : List ℕ) → begins (λ next. next == 62) bs ≡ false → arrow_front bs ≡ front (broken fault.BadByte) 0
lone_front [] h = refl
lone_front (b ∷ bs) h = rw h refl

no_mark_front : (b : ℕ) → list_any (λ mark. b == mark) (codes "!?:.,{}()[]") ≡ false → mark_front b ≡ front (broken fault.BadByte) 0
no_mark_front b h0 =
    none_picked (b == 33) _ _ _ _ h0 λ h1.
    none_picked (b == 63) _ _ _ _ h1 λ h2.
    none_picked (b == 58) _ _ _ _ h2 λ h3.
    none_picked (b == 46) _ _ _ _ h3 λ h4.
    none_picked (b == 44) _ _ _ _ h4 λ h5.
    none_picked (b == 123) _ _ _ _ h5 λ h6.
    none_picked (b == 125) _ _ _ _ h6 λ h7.
    none_picked (b == 40) _ _ _ _ h7 λ h8.
    none_picked (b == 41) _ _ _ _ h8 λ h9.
    none_picked (b == 91) _ _ _ _ h9 λ h10.
    none_picked (b == 93) _ _ _ _ h10 λ h11.
    refl

nothing_front : (b : ℕ) (bs : List ℕ) → BeginsNothing b bs → front_of (b ∷ bs) ≡ front (broken fault.BadByte) 0
nothing_front b bs n =
    not_picked (is_letter b) _ _ _ n.no_word (not_picked (is_digit b) _ _ _ n.no_number (elim (eqb_tells b 45) [
      | inl e ↦ rw e.0 (lone_front bs (n.no_arrow e.1))
      | inr e ↦ rw e.0 (no_mark_front b n.no_mark)
    ]))

fault_front : (kind : FaultKind) (here : List ℕ) → IsFaulty kind here → front_of here ≡ front (broken kind) 0
fault_front fault.BadByte here f = rw f.2 (nothing_front f.0 f.1 f.3)
fault_front fault.NumberTooLarge here f = rw f.2 (number_front_is f.0 f.1 f.3 ∙ number_large f.0 f.1 f.4)
fault_front fault.NameTooLong here f = rw f.2 (word_front_is f.0 f.1 f.3 ∙ word_long f.0 f.1 f.4)

pub token_front : (s : Sign) (text behind : List ℕ) → IsToken s text behind → front_of (text ++ behind) ≡ front s (length text)
token_front rec_word text behind t = word_front_is text behind t.0 ∙ word_short text behind rec_word (rw t.1 (omega arith)) (rw t.1 refl)
token_front end_word text behind t = word_front_is text behind t.0 ∙ word_short text behind end_word (rw t.1 (omega arith)) (rw t.1 refl)
token_front (plain name) text behind t = word_front_is text behind t.0 ∙ word_short text behind (plain name) t.1 (rw t.4 (plain_sign text t.2 t.3))
token_front (number value) text behind t = number_front_is text behind t.0 ∙ rw t.2 (number_small text behind t.1)
token_front arrow text behind t = rw t refl
token_front bang text behind t = rw t refl
token_front question text behind t = rw t refl
token_front colon text behind t = rw t refl
token_front dot text behind t = rw t refl
token_front comma text behind t = rw t refl
token_front open_brace text behind t = rw t refl
token_front close_brace text behind t = rw t refl
token_front open_paren text behind t = rw t refl
token_front close_paren text behind t = rw t refl
token_front open_bracket text behind t = rw t refl
token_front close_bracket text behind t = rw t refl
token_front finish text behind t = rw (t.0, t.1) refl
token_front (broken kind) text behind t = rw t.0 (fault_front kind behind t.1)
