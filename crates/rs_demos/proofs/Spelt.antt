-- What bytes spell, word by word.
use Rattle.std.proofs.Common.{◌≡◌, inl, inr, ℕ, zero, suc, ◌+◌, ◌<◌, ◌≤◌, ℤ, Bool, true, false, not, ◌&&◌, ◌==◌, cond, List, [], ◌∷◌, ◌++◌, length, take, drop, refl, sym, ap, subst, ◌∙◌, arith}
use Rattle.std.proofs.Common.{append_assoc, append-nil, length-append, length-drop}
use Rattle.std.specs.Int.{IsInRange}
use Rattle.std.specs.List.{list_all, prefix_len}
use Rattle.std.specs.Str.Parse.{AllDigits, digits_value}
use Rattle.std.proofs.lemmas.Bool.{and_parts, false≢true}
use Rattle.std.proofs.lemmas.Bool.Decides.{eqb_tells, nat_tests}
use Rattle.std.proofs.lemmas.List.Sums.{prefix_len-le-length}
use Rattle.std.proofs.lemmas.Str.Parse.{digit_from_value}
use Rattle.rs_demos.specs.Numbers.{is_blank, AreBlanks, AreAsked, IsNumber, EndsNumber, SpellsNumbers, minus_text, takes_numbers, with_sign}
use Rattle.rs_model.specs.declared.demos.Demo.{Demo}
use Rattle.rs_demos.specs.Reading.{behind_blanks, blanks_before, word_len}

-- lists

one_more : (n x : ℕ) (xs : List ℕ) → drop (1 + n) (x ∷ xs) ≡ drop n xs
one_more n x xs = let e : 1 + n ≡ suc n = omega arith in ap (λ (k : ℕ). drop k (x ∷ xs)) e

one_more_taken : (n x : ℕ) (xs : List ℕ) → take (1 + n) (x ∷ xs) ≡ x ∷ take n xs
one_more_taken n x xs = let e : 1 + n ≡ suc n = omega arith in ap (λ (k : ℕ). take k (x ∷ xs)) e

parts : (n : ℕ) (xs : List ℕ) → xs ≡ take n xs ++ drop n xs
parts zero xs = refl
parts (suc n) [] = refl
parts (suc n) (x ∷ xs) = ap (λ (z : List ℕ). x ∷ z) (parts n xs)

take_front : (xs ys : List ℕ) → take (length xs) (xs ++ ys) ≡ xs
take_front [] ys = refl
take_front (x ∷ xs) ys = ap (λ (z : List ℕ). x ∷ z) (take_front xs ys)

drop_front : (xs ys : List ℕ) → drop (length xs) (xs ++ ys) ≡ ys
drop_front [] ys = refl
drop_front (x ∷ xs) ys = drop_front xs ys

both : (a b : Bool) → a ≡ true → b ≡ true → (a && b) ≡ true
both true b h k = k
both false b h k = absurd (false≢true h)

all_append : (p : ℕ → Bool) (xs ys : List ℕ) → list_all p xs ≡ true → list_all p ys ≡ true → list_all p (xs ++ ys) ≡ true
all_append p [] ys h k = k
all_append p (x ∷ xs) ys h k = let a = and_parts (p x) (list_all p xs) h in both (p x) (list_all p (xs ++ ys)) a.0 (all_append p xs ys a.1 k)

-- blanks

-- nothing stands there, or no blank
abbrev pub StartsAWord : List ℕ → Type 0
StartsAWord [] = Unit {0}
StartsAWord (b ∷ bs) = is_blank b ≡ false

pub behind_starts : (bytes : List ℕ) → StartsAWord (behind_blanks bytes)
behind_starts [] = tt
behind_starts (b ∷ bs) = go (behind_starts bs) (is_blank b) refl
  where
    go : StartsAWord (behind_blanks bs) → (t : Bool) → is_blank b ≡ t → StartsAWord (drop (cond t (1 + prefix_len is_blank bs) 0) (b ∷ bs))
    go later true e = subst StartsAWord (sym (one_more (prefix_len is_blank bs) b bs)) later
    go later false e = e

front_blank : (bytes : List ℕ) → AreBlanks (take (blanks_before bytes) bytes)
front_blank [] = refl
front_blank (b ∷ bs) = go (front_blank bs) (is_blank b) refl
  where
    go : AreBlanks (take (blanks_before bs) bs) → (t : Bool) → is_blank b ≡ t → AreBlanks (take (cond t (1 + prefix_len is_blank bs) 0) (b ∷ bs))
    go later true e = subst AreBlanks (sym (one_more_taken (prefix_len is_blank bs) b bs)) (both (is_blank b) (list_all is_blank (take (prefix_len is_blank bs) bs)) e later)
    go later false e = refl

-- blanks in front are passed
pass : (blanks ys : List ℕ) → AreBlanks blanks → behind_blanks (blanks ++ ys) ≡ behind_blanks ys
pass [] ys h = refl
pass (b ∷ bs) ys h =
    let a = and_parts (is_blank b) (list_all is_blank bs) h in
    ap (λ (t : Bool). drop (cond t (1 + prefix_len is_blank (bs ++ ys)) 0) (b ∷ (bs ++ ys))) a.0
    ∙ one_more (prefix_len is_blank (bs ++ ys)) b (bs ++ ys) ∙ pass bs ys a.1

stays : (ys : List ℕ) → StartsAWord ys → behind_blanks ys ≡ ys
stays [] h = refl
stays (b ∷ bs) h = ap (λ (t : Bool). drop (cond t (1 + prefix_len is_blank bs) 0) (b ∷ bs)) h

blank_whole : (bytes : List ℕ) → AreBlanks bytes → behind_blanks bytes ≡ []
blank_whole bytes h = ap behind_blanks (sym (append-nil bytes)) ∙ pass bytes [] h

blank_word : (ys : List ℕ) → StartsAWord ys → AreBlanks ys → ys ≡ []
blank_word ys s h = sym (stays ys s) ∙ blank_whole ys h

-- words

abbrev pub no_blank : ℕ → Bool
no_blank b = not (is_blank b)

digit_no_blank : (c : ℕ) → IsInRange 48 57 c → is_blank c ≡ false
digit_no_blank c r = grind (arith, nat_tests)

digits_no_blank : (ds : List ℕ) → AllDigits 10 ds → list_all no_blank ds ≡ true
digits_no_blank [] h = refl
digits_no_blank (d ∷ ds) h = both (no_blank d) (list_all no_blank ds) (ap not (digit_no_blank d (digit_from_value d h.0))) (digits_no_blank ds h.1)

signed_no_blank : (minus : Bool) (ds : List ℕ) → AllDigits 10 ds → list_all no_blank (minus_text minus ++ ds) ≡ true
signed_no_blank true ds h = digits_no_blank ds h
signed_no_blank false ds h = digits_no_blank ds h

number_no_blank : (word : List ℕ) (z : ℤ) → IsNumber word z → list_all no_blank word ≡ true
number_no_blank word z n = let P : List ℕ → Type 0 = λ w. list_all no_blank w ≡ true in subst P (sym n.spelt) (signed_no_blank n.minus n.digits n.numeral.1)

-- a number isn't empty, and begins with no blank
starts_by : (word behind : List ℕ) → list_all no_blank word ≡ true → 0 < length word → StartsAWord (word ++ behind)
starts_by [] behind h some = absurd (omega arith)
starts_by (b ∷ bs) behind h some = go (is_blank b) refl (and_parts (no_blank b) (list_all no_blank bs) h).0
  where
    go : (t : Bool) → is_blank b ≡ t → not t ≡ true → is_blank b ≡ false
    go true e k = absurd (false≢true k)
    go false e k = e

pub number_length : (word : List ℕ) (z : ℤ) → IsNumber word z → 0 < length word
number_length word z n = go n.minus n.digits n.spelt n.numeral.0
  where
    go : (minus : Bool) (ds : List ℕ) → word ≡ minus_text minus ++ ds → 0 < length ds → 0 < length word
    go true ds e some = omega (arith, ap length e)
    go false ds e some = omega (arith, ap length e)

number_starts : (word behind : List ℕ) (z : ℤ) → IsNumber word z → StartsAWord (word ++ behind)
number_starts word behind z n = starts_by word behind (number_no_blank word z n) (number_length word z n)

ends_at : (behind : List ℕ) → EndsNumber behind → word_len behind ≡ 0
ends_at [] e = refl
ends_at (b ∷ bs) e = ap (λ (t : Bool). cond (not t) (1 + prefix_len no_blank bs) 0) e

word_is : (word behind : List ℕ) → list_all no_blank word ≡ true → EndsNumber behind → word_len (word ++ behind) ≡ length word
word_is [] behind h e = ends_at behind e
word_is (b ∷ bs) behind h e =
    let a = and_parts (no_blank b) (list_all no_blank bs) h in
    let on : word_len (b ∷ (bs ++ behind)) ≡ 1 + word_len (bs ++ behind) =
    ap (λ (t : Bool). cond t (1 + prefix_len no_blank (bs ++ behind)) 0) a.0 in
    omega (arith, on, word_is bs behind a.1 e)

-- after the bytes before the first blank stands a blank, or nothing
word_stops : (bytes : List ℕ) → EndsNumber (drop (word_len bytes) bytes)
word_stops [] = tt
word_stops (b ∷ bs) = go (word_stops bs) (is_blank b) refl
  where
    go : EndsNumber (drop (word_len bs) bs) → (t : Bool) → is_blank b ≡ t → EndsNumber (drop (cond (not t) (1 + prefix_len no_blank bs) 0) (b ∷ bs))
    go later true e = e
    go later false e = subst EndsNumber (sym (one_more (prefix_len no_blank bs) b bs)) later

-- what is spelt

pub behind_of : (bytes : List ℕ) (zs : List ℤ) → SpellsNumbers zs bytes → SpellsNumbers zs (behind_blanks bytes)
behind_of bytes [] s = let P : List ℕ → Type 0 = λ w. AreBlanks w in subst P (sym (blank_whole bytes s)) refl
behind_of bytes (z ∷ zs) s = record {
  blanks = [];
  word = s.word;
  behind = s.behind;
  split = ap behind_blanks s.split ∙ pass s.blanks (s.word ++ s.behind) s.are_blanks ∙ stays (s.word ++ s.behind) (number_starts s.word s.behind z s.number);
  are_blanks = refl;
  number = s.number;
  ends = s.ends;
  later = s.later;
}

pub before_of : (bytes : List ℕ) (zs : List ℤ) → SpellsNumbers zs (behind_blanks bytes) → SpellsNumbers zs bytes
before_of bytes [] s =
    let none = blank_word (behind_blanks bytes) (behind_starts bytes) s in
    let whole : bytes ≡ take (blanks_before bytes) bytes = parts (blanks_before bytes) bytes ∙ ap (λ (w : List ℕ). take (blanks_before bytes) bytes ++ w) none
    ∙ append-nil (take (blanks_before bytes) bytes) in
    subst AreBlanks (sym whole) (front_blank bytes)
before_of bytes (z ∷ zs) s = record {
  blanks = take (blanks_before bytes) bytes ++ s.blanks;
  word = s.word;
  behind = s.behind;
  split = parts (blanks_before bytes) bytes ∙ ap (λ (w : List ℕ). take (blanks_before bytes) bytes ++ w) s.split ∙ sym (append_assoc (take (blanks_before bytes) bytes) s.blanks (s.word ++ s.behind));
  are_blanks = all_append is_blank (take (blanks_before bytes) bytes) s.blanks (front_blank bytes) s.are_blanks;
  number = s.number;
  ends = s.ends;
  later = s.later;
}

pub next_word : (bytes : List ℕ) (z : ℤ) (zs : List ℤ) → IsNumber (take (word_len bytes) bytes) z
    → SpellsNumbers zs (drop (word_len bytes) bytes) → SpellsNumbers (z ∷ zs) bytes
next_word bytes z zs n later = record {
  blanks = [];
  word = take (word_len bytes) bytes;
  behind = drop (word_len bytes) bytes;
  split = parts (word_len bytes) bytes;
  are_blanks = refl;
  number = n;
  ends = word_stops bytes;
  later = later;
}

no_front : (blanks ys bytes : List ℕ) → StartsAWord bytes → AreBlanks blanks → bytes ≡ blanks ++ ys → bytes ≡ ys
no_front [] ys bytes s h e = e
no_front (b ∷ bs) ys bytes s h e =
    let a = and_parts (is_blank b) (list_all is_blank bs) h in
    absurd (false≢true (sym (subst StartsAWord e s) ∙ a.0))

pub record FirstWord (bytes : List ℕ) (z : ℤ) (zs : List ℤ) : Type 0 where
  pub number : IsNumber (take (word_len bytes) bytes) z
  pub later : SpellsNumbers zs (drop (word_len bytes) bytes)

pub first_word : (bytes : List ℕ) (z : ℤ) (zs : List ℤ) → StartsAWord bytes → SpellsNumbers (z ∷ zs) bytes → FirstWord bytes z zs
first_word bytes z zs st s =
    let e = no_front s.blanks (s.word ++ s.behind) bytes st s.are_blanks s.split in
    let len : word_len bytes ≡ length s.word = ap word_len e ∙ word_is s.word s.behind (number_no_blank s.word z s.number) s.ends in
    let w : take (word_len bytes) bytes ≡ s.word = ap (λ (k : ℕ). take k bytes) len ∙ ap (λ (x : List ℕ). take (length s.word) x) e ∙ take_front s.word s.behind in
    let b : drop (word_len bytes) bytes ≡ s.behind = ap (λ (k : ℕ). drop k bytes) len ∙ ap (λ (x : List ℕ). drop (length s.word) x) e ∙ drop_front s.word s.behind in
    let P : List ℕ → Type 0 = λ x. IsNumber x z in
    let Q : List ℕ → Type 0 = λ x. SpellsNumbers zs x in
    record { number = subst P (sym w) s.number; later = subst Q (sym b) s.later }

-- where bytes stand that begin with no blank, they spell a number at least
pub some_word : (bytes : List ℕ) (zs : List ℤ) → StartsAWord bytes → 0 < length bytes → SpellsNumbers zs bytes
    → (z : ℤ) × (more : List ℤ) × FirstWord bytes z more
some_word bytes [] st some s = absurd (let e = blank_word bytes st s in omega (arith, ap length e))
some_word bytes (z ∷ zs) st some s = (z, zs, first_word bytes z zs st s)

pub word_there : (bytes : List ℕ) → StartsAWord bytes → 0 < length bytes → 0 < word_len bytes
word_there [] st some = absurd (omega arith)
word_there (b ∷ bs) st some =
    let on : word_len (b ∷ bs) ≡ 1 + word_len bs = ap (λ (t : Bool). cond (not t) (1 + prefix_len no_blank bs) 0) st in
    omega (arith, on)

-- the bytes after the first word, without blanks, are fewer
pub fewer : (bytes : List ℕ) → StartsAWord bytes → 0 < length bytes → length (behind_blanks (drop (word_len bytes) bytes)) < length bytes
fewer bytes st some =
    let w = word_there bytes st some in
    let le = prefix_len-le-length no_blank bytes in
    let b : length (behind_blanks (drop (word_len bytes) bytes)) ≤ length (drop (word_len bytes) bytes) =
    omega (arith, length-drop (blanks_before (drop (word_len bytes) bytes)) (drop (word_len bytes) bytes)) in
    omega (arith, length-drop (word_len bytes) bytes)

-- bytes spell one list of numbers

sign_one : (m n : Bool) (xs ys : List ℕ) → AllDigits 10 xs → AllDigits 10 ys → 0 < length xs → 0 < length ys
    → minus_text m ++ xs ≡ minus_text n ++ ys → (m ≡ n) × (xs ≡ ys)
sign_one true true xs ys h k some other e = (refl, cc (e))
sign_one false false xs ys h k some other e = (refl, e)
sign_one true false xs [] h k some other e = absurd (omega (arith, other))
sign_one true false xs (y ∷ ys) h k some other e =
    let f : 45 ≡ y = cc (e) in
    let r = digit_from_value y k.0 in
    absurd (omega (arith, r, f))
sign_one false true [] ys h k some other e = absurd (omega (arith, some))
sign_one false true (x ∷ xs) ys h k some other e =
    let f : x ≡ 45 = cc (e) in
    let r = digit_from_value x h.0 in
    absurd (omega (arith, r, f))

number_one : (word : List ℕ) (x y : ℤ) → IsNumber word x → IsNumber word y → x ≡ y
number_one word x y n m =
    let s = sign_one n.minus m.minus n.digits m.digits n.numeral.1 m.numeral.1 n.numeral.0 m.numeral.0 (sym n.spelt ∙ m.spelt) in
    n.value ∙ ap (λ (z : Bool). with_sign z (digits_value 10 n.digits)) s.0 ∙ ap (λ (z : List ℕ). with_sign m.minus (digits_value 10 z)) s.1 ∙ sym m.value

nonblank_behind : (bytes : List ℕ) (z : ℤ) (zs : List ℤ) → SpellsNumbers (z ∷ zs) bytes → 0 < length (behind_blanks bytes)
nonblank_behind bytes z zs s =
    let t = behind_of bytes (z ∷ zs) s in
    omega (arith, number_length t.word z t.number, ap length t.split, length-append t.blanks (t.word ++ t.behind), length-append t.word t.behind)

pub one_spelling : (xs ys : List ℤ) (bytes : List ℕ) → SpellsNumbers xs bytes → SpellsNumbers ys bytes → xs ≡ ys
one_spelling [] [] bytes s t = refl
one_spelling [] (y ∷ ys) bytes s t = absurd (omega (arith, nonblank_behind bytes y ys t, ap length (blank_whole bytes s)))
one_spelling (x ∷ xs) [] bytes s t = absurd (omega (arith, nonblank_behind bytes x xs s, ap length (blank_whole bytes t)))
one_spelling (x ∷ xs) (y ∷ ys) bytes s t =
    let f = first_word (behind_blanks bytes) x xs (behind_starts bytes) (behind_of bytes (x ∷ xs) s) in
    let g = first_word (behind_blanks bytes) y ys (behind_starts bytes) (behind_of bytes (y ∷ ys) t) in
    let e = number_one (take (word_len (behind_blanks bytes)) (behind_blanks bytes)) x y f.number g.number in
    let l = one_spelling xs ys (drop (word_len (behind_blanks bytes)) (behind_blanks bytes)) f.later g.later in
    cc (e, l)

-- reading: these numbers have been read of the bytes, and these bytes are left

pub record Reads (bytes left : List ℕ) (numbers : List ℤ) : Type 0 where
  pub starts : StartsAWord left
  pub whole : (zs : List ℤ) → SpellsNumbers zs left → SpellsNumbers (numbers ++ zs) bytes
  pub only : (ys : List ℤ) → SpellsNumbers ys bytes → (zs : List ℤ) × SpellsNumbers zs left

pub begins : (bytes left : List ℕ) (numbers : List ℤ) → left ≡ behind_blanks bytes → numbers ≡ [] → Reads bytes left numbers
begins bytes left numbers e n = record {
  starts = subst StartsAWord (sym e) (behind_starts bytes);
  whole = λ zs s.
      let P : List ℕ → Type 0 = λ w. SpellsNumbers zs w in
      let Q : List ℤ → Type 0 = λ xs. SpellsNumbers (xs ++ zs) bytes in
      subst Q (sym n) (before_of bytes zs (subst P e s));
  only = λ ys s. let P : List ℕ → Type 0 = λ w. SpellsNumbers ys w in (ys, subst P (sym e) (behind_of bytes ys s));
}

pub goes_on : (bytes left word behind left' : List ℕ) (numbers numbers' : List ℤ) (z : ℤ) (k : ℕ) → Reads bytes left numbers → 0 < length left
    → k ≡ word_len left → word ≡ take k left → behind ≡ drop k left → IsNumber word z
    → left' ≡ behind_blanks behind → numbers' ≡ numbers ++ (z ∷ []) → Reads bytes left' numbers'
goes_on bytes left word behind left' numbers numbers' z k r some len w b number l n =
    let w' : word ≡ take (word_len left) left = w ∙ ap (λ (i : ℕ). take i left) len in
    let b' : behind ≡ drop (word_len left) left = b ∙ ap (λ (i : ℕ). drop i left) len in
    record {
      starts = subst StartsAWord (sym l) (behind_starts behind);
      whole = λ zs s.
          let P : List ℕ → Type 0 = λ x. SpellsNumbers zs x in
          let N : List ℕ → Type 0 = λ x. IsNumber x z in
          let later = subst P b' (before_of behind zs (subst P l s)) in
          let whole = r.whole (z ∷ zs) (next_word left z zs (subst N w' number) later) in
          let e : numbers' ++ zs ≡ numbers ++ (z ∷ zs) = ap (λ (x : List ℤ). x ++ zs) n ∙ append_assoc numbers (z ∷ []) zs in
          let Q : List ℤ → Type 0 = λ x. SpellsNumbers x bytes in
          subst Q (sym e) whole;
      only = λ ys s.
          let t = r.only ys s in
          let f = some_word left t.0 r.starts some t.1 in
          let P : List ℕ → Type 0 = λ x. SpellsNumbers f.1 x in
          (f.1, subst P (sym l) (behind_of behind f.1 (subst P (sym b') f.2.later)));
    }

pub is_none : (bytes left word : List ℕ) (numbers : List ℤ) (k : ℕ) → Reads bytes left numbers → 0 < length left → k ≡ word_len left
    → word ≡ take k left → ((z : ℤ) → IsNumber word z → ⊥) → (zs : List ℤ) → SpellsNumbers zs bytes → ⊥
is_none bytes left word numbers k r some len w none zs s =
    let w' : word ≡ take (word_len left) left = w ∙ ap (λ (i : ℕ). take i left) len in
    let t = r.only zs s in
    let f = some_word left t.0 r.starts some t.1 in
    let N : List ℕ → Type 0 = λ x. IsNumber x f.0 in
    none f.0 (subst N (sym w') f.2.number)

no_left : (left : List ℕ) → length left ≡ 0 → AreBlanks left
no_left [] e = refl
no_left (b ∷ bs) e = absurd (omega (arith, e))

pub at_end : (bytes left : List ℕ) (numbers : List ℤ) → Reads bytes left numbers → length left ≡ 0 → SpellsNumbers numbers bytes
at_end bytes left numbers r e =
    let P : List ℤ → Type 0 = λ xs. SpellsNumbers xs bytes in
    subst P (append-nil numbers) (r.whole [] (no_left left e))

pub some_left : (n : ℕ) → false ≡ (n == 0) → 0 < n
some_left zero e = absurd (cc (e))
some_left (suc n) e = omega arith

pub none_left : (n : ℕ) → true ≡ (n == 0) → n ≡ 0
none_left n e = elim (eqb_tells n 0) [ inl t ↦ t.1 | inr t ↦ absurd (false≢true (sym t.0 ∙ sym e)) ]

-- the numbers that are asked for are those that are spelt
pub asks_none : (kind : Demo) (bytes : List ℕ) (numbers zs : List ℤ) → SpellsNumbers numbers bytes → takes_numbers kind (length numbers) ≡ false
    → AreAsked kind bytes zs → ⊥
asks_none kind bytes numbers zs s t a =
    false≢true (sym t ∙ ap (λ (xs : List ℤ). takes_numbers kind (length xs)) (one_spelling numbers zs bytes s a.1) ∙ a.0)
