use Rattle.std.proofs.Common.{◌≡◌, ◌≢◌, ℕ, suc, ◌+◌, List, [], ◌∷◌, ◌++◌, length, Bool, true, false, ◌==◌, ◌⊎◌, inl, inr, refl, sym, ap, ◌∙◌, append_assoc, length-append, arith}
use Rattle.std.proofs.lemmas.Bool.Decides.{eqb_tells}
use Rattle.std.specs.List.{list_any}
use Rattle.rs_text.specs.Bytes.{is_blank}
use Rattle.rs_text.specs.Lexing.{length_of_blanks}
use Rattle.rs_text.specs.Tokens.{Gap, nothing, blank, comment, gap_bytes, EndsLine, IsGap}

-- a token or a fault may begin here: neither a blank nor a comment does
abbrev pub Stops : List ℕ → Type 0
Stops [] = Unit {0}
Stops (b ∷ bs) = (is_blank b ≡ false) × (b ≢ 35)

-- what `length_of_blanks` passes over is a gap, and it passes over all of it
pub record Passed (rest : List ℕ) (n : ℕ) : Type 0 where
  pub gap : Gap
  pub behind : List ℕ
  pub parts : rest ≡ gap_bytes gap ++ behind
  pub size : n ≡ length (gap_bytes gap)
  pub right : IsGap gap behind
  pub stops : Stops behind

-- the same within a comment
record Held (rest : List ℕ) (n : ℕ) : Type 0 where
  held : List ℕ
  gap : Gap
  behind : List ℕ
  parts : rest ≡ held ++ (gap_bytes gap ++ behind)
  size : n ≡ length held + length (gap_bytes gap)
  no_line : list_any (λ b. b == 10) held ≡ false
  ends : EndsLine (gap_bytes gap ++ behind)
  right : IsGap gap behind
  stops : Stops behind

abbrev on_blank : (b : ℕ) (bs : List ℕ) (n : ℕ) → is_blank b ≡ true → Passed bs n → Passed (b ∷ bs) (suc n)
on_blank b bs n h p = record { gap = blank b p.gap; behind = p.behind; parts = ap (λ xs. b ∷ xs) p.parts; size = ap suc p.size; right = (h, p.right); stops = p.stops }

abbrev on_comment : (bs : List ℕ) (n : ℕ) → Held bs n → Passed (35 ∷ bs) (suc n)
on_comment bs n p =
    record {
      gap = comment p.held p.gap;
      behind = p.behind;
      parts = ap (λ xs. 35 ∷ xs) (p.parts ∙ sym (append_assoc p.held (gap_bytes p.gap) p.behind));
      size = ap suc
          (p.size ∙ sym (length-append p.held (gap_bytes p.gap)));
      right = (p.no_line, p.ends, p.right);
      stops = p.stops;
    }

abbrev on_line_end : (b : ℕ) (bs : List ℕ) (n : ℕ) → b ≡ 10 → Passed bs n → Held (b ∷ bs) (suc n)
on_line_end b bs n h p =
    record {
      held = [];
      gap = blank b p.gap;
      behind = p.behind;
      parts = ap
          (λ xs. b ∷ xs) p.parts;
      size = (let e = p.size in omega arith);
      no_line = refl;
      ends = h;
      right = (rw h refl, p.right);
      stops = p.stops;
    }

abbrev on_held : (b : ℕ) (bs : List ℕ) (n : ℕ) → (b == 10) ≡ false → Held bs n → Held (b ∷ bs) (suc n)
on_held b bs n h p =
    record {
      held = b ∷ p.held;
      gap = p.gap;
      behind = p.behind;
      parts = ap
          (λ xs. b ∷ xs) p.parts;
      size = (let e = p.size in omega arith);
      no_line = rw h p.no_line;
      ends = p.ends;
      right = p.right;
      stops = p.stops;
    }

on_stop : (b : ℕ) (bs : List ℕ) → is_blank b ≡ false → b ≢ 35 → Passed (b ∷ bs) 0
on_stop b bs h k = record { gap = nothing; behind = b ∷ bs; parts = refl; size = refl; right = tt; stops = (h, k) }

pub true_or_false : (b : Bool) → (b ≡ true) ⊎ (b ≡ false)
true_or_false true = inl refl
true_or_false false = inr refl

mutual
  pub passed : (rest : List ℕ) → Passed rest (length_of_blanks false rest)
  passed [] = record { gap = nothing; behind = []; parts = refl; size = refl; right = tt; stops = tt }
  passed (b ∷ bs) = elim (true_or_false (is_blank b)) [
    | inl h ↦ rw h (on_blank b bs (length_of_blanks false bs) h (passed bs))
    | inr h ↦ rw h (elim (eqb_tells b 35) [
      | inl e ↦ rw (e.0, e.1) (on_comment bs (length_of_blanks true bs) (held bs))
      | inr e ↦ rw e.0 (on_stop b bs h e.1)
    ])
  ]

  held : (rest : List ℕ) → Held rest (length_of_blanks true rest)
  held [] = record { held = []; gap = nothing; behind = []; parts = refl; size = refl; no_line = refl; ends = tt; right = tt; stops = tt }
  held (b ∷ bs) = elim (eqb_tells b 10) [
    | inl e ↦ rw e.0 (on_line_end b bs (length_of_blanks false bs) e.1 (passed bs))
    | inr e ↦ rw e.0 (on_held b bs (length_of_blanks true bs) e.0 (held bs))
  ]

-- ---- and the other way: a gap of which nothing is left is passed over whole

on_first : (rest : List ℕ) (n : ℕ) → EndsLine rest → length_of_blanks false rest ≡ n → length_of_blanks true rest ≡ n
on_first [] n h e = e
on_first (b ∷ bs) n h e = rw h (rw h at e)

with_comment : (text rest : List ℕ) (n : ℕ) → list_any (λ b. b == 10) text ≡ false → length_of_blanks true rest ≡ n → length_of_blanks true (text ++ rest) ≡ length text + n
with_comment [] rest n h e = omega arith
with_comment (b ∷ text) rest n h e = elim (eqb_tells b 10) [
  | inl p ↦ absurd (cc (rw p.0 at h))
  | inr p ↦ rw p.0 (let m = with_comment text rest n (rw p.0 at h) e in omega arith)
]

pub passes : (gap : Gap) (rest : List ℕ) → IsGap gap rest → Stops rest → length_of_blanks false (gap_bytes gap ++ rest) ≡ length (gap_bytes gap)
passes nothing [] h s = refl
passes nothing (b ∷ bs) h s = elim (eqb_tells b 35) [ inl p ↦ absurd (s.1 p.1) | inr p ↦ rw (s.0, p.0) refl ]
passes (blank b gap) rest h s = rw h.0 (ap suc (passes gap rest h.1 s))
passes (comment text gap) rest h s =
    rw (append_assoc text (gap_bytes gap) rest, length-append text (gap_bytes gap))
    (ap suc (with_comment text (gap_bytes gap ++ rest) (length (gap_bytes gap)) h.0 (on_first (gap_bytes gap ++ rest) (length (gap_bytes gap)) h.1 (passes gap rest h.2 s))))
