-- What stands behind a word tells whether it is a role.
use Rattle.std.proofs.Common.{◌≡◌, ◌∙◌, ℕ, List, ◌∷◌, Bool, false, if◌then◌else◌, Ok, Result, refl, sym, ap}
use Rattle.rs_text.specs.declared.faults.TextFault.{TextFault}
use Rattle.rs_text.specs.Lexemes.{Lexeme}
use Rattle.rs_text.specs.Lexing.{front, front_of, length_of_blanks, lexeme_at}
use Rattle.rs_text.specs.Names.{place_of, nearest_binding}
use Rattle.rs_text.specs.Signs.{Sign, plain, arrow, bang, question, comma, close_brace, broken}
use Rattle.rs_bodies.specs.declared.dialects.Dialect.{Dialect}
use Rattle.rs_bodies.specs.declared.reading.Link.{Link}
use Rattle.rs_bodies.specs.Ahead.{IsToldBy, role_told}
use Rattle.rs_bodies.specs.Data.{Reader_data}
use Rattle.rs_bodies.specs.Dialects.{is_acts, is_talks, turns}
use Rattle.rs_bodies.specs.Feeding.{feed_body, feed_bound_name, feed_head_role, feed_word}
use Rattle.rs_bodies.proofs.MarksPassed.{next_at}

told_by : (d : Dialect) (here : List ℕ) (t : Sign) (size : ℕ) (is_role : Bool) → length_of_blanks false here ≡ 0 → front_of here ≡ front t size → ((at : ℕ) → role_told d t at ≡ Ok is_role)
    → IsToldBy d here is_role
told_by d here t size is_role z f told = λ bytes at e.
    ap (λ (l : Lexeme). role_told d l.sign l.from) (next_at bytes here at e z ∙ ap (lexeme_at at) f) ∙ told at

pub arrow_tells : (d : Dialect) (rest : List ℕ) → IsToldBy d (45 ∷ 62 ∷ rest) (is_talks d)
arrow_tells d rest = told_by d (45 ∷ 62 ∷ rest) arrow 2 (is_talks d) refl refl (λ at. refl)

pub bang_tells : (d : Dialect) (rest : List ℕ) → IsToldBy d (33 ∷ rest) (is_acts d)
bang_tells d rest = told_by d (33 ∷ rest) bang 1 (is_acts d) refl refl (λ at. refl)

pub question_tells : (d : Dialect) (rest : List ℕ) → IsToldBy d (63 ∷ rest) (is_acts d)
question_tells d rest = told_by d (63 ∷ rest) question 1 (is_acts d) refl refl (λ at. refl)

pub comma_tells : (d : Dialect) (rest : List ℕ) → IsToldBy d (44 ∷ rest) false
comma_tells d rest = told_by d (44 ∷ rest) comma 1 false refl refl (λ at. refl)

pub brace_tells : (d : Dialect) (rest : List ℕ) → IsToldBy d (125 ∷ rest) false
brace_tells d rest = told_by d (125 ∷ rest) close_brace 1 false refl refl (λ at. refl)

pub told_in : (d : Dialect) (here marks : List ℕ) (is_role told : Bool) → IsToldBy d marks is_role → marks ≡ here → told ≡ is_role → IsToldBy d here told
told_in d here marks is_role told h e same = λ bytes at stands. h bytes at (stands ∙ sym e) ∙ ap Ok (sym same)

-- ---- what was told decides what a word is

abbrev told : Bool → Result Bool TextFault
told x = Ok x

ok_is : (x y : Bool) → told x ≡ told y → x ≡ y
ok_is x y h = cc

pub word_told : (d : Dialect) (from : Link) (word : List ℕ) (t : Sign) (at next : ℕ) (r : Reader_data) (is_role : Bool) → role_told d t next ≡ Ok is_role
    → feed_word d from word t at next r ≡ (if is_role then feed_head_role d (place_of word r.roles) from at r else feed_bound_name (nearest_binding word r.bound) from at r)
word_told d from word (broken k) at next r is_role h = absurd (cc h)
word_told d from word t at next r is_role h =
    ap (λ (z : Bool). if z then feed_head_role d (place_of word r.roles) from at r else feed_bound_name (nearest_binding word r.bound) from at r) (ok_is (turns d t) is_role h)

-- the first word of a body
pub body_told : (d : Dialect) (from : Link) (s : Sign) (word : List ℕ) (n : Lexeme) (at : ℕ) (r : Reader_data) (is_role : Bool) → s ≡ plain word → role_told d n.sign n.from ≡ Ok is_role
    → feed_body d from s at n r ≡ (if is_role then feed_head_role d (place_of word r.roles) from at r else feed_bound_name (nearest_binding word r.bound) from at r)
body_told d from s word n at r is_role e h = ap (λ (z : Sign). feed_body d from z at n r) e ∙ word_told d from word n.sign at n.from r is_role h
