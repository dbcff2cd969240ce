-- The kind of a token goes with its text.
use Rattle.std.proofs.Common.{◌≡◌, ℕ, ◌-◌, List, ◌++◌, length, drop, take, codes, Ok, Err, Result, refl, sym, ap, ◌∙◌, subst, arith}
use Rattle.std.proofs.Math.Seq.{take-append_seam}
use Rattle.rs_text.specs.Lexemes.{Lexeme}
use Rattle.rs_text.specs.Lexing.{next_lexeme, lexeme_of, broken_at, sign_of}
use Rattle.rs_text.specs.Signs.{Sign, rec_word, end_word, plain, number, broken}
use Rattle.rs_text.specs.Terminals.{token_kind}
use Rattle.rs_text.specs.Tokens.{gap_bytes, IsNext, IsToken}
use Rattle.rs_text.specs.declared.tokens.FaultKind.{FaultKind}
use Rattle.rs_text.specs.declared.tokens.TokenKind.{TokenKind}
use Rattle.rs_text.proofs.Nexts.{behind_gap, next_is_next, not_same}

same_kind : (j k : TokenKind) → (let r : Result TokenKind FaultKind = Ok j in r) ≡ Ok k → j ≡ k
same_kind j k e = cc

same_fault : (j k : FaultKind) → (let r : Result TokenKind FaultKind = Err j in r) ≡ Err k → j ≡ k
same_fault j k e = cc

text_sign : (s : Sign) (text behind : List ℕ) (k : TokenKind) → IsToken s text behind → token_kind s ≡ Ok k → sign_of k text ≡ s
text_sign rec_word text behind k t e = rw (← same_kind _ k e, t.1) refl
text_sign end_word text behind k t e = rw (← same_kind _ k e, t.1) refl
text_sign (plain name) text behind k t e = rw (← same_kind _ k e, not_same text (codes "rec") t.2, not_same text (codes "end") t.3, t.4) refl
text_sign (number value) text behind k t e = rw (← same_kind _ k e, t.2) refl
text_sign (broken f) text behind k t e = absurd (cc e)
text_sign _ text behind k t e = rw (← same_kind _ k e) refl

token_text : (bytes : List ℕ) (at : ℕ) (l : Lexeme) (x : IsNext bytes at l) → take (l.until - l.from) (drop l.from bytes) ≡ x.text
token_text bytes at l x =
    let size : l.until - l.from ≡ length x.text = let u = x.until in omega arith in
    let here : drop l.from bytes ≡ x.text ++ x.behind = rw x.from (behind_gap bytes at (length (gap_bytes x.gap)) (gap_bytes x.gap) (x.text ++ x.behind) x.parts refl) in
    rw (size, here) (take-append_seam x.text x.behind)

faulty_sign : (s : Sign) (k : FaultKind) → token_kind s ≡ Err k → s ≡ broken k
faulty_sign (broken j) k e = ap broken (same_fault j k e)
faulty_sign _ k e = absurd (cc e)

lexeme_is : (l : Lexeme) (s : Sign) (from until : ℕ) → l.sign ≡ s → l.from ≡ from → l.until ≡ until → l ≡ record { sign = s; from = from; until = until }
lexeme_is l s from until p q r = rw (← p, ← q, ← r) refl

-- a token with its kind stands for what was cut off
pub token_stands : (bytes : List ℕ) (at : ℕ) (l : Lexeme) (k : TokenKind) → l ≡ next_lexeme bytes at → token_kind l.sign ≡ Ok k
    → next_lexeme bytes at ≡ lexeme_of bytes (record { kind = k; from = l.from; until = l.until })
token_stands bytes at l k e h =
    let x : IsNext bytes at l = subst (λ (z : Lexeme). IsNext bytes at z) (sym e) (next_is_next bytes at) in
    rw (← e, token_text bytes at l x, text_sign l.sign x.text x.behind k x.token h) refl

-- a fault with its kind stands for what was cut off
pub fault_stands : (bytes : List ℕ) (at : ℕ) (l : Lexeme) (k : FaultKind) → l ≡ next_lexeme bytes at → token_kind l.sign ≡ Err k → next_lexeme bytes at ≡ broken_at (record { kind = k; at = l.from })
fault_stands bytes at l k e h =
    let x : IsNext bytes at l = subst (λ (z : Lexeme). IsNext bytes at z) (sym e) (next_is_next bytes at) in
    let s : l.sign ≡ broken k = faulty_sign l.sign k h in
    let t : IsToken (broken k) x.text x.behind = subst (λ (z : Sign). IsToken z x.text x.behind) s x.token in
    let none : length x.text ≡ 0 = rw t.0 refl in
    let until : l.until ≡ l.from = let u = x.until in omega arith in
    sym e ∙ lexeme_is l (broken k) l.from l.from s refl until
