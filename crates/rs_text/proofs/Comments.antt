-- An open comment is held as far as the end of its line.
use Rattle.std.proofs.Common.{◌≡◌, ℕ, zero, suc, ◌+◌, ◌<◌, ◌≤◌, List, [], ◌∷◌, length, drop, true, false, inl, inr, refl, arith}
use Rattle.std.proofs.lemmas.Bool.Decides.{eqb_tells}
use Rattle.memchr.specs.Find.{Passes, is_byte}
use Rattle.rs_text.specs.Lexing.{length_of_blanks}

-- place k ends the line
abbrev pub Line : List ℕ → ℕ → Type 0
Line bs k = Passes (is_byte 10) bs k

pub to_line : (bs : List ℕ) (k : ℕ) → k < length bs → ((j : ℕ) → 0 ≤ j → j < k → ¬ (Line bs j)) → Line bs k → length_of_blanks true bs ≡ k + length_of_blanks false (drop k bs)
to_line [] k h before at = absurd (omega arith)
to_line (b ∷ bs) zero h before at = elim (eqb_tells b 10) [
  | inl e ↦ rw e.1 (omega arith)
  | inr e ↦ absurd (cc (rw e.0 at at))
]
to_line (b ∷ bs) (suc k) h before at = elim (eqb_tells b 10) [
  | inl e ↦ absurd (before 0 (omega arith) (omega arith) e.0)
  | inr e ↦ rw e.0 (let n = to_line bs k (omega arith) (λ j low less. before (suc j) (omega arith) (omega arith)) at in omega arith)
]

pub to_end : (bs : List ℕ) → ((j : ℕ) → 0 ≤ j → j < length bs → ¬ (Line bs j)) → length_of_blanks true bs ≡ length bs + length_of_blanks false (drop (length bs) bs)
to_end [] before = refl
to_end (b ∷ bs) before = elim (eqb_tells b 10) [
  | inl e ↦ absurd (before 0 (omega arith) (omega arith) e.0)
  | inr e ↦ rw e.0 (let n = to_end bs (λ j low less. before (suc j) (omega arith) (omega arith)) in omega arith)
]
