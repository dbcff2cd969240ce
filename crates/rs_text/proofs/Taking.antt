-- The tokens that a reader has taken lead it from one reader to the next.
use Rattle.std.proofs.Common.{◌≡◌, ◌∙◌, ℕ, ◌≤◌, List, [], ◌∷◌, ◌++◌, length, Ok, refl, sym, ap, subst, append_assoc}
use Rattle.rs_model.specs.Data.{Names_data}
use Rattle.rs_text.specs.declared.reading.Stop.{Stop}
use Rattle.rs_text.specs.declared.reading.Stop.TheVariants as stops
use Rattle.rs_text.specs.Lexemes.{Lexeme}
use Rattle.rs_text.specs.Lexing.{Lexed, next_lexeme}
use Rattle.rs_text.specs.Readings.{Automaton, AreNamesBehind, Lead, Leaves, StopsAtEnd, feed_sign, next_lexeme_of}
use Rattle.rs_text.proofs.Keeping.{AllNamed, Keeps, all_named, if_ok, tokens}
use Rattle.rs_text.proofs.RefusedReadings.{RefusedBy}
use Rattle.rs_text.proofs.Standing.{more_if, next_is}

-- the tokens up to `now` led the reader o to r
pub record Came {R : Type 0} (a : Automaton R) (o : R) (bytes : List ℕ) (at : ℕ) (r : R) (now : ℕ) : Type 0 where
  pub before : List Lexeme
  pub lexed : (ls : List Lexeme) → Lexed bytes now ls → Lexed bytes at (before ++ ls)
  pub lead : (ls : List Lexeme) → Lexed bytes now ls → Lead a o before ls r

pub came_first : {R : Type 0} (a : Automaton R) (o : R) (bytes : List ℕ) (at : ℕ) → Came a o bytes at o at
came_first a o bytes at = record { before = []; lexed = λ ls h. h; lead = λ ls h. refl }

lead_on : {R : Type 0} (a : Automaton R) (before : List Lexeme) (r : R) (t : Lexeme) (rest : List Lexeme) (m d : R) → Lead a r before (t ∷ rest) m
    → feed_sign a t.sign t.from (next_lexeme_of t rest) m ≡ Ok d → Lead a r (before ++ t ∷ []) rest d
lead_on a [] r t rest m d e f = (d, ap (λ z. feed_sign a t.sign t.from (next_lexeme_of t rest) z) e ∙ f, refl)
lead_on a (l ∷ ls) r t rest m d x f =
    (x.0, ap (λ z. feed_sign a l.sign l.from (next_lexeme_of l z) r) (append_assoc ls (t ∷ []) rest) ∙ x.1, lead_on a ls x.0 t rest m d x.2 f)

-- a token that is taken, and those behind it
taken_with : {R : Type 0} {a : Automaton R} (s : StopsAtEnd a) (bytes : List ℕ) (now : ℕ) (t n : Lexeme) (r d : R) (ls : List Lexeme) → t ≡ next_lexeme bytes now → feed_sign a t.sign t.from n r ≡ Ok d
    → Lexed bytes t.until ls → Lexed bytes now (t ∷ ls)
taken_with s bytes now t n r d ls e f h = (e, (λ last. absurd (cc (sym last ∙ more_if s t.sign t.from n r d f))), (λ further. h))

pub came_on : {R : Type 0} {a : Automaton R} (s : StopsAtEnd a) (o : R) (bytes : List ℕ) (at now : ℕ) (t : Lexeme) (r d : R) → t ≡ next_lexeme bytes now
    → feed_sign a t.sign t.from (next_lexeme bytes t.until) r ≡ Ok d → Came a o bytes at r now → Came a o bytes at d t.until
came_on {R} {a} s o bytes at now t r d e f k = record {
  before = k.before ++ t ∷ [];
  lexed = λ ls h. subst (λ (z : List Lexeme). Lexed bytes at z) (sym (append_assoc k.before (t ∷ []) ls)) (k.lexed (t ∷ ls) (taken_with s bytes now t (next_lexeme bytes t.until) r d ls e f h));
  lead = λ ls h.
      lead_on a k.before o t ls r d (k.lead (t ∷ ls) (taken_with s bytes now t (next_lexeme bytes t.until) r d ls e f h))
      (ap (λ z. feed_sign a t.sign t.from z r) (next_is bytes t.until t ls h) ∙ f);
}

-- the names of a reader that has come so far, as it is or with the names that it had
pub names_behind : {R : Type 0} (a : Automaton R) (names : R → Names_data) (o : R) (bytes : List ℕ) (at : ℕ) (r : R) (now : ℕ) (found : Names_data) → now ≤ length bytes → Came a o bytes at r now
    → found ≡ names r → AreNamesBehind a names o bytes at found
names_behind a names o bytes at r now found within k e =
    let t = tokens bytes now within in
    record { before = k.before; others = t.0; lexed = k.lexed t.0 t.1; reader = r; lead = k.lead t.0 t.1; names_are = e }

kept_by : {R : Type 0} (a : Automaton R) (P : R → Type 0) → Keeps a P → (before others : List Lexeme) (r d : R) → AllNamed (before ++ others) → Lead a r before others d → P r → P d
kept_by a P k [] others r d n e h = subst P e h
kept_by a P k (l ∷ ls) others r d n x h =
    kept_by a P k ls others x.0 d n.1 x.2 (if_ok (feed_sign a l.sign l.from (next_lexeme_of l (ls ++ others)) r) x.0 P x.1 (k l.sign l.from (next_lexeme_of l (ls ++ others)) r n.0 h))

-- what each token keeps holds of the reader that has such names
pub kept_behind : {R : Type 0} (a : Automaton R) (P : R → Type 0) → Keeps a P → (names : R → Names_data) (o : R) (bytes : List ℕ) (at : ℕ) (found : Names_data) → P o
    → (b : AreNamesBehind a names o bytes at found) → P b.reader
kept_behind a P k names o bytes at found h b = kept_by a P k b.before b.others o b.reader (all_named bytes (b.before ++ b.others) at b.lexed) b.lead h

-- a fault leaves the names that the reader had which refused
pub left_names : {R : Type 0} (a : Automaton R) (names : R → Names_data) (s : Stop) (o : R) (bytes : List ℕ) (at : ℕ) (r : R) (left : Names_data) → RefusedBy a s o bytes at r → left ≡ names r
    → Leaves a names s o bytes at left
left_names a names stops.Memory o bytes at r left h e = tt
left_names a names (stops.Fault f) o bytes at r left h e = λ ls lexed. ap names (h ls lexed) ∙ sym e
