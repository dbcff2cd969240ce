-- A loop that feeds a reader token after token reads what the tokens of the text lead the reader to.
use Rattle.std.proofs.Common.{◌≡◌, ℕ, ◌+◌, ◌-◌, ◌<◌, ◌≤◌, List, [], ◌∷◌, length, true, false, Ok, Err, refl, sym, ap, ◌∙◌, subst, arith}
use Rattle.rs_text.specs.declared.faults.TextFault.{TextFault}
use Rattle.rs_text.specs.declared.reading.Stop.{Stop}
use Rattle.rs_text.specs.declared.reading.Stop.TheVariants as stops
use Rattle.rs_text.specs.Lexemes.{Lexeme, is_last}
use Rattle.rs_text.specs.Lexing.{Lexed, next_lexeme}
use Rattle.rs_text.specs.Readings.{Automaton, feed_sign, next_lexeme_of, read_all, last_of, ReadsBy, StopsAtEnd, StopsBy, Fails}
use Rattle.rs_text.proofs.RefusedReadings.{RefusedBy}
use Rattle.rs_text.specs.Signs.{Sign, finish, broken}
use Rattle.rs_text.specs.Tokens.{IsNext}
use Rattle.rs_text.proofs.Nexts.{next_is_next, takes_up}

-- the reader, which was o at first, stands before the tokens from `now` on
abbrev pub Stands : {R : Type 0} → Automaton R → R → List ℕ → ℕ → R → ℕ → Type 0
Stands a o bytes at r now =
    (all : List Lexeme) → Lexed bytes at all → (ls : List Lexeme) × Lexed bytes now ls × (read_all a (Ok o) all ≡ read_all a (Ok r) ls) × (last_of a o (Ok o) all ≡ last_of a r (Ok r) ls)

goes : {R : Type 0} (a : Automaton R) (r : R) (l : Lexeme) (ls : List Lexeme) → a.is_read r ≡ false → read_all a (Ok r) (l ∷ ls) ≡ read_all a (feed_sign a l.sign l.from (next_lexeme_of l ls) r) ls
goes a r l ls e = rw e refl

last_goes : {R : Type 0} (a : Automaton R) (o r : R) (l : Lexeme) (ls : List Lexeme) → a.is_read r ≡ false
    → last_of a o (Ok r) (l ∷ ls) ≡ last_of a r (feed_sign a l.sign l.from (next_lexeme_of l ls) r) ls
last_goes a o r l ls e = rw e refl

last_same : {R : Type 0} (a : Automaton R) (o r : R) (ls : List Lexeme) → last_of a o (Ok r) ls ≡ last_of a r (Ok r) ls
last_same a o r [] = refl
last_same a o r (l ∷ ls) = refl

-- a token that is taken isn't the last one
pub more_if : {R : Type 0} {a : Automaton R} (e : StopsAtEnd a) (t : Sign) (at : ℕ) (next : Lexeme) (r d : R) → feed_sign a t at next r ≡ Ok d → is_last t ≡ false
more_if e finish at next r d h = absurd (e.never at next r d h)
more_if e (broken k) at next r d h = cc
more_if e _ at next r d h = refl

pub next_is : (bytes : List ℕ) (until : ℕ) (l : Lexeme) (ls : List Lexeme) → Lexed bytes until ls → next_lexeme_of l ls ≡ next_lexeme bytes until
next_is bytes until l [] h = absurd h
next_is bytes until l (x ∷ xs) h = h.0

-- one token is taken
step_from : {R : Type 0} {a : Automaton R} (s : StopsAtEnd a) (bytes : List ℕ) (now : ℕ) (t : Lexeme) (r d : R) (ls : List Lexeme) → t ≡ next_lexeme bytes now → a.is_read r ≡ false
    → feed_sign a t.sign t.from (next_lexeme bytes t.until) r ≡ Ok d → Lexed bytes now ls
    → (rest : List Lexeme) × Lexed bytes t.until rest × (read_all a (Ok r) ls ≡ read_all a (Ok d) rest) × (last_of a r (Ok r) ls ≡ last_of a d (Ok d) rest)
step_from s bytes now t r d [] e u f h = absurd h
step_from {R} {a} s bytes now t r d (l ∷ ls) e u f h =
    let l_is : l ≡ t = h.0 ∙ sym e in
    let more : is_last t.sign ≡ false = more_if s t.sign t.from (next_lexeme bytes t.until) r d f in
    let k : (is_last t.sign ≡ false → Lexed bytes t.until ls) = subst (λ (z : Lexeme). is_last z.sign ≡ false → Lexed bytes z.until ls) l_is h.2 in
    let rest : Lexed bytes t.until ls = k more in
    let fed : feed_sign a t.sign t.from (next_lexeme_of t ls) r ≡ Ok d = ap (λ z. feed_sign a t.sign t.from z r) (next_is bytes t.until t ls rest) ∙ f in (
      ls,
      rest,
      ap (λ z. read_all a (Ok r) (z ∷ ls)) l_is ∙ goes a r t ls u ∙ ap (λ z. read_all a z ls) fed,
      ap (λ z. last_of a r (Ok r) (z ∷ ls)) l_is ∙ last_goes a r r t ls u ∙ ap (λ z. last_of a r z ls) fed ∙ last_same a r d ls,
    )

step : {R : Type 0} {a : Automaton R} (e : StopsAtEnd a) (o : R) (bytes : List ℕ) (at now : ℕ) (t : Lexeme) (r d : R) → Stands a o bytes at r now → t ≡ next_lexeme bytes now → a.is_read r ≡ false
    → feed_sign a t.sign t.from (next_lexeme bytes t.until) r ≡ Ok d
    → Stands a o bytes at d t.until
step e o bytes at now t r d s n u f all h =
    let x = s all h in
    let y = step_from e bytes now t r d x.0 n u f x.1 in
    (y.0, y.1, x.2 ∙ y.2, x.3 ∙ y.3)

-- what stands behind counts only where there is something
behind_same : {R : Type 0} {a : Automaton R} (e : StopsAtEnd a) (bytes : List ℕ) (t : Sign) (at until : ℕ) (l : Lexeme) (ls : List Lexeme) (r : R) → (is_last t ≡ false → Lexed bytes until ls)
    → feed_sign a t at (next_lexeme_of l ls) r ≡ feed_sign a t at (next_lexeme bytes until) r
behind_same e bytes finish at until l ls r h = e.same at (next_lexeme_of l ls) (next_lexeme bytes until) r
behind_same e bytes (broken k) at until l ls r h = refl
behind_same {R} {a} e bytes t at until l ls r h = ap (λ z. feed_sign a t at z r) (next_is bytes until l ls (h refl))

stopped : {R : Type 0} (a : Automaton R) (g : TextFault) (ls : List Lexeme) → read_all a (Err g) ls ≡ Err g
stopped a g ls = refl

-- the token's fault is the reading's
faulty_from : {R : Type 0} {a : Automaton R} (s : StopsAtEnd a) (bytes : List ℕ) (now : ℕ) (t : Lexeme) (r : R) (g : TextFault) (ls : List Lexeme) → t ≡ next_lexeme bytes now → a.is_read r ≡ false
    → feed_sign a t.sign t.from (next_lexeme bytes t.until) r ≡ Err g → Lexed bytes now ls
    → (read_all a (Ok r) ls ≡ Err g) × (last_of a r (Ok r) ls ≡ r)
faulty_from s bytes now t r g [] e u f h = absurd h
faulty_from {R} {a} s bytes now t r g (l ∷ ls) e u f h =
    let l_is : l ≡ t = h.0 ∙ sym e in
    let k : (is_last t.sign ≡ false → Lexed bytes t.until ls) = subst (λ (z : Lexeme). is_last z.sign ≡ false → Lexed bytes z.until ls) l_is h.2 in
    let fed : feed_sign a t.sign t.from (next_lexeme_of t ls) r ≡ Err g = behind_same s bytes t.sign t.from t.until t ls r k ∙ f in (
      ap (λ z. read_all a (Ok r) (z ∷ ls)) l_is ∙ goes a r t ls u ∙ ap (λ z. read_all a z ls) fed ∙ stopped a g ls,
      ap (λ z. last_of a r (Ok r) (z ∷ ls)) l_is ∙ last_goes a r r t ls u ∙ ap (λ z. last_of a r z ls) fed,
    )

-- the reading is over
over_from : {R : Type 0} (a : Automaton R) (bytes : List ℕ) (now : ℕ) (r : R) (ls : List Lexeme) → a.is_read r ≡ true → Lexed bytes now ls
    → read_all a (Ok r) ls ≡ Ok (record { reader = r; until = (next_lexeme bytes now).from })
over_from a bytes now r [] u h = absurd h
over_from a bytes now r (l ∷ ls) u h = ap (λ z. read_all a (Ok r) (z ∷ ls)) h.0 ∙ rw u refl

ahead : {R : Type 0} {a : Automaton R} (s : StopsAtEnd a) (bytes : List ℕ) (now : ℕ) (t n : Lexeme) (r d : R) → t ≡ next_lexeme bytes now → feed_sign a t.sign t.from n r ≡ Ok d → t.from < t.until
ahead {R} {a} s bytes now t n r d e f =
    let x : IsNext bytes now t = subst (λ (z : Lexeme). IsNext bytes now z) (sym e) (next_is_next bytes now) in
    let more : is_last t.sign ≡ false = more_if s t.sign t.from n r d f in
    let some : 0 < length x.text = takes_up t.sign x.text x.behind x.token more in
    let until : t.until ≡ t.from + length x.text = x.until in
    omega arith

-- ---- as a loop needs it: it begins, goes on, and ends by a fault, or behind all. The token t is the next one, n the one behind it

fed_here : {R : Type 0} (a : Automaton R) (bytes : List ℕ) (t n : Lexeme) (r : R) → n ≡ next_lexeme bytes t.until
    → feed_sign a t.sign t.from (next_lexeme bytes t.until) r ≡ feed_sign a t.sign t.from n r
fed_here a bytes t n r k = ap (λ z. feed_sign a t.sign t.from z r) (sym k)

pub starts_at : {R : Type 0} (a : Automaton R) (o : R) (bytes : List ℕ) (at : ℕ) → Stands a o bytes at o at
starts_at a o bytes at = λ all h. (all, h, refl, refl)

pub shrinks : {R : Type 0} {a : Automaton R} (s : StopsAtEnd a) (bytes : List ℕ) (now : ℕ) (t n : Lexeme) (r d : R) → t ≡ next_lexeme bytes now → t.until ≤ n.from → n.from ≤ length bytes
    → feed_sign a t.sign t.from n r ≡ Ok d → length bytes - n.from < length bytes - t.from
shrinks s bytes now t n r d e behind within f =
    let l : t.from < t.until = ahead s bytes now t n r d e f in
    omega arith

pub advances : {R : Type 0} {a : Automaton R} (s : StopsAtEnd a) (bytes : List ℕ) (now : ℕ) (t n : Lexeme) (r d : R) → t ≡ next_lexeme bytes now → now ≤ t.from → t.until ≤ length bytes
    → feed_sign a t.sign t.from n r ≡ Ok d → length bytes - t.until < length bytes - now
advances s bytes now t n r d e behind within f =
    let l : t.from < t.until = ahead s bytes now t n r d e f in
    omega arith

pub goes_on : {R : Type 0} {a : Automaton R} (s : StopsAtEnd a) (o : R) (bytes : List ℕ) (at now : ℕ) (t n : Lexeme) (r d : R) → t ≡ next_lexeme bytes now → n ≡ next_lexeme bytes t.until
    → Stands a o bytes at r now → a.is_read r ≡ false → feed_sign a t.sign t.from n r ≡ Ok d → Stands a o bytes at d t.until
goes_on {R} {a} s o bytes at now t n r d e k st u f = step s o bytes at now t r d st e u (fed_here a bytes t n r k ∙ f)

stops_at : {R : Type 0} {a : Automaton R} (z : StopsAtEnd a) (o : R) (bytes : List ℕ) (at now : ℕ) (t : Lexeme) (r : R) (s : Stop) → Stands a o bytes at r now → t ≡ next_lexeme bytes now
    → a.is_read r ≡ false → Fails s (feed_sign a t.sign t.from (next_lexeme bytes t.until) r)
    → StopsBy a s o bytes at × RefusedBy a s o bytes at r
stops_at z o bytes at now t r stops.Memory st e u f = (tt, tt)
stops_at z o bytes at now t r (stops.Fault g) st e u f = (
  λ all h. let x = st all h in x.2 ∙ (faulty_from z bytes now t r g x.0 e u f x.1).0,
  λ all h. let x = st all h in x.3 ∙ (faulty_from z bytes now t r g x.0 e u f x.1).1,
)

pub fails_in : {R : Type 0} {a : Automaton R} (z : StopsAtEnd a) (o : R) (bytes : List ℕ) (at now : ℕ) (t n : Lexeme) (r : R) (s : Stop) → t ≡ next_lexeme bytes now → n ≡ next_lexeme bytes t.until
    → Stands a o bytes at r now → a.is_read r ≡ false → Fails s (feed_sign a t.sign t.from n r)
    → StopsBy a s o bytes at × RefusedBy a s o bytes at r
fails_in {R} {a} z o bytes at now t n r s e k st u f = stops_at z o bytes at now t r s st e u (subst (λ (x : Lexeme). Fails s (feed_sign a t.sign t.from x r)) k f)

pub ends_in : {R : Type 0} (a : Automaton R) (o : R) (bytes : List ℕ) (at now : ℕ) (t : Lexeme) (r : R) (until : ℕ) → t ≡ next_lexeme bytes now → Stands a o bytes at r now → a.is_read r ≡ true
    → until ≡ t.from → ReadsBy a o bytes at (Ok (record { reader = r; until = until }))
ends_in a o bytes at now t r until e st u same =
    let n : until ≡ (next_lexeme bytes now).from = same ∙ ap (λ z. z.from) e in
    subst (λ (z : ℕ). ReadsBy a o bytes at (Ok (record { reader = r; until = z }))) (sym n) (λ all h. let x = st all h in x.2 ∙ over_from a bytes now r x.0 u x.1)
